-- Two records held against each other; and the record at a place, held against the one that goes on.
use Prim.Native.Nat.{ℕ, ◌≤◌, ◌<◌}
use mathlib.Core.Path.{◌≡◌, refl, sym, ap, ◌∙◌}
use mathlib.Core.Bool.{Bool, true, false, ◌&&◌}
use mathlib.Core.List.{List}
use lib.Dec.{eqb, leb}
use lib.ListN.{length, get_or}
use borrow.Author.Tests.{eq-eqb, ne_eqb, le-leb, lt-leb, leb-true}
use Rattle.words.specs.Choice.{when, ◌and◌}
use Rattle.words.proofs.ChoiceLaws.{when_hit, when_miss, never}
use Rattle.logs.specs.declared.Record.{Record}
use Rattle.logs.specs.declared.registers.Service.{Service}
use Rattle.logs.specs.declared.registers.Registers.{Registers}
use Rattle.logs.specs.Record.{record_in}
use Rattle.logs.specs.Judge.{same}
use Rattle.logs.specs.ClosedRegisters.{record_by, goes_on, goes_on_in}

-- what `==` of two records tells
pub same_is : (r s : Record)
    → eqb r.channel s.channel && (eqb r.kind s.kind && (eqb r.address s.address && (eqb r.second s.second && (eqb r.byte s.byte && eqb r.flags s.flags)))) ≡ same r s
unfolding same ◌and◌
same_is r s = refl

module _ (s : Service) (g : Registers) (m log : List ℕ) where
  pub none_there : length log < 8 → false ≡ goes_on_in s g m log
  unfolding goes_on_in
  none_there h = sym (when_miss _ _ _ (lt-leb _ _ h))

  pub one_there : goes_on_in s g m log ≡ true → 8 ≤ length log
  unfolding goes_on_in when
  one_there on = go (leb 8 (length log)) refl on
    where
      go : (t : Bool) → leb 8 (length log) ≡ t → when t (goes_on s g (get_or m g.address 0) (record_in log)) false ≡ true → 8 ≤ length log
      go true e h = leb-true _ _ e
      go false e h = never (sym h)

  module _ (long : 8 ≤ length log) (r : Record) (is : r ≡ record_in log) where
    pub flagged : (r.flags ≡ 0 → ⊥) → false ≡ goes_on_in s g m log
    unfolding goes_on_in
    flagged n =
        let off : eqb (record_in log).flags 0 ≡ false = ne_eqb _ _ (λ e. n (ap (λ (q : Record). q.flags) is ∙ e)) in
        sym (when_hit _ _ _ (le-leb _ _ long) ∙ ap (λ (t : Bool). t && same (record_in log) (record_by s g (get_or m g.address 0) (record_in log).byte false)) off)

    pub unflagged : r.flags ≡ 0 → same r (record_by s g (get_or m g.address 0) r.byte false) ≡ goes_on_in s g m log
    unfolding goes_on_in
    unflagged e =
        ap (λ (q : Record). same q (record_by s g (get_or m g.address 0) q.byte false)) is
        ∙ sym (when_hit _ _ _ (le-leb _ _ long) ∙ ap (λ (t : Bool). t && same (record_in log) (record_by s g (get_or m g.address 0) (record_in log).byte false)) (eq-eqb _ _ (sym (ap (λ (q : Record). q.flags) is) ∙ e)))

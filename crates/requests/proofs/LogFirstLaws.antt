-- Where a log is wrong, and by how much.
use Prim.Native.Nat.{ℕ, suc, ◌-◌, ◌/◌, ◌<◌}
use mathlib.Core.Path.{◌≡◌, refl, sym, ap, ◌∙◌, subst}
use mathlib.Core.Bool.{Bool, true, false}
use mathlib.Core.List.{List, []}
use native.Mathlib.Omega.{arith}
use lib.Dec.{leb, ltb}
use lib.IntN.{ℤ, pos, negsuc}
use lib.ListN.{length, take, drop, length-drop}
use lib.Seq.{get_or-take, drop-length, length-take-le}
use borrow.Author.Tests.{ltb-true, ltb-false, leb-true, leb-false}
use Rattle.am9517.specs.Refusals.{refusal}
use Rattle.am9517.specs.declared.Controller.{Controller}
use Rattle.am9517_service.specs.Answers.{run_grounds}
use Rattle.words.proofs.ChoiceLaws.{when_hit, when_both, when_each}
use Rattle.logs.specs.declared.Verdict.{Verdict}
use Rattle.logs.specs.declared.Verdict.TheVariants.{Accepted, Wrong}
use Rattle.logs.specs.Record.{record_in}
use Rattle.logs.specs.Judge.{transfers, tells_eop, Found, found, judged, apart, signed, error_of}
use Rattle.logs.specs.Answers.{JudgeGiven, judged_of, place_of, verdict_of}
use Rattle.requests.specs.Logs.{verdict, state, says, First, handed, InRange, Between, Error}
use Rattle.requests.proofs.JudgedLaws.{Reached, reached, judged_alike, judged_before}
use Rattle.requests.proofs.VerdictLaws.{sort, one_wrong, said_all, said_wrong, at_all, unrefused, verdict_is, given_is}

module _ (c : Controller) (m log : List ℕ) (at : ℕ) (error : ℤ) (v : verdict (judged_of c m log) ≡ Wrong at error) where
  free : refusal (run_grounds c m) ≡ 0
  free = unrefused c m log (λ e. let z : ◌≡◌ {A = ℕ} 1 2 = sym (ap sort v) ∙ e in omega arith)

  abbrev f : Found
  f = at_all c m log

  abbrev n : ℕ
  n = length log / 8

  there : (f.place ≡ at) × (f.error ≡ error) × (f.place ≡ length log → ⊥)
  there = one_wrong (length log) f at error (sym (verdict_is c m log free) ∙ v)

  R : Reached n log f
  R = reached n c m log

  within : f.place < length log
  within = omega (arith, R.place, R.most, there.2)

  before : judged_of c m (take f.place log) ≡ says f.controller Accepted f.memory
  before =
      let size : length (take f.place log) ≡ f.place = length-take-le f.place log (omega (arith, within)) in
      let front : at_all c m (take f.place log) ≡ found f.controller f.memory f.place (pos 0) =
      ap (λ (k : ℕ). judged (k / 8) c m (take f.place log)) size
      ∙ judged_alike (f.place / 8) c m (take f.place log) log (λ i l. get_or-take f.place log i 0 (omega arith))
      ∙ judged_before n c m log in
      let all : verdict_of (length (take f.place log)) (at_all c m (take f.place log)) ≡ Accepted = said_all _ _ (ap (λ (g : Found). g.place) front ∙ sym size) in
      given_is c m (take f.place log) free
      ∙ ap (λ (w : Verdict). says (at_all c m (take f.place log)).controller w (at_all c m (take f.place log)).memory) all
      ∙ ap (λ (g : Found). says g.controller Accepted g.memory) front

  -- all that is said of the place
  pub first_wrong : First c m log (judged_of c m log) at error
  first_wrong =
      subst (λ (g : JudgeGiven). First c m log g at error) (sym (given_is c m log free))
      (subst (λ (k : ℕ). First c m log (says f.controller (verdict_of (length log) f) f.memory) k error) there.0
      (subst (λ (e : ℤ). First c m log (says f.controller (verdict_of (length log) f) f.memory) f.place e) there.1
      (record {
        records = R.records;
        place = R.place;
        some = within;
        back = ap (λ (w : Verdict). drop (place_of (length log) w) log) (said_wrong (length log) f there.2);
        before = before;
        cut = λ h. R.all (omega (arith, R.place, R.most, length-drop f.place log));
        wrong = λ h. R.wrong (omega (arith, R.place, R.most, length-drop f.place log));
        meant = λ h. R.error (omega (arith, R.place, R.most, length-drop f.place log));
      })))

-- an accepted log hands back nothing
pub nothing_back : (c : Controller) (m log : List ℕ) → verdict (judged_of c m log) ≡ Accepted → handed log (judged_of c m log) ≡ []
nothing_back c m log v = ap (λ (w : Verdict). drop (place_of (length log) w) log) v ∙ drop-length log

-- The error.
below_range : (d : ℕ) → d < 65536 → InRange (signed d)
unfolding signed
below_range d h = when_each InRange (ltb d 32768) (λ e. omega (arith, ltb-true d 32768 e)) (λ e. omega (arith, ltb-false d 32768 e))

-- how far from 0
abbrev far : ℤ → ℕ
far (pos n) = n
far (negsuc n) = suc n

pub error_told : (claimed right : ℕ) → claimed < 65536 → right < 65536 → Error claimed right
unfolding signed
error_told claimed right h g =
    let d = apart claimed right in
    let small : d < 65536 = omega arith in
    record {
      range = below_range d small;
      between = when_each (Between claimed right) (ltb d 32768) (λ e. omega (arith, ltb-true d 32768 e)) (λ e. omega (arith, ltb-false d 32768 e));
      zero = (
        when_each (λ (z : ℤ). z ≡ pos 0 → claimed ≡ right) (ltb d 32768) (λ e p. let z : d ≡ 0 = ap far p in omega arith) (λ e p. let z : suc (65535 - d) ≡ 0 = ap far p in absurd (omega arith)),
        λ e. let z : d ≡ 0 = omega arith in ap signed z ∙ when_hit _ _ _ refl,
      );
    }

pub error_in_range : (c : Controller) (m log : List ℕ) (at : ℕ) (error : ℤ) → verdict (judged_of c m log) ≡ Wrong at error → InRange error
unfolding error_of
error_in_range c m log at error v = go (leb 8 (length (drop at log))) refl
  where
    F : First c m log (judged_of c m log) at error
    F = first_wrong c m log at error v

    go : (t : Bool) → leb 8 (length (drop at log)) ≡ t → InRange error
    go true e =
        let r = record_in (drop at log) in
        subst InRange (sym (F.meant (leb-true _ _ e)))
        (when_both InRange (transfers (state (judged_of c m log)) (judged_of c m log).memory r.byte (tells_eop r)) (below_range _ (omega arith)) (omega arith))
    go false e = subst InRange (sym (F.cut (leb-false _ _ e))) (omega arith)

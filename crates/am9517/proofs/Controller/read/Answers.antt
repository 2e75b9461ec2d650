use Rattle.std.proofs.Common.{Option, Some}
use Prim.Native.Nat.{ℕ, ◌/◌, ◌%◌, ◌≤◌}
use mathlib.Core.Path.{◌≡◌, refl, sym, ap, ◌∙◌}
use native.Mathlib.Nat.{mod-eq_of_lt}
use native.Mathlib.Omega.{arith}
use borrow.Author.Tests.{eq-eqb, ne_eqb}
use Rattle.words.specs.Grounds.{first}
use Rattle.words.specs.Choice.{when}
use Rattle.am9517.specs.Registers.{port_read, value, after_read}
use Rattle.am9517.specs.Answers.{Answer, outcome, read_of}
use Rattle.am9517.specs.ClosedAnswers.{answered}
use Rattle.am9517.specs.declared.Controller.{Controller}
use Rattle.am9517.specs.declared.Outcome.{Outcome}
use Rattle.am9517.specs.declared.refusals.Refusal.{Refusal}
use Rattle.am9517.specs.Refusals.{refused, refusal, read_grounds}
use Rattle.am9517.proofs.RefusalLaws.{accepted, denied, answered_is, grounds_stated, read_valid}
use Rattle.am9517.proofs.RegisterLaws.{read_register, port_value, port_left}
use Rattle.am9517.proofs.RangeLaws.{fields}
use Rattle.am9517.proofs.Controller.read.Goals as goal
use Rattle.am9517.proofs.Controller.read.Goals.{then-is_none+in-8, then-is_none+in-13, then-is_none+in_default, else-is_none}

-- what read hands back: next and v what it comes to, no its refusal, a what is told
module _
    (s : Controller)
    (reg v : ℕ)
    (no : Option Refusal)
    (next : Controller)
    (a : Answer)
    (told : a ≡ answered no (Some v))
    (is : no ≡ refused (refusal (read_grounds s reg))) where
  abbrev Told : Type 0
  Told = ◌≡◌ {A = Outcome} (record { controller = next; answer = a }) (read_of s reg)

  -- accepted: the state and the byte are what the register's rule leaves and gives
  given : (x : Controller) (w : ℕ) → refusal (read_grounds s reg) ≡ 0 → next ≡ x → v ≡ w → after_read s reg ≡ x → value s reg ≡ w → Told
  unfolding outcome when
  given x w z e f b d = simp (told ∙ answered_is (refusal (read_grounds s reg)) no (Some v) is, eq-eqb _ _ z, e, f, b, d)

  -- refused: the state is the old one
  kept : (refusal (read_grounds s reg) ≡ 0 → ⊥) → next ≡ s → Told
  unfolding outcome when
  kept z e = simp (told ∙ answered_is (refusal (read_grounds s reg)) no (Some v) is, ne_eqb _ _ z, e)

at : (s : Controller) (reg k : ℕ) (x : Controller) → reg ≡ k → after_read s k ≡ x → after_read s reg ≡ x
at s reg k x e a = ap (after_read s) e ∙ a

at_value : (s : Controller) (reg k v : ℕ) → reg ≡ k → value s k ≡ v → value s reg ≡ v
at_value s reg k v e a = ap (value s) e ∙ a

pub status-value-requires : goal.status-value-requires
status-value-requires c =
    let at-if1 = c.before in let at-read-refusal = at-if1.before in let entry = at-read-refusal.before in
    (fields _ (read_valid entry.args.self entry.args.reg (accepted _ _ _ at-read-refusal.read_refusal-refusal.ensures c.before.before.is_none.ensures at-if1.if-is_none.true))).tc

pub returns : goal.returns
unfolding after_read value first when port_read
returns c =
    let s = c.args.self in let reg = c.args.reg in
    grounds_stated _ _ _ _ (Some _) refl (
    elim c.if-is_none.branch [
      | then-is_none+in-8 w ↦ given s reg _ _ _ _ c.answered-answer.ensures c.read_refusal-refusal.ensures _ _ (accepted _ _ _ c.read_refusal-refusal.ensures c.is_none.ensures w.if-is_none.true) w.next-is w.value-is (at s reg 8 _ w.in-8.is refl) (at_value s reg 8 _ w.in-8.is (sym w.status-value.ensures))
      | then-is_none+in-13 w ↦ given s reg _ _ _ _ c.answered-answer.ensures c.read_refusal-refusal.ensures _ _ (accepted _ _ _ c.read_refusal-refusal.ensures c.is_none.ensures w.if-is_none.true) w.next-is w.value-is (at s reg 0xD _ w.in-13.is refl) (at_value s reg 0xD _ w.in-13.is refl)
      | then-is_none+in_default w ↦
          let r = read_register s reg (accepted _ _ _ c.read_refusal-refusal.ensures c.is_none.ensures w.if-is_none.true) in
          let small : reg ≤ 7 = omega (arith, r) in
          let port : reg / 2 % 4 ≡ reg / 2 = mod-eq_of_lt (omega arith) in
          given s reg _ _ _ _ c.answered-answer.ensures c.read_refusal-refusal.ensures _ _ (accepted _ _ _ c.read_refusal-refusal.ensures c.is_none.ensures w.if-is_none.true) w.next-is w.value-is (port_left s reg small ∙ simp w.when-in_default.ensures) (port_value s reg small ∙ simp (port, w.byte_of-value.ensures, w.when.ensures))
      | else-is_none w ↦ kept s reg _ _ _ _ c.answered-answer.ensures c.read_refusal-refusal.ensures (denied _ _ _ c.read_refusal-refusal.ensures c.is_none.ensures w.if-is_none.false) w.next-is
    ])

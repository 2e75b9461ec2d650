use Rattle.std.proofs.Common.{Option, None}
use Rattle.am9517.proofs.RefusalLaws.{accepted, denied, answered_is, grounds_stated}
use Prim.Native.Nat.{ℕ, ◌/◌, ◌%◌, ◌≤◌}
use mathlib.Core.Path.{◌≡◌, refl, sym, ap, ◌∙◌}
use native.Mathlib.Nat.{mod-eq_of_lt}
use native.Mathlib.Omega.{arith}
use borrow.Author.Tests.{eq-eqb, ne_eqb}
use Rattle.words.specs.Grounds.{first}
use Rattle.words.specs.Choice.{when}
use Rattle.am9517.specs.Registers.{after_write, port_written, mode_written}
use Rattle.am9517.specs.Answers.{Answer, outcome, refusal_number, write_of}
use Rattle.am9517.specs.ClosedAnswers.{answered}
use Rattle.am9517.specs.Refusals.{refused, refusal, write_grounds}
use Rattle.am9517.specs.declared.Controller.{Controller}
use Rattle.am9517.specs.declared.Outcome.{Outcome}
use Rattle.am9517.specs.declared.refusals.Refusal.{Refusal}
use Rattle.am9517.proofs.RegisterLaws.{write_register, port_after}
use Rattle.am9517.proofs.Controller.write.Goals as goal
use Rattle.am9517.proofs.Controller.write.Goals.{then-reg-eq0, else-reg-eq0, then-is_none+in-9, then-is_none+in-10, then-is_none+in-13, then-is_none+in-14, then-is_none+in-15, else-is_none}

-- what write hands back: no is its refusal, a what is told
module _
    (s : Controller)
    (reg byte : ℕ)
    (no : Option Refusal)
    (a : Answer)
    (told : a ≡ answered no None)
    (is : no ≡ refused (refusal (write_grounds s reg byte))) where
  abbrev Told : Controller → Type 0
  Told y = (◌≡◌ {A = Outcome} (record { controller = y; answer = a }) (write_of s reg byte)) × (refusal_number a ≡ refusal (write_grounds s reg byte))

  -- accepted, at register k: the state is what its rule stores
  stored : (k : ℕ) (x y : Controller) → refusal (write_grounds s reg byte) ≡ 0 → reg ≡ k → y ≡ x → after_write s k byte ≡ x → Told y
  unfolding outcome when
  stored k x y z h e b =
      let b' : after_write s reg byte ≡ x = ap (λ (r : ℕ). after_write s r byte) h ∙ b in
      grounds_stated _ _ _ _ None refl (simp (told ∙ answered_is (refusal (write_grounds s reg byte)) no None is, eq-eqb _ _ z, e, b'))

  -- refused: it is the old one
  kept : (y : Controller) → (refusal (write_grounds s reg byte) ≡ 0 → ⊥) → y ≡ s → Told y
  unfolding outcome when
  kept y z e = grounds_stated _ _ _ _ None refl (simp (told ∙ answered_is (refusal (write_grounds s reg byte)) no None is, ne_eqb _ _ z, e))

pub returns-in-8 : goal.returns-in-8
unfolding after_write first when
returns-in-8 c = stored c.args.self c.args.reg c.args.byte _ _ c.answered-answer.ensures c.write_refusal-refusal.ensures 8 _ _ (accepted _ _ _ c.write_refusal-refusal.ensures c.is_none.ensures c.if-is_none.true) c.in-8.is refl refl

pub returns-in-11 : goal.returns-in-11
unfolding after_write first when mode_written
returns-in-11 c = stored c.args.self c.args.reg c.args.byte _ _ c.answered-answer.ensures c.write_refusal-refusal.ensures 0xB _ _ (accepted _ _ _ c.write_refusal-refusal.ensures c.is_none.ensures c.if-is_none.true) c.in-11.is refl (simp c.with_mode.ensures)

pub returns-in-12 : goal.returns-in-12
unfolding after_write first when
returns-in-12 c = stored c.args.self c.args.reg c.args.byte _ _ c.answered-answer.ensures c.write_refusal-refusal.ensures 0xC _ _ (accepted _ _ _ c.write_refusal-refusal.ensures c.is_none.ensures c.if-is_none.true) c.in-12.is refl refl

pub returns-after-reg-eq0 : goal.returns-after-reg-eq0
unfolding port_written when
returns-after-reg-eq0 c =
    let s = c.args.self in let reg = c.args.reg in let byte = c.args.byte in
    let r = write_register s reg byte (accepted _ _ _ c.write_refusal-refusal.ensures c.is_none.ensures c.if-is_none.true) in
    let small : reg ≤ 7 = omega (arith, r) in
    let port : reg / 2 % 4 ≡ reg / 2 = mod-eq_of_lt (omega arith) in
    stored c.args.self c.args.reg c.args.byte _ _ c.answered-answer.ensures c.write_refusal-refusal.ensures reg _ _ (accepted _ _ _ c.write_refusal-refusal.ensures c.is_none.ensures c.if-is_none.true) refl refl (port_after s reg byte small ∙
    elim c.if-reg-eq0.branch [
      | then-reg-eq0 w ↦ simp (port, eq-eqb _ _ w.if-reg-eq0.true, c.when.ensures, w.next-is, w.with_address_byte.ensures)
      | else-reg-eq0 w ↦ simp (port, ne_eqb _ _ w.if-reg-eq0.false, c.when.ensures, w.next-is, w.with_count_byte.ensures)
    ])

pub returns : goal.returns
unfolding after_write first when
returns c =
    elim c.if-is_none.branch [
      | then-is_none+in-9 w ↦ stored c.args.self c.args.reg c.args.byte _ _ c.answered-answer.ensures c.write_refusal-refusal.ensures 9 _ _ (accepted _ _ _ c.write_refusal-refusal.ensures c.is_none.ensures w.if-is_none.true) w.in-9.is w.next-is (simp (w.with_bit.ensures, w.is_set.ensures))
      | then-is_none+in-10 w ↦ stored c.args.self c.args.reg c.args.byte _ _ c.answered-answer.ensures c.write_refusal-refusal.ensures 0xA _ _ (accepted _ _ _ c.write_refusal-refusal.ensures c.is_none.ensures w.if-is_none.true) w.in-10.is w.next-is (simp (w.with_bit-in-10.ensures, w.is_set-in-10.ensures))
      | then-is_none+in-13 w ↦ stored c.args.self c.args.reg c.args.byte _ _ c.answered-answer.ensures c.write_refusal-refusal.ensures 0xD _ _ (accepted _ _ _ c.write_refusal-refusal.ensures c.is_none.ensures w.if-is_none.true) w.in-13.is w.next-is (sym w.cleared-next.ensures)
      | then-is_none+in-14 w ↦ stored c.args.self c.args.reg c.args.byte _ _ c.answered-answer.ensures c.write_refusal-refusal.ensures 0xE _ _ (accepted _ _ _ c.write_refusal-refusal.ensures c.is_none.ensures w.if-is_none.true) w.in-14.is w.next-is refl
      | then-is_none+in-15 w ↦ stored c.args.self c.args.reg c.args.byte _ _ c.answered-answer.ensures c.write_refusal-refusal.ensures 0xF _ _ (accepted _ _ _ c.write_refusal-refusal.ensures c.is_none.ensures w.if-is_none.true) w.in-15.is w.next-is refl
      | else-is_none w ↦ kept c.args.self c.args.reg c.args.byte _ _ c.answered-answer.ensures c.write_refusal-refusal.ensures _ (denied _ _ _ c.write_refusal-refusal.ensures c.is_none.ensures w.if-is_none.false) w.next-is
    ]

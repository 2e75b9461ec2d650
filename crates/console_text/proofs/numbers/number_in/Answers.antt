use Rattle.std.proofs.Common.{◌≡◌, ◌+◌, ◌*◌, sym, ◌∙◌, arith}
use Rattle.console_text.proofs.NumberLaws.{number_turn, number_bad, number_large, number_all, number_more}
use Rattle.console_text.proofs.numbers.number_in.Goals as goal

pub returns-in_err-d : goal.returns-in_err-d
returns-in_err-d c =
    c.from_residual.ensures ∙ number_bad _ _ _ _ _ c.loop-b.invariant c.loop-b-test.true (sym c.digit.ensures ∙ c.in_err-d.was)

pub returns-in_err-checked_mul : goal.returns-in_err-checked_mul
returns-in_err-checked_mul c =
    c.from_residual-in_err-checked_mul.ensures ∙ number_large _ _ _ _ _ c.loop-b.invariant c.in_ok-d.d c.requires.0 c.loop-b-test.true (sym c.digit.ensures ∙ c.in_ok-d.was) (omega (arith, c.in_err-checked_mul.ensures))

pub returns-in_err-v : goal.returns-in_err-v
returns-in_err-v c =
    c.from_residual-in_err-v.ensures ∙ number_large _ _ _ _ _ c.loop-b.invariant c.in_ok-d.d c.requires.0 c.loop-b-test.true (sym c.digit.ensures ∙ c.in_ok-d.was) (omega (arith, c.in_ok-checked_mul.ensures, c.in_err-v.ensures))

pub loop-b-preserved : goal.loop-b-preserved
loop-b-preserved c =
    let e : c.in_ok-v.v ≡ c.loop-b.v * c.args.base + c.in_ok-d.d = omega (arith, c.in_ok-checked_mul.ensures, c.in_ok-v.ensures) in
    rw e (number_turn _ _ _ _ _ c.loop-b.invariant c.in_ok-d.d c.loop-b-test.true (sym c.digit.ensures ∙ c.in_ok-d.was))

pub returns-then-v-most : goal.returns-then-v-most
returns-then-v-most c = number_all _ _ _ _ _ c.loop-b.invariant c.loop-b-test.false c.if-v-most.true

pub returns-else-v-most : goal.returns-else-v-most
returns-else-v-most c = number_more _ _ _ _ _ c.loop-b.invariant c.requires.0 c.loop-b-test.false c.if-v-most.false

use mir.Val.{Fits}
use mir.Syntax.{w64}
use native.Mathlib.Omega.{arith}
use Rattle.words.specs.Steps.{step, stride}
use Prim.Native.Nat.{ℕ, ◌+◌}
use Rattle.words.proofs.ChoiceLaws.{when_both}
use Rattle.words.proofs.steps.step.Goals as goal

pub overflow_add-result : goal.overflow_add-result
overflow_add-result c = rw c.when.ensures (when_both (λ (s : ℕ). Fits w64 (c.before.args.x + s)) c.before.args.down (omega arith) (omega arith))

pub returns : goal.returns
unfolding step stride
returns c = rw c.when.ensures

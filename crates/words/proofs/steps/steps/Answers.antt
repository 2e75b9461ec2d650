use Prim.Native.Nat.{◌%◌}
use native.Mathlib.Omega.{arith}
use Rattle.words.proofs.StepLaws.{stride_fits, steps_wrapped}
use Rattle.words.proofs.steps.steps.Goals as goal

pub overflow_mul-result : goal.overflow_mul-result
overflow_mul-result c = rw c.when.ensures (omega (arith, stride_fits c.before.args.down (c.before.args.n % 65536)))

pub overflow_add-result : goal.overflow_add-result
overflow_add-result c = rw c.when.ensures (omega (arith, stride_fits c.before.args.down (c.before.args.n % 65536)))

pub returns : goal.returns
returns c = rw c.when.ensures (steps_wrapped _ _ _)

use Rattle.am9517_service.proofs.StatesLaws.{entered_most}
use Rattle.am9517_service.specs.ClosedLegs.{entered}
use Rattle.words.proofs.ChoiceLaws.{when_both}
use native.Mathlib.Omega.{arith}
use mathlib.Core.Path.{refl}
use Prim.Native.Nat.{ℕ, ◌-◌, ◌%◌, ◌≤◌}
use Rattle.am9517_service.proofs.transfers.entered.Goals as goal

pub overflow_add-result : goal.overflow_add-result
overflow_add-result c = rw c.when.ensures (let h = when_both (λ (x : ℕ). x ≤ 255) c.before.args.down {a = 255 - c.before.args.address % 256} {b = c.before.args.address % 256} (omega arith) (omega arith) in omega arith)

pub returns : goal.returns
unfolding entered
returns c = rw c.when.ensures (refl, entered_most _ _ _ c.before.requires)

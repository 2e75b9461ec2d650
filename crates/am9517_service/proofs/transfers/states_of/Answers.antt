use Rattle.am9517_service.specs.Bounds.{most_pace}
use Rattle.words.proofs.ChoiceLaws.{when_le}
use native.Mathlib.Omega.{arith}
use native.Mathlib.Nat.{mul-le-mul_left}
use Prim.Native.Nat.{◌*◌, ◌≤◌}
use Rattle.am9517_service.proofs.transfers.states_of.Goals as goal

pub overflow_add-result : goal.overflow_add-result
overflow_add-result c = rw c.when.ensures (omega (arith, when_le c.before.before.before.args.first 1, c.before.entered-pages.ensures.1))

pub overflow_add-result-2 : goal.overflow_add-result-2
overflow_add-result-2 c =
    let h : c.args.n * c.args.pace ≤ c.args.n * most_pace = mul-le-mul_left c.args.n c.requires.2 in rw c.when.ensures (omega (arith, h, c.requires.1, when_le c.args.first 1, c.entered-pages.ensures.1))

use mathlib.Core.List.{[]}
use Prim.Native.Nat.{ℕ, ◌<◌}
use Rattle.words.proofs.ChoiceLaws.{when_both}
use Rattle.am9517_service.proofs.CopyRestoreLaws.{first_below, restoring_by}
use native.Mathlib.Omega.{arith}
use Rattle.am9517_service.proofs.copies.carry_restoring.Goals as goal

pub overflow_sub-n : goal.overflow_sub-n
overflow_sub-n c =
    omega (arith, first_below c.args.hold c.args.source c.args.target [] c.args.n c.requires.1 c.requires.2 (omega (arith, c.well_formed)) (omega (arith, c.well_formed)) (omega (arith, c.well_formed)) (omega (arith, c.well_formed)))

pub lay-requires-2 : goal.lay-requires-2
lay-requires-2 c =
    (omega (arith, c.lay.auto.memory, c.requires.0), rw c.when-area.ensures (when_both (λ (x : ℕ). 0 < x) _ (omega arith) (omega arith)))

pub returns : goal.returns
returns c =
    restoring_by c.args.hold c.args.source c.args.target _ c.args.n c.requires.1 c.requires.2 (omega (arith, c.well_formed)) (omega (arith, c.well_formed)) (omega (arith, c.well_formed)) (omega (arith, c.well_formed)) _ c.route_of-route.ensures _ c.beginning_again-again.ensures _ c.when-area.ensures _ _ c.lay.ensures c.lay-2.ensures

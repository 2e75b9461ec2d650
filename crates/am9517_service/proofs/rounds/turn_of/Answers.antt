use Rattle.am9517_service.specs.Bounds.{most_states}
use Rattle.am9517_service.specs.ClosedLegs.{leg_of}
use Rattle.am9517_service.proofs.TransferLaws.{states_most}
use native.Mathlib.Omega.{arith}
use Prim.Native.Nat.{◌≤◌}
use Rattle.am9517_service.proofs.rounds.turn_of.Goals as goal

pub overflow_add-result : goal.overflow_add-result
overflow_add-result c = omega (arith, c.before.before.before.before.before.before.before.before.before.before.before.before.before.before.requires.n_bound.0)

pub overflow_add-result-2 : goal.overflow_add-result-2
unfolding leg_of
overflow_add-result-2 c =
    let h : c.leg_of-l.result.states ≤ most_states = rw c.leg_of-l.ensures (states_most _ _ _ _ c.requires.n_nonzero.4.most c.requires.n_nonzero.1) in omega (arith, h, c.requires.n_bound.1)

pub returns : goal.returns
returns c =
    record { value = simp (c.move_on-moved.ensures.value, c.leg_of-l.ensures); memory = c.move_on-moved.ensures.memory; room = c.move_on-moved.ensures.room }

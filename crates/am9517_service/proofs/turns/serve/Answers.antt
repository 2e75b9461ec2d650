use mathlib.Core.Path.{refl, ◌∙◌}
use native.Mathlib.Omega.{arith}
use Rattle.am9517.proofs.RangeLaws.{fields}
use Rattle.am9517_service.proofs.TurnLaws.{serves, chosen, pace_small, alone_still, alone_served}
use Rattle.am9517_service.proofs.turns.serve.Goals as goal

pub bounds-nexts-last : goal.bounds-nexts-last
bounds-nexts-last c =
    omega (arith, (fields c.args.rota.controller c.requires.range).lowest)

pub overflow_cast-i : goal.overflow_cast-i
overflow_cast-i c = let h = (chosen _ _ _ _ _ c.before.before.before.before.before.before.requires).below in omega arith

pub offset_bounds-s-i : goal.offset_bounds-s-i
offset_bounds-s-i c = let h = (chosen _ _ _ _ _ c.before.before.before.before.before.before.requires).below in omega arith

pub bounds-s-i : goal.bounds-s-i
bounds-s-i c = (chosen _ _ _ _ _ c.before.before.before.before.before.before.requires).below

pub offset_bounds-s-i-2 : goal.offset_bounds-s-i-2
offset_bounds-s-i-2 c = let h = (chosen _ _ _ _ _ c.before.before.before.before.before.before.requires).below in omega arith

pub bounds-s-i-2 : goal.bounds-s-i-2
bounds-s-i-2 c = (chosen _ _ _ _ _ c.before.before.before.before.before.before.requires).below

pub offset_bounds-s-i-3 : goal.offset_bounds-s-i-3
offset_bounds-s-i-3 c = let h = (chosen _ _ _ _ _ c.before.before.before.before.before.before.before.requires).below in omega arith

pub bounds-s-i-3 : goal.bounds-s-i-3
bounds-s-i-3 c = (chosen _ _ _ _ _ c.before.before.before.before.before.before.before.requires).below

pub serve_copy-requires : goal.serve_copy-requires
serve_copy-requires c =
    let y = alone_still _ _ (chosen _ _ _ _ _ c.requires) c.args.was c.args.memory.now c.args.device.now c.args.room.now _ _ c.bounded-count.ensures.0 c.bounded-count.ensures.1 c.bounded-address.ensures.0 c.bounded-address.ensures.1 _ c.is_single.ensures _ _ _ c.transfer_alone.ensures.made_value c.transfer_alone.ensures.memory c.transfer_alone.ensures.room c.in_default.not-Some in (chosen _ _ _ _ _ c.requires, c.if-i-f.true, rw y.0 c.requires.memory, c.requires.transfers, c.requires.states)

pub returns-then-i-f : goal.returns-then-i-f
returns-then-i-f c =
    let y = alone_still _ _ (chosen _ _ _ _ _ c.requires) c.args.was c.args.memory.now c.args.device.now c.args.room.now _ _ c.bounded-count.ensures.0 c.bounded-count.ensures.1 c.bounded-address.ensures.0 c.bounded-address.ensures.1 _ c.is_single.ensures _ _ _ c.transfer_alone.ensures.made_value c.transfer_alone.ensures.memory c.transfer_alone.ensures.room c.in_default.not-Some in serves _ _ _ _ _ c.requires (omega (arith, c.well_formed)) _ _ _ (c.serve_copy.ensures c.args.device.now c.transfer_alone.new.room ∙ rw (y.0, y.1) refl)

pub serve_leg-requires : goal.serve_leg-requires
serve_leg-requires c =
    let y = alone_still _ _ (chosen _ _ _ _ _ c.requires) c.args.was c.args.memory.now c.args.device.now c.args.room.now _ _ c.bounded-count.ensures.0 c.bounded-count.ensures.1 c.bounded-address.ensures.0 c.bounded-address.ensures.1 _ c.is_single.ensures _ _ _ c.transfer_alone.ensures.made_value c.transfer_alone.ensures.memory c.transfer_alone.ensures.room c.in_default.not-Some in (rw (y.0, y.1) c.requires, chosen _ _ _ _ _ c.requires, c.if-i-f.false)

pub returns-in_default : goal.returns-in_default
returns-in_default c =
    let y = alone_still _ _ (chosen _ _ _ _ _ c.requires) c.args.was c.args.memory.now c.args.device.now c.args.room.now _ _ c.bounded-count.ensures.0 c.bounded-count.ensures.1 c.bounded-address.ensures.0 c.bounded-address.ensures.1 _ c.is_single.ensures _ _ _ c.transfer_alone.ensures.made_value c.transfer_alone.ensures.memory c.transfer_alone.ensures.room c.in_default.not-Some in serves _ _ _ _ _ c.requires (omega (arith, c.well_formed)) _ _ _ (c.serve_leg.ensures ∙ rw (y.0, y.1) refl)

pub offset_bounds-s-i-4 : goal.offset_bounds-s-i-4
offset_bounds-s-i-4 c = let h = (chosen _ _ _ _ _ c.before.before.before.before.before.before.before.before.before.before.before.before.before.before.before.before.before.before.before.requires).below in omega arith

pub bounds-s-i-4 : goal.bounds-s-i-4
bounds-s-i-4 c = (chosen _ _ _ _ _ c.before.before.before.before.before.before.before.before.before.before.before.before.before.before.before.before.before.before.before.requires).below

pub offset_bounds-s-i-5 : goal.offset_bounds-s-i-5
offset_bounds-s-i-5 c = let h = (chosen _ _ _ _ _ c.before.before.before.before.before.before.before.before.before.before.before.before.before.before.before.before.before.before.before.before.before.requires).below in omega arith

pub bounds-s-i-5 : goal.bounds-s-i-5
bounds-s-i-5 c = (chosen _ _ _ _ _ c.before.before.before.before.before.before.before.before.before.before.before.before.before.before.before.before.before.before.before.before.before.requires).below

pub overflow_cast-i-2 : goal.overflow_cast-i-2
overflow_cast-i-2 c = let h = (chosen _ _ _ _ _ c.before.before.before.before.before.before.before.before.before.before.before.before.before.before.before.before.before.before.before.before.before.requires).below in omega arith

pub overflow_add-counts : goal.overflow_add-counts
overflow_add-counts c = omega (arith, c.before.before.before.before.before.before.before.before.before.before.before.before.before.before.before.before.before.before.before.before.before.before.before.requires.transfers)

pub overflow_add-counts-2 : goal.overflow_add-counts-2
overflow_add-counts-2 c =
    let p = pace_small _ _ (chosen _ _ _ _ _ c.requires) (omega (arith, c.well_formed)) in omega (arith, p, c.requires.states)

pub overflow_add-counts-3 : goal.overflow_add-counts-3
overflow_add-counts-3 c =
    let p = pace_small _ _ (chosen _ _ _ _ _ c.requires) (omega (arith, c.well_formed)) in omega (arith, p, c.requires.states)

pub returns : goal.returns
returns c =
    serves _ _ _ _ _ c.requires (omega (arith, c.well_formed)) _ _ _ (alone_served _ _ (chosen _ _ _ _ _ c.requires) c.args.was c.args.memory.now c.args.device.now c.args.room.now _ _ c.bounded-count.ensures.0 c.bounded-count.ensures.1 c.bounded-address.ensures.0 c.bounded-address.ensures.1 _ c.is_single.ensures _ _ _ c.transfer_alone.ensures.made_value c.transfer_alone.ensures.memory c.transfer_alone.ensures.room _ c.in-Some.is _ c.stepped.ensures _ c.when.ensures _ c.behind.ensures)

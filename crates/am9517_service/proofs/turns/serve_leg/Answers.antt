use mathlib.Core.Path.{refl}
use native.Mathlib.Omega.{arith}
use Rattle.am9517_service.proofs.TurnLaws.{pace_small, turn_stocked, stood_served, leg_served}
use Rattle.am9517_service.proofs.turns.serve_leg.Goals as goal

pub returns-then-n-eq0 : goal.returns-then-n-eq0
returns-then-n-eq0 c =
    stood_served _ _ c.requires.1 c.args.was c.args.memory.now c.args.device.now c.args.room.now c.requires.2 _ c.bounded_channel-ch.ensures.0 c.bounded_channel-ch.ensures.1 c.bounded_channel-ch.ensures.2 _ (rw (c.bit.ensures, c.bit-2.ensures) refl) _ c.span_of-l.ensures c.if-n-eq0.true _ c.stays_open.ensures _ c.settled.ensures _ c.behind.ensures

pub turn_of-u-requires : goal.turn_of-u-requires
turn_of-u-requires c =
    let g = c.requires.0 in let nz = c.if-n-eq0.false in let stock = turn_stocked _ _ c.requires.1 c.args.was c.args.memory.now c.args.device.now c.args.room.now c.requires.2 _ c.bounded_channel-ch.ensures.0 c.bounded_channel-ch.ensures.1 c.bounded_channel-ch.ensures.2 _ (rw (c.bit.ensures, c.bit-2.ensures) refl) _ c.span_of-l.ensures g.memory in record { n_nonzero = (omega (arith, nz), pace_small _ _ c.requires.1 (omega (arith, c.well_formed)), g.used, g.written, stock); n_bound = (omega (arith, g.transfers, stock.most), g.states) }

pub turned-requires : goal.turned-requires
turned-requires c = c.before.before.before.before.before.before.before.before.before.before.before.before.before.before.before.before.before.before.before.before.before.before.requires.1

pub returns : goal.returns
returns c =
    let nz = c.if-n-eq0.false in leg_served _ _ c.requires.1 c.args.was c.args.memory.now c.args.device.now c.args.room.now c.requires.2 _ c.bounded_channel-ch.ensures.0 c.bounded_channel-ch.ensures.1 c.bounded_channel-ch.ensures.2 _ (rw (c.bit.ensures, c.bit-2.ensures) refl) _ c.span_of-l.ensures (omega (arith, nz)) _ c.bits_of-b.ensures _ c.turn_of-u.ensures.value _ _ c.turn_of-u.ensures.memory c.turn_of-u.ensures.room _ c.turned.ensures

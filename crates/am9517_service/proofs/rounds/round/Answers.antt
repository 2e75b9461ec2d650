use Rattle.am9517_service.proofs.StatedLaws.{round_stated}
use mathlib.Core.Path.{refl, sym, ◌∙◌}
use native.Mathlib.Omega.{arith}
use Rattle.am9517.proofs.RangeLaws.{fields}
use Rattle.am9517.proofs.RefusalLaws.{free}
use Rattle.am9517_service.proofs.RoundLaws.{round_open}
use Rattle.am9517_service.proofs.RoundLoopLaws.{looping_start, looping_left, fits, next_below, services_below, longs_below, left_some, left_falls, left_fewer, longs_fewer, looping_still, looping_alone, looping_stood, looping_leg, looping_halted, looping_copied, leg_stocked, leg_few, turn_fits, turn_memory, turn_room, said_refused, said_closed}
use Rattle.am9517_service.proofs.rounds.round.Goals as goal

pub returns-in-Some : goal.returns-in-Some
returns-in-Some c =
    round_stated _ _ _ _ _ _ _ _ (said_refused c.args.c _ _ _ _ _ _ _ c.no_counts-n.ensures c.closed.ensures (sym c.round_refusal.ensures ∙ c.in-Some.is))

pub overflow_cast-i : goal.overflow_cast-i
overflow_cast-i c = let h = (fields c.before.before.before.before.before.before.before.before.before.args.c (round_open c.args.c c.args.memory.now c.args.k (free _ c.round_refusal.result c.round_refusal.ensures c.in_default.not-Some)).0).lowest in omega arith

pub loop-left-init : goal.loop-left-init
loop-left-init c =
    let o = round_open c.args.c c.args.memory.now c.args.k (free _ c.round_refusal.result c.round_refusal.ensures c.in_default.not-Some) in rw c.no_counts-n.ensures (looping_start c.args.k c.args.c c.args.memory.now c.args.device.now c.args.room.now c.facts_of-f.result c.nexts_of-nexts.result o.0 o.1 (omega (arith, c.well_formed)) o.2 o.3 c.facts_of-f.ensures.0 c.nexts_of-nexts.ensures (omega arith) (omega arith))

pub bounds-nexts-i : goal.bounds-nexts-i
bounds-nexts-i c = c.loop-left.invariant.place

pub bounds-nexts-i-in-loop-left : goal.bounds-nexts-i-in-loop-left
bounds-nexts-i-in-loop-left c = c.before.loop-left.invariant.place

pub overflow_cast-i-in-loop-left : goal.overflow_cast-i-in-loop-left
overflow_cast-i-in-loop-left c = let h = next_below _ _ _ _ _ _ _ _ _ _ _ _ _ _ c.loop-left.invariant c.loop-left-test.true in omega arith

pub offset_bounds-services-i : goal.offset_bounds-services-i
offset_bounds-services-i c = let h = next_below _ _ _ _ _ _ _ _ _ _ _ _ _ _ c.loop-left.invariant c.loop-left-test.true in omega arith

pub bounds-services-i : goal.bounds-services-i
bounds-services-i c = next_below _ _ _ _ _ _ _ _ _ _ _ _ _ _ c.loop-left.invariant c.loop-left-test.true

pub overflow_add-services : goal.overflow_add-services
overflow_add-services c = let h = services_below _ _ _ _ _ _ _ _ _ _ _ _ _ _ c.before.loop-left.invariant c.loop-left-test.true in omega arith

pub offset_bounds-services-i-in-loop-left : goal.offset_bounds-services-i-in-loop-left
offset_bounds-services-i-in-loop-left c = let h = next_below _ _ _ _ _ _ _ _ _ _ _ _ _ _ c.loop-left.invariant c.loop-left-test.true in omega arith

pub bounds-services-i-in-loop-left : goal.bounds-services-i-in-loop-left
bounds-services-i-in-loop-left c = next_below _ _ _ _ _ _ _ _ _ _ _ _ _ _ c.loop-left.invariant c.loop-left-test.true

pub overflow_sub-left : goal.overflow_sub-left
overflow_sub-left c = left_some _ _ _ _ _ _ _ _ _ _ _ _ _ _ c.before.loop-left.invariant c.loop-left-test.true

pub offset_bounds-s-i : goal.offset_bounds-s-i
offset_bounds-s-i c = let h = next_below _ _ _ _ _ _ _ _ _ _ _ _ _ _ c.loop-left.invariant c.loop-left-test.true in omega arith

pub bounds-s-i : goal.bounds-s-i
bounds-s-i c = next_below _ _ _ _ _ _ _ _ _ _ _ _ _ _ c.loop-left.invariant c.loop-left-test.true

pub offset_bounds-s-i-in-loop-left : goal.offset_bounds-s-i-in-loop-left
offset_bounds-s-i-in-loop-left c = let h = next_below _ _ _ _ _ _ _ _ _ _ _ _ _ _ c.loop-left.invariant c.loop-left-test.true in omega arith

pub bounds-s-i-in-loop-left : goal.bounds-s-i-in-loop-left
bounds-s-i-in-loop-left c = next_below _ _ _ _ _ _ _ _ _ _ _ _ _ _ c.loop-left.invariant c.loop-left-test.true

pub offset_bounds-s-i-in-loop-left-2 : goal.offset_bounds-s-i-in-loop-left-2
offset_bounds-s-i-in-loop-left-2 c = let h = next_below _ _ _ _ _ _ _ _ _ _ _ _ _ _ c.loop-left.invariant c.loop-left-test.true in omega arith

pub bounds-s-i-in-loop-left-2 : goal.bounds-s-i-in-loop-left-2
bounds-s-i-in-loop-left-2 c = next_below _ _ _ _ _ _ _ _ _ _ _ _ _ _ c.loop-left.invariant c.loop-left-test.true

pub transfer_alone-requires : goal.transfer_alone-requires
transfer_alone-requires c =
    let x = fits _ _ _ _ _ _ _ _ _ _ _ _ _ _ c.loop-left.invariant in (c.loop-left.invariant.rolling.memory, x.used, x.written)

pub offset_bounds-s-i-in-Some-transfer_alone : goal.offset_bounds-s-i-in-Some-transfer_alone
offset_bounds-s-i-in-Some-transfer_alone c = let h = next_below _ _ _ _ _ _ _ _ _ _ _ _ _ _ c.loop-left.invariant c.loop-left-test.true in omega arith

pub bounds-s-i-in-Some-transfer_alone : goal.bounds-s-i-in-Some-transfer_alone
bounds-s-i-in-Some-transfer_alone c = next_below _ _ _ _ _ _ _ _ _ _ _ _ _ _ c.loop-left.invariant c.loop-left-test.true

pub offset_bounds-s-i-in-Some-transfer_alone-2 : goal.offset_bounds-s-i-in-Some-transfer_alone-2
offset_bounds-s-i-in-Some-transfer_alone-2 c = let h = next_below _ _ _ _ _ _ _ _ _ _ _ _ _ _ c.loop-left.invariant c.loop-left-test.true in omega arith

pub bounds-s-i-in-Some-transfer_alone-2 : goal.bounds-s-i-in-Some-transfer_alone-2
bounds-s-i-in-Some-transfer_alone-2 c = next_below _ _ _ _ _ _ _ _ _ _ _ _ _ _ c.loop-left.invariant c.loop-left-test.true

pub loop-left-smaller-in-Some-transfer_alone : goal.loop-left-smaller-in-Some-transfer_alone
loop-left-smaller-in-Some-transfer_alone c =
    left_falls _ _ _ _ _ _ _ _ _ _ _ _ _ _ c.loop-left.invariant c.loop-left-test.true

pub loop-left-preserved-in-Some-transfer_alone : goal.loop-left-preserved-in-Some-transfer_alone
loop-left-preserved-in-Some-transfer_alone c =
    looping_alone _ _ _ _ _ _ _ _ _ _ _ _ _ _ c.loop-left.invariant c.loop-left-test.true _ _ c.bounded-count.ensures.0 c.bounded-count.ensures.1 c.bounded-address.ensures.0 c.bounded-address.ensures.1 _ c.is_single.ensures _ _ _ c.transfer_alone.ensures.made_value c.transfer_alone.ensures.memory c.transfer_alone.ensures.room _ c.in-Some-transfer_alone.is _ c.stepped.ensures

pub overflow_add-longs : goal.overflow_add-longs
overflow_add-longs c =
    let h = longs_below _ _ _ _ _ _ _ _ _ _ _ _ _ _ c.loop-left.invariant c.loop-left-test.true in omega arith

pub offset_bounds-s-i-then-i-f : goal.offset_bounds-s-i-then-i-f
offset_bounds-s-i-then-i-f c = let h = next_below _ _ _ _ _ _ _ _ _ _ _ _ _ _ c.loop-left.invariant c.loop-left-test.true in omega arith

pub bounds-s-i-then-i-f : goal.bounds-s-i-then-i-f
bounds-s-i-then-i-f c = next_below _ _ _ _ _ _ _ _ _ _ _ _ _ _ c.loop-left.invariant c.loop-left-test.true

pub copy_leg-u-requires : goal.copy_leg-u-requires
copy_leg-u-requires c = let h = c.before.bounded_channel-target.ensures.2 in (omega arith, omega arith)

pub copy_bytes-requires : goal.copy_bytes-requires
copy_bytes-requires c =
    let g = looping_still _ _ _ _ _ _ _ _ _ _ _ _ _ _ c.loop-left.invariant c.loop-left-test.true _ _ c.bounded-count.ensures.0 c.bounded-count.ensures.1 c.bounded-address.ensures.0 c.bounded-address.ensures.1 _ c.is_single.ensures _ _ _ c.transfer_alone.ensures.made_value c.transfer_alone.ensures.memory c.transfer_alone.ensures.room c.in_default-transfer_alone.not-Some in let h = c.bounded_channel-target.ensures.2 in (g.rolling.memory, omega arith, omega arith)

pub offset_bounds-s-i-then-i-f-2 : goal.offset_bounds-s-i-then-i-f-2
offset_bounds-s-i-then-i-f-2 c = let h = next_below _ _ _ _ _ _ _ _ _ _ _ _ _ _ c.loop-left.invariant c.loop-left-test.true in omega arith

pub bounds-s-i-then-i-f-2 : goal.bounds-s-i-then-i-f-2
bounds-s-i-then-i-f-2 c = next_below _ _ _ _ _ _ _ _ _ _ _ _ _ _ c.loop-left.invariant c.loop-left-test.true

pub copied_counts-n-requires : goal.copied_counts-n-requires
copied_counts-n-requires c =
    let x = fits _ _ _ _ _ _ _ _ _ _ _ _ _ _ (looping_still _ _ _ _ _ _ _ _ _ _ _ _ _ _ c.loop-left.invariant c.loop-left-test.true _ _ c.bounded-count.ensures.0 c.bounded-count.ensures.1 c.bounded-address.ensures.0 c.bounded-address.ensures.1 _ c.is_single.ensures _ _ _ c.transfer_alone.ensures.made_value c.transfer_alone.ensures.memory c.transfer_alone.ensures.room c.in_default-transfer_alone.not-Some) in let h = c.bounded_channel-target.ensures.2 in (omega arith, omega (arith, x.transfers), omega (arith, x.states))

pub nexts_after-nexts-requires : goal.nexts_after-nexts-requires
nexts_after-nexts-requires c =
    rw c.bits_of-b.ensures c.loop-left.invariant.listed

pub loop-left-smaller-then-i-f : goal.loop-left-smaller-then-i-f
loop-left-smaller-then-i-f c =
    left_falls _ _ _ _ _ _ _ _ _ _ _ _ _ _ c.loop-left.invariant c.loop-left-test.true

pub loop-left-preserved-then-i-f : goal.loop-left-preserved-then-i-f
loop-left-preserved-then-i-f c =
    looping_copied _ _ _ _ _ _ _ _ _ _ _ _ _ _ (looping_still _ _ _ _ _ _ _ _ _ _ _ _ _ _ c.loop-left.invariant c.loop-left-test.true _ _ c.bounded-count.ensures.0 c.bounded-count.ensures.1 c.bounded-address.ensures.0 c.bounded-address.ensures.1 _ c.is_single.ensures _ _ _ c.transfer_alone.ensures.made_value c.transfer_alone.ensures.memory c.transfer_alone.ensures.room c.in_default-transfer_alone.not-Some) c.loop-left-test.true c.if-i-f.true _ _ c.bounded_channel-source.ensures.0 c.bounded_channel-source.ensures.1 c.bounded_channel-source.ensures.2 c.bounded_channel-target.ensures.0 c.bounded_channel-target.ensures.1 c.bounded_channel-target.ensures.2 _ c.bits_of-b.ensures _ c.copy_leg-u.ensures _ c.copy_bytes.ensures.value _ c.copy_bytes.ensures.memory _ c.copied_counts-n.ensures _ c.nexts_after-nexts.ensures

pub offset_bounds-s-i-else-i-f : goal.offset_bounds-s-i-else-i-f
offset_bounds-s-i-else-i-f c = let h = next_below _ _ _ _ _ _ _ _ _ _ _ _ _ _ c.loop-left.invariant c.loop-left-test.true in omega arith

pub bounds-s-i-else-i-f : goal.bounds-s-i-else-i-f
bounds-s-i-else-i-f c = next_below _ _ _ _ _ _ _ _ _ _ _ _ _ _ c.loop-left.invariant c.loop-left-test.true

pub overflow_sub-device : goal.overflow_sub-device
overflow_sub-device c = let x = fits _ _ _ _ _ _ _ _ _ _ _ _ _ _ (looping_still _ _ _ _ _ _ _ _ _ _ _ _ _ _ c.loop-left.invariant c.loop-left-test.true _ _ c.bounded-count.ensures.0 c.bounded-count.ensures.1 c.bounded-address.ensures.0 c.bounded-address.ensures.1 _ c.is_single.ensures _ _ _ c.transfer_alone.ensures.made_value c.transfer_alone.ensures.memory c.transfer_alone.ensures.room c.in_default-transfer_alone.not-Some) in omega (arith, x.used)

pub overflow_sub-room : goal.overflow_sub-room
overflow_sub-room c = let x = fits _ _ _ _ _ _ _ _ _ _ _ _ _ _ (looping_still _ _ _ _ _ _ _ _ _ _ _ _ _ _ c.loop-left.invariant c.loop-left-test.true _ _ c.bounded-count.ensures.0 c.bounded-count.ensures.1 c.bounded-address.ensures.0 c.bounded-address.ensures.1 _ c.is_single.ensures _ _ _ c.transfer_alone.ensures.made_value c.transfer_alone.ensures.memory c.transfer_alone.ensures.room c.in_default-transfer_alone.not-Some) in omega (arith, x.written)

pub overflow_sub-k : goal.overflow_sub-k
overflow_sub-k c =
    left_fewer _ _ _ _ _ _ _ _ _ _ _ _ _ _ c.loop-left.invariant c.loop-left-test.true

pub overflow_sub-k-then-l-eq0 : goal.overflow_sub-k-then-l-eq0
overflow_sub-k-then-l-eq0 c =
    longs_fewer _ _ _ _ _ _ _ _ _ _ _ _ _ _ c.loop-left.invariant c.loop-left-test.true

pub closing-requires : goal.closing-requires
closing-requires c =
    let x = fits _ _ _ _ _ _ _ _ _ _ _ _ _ _ (looping_still _ _ _ _ _ _ _ _ _ _ _ _ _ _ c.loop-left.invariant c.loop-left-test.true _ _ c.bounded-count.ensures.0 c.bounded-count.ensures.1 c.bounded-address.ensures.0 c.bounded-address.ensures.1 _ c.is_single.ensures _ _ _ c.transfer_alone.ensures.made_value c.transfer_alone.ensures.memory c.transfer_alone.ensures.room c.in_default-transfer_alone.not-Some) in (next_below _ _ _ _ _ _ _ _ _ _ _ _ _ _ c.loop-left.invariant c.loop-left-test.true, x.pace, omega (arith, c.loop-left.invariant.most), omega (arith, x.transfers), omega (arith, x.states))

pub shape_of-memory-then-l-eq0 : goal.shape_of-memory-then-l-eq0
shape_of-memory-then-l-eq0 c =
    let o = round_open c.args.c c.args.memory.now c.args.k (free _ c.round_refusal.result c.round_refusal.ensures c.in_default.not-Some) in let g = looping_still _ _ _ _ _ _ _ _ _ _ _ _ _ _ c.loop-left.invariant c.loop-left-test.true _ _ c.bounded-count.ensures.0 c.bounded-count.ensures.1 c.bounded-address.ensures.0 c.bounded-address.ensures.1 _ c.is_single.ensures _ _ _ c.transfer_alone.ensures.made_value c.transfer_alone.ensures.memory c.transfer_alone.ensures.room c.in_default-transfer_alone.not-Some in omega (arith, g.rolling.memory, o.2)

pub shape_of-room-then-l-eq0 : goal.shape_of-room-then-l-eq0
shape_of-room-then-l-eq0 c = let g = looping_still _ _ _ _ _ _ _ _ _ _ _ _ _ _ c.loop-left.invariant c.loop-left-test.true _ _ c.bounded-count.ensures.0 c.bounded-count.ensures.1 c.bounded-address.ensures.0 c.bounded-address.ensures.1 _ c.is_single.ensures _ _ _ c.transfer_alone.ensures.made_value c.transfer_alone.ensures.memory c.transfer_alone.ensures.room c.in_default-transfer_alone.not-Some in omega (arith, g.rolling.tally.room)

pub returns-then-l-eq0 : goal.returns-then-l-eq0
returns-then-l-eq0 c =
    round_stated _ _ _ _ _ _ _ _ (
    said_closed c.args.c _ _ _ c.args.k _ _ _ _ c.closing.ensures (free _ c.round_refusal.result c.round_refusal.ensures c.in_default.not-Some) (looping_stood _ _ _ _ _ _ _ _ _ _ _ _ _ _ (looping_still _ _ _ _ _ _ _ _ _ _ _ _ _ _ c.loop-left.invariant c.loop-left-test.true _ _ c.bounded-count.ensures.0 c.bounded-count.ensures.1 c.bounded-address.ensures.0 c.bounded-address.ensures.1 _ c.is_single.ensures _ _ _ c.transfer_alone.ensures.made_value c.transfer_alone.ensures.memory c.transfer_alone.ensures.room c.in_default-transfer_alone.not-Some) c.loop-left-test.true c.if-i-f.false _ c.bounded_channel-ch.ensures.0 c.bounded_channel-ch.ensures.1 c.bounded_channel-ch.ensures.2 _ (rw (c.bit.ensures, c.bit-else-i-f.ensures) refl) _ c.span_of-l.ensures c.if-l-eq0.true _))

pub turn_of-u-requires : goal.turn_of-u-requires
turn_of-u-requires c =
    let x = fits _ _ _ _ _ _ _ _ _ _ _ _ _ _ (looping_still _ _ _ _ _ _ _ _ _ _ _ _ _ _ c.loop-left.invariant c.loop-left-test.true _ _ c.bounded-count.ensures.0 c.bounded-count.ensures.1 c.bounded-address.ensures.0 c.bounded-address.ensures.1 _ c.is_single.ensures _ _ _ c.transfer_alone.ensures.made_value c.transfer_alone.ensures.memory c.transfer_alone.ensures.room c.in_default-transfer_alone.not-Some) in let few = leg_few _ _ _ _ _ _ _ _ _ _ _ _ _ _ (looping_still _ _ _ _ _ _ _ _ _ _ _ _ _ _ c.loop-left.invariant c.loop-left-test.true _ _ c.bounded-count.ensures.0 c.bounded-count.ensures.1 c.bounded-address.ensures.0 c.bounded-address.ensures.1 _ c.is_single.ensures _ _ _ c.transfer_alone.ensures.made_value c.transfer_alone.ensures.memory c.transfer_alone.ensures.room c.in_default-transfer_alone.not-Some) c.loop-left-test.true c.if-i-f.false _ c.bounded_channel-ch.ensures.0 c.bounded_channel-ch.ensures.1 c.bounded_channel-ch.ensures.2 _ (rw (c.bit.ensures, c.bit-else-i-f.ensures) refl) _ c.span_of-l.ensures in let nz = c.if-l-eq0.false in record { n_nonzero = (omega (arith, nz), omega (arith, x.pace), x.used, x.written, leg_stocked _ _ _ _ _ _ _ _ _ _ _ _ _ _ (looping_still _ _ _ _ _ _ _ _ _ _ _ _ _ _ c.loop-left.invariant c.loop-left-test.true _ _ c.bounded-count.ensures.0 c.bounded-count.ensures.1 c.bounded-address.ensures.0 c.bounded-address.ensures.1 _ c.is_single.ensures _ _ _ c.transfer_alone.ensures.made_value c.transfer_alone.ensures.memory c.transfer_alone.ensures.room c.in_default-transfer_alone.not-Some) c.loop-left-test.true c.if-i-f.false _ c.bounded_channel-ch.ensures.0 c.bounded_channel-ch.ensures.1 c.bounded_channel-ch.ensures.2 _ (rw (c.bit.ensures, c.bit-else-i-f.ensures) refl) _ c.span_of-l.ensures); n_bound = (omega (arith, x.transfers, few), omega (arith, x.states)) }

pub offset_bounds-s-i-else-i-f-2 : goal.offset_bounds-s-i-else-i-f-2
offset_bounds-s-i-else-i-f-2 c = let h = next_below _ _ _ _ _ _ _ _ _ _ _ _ _ _ c.loop-left.invariant c.loop-left-test.true in omega arith

pub bounds-s-i-else-i-f-2 : goal.bounds-s-i-else-i-f-2
bounds-s-i-else-i-f-2 c = next_below _ _ _ _ _ _ _ _ _ _ _ _ _ _ c.loop-left.invariant c.loop-left-test.true

pub overflow_sub-k-then-not-is_ended : goal.overflow_sub-k-then-not-is_ended
overflow_sub-k-then-not-is_ended c =
    left_fewer _ _ _ _ _ _ _ _ _ _ _ _ _ _ c.loop-left.invariant c.loop-left-test.true

pub overflow_sub-k-then-not-is_ended-2 : goal.overflow_sub-k-then-not-is_ended-2
overflow_sub-k-then-not-is_ended-2 c =
    longs_fewer _ _ _ _ _ _ _ _ _ _ _ _ _ _ c.loop-left.invariant c.loop-left-test.true

pub closing-requires-then-not-is_ended : goal.closing-requires-then-not-is_ended
closing-requires-then-not-is_ended c =
    let x = fits _ _ _ _ _ _ _ _ _ _ _ _ _ _ (looping_still _ _ _ _ _ _ _ _ _ _ _ _ _ _ c.loop-left.invariant c.loop-left-test.true _ _ c.bounded-count.ensures.0 c.bounded-count.ensures.1 c.bounded-address.ensures.0 c.bounded-address.ensures.1 _ c.is_single.ensures _ _ _ c.transfer_alone.ensures.made_value c.transfer_alone.ensures.memory c.transfer_alone.ensures.room c.in_default-transfer_alone.not-Some) in let y = turn_fits _ _ _ _ _ _ _ _ _ _ _ _ _ _ (looping_still _ _ _ _ _ _ _ _ _ _ _ _ _ _ c.loop-left.invariant c.loop-left-test.true _ _ c.bounded-count.ensures.0 c.bounded-count.ensures.1 c.bounded-address.ensures.0 c.bounded-address.ensures.1 _ c.is_single.ensures _ _ _ c.transfer_alone.ensures.made_value c.transfer_alone.ensures.memory c.transfer_alone.ensures.room c.in_default-transfer_alone.not-Some) c.loop-left-test.true c.if-i-f.false _ c.bounded_channel-ch.ensures.0 c.bounded_channel-ch.ensures.1 c.bounded_channel-ch.ensures.2 _ (rw (c.bit.ensures, c.bit-else-i-f.ensures) refl) _ c.span_of-l.ensures (let nz = c.if-l-eq0.false in omega (arith, nz)) _ c.bits_of-b.ensures _ c.turn_of-u.ensures.value _ _ c.turn_of-u.ensures.memory c.turn_of-u.ensures.room in (next_below _ _ _ _ _ _ _ _ _ _ _ _ _ _ c.loop-left.invariant c.loop-left-test.true, x.pace, omega (arith, c.loop-left.invariant.most), y.0, y.1)

pub shape_of-memory-then-not-is_ended : goal.shape_of-memory-then-not-is_ended
shape_of-memory-then-not-is_ended c =
    let o = round_open c.args.c c.args.memory.now c.args.k (free _ c.round_refusal.result c.round_refusal.ensures c.in_default.not-Some) in let h = turn_memory _ _ _ _ _ _ _ _ _ _ _ _ _ _ (looping_still _ _ _ _ _ _ _ _ _ _ _ _ _ _ c.loop-left.invariant c.loop-left-test.true _ _ c.bounded-count.ensures.0 c.bounded-count.ensures.1 c.bounded-address.ensures.0 c.bounded-address.ensures.1 _ c.is_single.ensures _ _ _ c.transfer_alone.ensures.made_value c.transfer_alone.ensures.memory c.transfer_alone.ensures.room c.in_default-transfer_alone.not-Some) c.loop-left-test.true c.if-i-f.false _ c.bounded_channel-ch.ensures.0 c.bounded_channel-ch.ensures.1 c.bounded_channel-ch.ensures.2 _ (rw (c.bit.ensures, c.bit-else-i-f.ensures) refl) _ c.span_of-l.ensures (let nz = c.if-l-eq0.false in omega (arith, nz)) _ c.bits_of-b.ensures _ c.turn_of-u.ensures.value _ _ c.turn_of-u.ensures.memory c.turn_of-u.ensures.room in omega (arith, h, o.2)

pub shape_of-room-then-not-is_ended : goal.shape_of-room-then-not-is_ended
shape_of-room-then-not-is_ended c =
    let h = turn_room _ _ _ _ _ _ _ _ _ _ _ _ _ _ (looping_still _ _ _ _ _ _ _ _ _ _ _ _ _ _ c.loop-left.invariant c.loop-left-test.true _ _ c.bounded-count.ensures.0 c.bounded-count.ensures.1 c.bounded-address.ensures.0 c.bounded-address.ensures.1 _ c.is_single.ensures _ _ _ c.transfer_alone.ensures.made_value c.transfer_alone.ensures.memory c.transfer_alone.ensures.room c.in_default-transfer_alone.not-Some) c.loop-left-test.true c.if-i-f.false _ c.bounded_channel-ch.ensures.0 c.bounded_channel-ch.ensures.1 c.bounded_channel-ch.ensures.2 _ (rw (c.bit.ensures, c.bit-else-i-f.ensures) refl) _ c.span_of-l.ensures (let nz = c.if-l-eq0.false in omega (arith, nz)) _ c.bits_of-b.ensures _ c.turn_of-u.ensures.value _ _ c.turn_of-u.ensures.memory c.turn_of-u.ensures.room in omega (arith, h)

pub returns-then-not-is_ended : goal.returns-then-not-is_ended
returns-then-not-is_ended c =
    round_stated _ _ _ _ _ _ _ _ (
    said_closed c.args.c _ _ _ c.args.k _ _ _ _ c.closing-then-not-is_ended.ensures (free _ c.round_refusal.result c.round_refusal.ensures c.in_default.not-Some) (looping_halted _ _ _ _ _ _ _ _ _ _ _ _ _ _ (looping_still _ _ _ _ _ _ _ _ _ _ _ _ _ _ c.loop-left.invariant c.loop-left-test.true _ _ c.bounded-count.ensures.0 c.bounded-count.ensures.1 c.bounded-address.ensures.0 c.bounded-address.ensures.1 _ c.is_single.ensures _ _ _ c.transfer_alone.ensures.made_value c.transfer_alone.ensures.memory c.transfer_alone.ensures.room c.in_default-transfer_alone.not-Some) c.loop-left-test.true c.if-i-f.false _ c.bounded_channel-ch.ensures.0 c.bounded_channel-ch.ensures.1 c.bounded_channel-ch.ensures.2 _ (rw (c.bit.ensures, c.bit-else-i-f.ensures) refl) _ c.span_of-l.ensures (let nz = c.if-l-eq0.false in omega (arith, nz)) _ c.bits_of-b.ensures _ c.turn_of-u.ensures.value _ _ c.turn_of-u.ensures.memory c.turn_of-u.ensures.room (sym c.is_ended.ensures ∙ c.if-not-is_ended.true) _))

pub nexts_after-nexts-requires-else-i-f : goal.nexts_after-nexts-requires-else-i-f
nexts_after-nexts-requires-else-i-f c =
    rw c.bits_of-b.ensures c.loop-left.invariant.listed

pub loop-left-smaller : goal.loop-left-smaller
loop-left-smaller c =
    left_falls _ _ _ _ _ _ _ _ _ _ _ _ _ _ c.loop-left.invariant c.loop-left-test.true

pub loop-left-preserved : goal.loop-left-preserved
loop-left-preserved c =
    looping_leg _ _ _ _ _ _ _ _ _ _ _ _ _ _ (looping_still _ _ _ _ _ _ _ _ _ _ _ _ _ _ c.loop-left.invariant c.loop-left-test.true _ _ c.bounded-count.ensures.0 c.bounded-count.ensures.1 c.bounded-address.ensures.0 c.bounded-address.ensures.1 _ c.is_single.ensures _ _ _ c.transfer_alone.ensures.made_value c.transfer_alone.ensures.memory c.transfer_alone.ensures.room c.in_default-transfer_alone.not-Some) c.loop-left-test.true c.if-i-f.false _ c.bounded_channel-ch.ensures.0 c.bounded_channel-ch.ensures.1 c.bounded_channel-ch.ensures.2 _ (rw (c.bit.ensures, c.bit-else-i-f.ensures) refl) _ c.span_of-l.ensures (let nz = c.if-l-eq0.false in omega (arith, nz)) _ c.bits_of-b.ensures _ c.turn_of-u.ensures.value _ _ c.turn_of-u.ensures.memory c.turn_of-u.ensures.room (sym c.is_ended.ensures ∙ c.if-not-is_ended.false) _ c.nexts_after-nexts-else-i-f.ensures

pub overflow_sub-k-2 : goal.overflow_sub-k-2
overflow_sub-k-2 c = c.before.loop-left.invariant.fewer

pub overflow_sub-k-3 : goal.overflow_sub-k-3
overflow_sub-k-3 c = c.before.loop-left.invariant.long

pub closing-requires-2 : goal.closing-requires-2
closing-requires-2 c = let x = fits _ _ _ _ _ _ _ _ _ _ _ _ _ _ c.before.loop-left.invariant in (c.before.loop-left.invariant.place, x.pace, omega (arith, c.before.loop-left.invariant.most), omega (arith, x.transfers), omega (arith, x.states))

pub shape_of-memory : goal.shape_of-memory
shape_of-memory c = let o = round_open c.args.c c.args.memory.now c.args.k (free _ c.round_refusal.result c.round_refusal.ensures c.in_default.not-Some) in omega (arith, c.before.before.loop-left.invariant.rolling.memory, o.2)

pub shape_of-room : goal.shape_of-room
shape_of-room c = omega (arith, c.before.before.loop-left.invariant.rolling.tally.room)

pub returns : goal.returns
returns c =
    round_stated _ _ _ _ _ _ _ _ (
    said_closed c.args.c _ _ _ c.args.k _ _ _ _ c.closing-2.ensures (free _ c.round_refusal.result c.round_refusal.ensures c.in_default.not-Some) (looping_left _ _ _ _ _ _ _ _ _ _ _ _ _ _ c.loop-left.invariant c.loop-left-test.false))

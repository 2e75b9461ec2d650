use native.Mathlib.Omega.{arith}
use Rattle.am9517_service.proofs.TurnLaws.{nexts_listed, copy_served}
use Rattle.am9517_service.proofs.turns.serve_copy.Goals as goal

pub copy_bytes-requires : goal.copy_bytes-requires
copy_bytes-requires c =
    let h = c.bounded_channel-target.ensures.2 in (c.requires.2, omega arith, omega arith)

pub offset_bounds-next-i-2 : goal.offset_bounds-next-i-2
offset_bounds-next-i-2 c = let h = c.before.before.before.before.before.before.before.before.before.before.before.before.before.before.before.before.before.requires.0.below in omega arith

pub bounds-next-i-2 : goal.bounds-next-i-2
bounds-next-i-2 c = c.before.before.before.before.before.before.before.before.before.before.before.before.before.before.before.before.before.requires.0.below

pub overflow_cast-i : goal.overflow_cast-i
overflow_cast-i c = let h = c.before.before.before.before.before.before.before.before.before.before.before.before.before.before.before.before.before.requires.0.below in omega arith

pub copied_counts-counts-requires : goal.copied_counts-counts-requires
copied_counts-counts-requires c =
    let h = c.bounded_channel-target.ensures.2 in (omega arith, omega (arith, c.requires.3), omega (arith, c.requires.4))

pub nexts_after-nexts-requires : goal.nexts_after-nexts-requires
nexts_after-nexts-requires c =
    rw c.bits_of-b.ensures (nexts_listed _ _ c.requires.0)

pub returns : goal.returns
returns c =
    λ d r. copy_served _ _ c.requires.0 _ _ d r c.requires.1 _ _ c.bounded_channel-source.ensures.0 c.bounded_channel-source.ensures.1 c.bounded_channel-source.ensures.2 c.bounded_channel-target.ensures.0 c.bounded_channel-target.ensures.1 c.bounded_channel-target.ensures.2 _ c.bits_of-b.ensures _ c.copy_leg-u.ensures _ c.copy_bytes.ensures.value _ c.copy_bytes.ensures.memory _ c.copied_counts-counts.ensures _ c.when.ensures _ c.nexts_after-nexts.ensures _ c.behind.ensures

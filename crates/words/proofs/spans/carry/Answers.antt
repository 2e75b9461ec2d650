use Rattle.words.proofs.SpreadLaws.{carrying_start, carrying_on, carrying_end}
use Rattle.words.proofs.SpanLaws.{within_computed, within_inside}
use native.Mathlib.Omega.{arith}
use Rattle.words.proofs.spans.carry.Goals as goal

pub loop-j-init : goal.loop-j-init
loop-j-init c = carrying_start _ _ _ _

pub place-source-requires : goal.place-source-requires
place-source-requires c = within_computed _ _ _ _ c.before.before.before.requires.0 _ (omega arith) (omega arith)

pub place-target-requires : goal.place-target-requires
place-target-requires c = within_computed _ _ _ _ c.before.before.before.before.requires.1 _ (omega arith) (omega arith)

pub bounds-memory-source : goal.bounds-memory-source
bounds-memory-source c =
    let at_place = c.before.before in let at-loop = at_place.before.before in let at_pre = at-loop.before.before in
    omega (arith, at_place.place-source.ensures, at-loop.loop-j.invariant.size, within_inside _ _ _ _ at_pre.requires.0 at-loop.loop-j.j (omega arith))

pub bounds-memory-target : goal.bounds-memory-target
bounds-memory-target c =
    let at-place2 = c.before in let at-loop = at-place2.before.before.before in let at_pre = at-loop.before.before in
    omega (arith, at-place2.place-target.ensures, at-loop.loop-j.invariant.size, within_inside _ _ _ _ at_pre.requires.1 at-loop.loop-j.j (omega arith))

pub loop-j-preserved : goal.loop-j-preserved
loop-j-preserved c =
    let at-place2 = c.before in let at_place = at-place2.before in let at-loop = at_place.before.before in
    carrying_on _ _ _ _ _ _ _ _ at-place2.place-target.ensures at_place.place-source.ensures (omega arith) at-loop.loop-j.invariant

pub shape_of-memory : goal.shape_of-memory
shape_of-memory c = omega (arith, c.before.loop-j.invariant.size)

pub returns : goal.returns
returns c = carrying_end _ _ _ _ _ _ (omega arith) c.before.loop-j.invariant

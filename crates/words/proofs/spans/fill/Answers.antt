use Rattle.words.proofs.SpreadLaws.{carrying_start, carrying_on, carrying_end, put_same}
use Rattle.words.proofs.SpanLaws.{within_computed, within_inside}
use native.Mathlib.Omega.{arith}
use lib.ListN.{length, get_or}
use mathlib.Core.Path.{refl, sym}
use Prim.Native.Nat.{◌<◌}
use Rattle.words.proofs.spans.fill.Goals as goal

pub loop-j-init : goal.loop-j-init
loop-j-init c = (carrying_start _ _ _ _, refl)

pub place-target-requires : goal.place-target-requires
place-target-requires c = within_computed _ _ _ _ c.before.before.before.before.requires.1 _ (omega arith) (omega arith)

pub bounds-memory-target : goal.bounds-memory-target
bounds-memory-target c =
    let at-loop = c.before.before in let at_pre = at-loop.before.before.before in
    omega (arith, c.place-target.ensures, at-loop.loop-j.invariant.0.size, within_inside _ _ _ _ at_pre.requires.1 at-loop.loop-j.j (omega arith))

pub loop-j-preserved : goal.loop-j-preserved
loop-j-preserved c =
    let at-loop = c.before.before in let at_pre = at-loop.before.before.before in
    let inside : c.place-target.result < length at-loop.loop-j.memory = omega (arith, c.place-target.ensures, at-loop.loop-j.invariant.0.size, within_inside _ _ _ _ at_pre.requires.1 at-loop.loop-j.j (omega arith)) in (rw (sym at-loop.loop-j.invariant.1) (carrying_on _ _ _ _ at-loop.loop-j.memory at-loop.loop-j.j c.place-target.result at_pre.args.from c.place-target.ensures refl (omega arith) at-loop.loop-j.invariant.0), put_same at-loop.loop-j.memory c.place-target.result at_pre.args.from (get_or at_pre.args.memory.now at_pre.args.from 0) inside at-loop.loop-j.invariant.1)

pub shape_of-memory : goal.shape_of-memory
shape_of-memory c = omega (arith, c.before.loop-j.invariant.0.size)

pub returns : goal.returns
returns c = carrying_end _ _ _ _ _ _ (omega arith) c.before.loop-j.invariant.0

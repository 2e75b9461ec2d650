use lib.ListN.{length}
use Rattle.console_arrays.specs.Arrays.{bytes_at}
use Rattle.words.specs.Choice.{when}
use borrow.Author.Tests.{le-leb, lt-leb}
use mathlib.Core.Path.{◌≡◌}
use Prim.Native.Nat.{◌+◌, ◌-◌}
use native.Mathlib.Omega.{arith}
use Rattle.console_arrays.proofs.arrays.bytes_at.Goals as goal

pub returns-then-array-a : goal.returns-then-array-a
unfolding bytes_at when
returns-then-array-a c = let s = c.args in simp (lt-leb (s.a + s.n) (length s.array.now) (omega arith)) c.error.ensures

pub returns-then-array-a-2 : goal.returns-then-array-a-2
unfolding bytes_at when
returns-then-array-a-2 c = let s = c.args in simp (lt-leb (s.a + s.n) (length s.array.now) (omega arith)) c.error-then-array-a-2.ensures

pub returns : goal.returns
unfolding bytes_at when
returns c =
    let a = c.args.a in
    let n = c.args.n in
    let e : a + n - a ≡ n = omega arith in
    simp (le-leb (a + n) (length c.args.array.now) (omega arith)) (rw e at c.bytes_said.ensures)

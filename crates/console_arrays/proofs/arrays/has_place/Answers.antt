use Rattle.console_arrays.proofs.ArrayLaws.{sums}
use Rattle.console_text.proofs.NumberLaws.{and_false}
use Rattle.console_text.specs.Hex.{is_bytes}
use borrow.Author.Tests.{lt-leb}
use lib.ListN.{length}
use mathlib.Core.Path.{sym}
use Prim.Native.Nat.{◌+◌, ◌/◌}
use Rattle.console_arrays.specs.Arrays.{has_place}
use Rattle.words.specs.Choice.{◌and◌}
use native.Mathlib.Omega.{arith}
use Rattle.console_arrays.proofs.arrays.has_place.Goals as goal

pub returns-then-size-a : goal.returns-then-size-a
unfolding has_place
returns-then-size-a c = let s = c.args in
    let digits = s.digits.now in
    sym (rw (lt-leb (s.a + length digits / 2) s.size (omega arith)) (and_false (is_bytes digits)))

pub returns : goal.returns
unfolding has_place ◌and◌
returns c = let s = c.args in
    simp (c.is_bytes-bytes.ensures, sums s.a (length s.digits.now / 2) s.size (omega arith))

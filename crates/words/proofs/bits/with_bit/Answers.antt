use native.Mathlib.Nat.{add-zero}
use borrow.Author.Tests.{le-ltb, lt-ltb}
use Rattle.words.specs.Bits.{with_bit}
use Rattle.words.specs.Choice.{when}
use Rattle.words.proofs.BitLaws.{bit_set, bit_cleared}
use Rattle.words.proofs.bits.with_bit.Goals as goal

pub returns-then-n-ge8 : goal.returns-then-n-ge8
unfolding with_bit when
returns-then-n-ge8 c = simp (le-ltb _ _ c.if-n-ge8.true)

pub returns-then-set : goal.returns-then-set
unfolding with_bit when
returns-then-set c = simp (lt-ltb _ _ c.before.before.if-n-ge8.false, c.if-set.true, c.before.weight-w.ensures) (bit_set _ _)

pub returns-else-set : goal.returns-else-set
unfolding with_bit when
returns-else-set c =
    let at-weight = c.before in let at-if1 = at-weight.before in let at-fits = at-if1.before in
    simp (lt-ltb _ _ at-if1.if-n-ge8.false, c.if-set.false, at-weight.weight-w.ensures, add-zero) (bit_cleared _ _ at-fits.ranges.b.fits at-if1.if-n-ge8.false)

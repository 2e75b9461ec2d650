use native.Mathlib.Omega.{arith}
use Rattle.words.proofs.ChoiceLaws.{when_le}
use Rattle.logs.proofs.records.flags_by.Goals as goal

pub overflow_add-result : goal.overflow_add-result
overflow_add-result c =
    omega (arith, c.when-tc_bit.ensures, c.when-eop_bit.ensures, when_le c.args.tc 1, when_le c.args.eop 2)

pub overflow_add-result-2 : goal.overflow_add-result-2
overflow_add-result-2 c =
    omega (arith, c.when-tc_bit.ensures, c.when-eop_bit.ensures, c.when-last_bit.ensures, when_le c.args.tc 1, when_le c.args.eop 2, when_le c.args.last 4)

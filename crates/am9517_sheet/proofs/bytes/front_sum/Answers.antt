use native.Mathlib.Omega.{arith}
use Rattle.am9517_sheet.specs.Bytes.{total}
use Rattle.am9517_sheet.proofs.BytesLaws.{first_cells}
use Rattle.am9517_sheet.proofs.bytes.front_sum.Goals as goal

pub returns-in-One : goal.returns-in-One
unfolding total
returns-in-One c = rw c.in-One.is (omega arith, omega arith)

pub returns-in-Two : goal.returns-in-Two
unfolding total
returns-in-Two c =
    rw c.in-Two.is (rw (first_cells 2 c.args.b.now (omega arith)) (omega arith), omega (arith, c.type_inv.b 0, c.type_inv.b 1))

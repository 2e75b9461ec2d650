use native.Mathlib.Nat.{add-zero}
use mathlib.Core.Path.{sym}
use Rattle.am9517_sheet.proofs.BytesLaws.{placed_none}
use Rattle.am9517_sheet.proofs.body.store_front.Goals as goal

pub returns-in-One : goal.returns-in-One
returns-in-One c =
    rw c.in-One.is (sym (placed_none c.args.out.now c.args.start), sym (add-zero c.args.start))

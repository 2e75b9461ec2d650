use Rattle.am9517_service.proofs.TransferLaws.{one_loaded}
use native.Mathlib.Omega.{arith}
use Rattle.am9517_service.proofs.bytes.fetch.Goals as goal

pub returns-then-n-eq1 : goal.returns-then-n-eq1
returns-then-n-eq1 c = one_loaded _ _ _ _ _ c.before.if-n-eq1.true (omega arith)

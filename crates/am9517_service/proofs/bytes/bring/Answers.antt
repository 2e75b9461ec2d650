use Rattle.am9517_service.proofs.TransferLaws.{one_stored}
use native.Mathlib.Omega.{arith}
use Rattle.am9517_service.proofs.bytes.bring.Goals as goal

pub returns-then-n-eq1 : goal.returns-then-n-eq1
returns-then-n-eq1 c = one_stored _ _ _ _ _ c.before.if-n-eq1.true (omega arith)

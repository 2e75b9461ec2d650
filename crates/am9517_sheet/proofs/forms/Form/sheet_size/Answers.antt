use Rattle.am9517_sheet.proofs.BodyLaws.{body_fits}
use native.Mathlib.Omega.{arith}
use Rattle.am9517_sheet.proofs.forms.Form.sheet_size.Goals as goal

pub overflow_add-result : goal.overflow_add-result
overflow_add-result c = omega (arith, c.body_size.ensures, body_fits c.before.args.self)

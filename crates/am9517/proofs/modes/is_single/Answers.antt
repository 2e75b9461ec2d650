use native.Mathlib.Omega.{arith}
use Rattle.am9517.proofs.ModeLaws.{single_told}
use Rattle.am9517.proofs.modes.is_single.Goals as goal

pub returns : goal.returns
returns c = single_told c.args.mode (omega (arith, c.well_formed))

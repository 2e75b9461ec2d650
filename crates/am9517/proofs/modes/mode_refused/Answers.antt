use native.Mathlib.Omega.{arith}
use Rattle.am9517.proofs.ModeLaws.{mode_bit}
use Rattle.am9517.proofs.modes.mode_refused.Goals as goal

pub returns : goal.returns
returns c = mode_bit c.args.mode (omega (arith, c.well_formed))

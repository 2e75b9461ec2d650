-- The places are taken one by one.
use Rattle.std.proofs.Common.{◌-◌}
use Rattle.rack.proofs.options.read_options.Given as goal

abbrev pub decreases-loop-i : goal.decreases-loop-i
decreases-loop-i l = l.places.end - l.places.start

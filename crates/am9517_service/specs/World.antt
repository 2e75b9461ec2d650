-- What a run changes: the controller, the memory and the device's room; and what it counts.
use Rattle.std.specs.Prelude.{ℕ, Bool, ◌&&◌, List, eqb}
use Rattle.am9517.specs.Fields.{channel}
use Rattle.am9517.specs.Modes.{memory_to_memory_bit}
use Rattle.am9517.specs.declared.Channel.{Channel}
use Rattle.am9517.specs.declared.Controller.{Controller}
use Rattle.am9517_service.specs.declared.Counts.{Counts}
use Rattle.am9517_service.specs.declared.Reason.{Reason}
use Rattle.am9517_service.specs.Counts.{none}

pub record World : Type 0 where
  pub controller : Controller
  pub memory : List ℕ
  pub room : List ℕ
  pub counts : Counts

abbrev pub world : Controller → List ℕ → List ℕ → Counts → World
world c m r n = record { controller = c; memory = m; room = r; counts = n }

-- where a run begins
abbrev pub start_of : Controller → List ℕ → List ℕ → World
start_of c m r = world c m r none

-- the world with another controller
abbrev pub with_controller : World → Controller → World
with_controller w c = world c w.memory w.room w.counts

-- "With command bit 0 set, a service of channel 0 is this, whatever its mode, single and cascade too": memory-to-memory; no mode is asked
unfoldable pub memory_to_memory : Controller → Bool
memory_to_memory c = memory_to_memory_bit c.command && eqb c.serving 0

-- the serving channel
abbrev pub serving_channel : Controller → Channel
serving_channel c = channel c c.serving

-- where a run stops, and why
pub record Stop : Type 0 where
  pub world : World
  pub reason : Reason

abbrev pub stop : World → Reason → Stop
stop w e = record { world = w; reason = e }

-- "Before each transfer, in order": what stops the run, where `remaining` more transfers are allowed.
use Rattle.std.specs.Prelude.{ℕ, Bool, not, ◌&&◌, ◌||◌, List, [], ◌∷◌, eqb, leb, length}
use Rattle.words.specs.Choice.{when}
use Rattle.words.specs.Grounds.{Ground, ◌if◌}
use Rattle.am9517.specs.State.{ended}
use Rattle.am9517.specs.Modes.{is_write, is_read, is_demand, is_cascade}
use Rattle.am9517.specs.Serving.{active}
use Rattle.am9517.specs.declared.Controller.{Controller}
use Rattle.am9517_service.specs.declared.Reason.TheVariants.{Dropped, Cascade, Limit, Short}
use Rattle.am9517_service.specs.World.{World, with_controller, memory_to_memory, serving_channel, Stop, stop}

-- the mode is demand or cascade, and the line is inactive
unfoldable pub dropped : Controller → Bool
dropped c = (is_demand (serving_channel c).mode || is_cascade (serving_channel c).mode) && not (active c c.serving)

-- "a write with no device byte left, or a read with no room left"
unfoldable pub short : World → List ℕ → Bool
short w d =
    is_write (serving_channel w.controller).mode && leb (length d) w.counts.used
    || is_read (serving_channel w.controller).mode && leb (length w.room) w.counts.written

-- 1. "demand or cascade with the line inactive: service ends, "dropped""; 2. "cascade: stop, "cascade"; service stays open, nothing
-- moves"; 3. "limit reached: stop, "limit"; service stays open"; 4. "a write with no device byte left, or a read with no room left:
-- stop, "short"; service stays open". In memory-to-memory "steps 1, 2 and 4 don't apply".
unfoldable pub stops : World → List ℕ → ℕ → List (Ground Stop)
stops w d remaining =
    when (memory_to_memory w.controller)
    (stop w Limit if eqb remaining 0 ∷ [])
    (stop (with_controller w (ended w.controller)) Dropped if dropped w.controller
    ∷ stop w Cascade if is_cascade (serving_channel w.controller).mode
    ∷ stop w Limit if eqb remaining 0
    ∷ stop w Short if short w d
    ∷ [])

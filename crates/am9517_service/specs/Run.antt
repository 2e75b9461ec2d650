-- The run of an open service: transfers until something stops it.
use Rattle.std.specs.Prelude.{ℕ, zero, suc, List}
use Rattle.words.specs.Choice.{when}
use Rattle.words.specs.Grounds.{first}
use Rattle.am9517_service.specs.declared.Reason.TheVariants.{Limit}
use Rattle.am9517_service.specs.World.{World, memory_to_memory, Stop, stop}
use Rattle.am9517_service.specs.Stops.{stops}
use Rattle.am9517_service.specs.Transfer.{moved}
use Rattle.am9517_service.specs.Copy.{copied}
use Rattle.am9517_service.specs.Ends.{ends}

-- the world after one transfer of either sort; d is the device's bytes
unfoldable pub transferred : World → List ℕ → World
transferred w d = when (memory_to_memory w.controller) (copied w) (moved w d)

-- with `remaining` more transfers allowed; the transfer of this call whose number is eop meets external EOP
unfoldable pub run_of : ℕ → ℕ → List ℕ → World → Stop
run_of zero eop d w = first (stops w d 0) (stop w Limit)
run_of (suc remaining) eop d w =
    let next = transferred w d in
    first (stops w d (suc remaining)) (first (ends w.controller next eop) (run_of remaining eop d next))

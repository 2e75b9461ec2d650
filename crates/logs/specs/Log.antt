-- The log of a run, as a vendor writes it: a record for each transfer that the run makes.
use Rattle.std.specs.Prelude.{ℕ, zero, suc, ◌+◌, List, [], ◌∷◌, ◌++◌, eqb, get_or, drop}
use Rattle.words.specs.Choice.{when}
use Rattle.words.specs.Grounds.{Ground}
use Rattle.am9517_service.specs.World.{World, Stop}
use Rattle.am9517_service.specs.Stops.{stops}
use Rattle.am9517_service.specs.Ends.{ends}
use Rattle.am9517_service.specs.Run.{transferred}
use Rattle.logs.specs.Record.{record_in, bytes_of, record_of}
use Rattle.logs.specs.Judge.{tells_eop}

-- nothing where one of the grounds holds
unfoldable pub unless : List (Ground Stop) → List ℕ → List ℕ
unless [] log = log
unless (g ∷ gs) log = when g.holds [] (unless gs log)

-- line by line as the run itself (am9517_service Run `run_of`): with `remaining` more transfers allowed, of which the one whose number is eop
-- meets external EOP
unfoldable pub log_of : ℕ → ℕ → List ℕ → World → List ℕ
log_of zero eop d w = []
log_of (suc remaining) eop d w =
    let next = transferred w d in
    let r = record_of w.controller w.memory (get_or d w.counts.used 0) (eqb next.counts.transfers eop) in
    unless (stops w d (suc remaining)) (bytes_of r ++ unless (ends w.controller next eop) (log_of remaining eop d next))

-- what so many records tell of the device: the data byte of each,
unfoldable pub bytes_told : ℕ → List ℕ → List ℕ
bytes_told zero log = []
bytes_told (suc more) log = (record_in log).byte ∷ bytes_told more (drop 8 log)

-- and of external EOP: the number of the first that tells it, counted from 1; 0: none
abbrev pub onward : ℕ → ℕ
onward n = when (eqb n 0) 0 (n + 1)

unfoldable pub eop_told : ℕ → List ℕ → ℕ
eop_told zero log = 0
eop_told (suc more) log = when (tells_eop (record_in log)) 1 (onward (eop_told more (drop 8 log)))

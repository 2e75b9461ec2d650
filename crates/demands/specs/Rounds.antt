-- A round is its calls, in all that it leaves and says; and operations with rounds among them, each round spelled as its calls.
use Rattle.std.specs.Prelude.{ℕ, zero, suc, ◌<◌, ◌≡◌, Bool, false, not, List, [], ◌∷◌, ◌++◌, eqb, length, get_or, take, drop, Ok, Err}
use Rattle.words.specs.Choice.{when}
use Rattle.words.specs.Grounds.{◌if◌, first}
use Rattle.am9517.specs.Fields.{channel}
use Rattle.am9517.specs.Refusals.{refusal}
use Rattle.am9517.specs.declared.Controller.{Controller}
use Rattle.am9517_service.specs.declared.Counts.{Counts}
use Rattle.am9517_service.specs.declared.Reason.TheVariants.{Ended, Dropped, Limit}
use Rattle.am9517_service.specs.Answers.{RunAnswer}
use Rattle.am9517_service.specs.Round.{RoundAnswer}
use Rattle.am9517_service.specs.Counts.{none, plus}
use Rattle.am9517_service.specs.Answers.{Given, ran_of}
use Rattle.am9517_service.specs.Round.{nobody, is_ended}
use Rattle.am9517_service.specs.RoundAnswers.{round_grounds, rounded_of}
use Rattle.demands.specs.Lists.{count}
use Rattle.demands.specs.Operations.{Op, Write, Read, Pins, Reset, Waits, Grant, Run, Round, SheetWriting, SheetReading, Converting, next, after_all, said}
use Rattle.demands.specs.Grants.{grants, channels}
use Rattle.am9517_service.specs.declared.RoundEnd.TheVariants.{Done, Quiet, Stopped}

-- the run stopped, and its service ended
abbrev pub has_ended : RunAnswer → Bool
has_ended (Ok e) = is_ended e
has_ended (Err r) = false

-- "up to k services .., grant then run, limit 65,536, no EOP. The device bytes not yet used are handed on to the next run, and so is
-- the room behind the last byte written." The calls of a round that may begin so many more services.
unfoldable pub calls_from : ℕ → Controller → List ℕ → List ℕ → List ℕ → List Op
calls_from zero s m d r = []
calls_from (suc left) s m d r =
    let g = ran_of (next s Grant) m d r 65536 0 in
    first ([] if nobody s ∷ [])
    (Grant
    ∷ Run m d r 65536 0
    ∷ first ([] if not (has_ended g.ran.answer) ∷ [])
    (calls_from left g.ran.controller g.memory (drop g.ran.counts.used d) (drop g.ran.counts.written g.room)))

-- the calls of a round; a refused one makes none
abbrev pub calls : Controller → List ℕ → List ℕ → List ℕ → ℕ → List Op
calls s m d r k = when (eqb (refusal (round_grounds s m k)) 0) (calls_from k s m d r) []

-- what a call of run gives; other calls give none
abbrev pub gave : Controller → Op → List Given
gave s (Write r b) = []
gave s (Read r) = []
gave s (Pins p) = []
gave s Reset = []
gave s (Waits n) = []
gave s Grant = []
gave s (Run m d r limit eop) = ran_of s m d r limit eop ∷ []
gave s (Round m d r k) = []
gave s (SheetWriting form out) = []
gave s (SheetReading form bytes) = []
gave s (Converting to source out) = []

-- what the runs among these calls give, in their order
abbrev pub runs : Controller → List Op → List Given
runs s [] = []
runs s (op ∷ ops) = gave s op ++ runs (next s op) ops

-- the memory that the last of them leaves; with none, m
abbrev pub memory_behind : List ℕ → List Given → List ℕ
memory_behind m [] = m
memory_behind m (g ∷ gs) = memory_behind g.memory gs

-- the room: the bytes that each wrote, one run's behind the other's, and behind them what the last leaves; with none, r
abbrev pub room_behind : List ℕ → List Given → List ℕ
room_behind r [] = r
room_behind r (g ∷ gs) = take g.ran.counts.written g.room ++ room_behind (drop g.ran.counts.written g.room) gs

-- the sums of their four counts
abbrev pub sums : List Given → Counts
sums [] = none
sums (g ∷ gs) = plus g.ran.counts (sums gs)

-- what the last of them answers; with none, a
abbrev pub last_answer : RunAnswer → List Given → RunAnswer
last_answer a [] = a
last_answer a (g ∷ gs) = last_answer g.ran.answer gs

-- "It stops, in this order after each run: not "ended" (its reason); k begun ("done"); nobody entitled ("quiet")."
abbrev pub closing : RunAnswer → Bool → RoundAnswer
closing (Ok e) done = when (is_ended e) (when done (Ok Done) (Ok Quiet)) (Ok (Stopped e))
closing (Err r) done = Err r

-- none of these calls is refused
abbrev pub Accepted : Controller → List Op → Type 0
Accepted s [] = Unit
Accepted s (op ∷ ops) = (said s op ≡ 0) × Accepted (next s op) ops

-- the services that a round reports for channel n
abbrev pub reported : Controller → List ℕ → List ℕ → List ℕ → ℕ → ℕ → ℕ
reported s m d r k n = get_or (rounded_of s m d r k).rounded.services n 0

-- The round is these calls:
pub record IsCalls (s : Controller) (m d r : List ℕ) (k : ℕ) (ops : List Op) : Type 0 where
  -- none of them is refused;
  pub accepted : Accepted s ops
  -- it leaves the controller, the memory and the room that they leave;
  pub leaves : next s (Round m d r k) ≡ after_all s ops
  pub memory : (rounded_of s m d r k).memory ≡ memory_behind m (runs s ops)
  pub room : (rounded_of s m d r k).room ≡ room_behind r (runs s ops)
  -- it reports the grants that they make, and the sums of what their runs count;
  pub reports : (n : ℕ) → reported s m d r k n ≡ count n (channels (grants s ops))
  pub totals : (rounded_of s m d r k).rounded.totals ≡ sums (runs s ops)
  -- and, unless refused, it answers by their last run, or by whether k services were begun.
  pub answers : said s (Round m d r k) ≡ 0
      → (rounded_of s m d r k).rounded.answer ≡ closing (last_answer (Ok Ended) (runs s ops)) (eqb (length (grants s ops)) k)

-- A round is its calls.
abbrev pub RoundIsCalls : Type 0
RoundIsCalls = (s : Controller) (m d r : List ℕ) (k : ℕ) → IsCalls s m d r k (calls s m d r k)

-- Counts fit 16 bits: the type of the fields, which every controller has.
abbrev pub Words : Controller → Type 0
Words s = (n : ℕ) → ((channel s n).count < 65536) × ((channel s n).base_count < 65536)

-- These three reasons never come out of a round: a service that is granted has its line or its software request, its count meets TC
-- within 65,536 transfers, and behind one that "ended" it goes on, or says "done" or "quiet".
pub record RoundNeverStops (s : Controller) (m d r : List ℕ) (k : ℕ) : Type 0 where
  pub dropped : ¬ ((rounded_of s m d r k).rounded.answer ≡ Ok (Stopped Dropped))
  pub limit : Words s → ¬ ((rounded_of s m d r k).rounded.answer ≡ Ok (Stopped Limit))
  pub ended : ¬ ((rounded_of s m d r k).rounded.answer ≡ Ok (Stopped Ended))

abbrev pub RoundStops : Type 0
RoundStops = (s : Controller) (m d r : List ℕ) (k : ℕ) → RoundNeverStops s m d r k

-- Rounds among other operations: each stands for its calls.
abbrev pub calls_of : Controller → Op → List Op
calls_of s (Write r b) = Write r b ∷ []
calls_of s (Read r) = Read r ∷ []
calls_of s (Pins p) = Pins p ∷ []
calls_of s Reset = Reset ∷ []
calls_of s (Waits n) = Waits n ∷ []
calls_of s Grant = Grant ∷ []
calls_of s (Run m d r limit eop) = Run m d r limit eop ∷ []
calls_of s (Round m d r k) = calls s m d r k
calls_of s (SheetWriting form out) = SheetWriting form out ∷ []
calls_of s (SheetReading form bytes) = SheetReading form bytes ∷ []
calls_of s (Converting to source out) = Converting to source out ∷ []

abbrev pub spelled : Controller → List Op → List Op
spelled s [] = []
spelled s (op ∷ ops) = calls_of s op ++ spelled (next s op) ops

-- They lead where the calls lead.
abbrev pub SpelledLeads : Type 0
SpelledLeads = (s : Controller) (ops : List Op) → after_all s ops ≡ after_all s (spelled s ops)

-- Document 02, A3, "Slow memory cards": what wait states change, and that nothing else is changed by them.
use Rattle.std.specs.Prelude.{ℕ, ◌+◌, ◌*◌, ◌≡◌, true, List, None, Ok}
use Rattle.words.specs.Choice.{when}
use Rattle.am9517.specs.Fields as fields
use Rattle.am9517.specs.Fields.{put}
use Rattle.am9517.specs.State.{fresh}
use Rattle.am9517.specs.Ranges.{valid}
use Rattle.am9517.specs.Answers.{waits_of}
use Rattle.am9517.specs.declared.Controller.{Controller}
use Rattle.am9517_service.specs.declared.Counts.{Counts}
use Rattle.am9517_service.specs.Counts.{counts}
use Rattle.am9517_service.specs.World.{memory_to_memory}
use Rattle.am9517_service.specs.Answers.{Given, given, ran_of}
use Rattle.am9517_service.specs.RoundAnswers.{RoundGiven, round_given, rounded_of}
use Rattle.am9517_sheet.specs.declared.forms.Form.{Form}
use Rattle.demands.specs.Operations.{Op, Waits, SheetReading, next}

-- the state with so many wait states
abbrev pub waiting : ℕ → Controller → Controller
waiting n s = put s fields.Waits n

-- "Each transfer costs that many states more, memory-to-memory twice that."
abbrev pub more : Controller → ℕ
more s = when (memory_to_memory s) (2 * s.waits) s.waits

-- these counts, where each transfer cost so many states more
abbrev pub slower : ℕ → Counts → Counts
slower each n = counts n.transfers n.used n.written (n.states + n.transfers * each)

-- what a run gives, where it began with so many wait states and each transfer cost so many states more
abbrev pub ran_slower : ℕ → ℕ → Given → Given
ran_slower n each g =
    given (record { controller = waiting n g.ran.controller; answer = g.ran.answer; counts = slower each g.ran.counts }) g.memory g.room

-- what a round gives, but for the wait states of the state and the states counted
abbrev pub unhurried : RoundGiven → RoundGiven
unhurried g =
    let x = g.rounded in
    let n = x.totals in
    round_given
    (record { controller = waiting 0 x.controller; answer = x.answer; services = x.services; totals = counts n.transfers n.used n.written 0 })
    g.memory g.room

pub record SlowCards : Type 0 where
  -- A fresh state has none.
  pub fresh : (edition : ℕ) → (fresh edition).waits ≡ 0
  -- "set by its own call when idle": an idle state in its ranges has them from then on, and nothing else of it changes,
  pub taken : (s : Controller) (n : ℕ) → valid s ≡ true → s.in_service ≡ 0 → waits_of s n ≡ record { controller = waiting n s; answer = Ok None }
  -- "and unchanged by reset", and by all else but the reading of a sheet, which gives the sheet's own, 0 in form 1 (Sheets `read_waits`).
  pub kept : (s : Controller) (op : Op) → ((n : ℕ) → ¬ (op ≡ Waits n)) → ((form : Form) (bytes : List ℕ) → ¬ (op ≡ SheetReading form bytes))
      → (next s op).waits ≡ s.waits
  -- "The counts of a run and a round change with it": of a run the states, by so many for each transfer, and nothing else of what it says and leaves;
  pub run : (s : Controller) (m d r : List ℕ) (limit eop : ℕ) → ran_of s m d r limit eop ≡ ran_slower s.waits (more s) (ran_of (waiting 0 s) m d r limit eop)
  -- of a round the states alone, too: by how much, its runs say (Rounds `IsCalls`, totals).
  pub round : (s : Controller) (m d r : List ℕ) (k : ℕ) → unhurried (rounded_of s m d r k) ≡ unhurried (rounded_of (waiting 0 s) m d r k)

-- Demand 1: a refusal says its number, exactly when its ground is the first that holds, and changes nothing.
use Rattle.std.specs.Prelude.{ℕ, ◌≡◌, true, false, List, ◌∷◌, ◌↔◌, length}
use Rattle.words.specs.Grounds.{Ground}
use Rattle.am9517.specs.Refusals.{write_grounds, read_grounds, pins_grounds, reset_grounds, waits_grounds, grant_grounds}
use Rattle.am9517.specs.declared.Controller.{Controller}
use Rattle.am9517_service.specs.Answers.{run_grounds}
use Rattle.am9517_service.specs.RoundAnswers.{round_grounds}
use Rattle.am9517_sheet.specs.Sheet.{sheet_write_grounds, sheet_read_grounds}
use Rattle.am9517_sheet.specs.Form.{other}
use Rattle.am9517_sheet.specs.Convert.{convert_grounds}
use Rattle.demands.specs.Lists.{All}
use Rattle.demands.specs.Operations.{Op, Write, Read, Pins, Reset, Waits, Grant, Run, Round, SheetWriting, SheetReading, Converting, before, after, said, counts}

-- document 01's table of numbers, each "given exactly when" its ground is the first that holds; in its order for each operation: the very
-- lists of the crates
abbrev pub grounds : Controller → Op → List (Ground ℕ)
grounds s (Write r b) = write_grounds s r b
grounds s (Read r) = read_grounds s r
grounds s (Pins p) = pins_grounds s p
grounds s Reset = reset_grounds s
grounds s (Waits n) = waits_grounds s
grounds s Grant = grant_grounds s
grounds s (Run m d r limit eop) = run_grounds s m
grounds s (Round m d r k) = round_grounds s m k
grounds s (SheetWriting form out) = sheet_write_grounds form s (length out)
grounds s (SheetReading form bytes) = sheet_read_grounds form bytes
grounds s (Converting to source out) = convert_grounds (other to) to source (length out)

-- n is the number of a ground that holds, and none before it does
pub data First (n : ℕ) : List (Ground ℕ) → Type 0 where
  here : {g : Ground ℕ} {gs : List (Ground ℕ)} → g.holds ≡ true → g.gives ≡ n → First n (g ∷ gs)
  later : {g : Ground ℕ} {gs : List (Ground ℕ)} → g.holds ≡ false → First n gs → First n (g ∷ gs)

pub record Refuses (s : Controller) (op : Op) : Type 0 where
  -- The answer says a number exactly when its ground is the first that holds;
  pub exactly : (n : ℕ) → ¬ (n ≡ 0) → (said s op ≡ n) ↔ First n (grounds s op)
  -- a refusal leaves controller, memory, room and target slice as they were;
  pub stays : ¬ (said s op ≡ 0) → after s op ≡ before s op
  -- and returns its number only: all counts are 0.
  pub only : ¬ (said s op ≡ 0) → All (λ (n : ℕ). n ≡ 0) (counts s op)

abbrev pub Demand1 : Type 0
Demand1 = (s : Controller) (op : Op) → Refuses s op

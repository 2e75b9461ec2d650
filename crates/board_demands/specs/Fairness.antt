-- Demand 3 on the board. "A channel entitled at every board grant, its own controller rotating at each, with no reset, master clear or sheet
-- reading between, sees at most seven other services first."
use Rattle.std.specs.Prelude.{ℕ, ◌+◌, ◌/◌, ◌≤◌, ◌<◌, ◌≡◌, true, List, [], ◌∷◌, ◌++◌, length, get_or, Some, Ok}
use Rattle.am9517.specs.Modes.{rotating}
use Rattle.am9517.specs.Serving.{entitled}
use Rattle.board.specs.declared.Board.{Board}
use Rattle.board.specs.declared.Chip.{Chip}
use Rattle.board.specs.Chips.{chip, own, channel_of}
use Rattle.board.specs.Answers.{board_grant_of}
use Rattle.board.specs.RoundAnswers.{board_rounded_of}
use Rattle.demands.specs.Lists.{All, count}
use Rattle.board_demands.specs.Operations.{BoardOp, Write, Read, Pins, Reset, Waits, Grant, Run, Round, SheetWriting, SheetReading, next, said}
use Rattle.board_demands.specs.Grants.{BoardGranted, grants, made, channels}

-- reset, master clear (a write of register 13 of either chip) and sheet reading
abbrev pub Restarts : BoardOp → Type 0
Restarts (Write r x) = own r ≡ 13
Restarts (Read r) = ⊥
Restarts (Pins p) = ⊥
Restarts Reset = Unit
Restarts (Waits which n) = ⊥
Restarts Grant = ⊥
Restarts (Run m d r limit eop) = ⊥
Restarts (Round m d r k) = ⊥
Restarts (SheetWriting form which out) = ⊥
Restarts (SheetReading form which bytes) = Unit

-- An operation of a trace, called on board b: none of these three, or refused.
abbrev pub Traced : Board → BoardOp → Type 0
Traced b op = Restarts op → ¬ (said b op ≡ 0)

-- operations of a trace, called one after the other from board b on
abbrev pub Trace : Board → List BoardOp → Type 0
Trace b [] = Unit
Trace b (op ∷ ops) = Traced b op × Trace (next b op) ops

-- channel n of this chip is entitled, and the chip rotates; of the other nothing is asked
pub record Contends (which : Chip) (n : ℕ) (g : BoardGranted) : Type 0 where
  pub rotation : rotating (chip g.before which).command ≡ true
  pub entitled : entitled (chip g.before which) n ≡ true

-- Channel n of this chip is served fairly in these grants:
pub record BoardFair (which : Chip) (n : ℕ) (served : List ℕ) : Type 0 where
  -- of so many grants it gets at least an eighth, rounded down;
  pub share : length served / 8 ≤ count (channel_of which n) served
  -- in every stretch of successive grants in which it is not served there are at most seven;
  pub turn : (past others rest : List ℕ) → served ≡ past ++ (others ++ rest) → count (channel_of which n) others ≡ 0 → length others ≤ 7
  -- and no other channel of its chip gets more than one above its number. (Of the other chip's channels this isn't so.)
  pub lead : (d : ℕ) → d < 4 → ¬ (d ≡ n) → count (channel_of which d) served ≤ count (channel_of which n) served + 1

-- Whatever is called on whatever board, accepted or refused, in whatever order, rounds among it, but for an accepted reset, master clear or
-- sheet reading: in any stretch of successive grants, cut where you like, inside a round too, a channel that contends at each is served fairly.
abbrev pub BoardDemand3 : Type 0
BoardDemand3 =
    (b : Board) (ops : List BoardOp) (which : Chip) (n : ℕ) (past window rest : List BoardGranted)
    → n < 4
    → Trace b ops
    → grants b ops ≡ past ++ (window ++ rest)
    → All (Contends which n) window
    → BoardFair which n (channels window)

-- The grants of a round are grants as `grant` itself makes them: on the board before each service it would be answered so.
abbrev pub RoundGrantsAreGrants : Type 0
RoundGrantsAreGrants =
    (b : Board) (m d r : List ℕ) (k : ℕ) → All (λ (g : BoardGranted). (board_grant_of g.before).answer ≡ Ok (Some g.channel)) (made b (Round m d r k))

-- The services that a round reports are its grants.
abbrev pub BoardReports : Type 0
BoardReports =
    (b : Board) (m d r : List ℕ) (k n : ℕ) → get_or (board_rounded_of b m d r k).rounded.services n 0 ≡ count n (channels (made b (Round m d r k)))

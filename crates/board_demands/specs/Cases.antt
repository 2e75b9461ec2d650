-- Demand 3's numbers on the board can't be better: eight lines high, both chips rotating, every channel single.
use Rattle.std.specs.Prelude.{ℕ, ◌≡◌, List, [], ◌∷◌, length}
use Rattle.am9517.specs.State.{fresh}
use Rattle.am9517.specs.Fields.{make, but, field, Command, Mask, Pins}
use Rattle.am9517.specs.declared.Channel.{Channel}
use Rattle.am9517.specs.declared.Controller.{Controller}
use Rattle.board.specs.declared.Board.{Board}
use Rattle.board.specs.declared.Chip.TheVariants.{Second}
use Rattle.demands.specs.Lists.{All}
use Rattle.board_demands.specs.Operations.{Round}
use Rattle.board_demands.specs.Grants.{made, channels}
use Rattle.board_demands.specs.Fairness.{Contends}

-- a channel of verify, single mode, with more to do than a round of eight gives it
abbrev pub single : Channel
single = record { base_address = 0; address = 0; base_count = 99; count = 99; mode = 0x40 }

-- rotating, no mask bit set, all four lines high
abbrev pub crowded : Controller
crowded = make (single ∷ single ∷ single ∷ single ∷ []) (but (but (but (field (fresh 0)) Command 0x10) Mask 0) Pins 15)

-- after reset: the first controller is first
abbrev pub crowded_board : Board
crowded_board = record { first = crowded; second = crowded; granted_last = 1 }

-- the grants of a round of eight: channel 7, entitled at each, sees seven others first
abbrev pub BoardTight : Type 0
BoardTight =
    (m d r : List ℕ) → length m ≡ 65536
    → All (Contends Second 3) (made crowded_board (Round m d r 8)) × (channels (made crowded_board (Round m d r 8)) ≡ 0 ∷ 4 ∷ 1 ∷ 5 ∷ 2 ∷ 6 ∷ 3 ∷ 7 ∷ [])

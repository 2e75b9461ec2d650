-- The grounds of each operation on the board, in document 01's order.
use Rattle.std.specs.Prelude.{ℕ, not, List, [], ◌∷◌, ltb}
use Rattle.words.specs.Grounds.{Ground, ◌if◌}
use Rattle.am9517.specs.Refusals.{write_grounds, read_grounds, waits_grounds}
use Rattle.am9517_service.specs.Answers.{wrong_size}
use Rattle.board.specs.declared.Board.{Board}
use Rattle.board.specs.declared.Chip.{Chip}
use Rattle.board.specs.Chips.{chip, addressed, own}
use Rattle.board.specs.Bus.{quiet}
use Rattle.board.specs.Ranges.{pair_valid, serves}

-- "a register number over 31 or pins over 255 is refusal 2"; "one service at a time, and a register access, grant or round during it is
-- refusal 3 for either chip". What is asked of the board comes first; behind it stands what the controller that is picked refuses by itself, of
-- which 4 and 5 are left
abbrev pub access_grounds : Board → ℕ → List (Ground ℕ) → List (Ground ℕ)
access_grounds b r further = 1 if not (pair_valid b) ∷ 2 if ltb 31 r ∷ 3 if serves b ∷ further

abbrev pub board_write_grounds : Board → ℕ → ℕ → List (Ground ℕ)
board_write_grounds b r x = access_grounds b r (write_grounds (chip b (addressed r)) (own r) x)

abbrev pub board_read_grounds : Board → ℕ → List (Ground ℕ)
board_read_grounds b r = access_grounds b r (read_grounds (chip b (addressed r)) (own r))

-- "Pins may change during a service": no ground 3
abbrev pub board_pins_grounds : Board → ℕ → List (Ground ℕ)
board_pins_grounds b p = 1 if not (pair_valid b) ∷ 2 if ltb 255 p ∷ []

abbrev pub board_reset_grounds : Board → List (Ground ℕ)
board_reset_grounds b = 1 if not (pair_valid b) ∷ []

-- what asks that neither serves, but no number: 1 and 3 of the board, and what stands behind them
abbrev pub idle_grounds : Board → List (Ground ℕ) → List (Ground ℕ)
idle_grounds b further = 1 if not (pair_valid b) ∷ 3 if serves b ∷ further

-- the call for a chip's wait states, "refusals 1, 3": behind the board's stand the chip's own, of which none is left
abbrev pub board_waits_grounds : Board → Chip → List (Ground ℕ)
board_waits_grounds b which = idle_grounds b (waits_grounds (chip b which))

-- 6: no channel of the eight is entitled
abbrev pub board_grant_grounds : Board → List (Ground ℕ)
board_grant_grounds b = idle_grounds b (6 if quiet b ∷ [])

abbrev pub board_run_grounds : Board → List ℕ → List (Ground ℕ)
board_run_grounds b m = 1 if not (pair_valid b) ∷ 7 if wrong_size m ∷ 8 if not (serves b) ∷ []

abbrev pub board_round_grounds : Board → List ℕ → ℕ → List (Ground ℕ)
board_round_grounds b m k = 1 if not (pair_valid b) ∷ 2 if ltb 4096 k ∷ 7 if wrong_size m ∷ 3 if serves b ∷ []

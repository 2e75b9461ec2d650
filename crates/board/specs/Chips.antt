-- "Our rack board (source 000) has two controllers and eight lines, built above the controller and seeing only what that promises."
use Rattle.std.specs.Prelude.{ℕ, ◌+◌, ◌*◌, ◌%◌, eqb}
use Rattle.words.specs.Choice.{when}
use Rattle.words.specs.Bits.{bit}
use Rattle.am9517.specs.State.{fresh}
use Rattle.am9517.specs.declared.Controller.{Controller}
use Rattle.board.specs.declared.Board.{Board}
use Rattle.board.specs.declared.Chip.{Chip}
use Rattle.board.specs.declared.Chip.TheVariants.{First, Second}

-- the number of a chip
abbrev pub number_of : Chip → ℕ
number_of First = 0
number_of Second = 1

abbrev pub other : Chip → Chip
other First = Second
other Second = First

-- the controller of this name
abbrev pub chip : Board → Chip → Controller
chip b First = b.first
chip b Second = b.second

-- the board with this one as c
abbrev pub with_chip : Board → Chip → Controller → Board
with_chip b First c = record { first = c; second = b.second; granted_last = b.granted_last }
with_chip b Second c = record { first = b.first; second = c; granted_last = b.granted_last }

-- "Five address bits: bit 4 picks the controller (0: first, lines 0 to 3)"
unfoldable pub addressed : ℕ → Chip
addressed r = when (eqb (bit r 4) 0) First Second

-- the four bits below it: the register of that controller
abbrev pub own : ℕ → ℕ
own r = r % 16

-- lines and channels 0 to 7: channel n of a chip
abbrev pub channel_of : Chip → ℕ → ℕ
channel_of which n = 4 * number_of which + n

-- a board of fresh controllers of these editions; "the first controller being first after reset": the second counts as granted last
abbrev pub fresh_board : ℕ → ℕ → Board
fresh_board first second = record { first = fresh first; second = fresh second; granted_last = number_of Second }

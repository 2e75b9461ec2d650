-- "When both want the bus, the one not granted last gets it, the first controller being first after reset."
use Rattle.std.specs.Prelude.{ℕ, Bool, not, eqb}
use Rattle.words.specs.Choice.{when, ◌and◌}
use Rattle.am9517.specs.Serving.{picked, granted}
use Rattle.am9517.specs.declared.Controller.{Controller}
use Rattle.am9517_service.specs.Round.{nobody}
use Rattle.board.specs.declared.Board.{Board}
use Rattle.board.specs.declared.Chip.{Chip}
use Rattle.board.specs.declared.Chip.TheVariants.{First, Second}
use Rattle.board.specs.Chips.{number_of, chip, with_chip, channel_of}

-- a controller wants the bus when one of its channels is entitled
abbrev pub wants : Controller → Bool
wants c = not (nobody c)

abbrev pub not_last : ℕ → Chip
not_last last = when (eqb last (number_of First)) Second First

-- who gets the bus: of both that want it the one not granted last, else the one that wants it; where neither does nobody asks
unfoldable pub winner_of : ℕ → Bool → Bool → Chip
winner_of last first second = when first (when second (not_last last) First) Second

abbrev pub winner : Board → Chip
winner b = winner_of b.granted_last (wants b.first) (wants b.second)

-- neither wants it
unfoldable pub quiet : Board → Bool
quiet b = nobody b.first and nobody b.second

-- the controller that gets the bus, and the channel that it picks, as one of eight
abbrev pub winning : Board → Controller
winning b = chip b (winner b)

abbrev pub winning_channel : Board → ℕ
winning_channel b = channel_of (winner b) (picked (winning b))

-- the board with this chip as c, and granted last
abbrev pub turned_to : Board → Chip → Controller → Board
turned_to b which c = with_chip (record { first = b.first; second = b.second; granted_last = number_of which }) which c

-- a grant is that chip's own, and it is granted last from now on, contested or not
unfoldable pub granted_to : Board → Board
granted_to b = turned_to b (winner b) (granted (winning b) (picked (winning b)))

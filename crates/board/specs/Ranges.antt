-- The ranges of a pair. One that breaks them is refused by 1.
use Rattle.std.specs.Prelude.{Bool, not, ◌&&◌, ◌||◌, leb}
use Rattle.words.specs.Choice.{◌and◌}
use Rattle.am9517.specs.Ranges.{valid}
use Rattle.am9517.specs.Refusals.{busy}
use Rattle.board.specs.declared.Board.{Board}

-- "A pair with both in service is refusal 1."
abbrev pub both_serve : Board → Bool
both_serve b = busy b.first && busy b.second

-- each controller in its own ranges, the byte of the arbiter 0 or 1, and not both in service
unfoldable pub pair_valid : Board → Bool
pair_valid b = valid b.first and valid b.second and leb b.granted_last 1 and not (both_serve b)

-- "during it": one of the two is in service
abbrev pub serves : Board → Bool
serves b = busy b.first || busy b.second

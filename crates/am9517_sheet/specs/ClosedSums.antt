-- The sum of bytes four and sixteen at a time: for private contracts (src/bytes.rt). No rule stands here.
use Rattle.std.specs.Prelude.{ℕ, ◌+◌, List, get_or}

-- of four bytes, and of sixteen, from place k on
abbrev pub four_of : List ℕ → ℕ → ℕ
four_of b k = get_or b k 0 + get_or b (k + 1) 0 + get_or b (k + 2) 0 + get_or b (k + 3) 0

abbrev pub sixteen_of : List ℕ → ℕ → ℕ
sixteen_of b k = four_of b k + four_of b (k + 4) + four_of b (k + 8) + four_of b (k + 12)

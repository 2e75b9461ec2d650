-- Memory as lines: the address in four hexadecimal digits, 16 bytes, and their letters.
use Rattle.std.specs.Prelude.{ℕ, zero, suc, ◌+◌, ◌-◌, ◌*◌, ◌/◌, ◌%◌, List, [], ◌∷◌, ◌++◌, eqb, ltb, leb, length, take, drop, replicate}
use Rattle.words.specs.Choice.{when, ◌and◌}
use Rattle.console_text.specs.Text.{codes}
use Rattle.console_text.specs.Numbers.{number_of}
use Rattle.console_text.specs.Hex.{hex_text}
use Rattle.console_chip.specs.Answers.{error_text, numbered, word_most}

-- a byte as a letter, where it is one of ASCII's or a blank, else a dot
unfoldable pub letter_of : ℕ → ℕ
letter_of b = when (leb 32 b and leb b 126) b 46

unfoldable pub letters : List ℕ → List ℕ
letters [] = []
letters (b ∷ bs) = letter_of b ∷ letters bs

-- bytes with a blank behind each
abbrev pub cell_text : ℕ → List ℕ
cell_text b = hex_text (b ∷ []) ++ codes " "

unfoldable pub cells : List ℕ → List ℕ
cells [] = []
cells (b ∷ bs) = cell_text b ++ cells bs

-- the array's last byte stands at 65,536: five digits
unfoldable pub address_text : ℕ → List ℕ
address_text a = when (ltb a 65536) [] (codes "1") ++ hex_text (a / 256 % 256 ∷ a % 256 ∷ [])

-- blanks stand in the place of bytes that are missing from the last row
unfoldable pub row_text : ℕ → List ℕ → List ℕ
row_text a bs = address_text a ++ codes "  " ++ cells bs ++ replicate (3 * (16 - length bs)) 32 ++ codes " " ++ letters bs

-- so many further rows
unfoldable pub more_rows : ℕ → ℕ → List ℕ → List ℕ
more_rows zero a bs = []
more_rows (suc n) a bs = codes "\n" ++ row_text a (take 16 bs) ++ more_rows n (a + 16) (drop 16 bs)

unfoldable pub dump_text : ℕ → List ℕ → List ℕ
dump_text a bs =
    when (eqb (length bs) 0) (codes "-") (row_text a (take 16 bs) ++ more_rows ((length bs - 1) / 16) (a + 16) (drop 16 bs))

-- n bytes of an array from place a on, 16,384 at most
unfoldable pub dump_at : List ℕ → ℕ → ℕ → List ℕ
dump_at array a n = when (leb (a + n) (length array)) (dump_text a (take n (drop a array))) error_text

abbrev pub dump_of : List ℕ → List ℕ → List ℕ → List ℕ
dump_of array place count =
    numbered (number_of word_most place) (λ (a : ℕ). numbered (number_of 16384 count) (λ (n : ℕ). dump_at array a n) error_text) error_text

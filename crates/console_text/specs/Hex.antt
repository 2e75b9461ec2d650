-- Byte strings: "HEX is an even number of hexadecimal digits with no blanks; - stands for no bytes, in answers too."
use Rattle.std.specs.Prelude.{ℕ, ◌+◌, ◌*◌, ◌/◌, ◌%◌, Bool, not, List, [], ◌∷◌, eqb, length, get_or}
use Rattle.words.specs.Choice.{when, ◌and◌}
use Rattle.console_text.specs.Text.{codes}
use Rattle.console_text.specs.Numbers.{digit_of, glyph, all_digits}

-- two digits a byte, the high one first
unfoldable pub hex_text : List ℕ → List ℕ
hex_text [] = []
hex_text (b ∷ bs) = glyph (b / 16) ∷ glyph (b % 16) ∷ hex_text bs

-- the bytes as a word
unfoldable pub bytes_text : List ℕ → List ℕ
bytes_text bs = when (eqb (length bs) 0) (codes "-") (hex_text bs)

-- the word is a byte string
unfoldable pub is_bytes : List ℕ → Bool
is_bytes text =
    when (eqb (length text) 1) (eqb (get_or text 0 0) 45)
    (not (eqb (length text) 0) and eqb (length text % 2) 0 and all_digits 16 text)

-- a digit as four bits
abbrev pub nibble : ℕ → ℕ
nibble x = digit_of x % 16

-- the bytes that its pairs of digits say
unfoldable pub bytes_in : List ℕ → List ℕ
bytes_in [] = []
bytes_in (x ∷ []) = []
bytes_in (x ∷ y ∷ rest) = (16 * nibble x + nibble y) ∷ bytes_in rest

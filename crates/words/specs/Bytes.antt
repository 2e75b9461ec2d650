-- The two bytes of a word. high tells which: false the low one, true the high one.
use Rattle.std.specs.Prelude.{ℕ, ◌+◌, ◌*◌, ◌/◌, ◌%◌, Bool}
use Rattle.words.specs.Choice.{when}

abbrev pub word_of : ℕ → ℕ → ℕ
word_of low high = low + 256 * high

abbrev pub low_byte : ℕ → ℕ
low_byte w = w % 256

abbrev pub high_byte : ℕ → ℕ
high_byte w = w / 256

unfoldable pub byte_of : ℕ → Bool → ℕ
byte_of w high = when high (high_byte w) (low_byte w)

-- the word w with one byte as b
unfoldable pub with_byte : ℕ → Bool → ℕ → ℕ
with_byte w high b = when high (word_of (low_byte w) b) (word_of b (high_byte w))

-- Bytes in a list: a word among them, their sum, and where a part of them lies.
use Rattle.std.specs.Prelude.{ℕ, ◌+◌, ◌-◌, ◌<◌, List, [], ◌∷◌, ◌++◌, length, get_or, take, drop}
use Rattle.words.specs.Bytes.{word_of, low_byte, high_byte}

-- "numbers low byte first": the two bytes of a word, and the word at place k
abbrev pub word_bytes : ℕ → List ℕ
word_bytes w = low_byte w ∷ high_byte w ∷ []

abbrev pub word : List ℕ → ℕ → ℕ
word b k = word_of (get_or b k 0) (get_or b (k + 1) 0)

-- "sum of the body bytes"
unfoldable pub total : List ℕ → ℕ
total [] = 0
total (b ∷ bs) = b + total bs

-- d with xs from place `at` on: "the rest isn't touched"
abbrev pub placed : List ℕ → ℕ → List ℕ → List ℕ
placed d at xs = take at d ++ xs ++ drop (at + length xs) d

-- "the last 56 bytes of a lent slice", for any number n of them
abbrev pub last : ℕ → List ℕ → List ℕ
last n xs = drop (length xs - n) xs

-- each element is a byte
abbrev pub OfBytes : List ℕ → Type 0
OfBytes xs = (i : ℕ) → get_or xs i 0 < 256

-- Numbers as text: "Numbers are decimal or 0x hexadecimal."
use Rattle.std.specs.Prelude.{ℕ, zero, suc, ◌+◌, ◌-◌, ◌*◌, ◌/◌, ◌%◌, Bool, true, List, [], ◌∷◌, ◌++◌, ltb, leb, eqb, ℤ, pos, negsuc, length, get_or, drop, Option, Some, None}
use Rattle.words.specs.Choice.{when, ◌and◌}
use Rattle.console_text.specs.Text.{codes}

-- the value of a digit, 0 to 9, A to F, a to f; 16 for any other character
unfoldable pub digit_of : ℕ → ℕ
digit_of b =
    when (ltb b 48) 16
    (when (leb b 57) (b - 48)
    (when (ltb b 65) 16
    (when (leb b 70) (b - 55)
    (when (ltb b 97) 16
    (when (leb b 102) (b - 87) 16)))))

-- the value of a digit of a base
unfoldable pub digit_in : ℕ → ℕ → Option ℕ
digit_in base b = when (ltb (digit_of b) base) (Some (digit_of b)) None

-- the character of a digit below 16, in lower case
unfoldable pub glyph : ℕ → ℕ
glyph d = when (ltb d 10) (48 + d) (87 + d)

-- every character is a digit of the base
unfoldable pub all_digits : ℕ → List ℕ → Bool
all_digits base [] = true
all_digits base (x ∷ xs) = ltb (digit_of x) base and all_digits base xs

-- the value of digits behind a number v
unfoldable pub value_from : ℕ → ℕ → List ℕ → ℕ
value_from base v [] = v
value_from base v (x ∷ xs) = value_from base (v * base + digit_of x) xs

-- the number that v and the digits behind it say; one over `most` does not fit its place
unfoldable pub number_from : ℕ → ℕ → ℕ → List ℕ → Option ℕ
number_from base most v ds =
    when (all_digits base ds and leb (value_from base v ds) most) (Some (value_from base v ds)) None

-- a number has a digit
unfoldable pub number_in : ℕ → ℕ → List ℕ → Option ℕ
number_in base most ds = when (eqb (length ds) 0) None (number_from base most 0 ds)

-- "0x"
unfoldable pub prefixed : List ℕ → Bool
prefixed text = leb 2 (length text) and eqb (get_or text 0 0) 48 and eqb (get_or text 1 0) 120

-- the number that a word says, at most `most`
unfoldable pub number_of : ℕ → List ℕ → Option ℕ
number_of most text = when (prefixed text) (number_in 16 most (drop 2 text)) (number_in 10 most text)

-- the digits of n in a base; there are fewer of them than the first number
unfoldable pub digits_in : ℕ → ℕ → ℕ → List ℕ
digits_in base zero n = []
digits_in base (suc f) n = when (ltb n base) (glyph n ∷ []) (digits_in base f (n / base) ++ (glyph (n % base) ∷ []))

-- n in decimal
unfoldable pub decimal_text : ℕ → List ℕ
decimal_text n = digits_in 10 (suc n) n

-- "E in decimal, - before a negative one": negsuc n is -(n + 1)
unfoldable pub signed_text : ℤ → List ℕ
signed_text (pos n) = decimal_text n
signed_text (negsuc n) = codes "-" ++ decimal_text (suc n)

-- The words of a line: "Words are separated by blanks or tabs", "# starts a comment that runs to the end of the line",
-- "a carriage return at the end of a line is ignored".
use Rattle.std.specs.Prelude.{ℕ, ◌+◌, ◌-◌, Bool, not, ◌||◌, List, eqb, ltb, length, get_or, take, drop}
use Rattle.std.specs.List.{prefix_len}
use Rattle.words.specs.Choice.{when}
use native.Mathlib.Omega.{arith}
use Rattle.console_text.specs.declared.span.Span.{Span}
use Rattle.console_text.specs.declared.line.Words.{Words}

-- a blank or a tab
unfoldable pub is_blank : ℕ → Bool
is_blank b = eqb b 32 || eqb b 9

abbrev pub is_letter : ℕ → Bool
is_letter b = not (is_blank b)

-- not the sign of a comment
abbrev pub is_said : ℕ → Bool
is_said b = not (eqb b 35)

-- the word behind place `at`; it is empty where there is none
abbrev pub word_from : List ℕ → ℕ → Span
word_from s from = record { from = from; to = from + prefix_len is_letter (drop from s); ordered = omega arith }

abbrev pub word_at : List ℕ → ℕ → Span
word_at s at = word_from s (at + prefix_len is_blank (drop at s))

-- what stands there
abbrev pub cut : List ℕ → Span → List ℕ
cut s w = take (w.to - w.from) (drop w.from s)

-- 1 where there is a word
unfoldable pub one_if : Span → ℕ
one_if w = when (ltb w.from w.to) 1 0

-- a line's first word, the three behind it, and how many there are behind the first, 4 standing for more than three
abbrev pub words_from : List ℕ → Span → Span → Span → Span → Words
words_from s name one two three =
    record { name = name; one = one; two = two; three = three; count = one_if one + one_if two + one_if three + one_if (word_at s three.to) }

abbrev pub words_in : List ℕ → Words
words_in s =
    let name = word_at s 0 in
    let one = word_at s name.to in
    let two = word_at s one.to in
    words_from s name one two (word_at s two.to)

-- the length of a line without a carriage return at its end
unfoldable pub end_of : List ℕ → ℕ
end_of s = when (eqb (get_or s (length s - 1) 0) 13) (length s - 1) (length s)

-- and of what it says before a comment
abbrev pub said_in : List ℕ → ℕ
said_in s = prefix_len is_said (take (end_of s) s)

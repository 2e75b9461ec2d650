-- Laws of byte strings.
use Prim.Native.Nat.{ℕ, ◌+◌, ◌*◌, ◌/◌, ◌%◌, ◌<◌}
use mathlib.Core.Path.{◌≡◌, refl, ap}
use mathlib.Core.Bool.{not, ◌&&◌}
use mathlib.Core.List.{List, [], ◌∷◌, ◌++◌}
use native.Mathlib.Omega.{arith}
use native.Mathlib.Numerals.{add-one}
use lib.ListN.{length, get_or, take}
use lib.Seq.{take-suc}
use Rattle.console_text.specs.Text.{Page, put_byte, put}
use Rattle.words.specs.Choice.{when, ◌and◌}
use Rattle.words.proofs.ChoiceLaws.{when_each}
use borrow.Author.Tests.{ltb-true, ltb-false, eq-eqb, ne_eqb}
use lib.Dec.{ltb, eqb}
use Rattle.std.specs.Option.{unwrap_or}
use Rattle.console_text.specs.Numbers.{digit_of, digit_in, glyph, all_digits}
use Rattle.console_text.specs.Hex.{hex_text, bytes_in, nibble, is_bytes}
use Rattle.console_text.proofs.TextLaws.{put_append}
use Rattle.console_text.proofs.NumberLaws.{digit_most}

pub hex_none : (p : Page) → put p (hex_text []) ≡ p
unfolding hex_text put
hex_none p = refl

hex_append : (xs : List ℕ) (b : ℕ) → hex_text (xs ++ (b ∷ [])) ≡ hex_text xs ++ (glyph (b / 16) ∷ glyph (b % 16) ∷ [])
unfolding hex_text
hex_append [] b = refl
hex_append (x ∷ xs) b = ap (λ (l : List ℕ). glyph (x / 16) ∷ glyph (x % 16) ∷ l) (hex_append xs b)

put_two : (p : Page) (x y : ℕ) → put p (x ∷ y ∷ []) ≡ put_byte (put_byte p x) y
unfolding put
put_two p x y = refl

-- One byte more of a string is two digits more on the page.
pub hex_more : (p : Page) (s : List ℕ) (i : ℕ) → i < length s
    → put p (hex_text (take (i + 1) s)) ≡ put_byte (put_byte (put p (hex_text (take i s))) (glyph (get_or s i 0 / 16))) (glyph (get_or s i 0 % 16))
hex_more p s i h = rw (add-one i, take-suc s i 0 h, hex_append (take i s) (get_or s i 0), put_append p (hex_text (take i s)) (glyph (get_or s i 0 / 16) ∷ glyph (get_or s i 0 % 16) ∷ []), put_two) refl

-- A digit's four bits are its value, or 0 where it is none.
pub nibble_said : (b : ℕ) → unwrap_or (digit_in 16 b) 0 ≡ nibble b
unfolding digit_in
nibble_said b = when_each (λ d. unwrap_or d 0 ≡ nibble b) (ltb (digit_of b) 16) (λ e. let l : digit_of b < 16 = ltb-true _ _ e in omega arith) (λ e. let l : digit_of b ≡ 16 = omega (arith, ltb-false _ _ e, digit_most b) in rw l refl)

-- The byte of a pair of digits, and none of fewer.
pub bytes_next : (p : Page) (two rest : List ℕ) → length two ≡ 2
    → put p (bytes_in (two ++ rest)) ≡ put (put_byte p (16 * nibble (get_or two 0 0) + nibble (get_or two 1 0))) (bytes_in rest)
unfolding bytes_in put
bytes_next p [] rest h = absurd (omega arith)
bytes_next p (x ∷ []) rest h = absurd (omega arith)
bytes_next p (x ∷ y ∷ []) rest h = refl
bytes_next p (x ∷ y ∷ z ∷ more) rest h = absurd (omega arith)

pub bytes_end : (p : Page) (rest : List ℕ) → length rest < 2 → put p (bytes_in rest) ≡ p
unfolding bytes_in put
bytes_end p [] h = refl
bytes_end p (x ∷ []) h = refl
bytes_end p (x ∷ y ∷ ys) h = absurd (omega arith)

-- A word of one character, and any other.
pub is_dash : (s : List ℕ) → length s ≡ 1 → is_bytes s ≡ eqb (get_or s 0 0) 45
unfolding is_bytes when
is_dash s e = rw (eq-eqb _ _ e) refl

pub is_pairs : (s : List ℕ) → (length s ≡ 1 → ⊥) → is_bytes s ≡ (not (eqb (length s) 0) && (eqb (length s % 2) 0 && all_digits 16 s))
unfolding is_bytes when ◌and◌
is_pairs s e = rw (ne_eqb _ _ e) refl

-- two digits a byte
pub bytes_length : (xs : List ℕ) → length (bytes_in xs) ≡ length xs / 2
unfolding bytes_in
bytes_length [] = refl
bytes_length (x ∷ []) = refl
bytes_length (x ∷ y ∷ rest) = omega (arith, bytes_length rest)

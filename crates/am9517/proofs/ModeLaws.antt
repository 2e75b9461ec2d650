-- The tests that the code makes in another form than the definitions: the refused modes as the bits of one number, the single ones as a range.
use Prim.Native.Nat.{ℕ, zero, suc, ◌/◌, ◌%◌, ◌^◌, ◌<◌}
use mathlib.Core.Path.{◌≡◌, refl, sym, ◌∙◌, ap}
use mathlib.Core.Bool.{Bool, true, false, not, ◌&&◌, ◌||◌}
use native.Mathlib.Omega.{arith}
use lib.Dec.{eqb, leb, ltb}
use borrow.Author.Tests.{eqb-true, eqb-false}
use Rattle.words.specs.Choice.{◌and◌}
use Rattle.am9517.specs.Fields.{channel}
use Rattle.am9517.specs.Modes.{transfer_bits, service_bits, is_single, mode_refused}
use Rattle.am9517.specs.Ranges.{mode_valid, modes_valid}
use Rattle.am9517.specs.declared.Controller.{Controller}
use Rattle.am9517.proofs.RangeLaws.{and_left, and_right}

-- two tests agree
unfoldable pub same : Bool → Bool → Bool
same true b = b
same false b = not b

pub same_told : (a b : Bool) → same a b ≡ true → a ≡ b
unfolding same
same_told true true e = refl
same_told true false e = sym e
same_told false true e = e
same_told false false e = refl

-- f holds of every number below n
unfoldable pub every : (ℕ → Bool) → ℕ → Bool
every f zero = true
every f (suc n) = f n && every f n

pub every_told : (f : ℕ → Bool) (n k : ℕ) → every f n ≡ true → k < n → f k ≡ true
unfolding every
every_told f zero k e h = absurd (omega arith)
every_told f (suc n) k e h = go (eqb k n) refl (λ l. every_told f n k (and_right (f n) (every f n) e) l)
  where
    go : (b : Bool) → eqb k n ≡ b → (k < n → f k ≡ true) → f k ≡ true
    go true g below = ap f (eqb-true _ _ g) ∙ and_left (f n) (every f n) e
    go false g below = below (omega (arith, eqb-false k n g))

-- bit k of the number is set where a mode 4 * k is refused
bit_right : ℕ → Bool
bit_right k = same (eqb (0x888888888888 / 2 ^ k % 2) 1) (eqb (k % 4) 3 && not (eqb (k / 16) 3))

bits_right : every bit_right 64 ≡ true
unfolding every bit_right same
bits_right = refl

pub mode_bit : (m : ℕ) → m < 256 → eqb (0x888888888888 / 2 ^ (m / 4) % 2) 1 ≡ mode_refused m
unfolding bit_right
mode_bit m h =
    let service : m / 4 / 16 ≡ service_bits m = omega arith in
    same_told _ _ (every_told bit_right 64 (m / 4) bits_right (omega arith)) ∙ ap (λ (k : ℕ). eqb (transfer_bits m) 3 && not (eqb k 3)) service

-- the single modes are the numbers from 64 to 127
single_right : ℕ → Bool
single_right m = same (leb 64 m && ltb m 128) (is_single m)

pub single_told : (m : ℕ) → m < 256 → leb 64 m && ltb m 128 ≡ is_single m
unfolding every single_right same
single_told m h = same_told _ _ (every_told single_right 256 m refl h)

-- tests of which each asks a thing and forbids another: all that is asked, then all that is forbidden
apart : (a x p y : Bool) → (a && x) && not (p || y) ≡ (a && not p) && (x && not y)
apart false x p y = refl
apart true x false y = refl
apart true true true y = refl
apart true false true y = refl

four_apart : (a b c d p q r s : Bool) → (a && (b && (c && d))) && not (p || (q || (r || s))) ≡ (a && not p) && ((b && not q) && ((c && not r) && (d && not s)))
four_apart a b c d p q r s =
    apart a (b && (c && d)) p (q || (r || s)) ∙ ap (λ (t : Bool). (a && not p) && t) (apart b (c && d) q (r || s) ∙ ap (λ (t : Bool). (b && not q) && t) (apart c d r s))

-- the mode of channel n has its low bits zero
abbrev low : Controller → ℕ → Bool
low s n = eqb ((channel s n).mode % 4) 0

-- it is refused by 5
abbrev bad : Controller → ℕ → Bool
bad s n = mode_refused (channel s n).mode

pub modes_apart : (s : Controller) → (low s 0 && (low s 1 && (low s 2 && low s 3))) && not (bad s 0 || (bad s 1 || (bad s 2 || bad s 3))) ≡ modes_valid s
unfolding modes_valid mode_valid ◌and◌
modes_apart s = four_apart (low s 0) (low s 1) (low s 2) (low s 3) (bad s 0) (bad s 1) (bad s 2) (bad s 3)

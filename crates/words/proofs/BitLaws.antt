-- Laws of the bits of a byte.
use Prim.Native.Nat.{ℕ, zero, suc, ◌+◌, ◌-◌, ◌*◌, ◌/◌, ◌%◌, ◌^◌, ◌≤◌, ◌<◌, min, max}
use mathlib.Core.Path.{◌≡◌, refl, sym, ap, ap₂, ◌∙◌}
use mathlib.Core.Bool.{Bool, true, false}
use native.Mathlib.Omega.{arith}
use native.Mathlib.Nat.{div-eq_of_lt, mod-eq_of_lt, mod-lt}
use lib.Dec.{ltb}
use lib.Pow.{pow_mono, pow_pos, split}
use lib.Bits.{bit_and, bit_or, and_step, or_step, and_shr, or_shr, and_block, and_mask, and_high, and_le_l, and_zero_r, or_add_and}
use borrow.Author.Tests.{ltb-true}
use Rattle.words.specs.Choice.{when}
use Rattle.words.specs.Bits.{bit, with_bit}

-- what holds of 0 to 7 holds below 8
pub below8 : (P : ℕ → Type 0) → P 0 → P 1 → P 2 → P 3 → P 4 → P 5 → P 6 → P 7 → (n : ℕ) → n < 8 → P n
below8 P a b c d e f g h zero l = a
below8 P a b c d e f g h (suc zero) l = b
below8 P a b c d e f g h (suc (suc zero)) l = c
below8 P a b c d e f g h (suc (suc (suc zero))) l = d
below8 P a b c d e f g h (suc (suc (suc (suc zero)))) l = e
below8 P a b c d e f g h (suc (suc (suc (suc (suc zero))))) l = f
below8 P a b c d e f g h (suc (suc (suc (suc (suc (suc zero)))))) l = g
below8 P a b c d e f g h (suc (suc (suc (suc (suc (suc (suc zero))))))) l = h
below8 P a b c d e f g h (suc (suc (suc (suc (suc (suc (suc (suc n)))))))) l = absurd (omega arith)

pub weight_fits : (n : ℕ) → n < 8 → 1 * 2 ^ n % 256 ≡ 2 ^ n
weight_fits = below8 (λ (n : ℕ). 1 * 2 ^ n % 256 ≡ 2 ^ n) refl refl refl refl refl refl refl refl

-- a byte has no bit above bit 7
pub bit_above : (b n : ℕ) → b < 256 → 8 ≤ n → bit b n ≡ 0
bit_above b n hb hn =
    let h : 2 ^ 8 ≤ 2 ^ n = pow_mono hn in
    let z : b / 2 ^ n ≡ 0 = div-eq_of_lt (omega arith) in
    ap (λ (x : ℕ). x % 2) z

-- a byte and the weight of a bit: that bit
one_bit : (b n : ℕ) → bit_and b (2 ^ n) ≡ bit b n * 2 ^ n
one_bit b n =
    let e : 2 ^ n ≡ 1 * 2 ^ n + 0 = omega arith in
    ap₂ bit_and (sym (split b n)) e ∙ and_block n (b / 2 ^ n) 1 (b % 2 ^ n) 0 (mod-lt b (pow_pos n)) (pow_pos n)
    ∙ rw (and_mask (b / 2 ^ n) 1, and_zero_r (b % 2 ^ n)) (omega arith)

pub bit_set : (b n : ℕ) → bit_or b (2 ^ n) ≡ b - bit b n * 2 ^ n + 2 ^ n
bit_set b n = omega (arith, or_add_and b (2 ^ n), and_le_l b (2 ^ n), one_bit b n)

-- a byte and all weights below 2 ^ (n + 1 + j) but that of bit n
but_bit : (j n b : ℕ) → bit_and b ((2 ^ (j + 1) - 2 ^ 1) * 2 ^ n + (2 ^ n - 1)) ≡ b / 2 ^ n / 2 % 2 ^ j * 2 * 2 ^ n + b % 2 ^ n
but_bit j n b =
    let ones : ℕ = 2 ^ (j + 1) - 2 ^ 1 in
    ap (λ (x : ℕ). bit_and x (ones * 2 ^ n + (2 ^ n - 1))) (sym (split b n)) ∙ and_block n (b / 2 ^ n) ones (b % 2 ^ n) (2 ^ n - 1) (mod-lt b (pow_pos n)) (omega (arith, pow_pos n))
    ∙ ap₂ (λ (x y : ℕ). x * 2 ^ n + y) (and_high (b / 2 ^ n) j 1) (and_mask (b % 2 ^ n) n ∙ mod-eq_of_lt (mod-lt b (pow_pos n)))

pub bit_cleared : (b n : ℕ) → b < 256 → n < 8 → bit_and b (255 - 2 ^ n) ≡ b - bit b n * 2 ^ n
bit_cleared b n hb =
    below8 (λ (k : ℕ). bit_and b (255 - 2 ^ k) ≡ b - bit b k * 2 ^ k)
    (but_bit 7 0 b ∙ omega arith) (but_bit 6 1 b ∙ omega arith) (but_bit 5 2 b ∙ omega arith) (but_bit 4 3 b ∙ omega arith)
    (but_bit 3 4 b ∙ omega arith) (but_bit 2 5 b ∙ omega arith) (but_bit 1 6 b ∙ omega arith) (but_bit 0 7 b ∙ omega arith) n

-- a bit of two numbers' and, and of their or
pub bit_and_lem : (a b n : ℕ) → bit (bit_and a b) n ≡ min (bit a n) (bit b n)
bit_and_lem a b n = rw (and_shr a b n) (omega (arith, and_step (a / 2 ^ n) (b / 2 ^ n)))

pub bit_or_lem : (a b n : ℕ) → bit (bit_or a b) n ≡ max (bit a n) (bit b n)
bit_or_lem a b n = rw (or_shr a b n) (omega (arith, or_step (a / 2 ^ n) (b / 2 ^ n)))

-- four bits with one changed are four bits
pub four_kept : (b n : ℕ) (set : Bool) → b ≤ 15 → n < 4 → with_bit b n set ≤ 15
unfolding with_bit when
four_kept b n true hb hn = below8 (λ (k : ℕ). k < 4 → with_bit b k true ≤ 15) (λ l. omega arith) (λ l. omega arith) (λ l. omega arith) (λ l. omega arith) (λ l. absurd (omega arith)) (λ l. absurd (omega arith)) (λ l. absurd (omega arith)) (λ l. absurd (omega arith)) n (omega arith) hn
four_kept b n false hb hn = below8 (λ (k : ℕ). k < 4 → with_bit b k false ≤ 15) (λ l. omega arith) (λ l. omega arith) (λ l. omega arith) (λ l. omega arith) (λ l. absurd (omega arith)) (λ l. absurd (omega arith)) (λ l. absurd (omega arith)) (λ l. absurd (omega arith)) n (omega arith) hn

-- a bit that is set stays as it is where it is set again
pub bit_twice : (b n : ℕ) → with_bit (with_bit b n true) n true ≡ with_bit b n true
unfolding with_bit when
bit_twice b n = go (ltb n 8) refl
  where
    go : (t : Bool) → ltb n 8 ≡ t → with_bit (with_bit b n true) n true ≡ with_bit b n true
    go true e = below8 (λ (k : ℕ). with_bit (with_bit b k true) k true ≡ with_bit b k true) (omega arith) (omega arith) (omega arith) (omega arith) (omega arith) (omega arith) (omega arith) (omega arith) n (ltb-true n 8 e)
    go false e = rw e

-- Laws of the step, shown once over the width.
use Prim.Native.Nat.{ℕ, ◌+◌, ◌-◌, ◌*◌, ◌/◌, ◌%◌, ◌^◌, ◌≤◌, ◌<◌}
use mathlib.Core.Path.{◌≡◌, sym, ap, ◌∙◌}
use mathlib.Core.Bool.{Bool, true, false}
use native.Mathlib.Omega.{arith}
use native.Mathlib.Numerals.{add-one}
use native.Mathlib.Nat.{mod-eq_of_lt, mod_self, mod-lt, add-mod_right, mod-add-mod, add_assoc, add-mul, suc-mul, mul_assoc, div-add-mod, add-mul-mod_self_left}
use lib.Pow.{pow_pos}
use Rattle.words.specs.Choice.{when}
use Rattle.words.specs.Steps.{stride, step, steps}
use Rattle.words.proofs.ChoiceLaws.{when_both}

module _ (w : ℕ) where
  -- up: one more, and from the top to 0
  pub step_up : (x : ℕ) → x + 1 < 2 ^ w → step w false x ≡ x + 1
  unfolding step stride when
  step_up x h = mod-eq_of_lt h

  pub step_up_end : (x : ℕ) → x + 1 ≡ 2 ^ w → step w false x ≡ 0
  unfolding step stride when
  step_up_end x h = ap (λ (y : ℕ). y % 2 ^ w) h ∙ mod_self (2 ^ w)

  -- down: one less, and from 0 to the top
  pub step_down : (x : ℕ) → 0 < x → x < 2 ^ w → step w true x ≡ x - 1
  unfolding step stride when
  step_down x h l =
      let e : x + (2 ^ w - 1) ≡ x - 1 + 2 ^ w = omega (arith, pow_pos w) in
      let s : x - 1 < 2 ^ w = omega arith in
      ap (λ (y : ℕ). y % 2 ^ w) e ∙ add-mod_right (x - 1) (2 ^ w) ∙ mod-eq_of_lt s

  pub step_down_end : step w true 0 ≡ 2 ^ w - 1
  unfolding step stride when
  step_down_end =
      let e : 0 + (2 ^ w - 1) ≡ 2 ^ w - 1 = omega arith in
      let s : 2 ^ w - 1 < 2 ^ w = omega (arith, pow_pos w) in
      ap (λ (y : ℕ). y % 2 ^ w) e ∙ mod-eq_of_lt s

  module _ (down : Bool) (x : ℕ) where
    pub step_below : step w down x < 2 ^ w
    unfolding step
    step_below = mod-lt (x + stride w down) (pow_pos w)

    pub steps_below : (j : ℕ) → steps w down x j < 2 ^ w
    unfolding steps
    steps_below j = mod-lt (x + j * stride w down) (pow_pos w)

    pub steps_none : x < 2 ^ w → steps w down x 0 ≡ x
    unfolding steps
    steps_none h =
        let e : x + 0 * stride w down ≡ x = omega arith in
        ap (λ (y : ℕ). y % 2 ^ w) e ∙ mod-eq_of_lt h

    pub steps_one : steps w down x 1 ≡ step w down x
    unfolding steps step
    steps_one =
        let e : x + 1 * stride w down ≡ x + stride w down = omega arith in
        ap (λ (y : ℕ). y % 2 ^ w) e

    -- j steps and k more
    pub steps_on : (j k : ℕ) → steps w down (steps w down x j) k ≡ steps w down x (j + k)
    unfolding steps
    steps_on j k =
        let s = stride w down in
        let e : x + j * s + k * s ≡ x + (j + k) * s = add_assoc x (j * s) (k * s) ∙ ap (λ (y : ℕ). x + y) (sym (add-mul j k s)) in
        mod-add-mod (x + j * s) (2 ^ w) (k * s) ∙ ap (λ (y : ℕ). y % 2 ^ w) e

    -- j steps and one more
    pub steps_next : (j : ℕ) → step w down (steps w down x j) ≡ steps w down x (j + 1)
    unfolding steps step
    steps_next j =
        let s = stride w down in
        let e : x + j * s + s ≡ x + (j + 1) * s = add_assoc x (j * s) s ∙ ap (λ (y : ℕ). x + y) (sym (suc-mul j s) ∙ ap (λ (k : ℕ). k * s) (sym (add-one j))) in
        mod-add-mod (x + j * s) (2 ^ w) s ∙ ap (λ (y : ℕ). y % 2 ^ w) e

-- a stride of 16 bits, and many of them, fit a machine word
pub stride_fits : (down : Bool) (x : ℕ) → x * when down 65535 1 ≤ x * 65535
stride_fits down x = when_both (λ (s : ℕ). x * s ≤ x * 65535) down (omega arith) (omega arith)

-- steps taken modulo the number of places are the same steps
wrapped : (m x j s : ℕ) → (x + j % m * s) % m ≡ (x + j * s) % m
wrapped m x j s =
    let q = j / m in
    let whole : j * s ≡ m * (q * s) + j % m * s = ap (λ (y : ℕ). y * s) (sym (div-add-mod j m)) ∙ add-mul (m * q) (j % m) s ∙ ap (λ (y : ℕ). y + j % m * s) (mul_assoc m q s) in
    let e : x + j * s ≡ x + j % m * s + m * (q * s) = omega (arith, whole) in
    sym (ap (λ (y : ℕ). y % m) e ∙ add-mul-mod_self_left (x + j % m * s) m (q * s))

pub steps_wrapped : (down : Bool) (x j : ℕ) → (x + j % 65536 * when down 65535 1) % 65536 ≡ steps 16 down x j
unfolding steps stride
steps_wrapped down x j = wrapped 65536 x j (when down 65535 1)

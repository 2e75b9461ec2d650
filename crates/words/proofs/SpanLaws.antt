-- Addresses over the width: a stretch before they turn over, where they go on, and a stretch in two pieces.
use Prim.Native.Nat.{ℕ, suc, ◌+◌, ◌-◌, ◌*◌, ◌%◌, ◌^◌, ◌≤◌, ◌<◌, min}
use mathlib.Core.Path.{◌≡◌, refl, sym, ap, subst, ◌∙◌}
use mathlib.Core.Bool.{Bool, true, false}
use native.Mathlib.Omega.{arith}
use native.Mathlib.Nat.{mod-eq_of_lt, mul_comm, mul-suc, add-mul-mod_self_left}
use lib.Pow.{pow_pos}
use Rattle.words.specs.Choice.{when}
use Rattle.words.specs.Steps.{step, steps, stride}
use Rattle.words.specs.Spans.{place_of, reach_of, wrapped_to, Within}
use Rattle.words.proofs.ChoiceLaws.{never, when_both, when_each}
use Rattle.words.proofs.StepLaws.{step_up_end, step_down_end, steps_on, steps_next}

module _ (down : Bool) (a n size : ℕ) (i : Within down a n size) (j : ℕ) (h : j < n) where
  -- a place can be computed, and lies inside
  pub within_computed : size < 2 ^ 64 → (down ≡ true → j ≤ a) × (down ≡ false → a + j < 2 ^ 64)
  within_computed l = (λ e. omega (arith, i.back e), λ e. omega (arith, i.up e))

  pub within_inside : place_of down a j < size
  unfolding place_of
  within_inside = when_each (λ (x : ℕ). x < size) down (λ e. omega (arith, i.back e)) (λ e. omega (arith, i.up e))

-- the first n places of a slice
pub within_front : (start n size : ℕ) → start + n ≤ size → Within false start n size
within_front start n size h = record { up = λ e. h; back = λ e. never (sym e) }

pub front_is : (start j : ℕ) → place_of false start j ≡ start + j
unfolding place_of when
front_is start j = refl

pub front_first : (j : ℕ) → place_of false 0 j ≡ j
front_first j = front_is 0 j ∙ omega arith

module _ (size : ℕ) where
  -- what lies within reach doesn't turn over
  pub reach_within : (down : Bool) (a n : ℕ) → a < size → n ≤ reach_of size down a → Within down a n size
  unfolding reach_of when
  reach_within true a n h l = record { up = λ e. never e; back = λ e. (h, l) }
  reach_within false a n h l = record { up = λ e. omega arith; back = λ e. never (sym e) }

  pub some_within : (down : Bool) (a : ℕ) → a < size → 0 < reach_of size down a
  unfolding reach_of
  some_within down a h = when_both (λ (x : ℕ). 0 < x) down (omega arith) (omega arith)

  pub turned_within : (down : Bool) (n : ℕ) → 0 < size → n ≤ size → Within down (wrapped_to size down) n size
  unfolding wrapped_to when
  turned_within true n s h = record { up = λ e. never e; back = λ e. (omega arith, omega arith) }
  turned_within false n s h = record { up = λ e. omega arith; back = λ e. never (sym e) }

module _ (w : ℕ) where
  pub straight_up : (a j : ℕ) → a + j < 2 ^ w → steps w false a j ≡ a + j
  unfolding steps stride when
  straight_up a j h = let e : a + j * 1 ≡ a + j = omega arith in ap (λ (x : ℕ). x % 2 ^ w) e ∙ mod-eq_of_lt h

  pub straight_down : (a j : ℕ) → j ≤ a → a < 2 ^ w → steps w true a j ≡ a - j
  unfolding steps stride when
  straight_down a j h l =
      let m = 2 ^ w in
      let one : suc (m - 1) ≡ m = omega (arith, pow_pos w) in
      let whole : j * (m - 1) + j ≡ m * j = sym (mul-suc j (m - 1)) ∙ ap (λ (x : ℕ). j * x) one ∙ mul_comm j m in
      let e : a + j * (m - 1) ≡ a - j + m * j = omega (arith, whole) in
      let s : a - j < m = omega arith in
      ap (λ (x : ℕ). x % m) e ∙ add-mul-mod_self_left (a - j) m j ∙ mod-eq_of_lt s

  -- the places before they turn over are the addresses stepped to
  pub placed : (down : Bool) (a n : ℕ) → Within down a n (2 ^ w) → (j : ℕ) → j < n → place_of down a j ≡ steps w down a j
  unfolding place_of when
  placed true a n i j h = let b = i.back refl in sym (straight_down a j (omega (arith, b.1)) b.0)
  placed false a n i j h = sym (straight_up a j (omega (arith, i.up refl)))

  -- behind its reach an address goes on from the other end
  turned : (down : Bool) (a : ℕ) → a < 2 ^ w → steps w down a (reach_of (2 ^ w) down a) ≡ wrapped_to (2 ^ w) down
  unfolding reach_of wrapped_to when
  turned true a h =
      let e : a - a ≡ 0 = omega arith in
      sym (steps_next w true a a) ∙ ap (step w true) (straight_down a a (omega arith) h ∙ e) ∙ step_down_end w
  turned false a h =
      let j = 2 ^ w - a - 1 in
      let more : j + 1 ≡ 2 ^ w - a = omega arith in
      ap (steps w false a) (sym more) ∙ sym (steps_next w false a j) ∙ ap (step w false) (straight_up a j (omega arith)) ∙ step_up_end w (a + j) (omega arith)

  pub turned_on : (down : Bool) (a i : ℕ) → a < 2 ^ w → steps w down (wrapped_to (2 ^ w) down) i ≡ steps w down a (reach_of (2 ^ w) down a + i)
  turned_on down a i h = ap (λ (x : ℕ). steps w down x i) (sym (turned down a h)) ∙ steps_on w down a (reach_of (2 ^ w) down a) i

  -- the addresses behind a first piece
  next_piece : (down : Bool) (a n : ℕ) → a < 2 ^ w → n ≤ 2 ^ w → min n (reach_of (2 ^ w) down a) < n
      → (i : ℕ) → i < n - min n (reach_of (2 ^ w) down a) → place_of down (wrapped_to (2 ^ w) down) i ≡ steps w down a (min n (reach_of (2 ^ w) down a) + i)
  next_piece down a n h l b i g =
      let k = min n (reach_of (2 ^ w) down a) in
      placed down (wrapped_to (2 ^ w) down) (n - k) (turned_within (2 ^ w) down (n - k) (pow_pos w) (omega arith)) i g
      ∙ turned_on down a i h
      ∙ ap (λ (x : ℕ). steps w down a (x + i)) (sym (let e : min n (reach_of (2 ^ w) down a) ≡ reach_of (2 ^ w) down a = omega arith in e))

  -- an address that is held, or steps
  module _ (down : Bool) (a : ℕ) where
    pub held_on : (hold : Bool) (j i : ℕ) → when hold (when hold a (steps w down a j)) (steps w down (when hold a (steps w down a j)) i) ≡ when hold a (steps w down a (j + i))
    unfolding when
    held_on true j i = refl
    held_on false j i = steps_on w down a j i

-- n addresses from a on: a first piece up to where they turn over, and the rest
pub record Pieces (size : ℕ) (down : Bool) (a n first : ℕ) : Type 0 where
  pub most : first ≤ n
  pub front : Within down a first size
  pub back : Within down (wrapped_to size down) (n - first) size
  -- the first piece's addresses are those stepped to; where a second is needed, its are the ones after them
  pub here : (w : ℕ) → size ≡ 2 ^ w → (i : ℕ) → i < first → place_of down a i ≡ steps w down a i
  pub next : (w : ℕ) → size ≡ 2 ^ w → first < n → (i : ℕ) → i < n - first → place_of down (wrapped_to size down) i ≡ steps w down a (first + i)

pub pieces : (size : ℕ) (down : Bool) (a n reach first : ℕ) → a < size → n ≤ size → reach ≡ reach_of size down a → first ≡ min n reach → Pieces size down a n first
pieces size down a n reach first h l r e =
    let e' : first ≡ min n (reach_of size down a) = e ∙ ap (min n) r in
    let k = min n (reach_of size down a) in
    let front = reach_within size down a k h (omega arith) in
    let rest = turned_within size down (n - k) (omega arith) (omega arith) in
    rw e'
    (record {
      most = omega arith;
      front = front;
      back = rest;
      here = λ w s i g. placed w down a k (subst (Within down a k) s front) i g;
      next = λ w s b i g. rw s (next_piece w down a n (rw s at h) (rw s at l) (rw s at b) i (rw s at g));
    })

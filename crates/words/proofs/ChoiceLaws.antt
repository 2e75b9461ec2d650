-- Laws of the choice and of two tests that both hold.
use Prim.Native.Nat.{ℕ, ◌≤◌}
use mathlib.Core.Path.{◌≡◌, refl}
use mathlib.Core.Bool.{Bool, true, false}
use native.Mathlib.Omega.{arith}
use Rattle.words.specs.Choice.{when, ◌and◌}

-- what holds of both holds of the one chosen
pub when_both : {A : Type 0} (P : A → Type 0) (t : Bool) {a b : A} → P a → P b → P (when t a b)
unfolding when
when_both P true h g = h
when_both P false h g = g

-- the same, where each is asked only if it is the one chosen
pub when_each : {A : Type 0} (P : A → Type 0) (t : Bool) {a b : A} → (t ≡ true → P a) → (t ≡ false → P b) → P (when t a b)
unfolding when
when_each P true h g = h refl
when_each P false h g = g refl

pub when_hit : {A : Type 0} (t : Bool) (a b : A) → t ≡ true → when t a b ≡ a
unfolding when
when_hit t a b e = rw e

pub when_miss : {A : Type 0} (t : Bool) (a b : A) → t ≡ false → when t a b ≡ b
unfolding when
when_miss t a b e = rw e

pub when_same : {A : Type 0} (t : Bool) (a : A) → when t a a ≡ a
unfolding when
when_same true a = refl
when_same false a = refl

-- a function of what is chosen is what it makes of each
pub when_over : {A B : Type 0} (f : A → B) (t : Bool) {a b : A} {x y : B} → (t ≡ true → x ≡ f a) → (t ≡ false → y ≡ f b) → when t x y ≡ f (when t a b)
unfolding when
when_over f true h g = h refl
when_over f false h g = g refl

pub record Both (a b : Bool) : Type 0 where
  pub left : a ≡ true
  pub right : b ≡ true

pub both : (a b : Bool) → (a and b) ≡ true → Both a b
unfolding ◌and◌
both true b e = record { left = refl; right = e }
both false true e = record { left = e; right = refl }
both false false e = record { left = e; right = e }

pub both_hold : {a b : Bool} → a ≡ true → b ≡ true → (a and b) ≡ true
unfolding ◌and◌
both_hold e h = rw (e, h)

-- what is given or not is at most what may be given
pub when_le : (t : Bool) (a : ℕ) → when t a 0 ≤ a
when_le t a = when_both (λ (x : ℕ). x ≤ a) t (omega arith) (omega arith)

-- no test both holds and fails
pub never : {A : Type 0} → true ≡ false → A
never e = let z : ◌≡◌ {A = ℕ} 0 1 = cc in absurd (omega arith)

-- a test that can't hold fails
pub not-true : (t : Bool) → (t ≡ true → ⊥) → t ≡ false
not-true true h = absurd (h refl)
not-true false h = refl

pub not-false : (t : Bool) → (t ≡ false → ⊥) → t ≡ true
not-false true h = refl
not-false false h = absurd (h refl)

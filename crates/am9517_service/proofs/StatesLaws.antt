-- The pages that addresses enter: state S1 is needed exactly there.
use Prim.Native.Nat.{ℕ, ◌+◌, ◌-◌, ◌*◌, ◌/◌, ◌%◌, ◌≤◌, ◌<◌}
use mathlib.Core.Path.{◌≡◌, ap, ◌∙◌, refl}
use mathlib.Core.Bool.{Bool, true, false, not}
use native.Mathlib.Omega.{arith}
use lib.Dec.{eqb}
use borrow.Author.Tests.{eq-eqb, ne_eqb, eqb-true, eqb-false}
use Rattle.words.specs.Choice.{when}
use Rattle.words.specs.Steps.{step, steps, stride}
use Rattle.am9517_service.specs.ClosedLegs.{entered}
use Rattle.words.proofs.ChoiceLaws.{when_hit, when_miss}
use Rattle.words.proofs.StepLaws.{steps_next, steps_below}

-- S1: the page of the next address is another one, exactly where the steps from a enter a page.
-- the test of the latch, for an address y and the one after it
abbrev pub turns_page : ℕ → ℕ → Bool
turns_page y z = not (eqb (y / 256) (z / 256))

turns : (y z : ℕ) → (y / 256 ≡ z / 256 → ⊥) → turns_page y z ≡ true
turns y z h = simp (ne_eqb _ _ h)

keeps : (y z : ℕ) → y / 256 ≡ z / 256 → turns_page y z ≡ false
keeps y z h = simp (eq-eqb _ _ h)

-- where a number stands among 256 decides whether one more makes a quotient more
more_at_end : (x : ℕ) → x % 256 ≡ 255 → x / 256 + 1 ≡ (x + 1) / 256
more_at_end x h = omega arith

same_within : (x : ℕ) → (x % 256 ≡ 255 → ⊥) → x / 256 + 0 ≡ (x + 1) / 256
same_within x h = omega arith

up_place : (a j : ℕ) → steps 16 false a j % 256 ≡ (a % 256 + j) % 256
unfolding steps stride when
up_place a j = omega arith

opposite : (x y q : ℕ) → y + x ≡ 256 * q + 255 → y % 65536 % 256 + x % 256 ≡ 255
opposite x y q h = omega arith

down_place : (a j : ℕ) → steps 16 true a j % 256 + (255 - a % 256 + j) % 256 ≡ 255
unfolding steps stride when
down_place a j = opposite (255 - a % 256 + j) (a + j * 65535) (a / 256 + 256 * j) (omega arith)

-- one more step from y, the j-th address, enters a page or none
entered_by : (x y z j : ℕ) → (x % 256 ≡ 255 → y / 256 ≡ z / 256 → ⊥) → ((x % 256 ≡ 255 → ⊥) → y / 256 ≡ z / 256) → x / 256 + when (turns_page y z) 1 0 ≡ (x + 1) / 256
entered_by x y z j at off = go (eqb (x % 256) 255) refl
  where
    go : (t : Bool) → eqb (x % 256) 255 ≡ t → x / 256 + when (turns_page y z) 1 0 ≡ (x + 1) / 256
    go true e = let h = eqb-true _ _ e in rw (when_hit {A = ℕ} (turns_page y z) 1 0 (turns y z (at h))) (more_at_end x h)
    go false e = let h = eqb-false _ _ e in rw (when_miss {A = ℕ} (turns_page y z) 1 0 (keeps y z (off h))) (same_within x h)

entered_step : (down : Bool) (a j : ℕ) → entered down a j + when (turns_page (steps 16 down a j) (step 16 down (steps 16 down a j))) 1 0 ≡ entered down a (j + 1)
unfolding entered step stride when
entered_step true a j =
    let y = steps 16 true a j in
    let below : y < 65536 = steps_below 16 true a j in
    let p = down_place a j in
    entered_by (255 - a % 256 + j) y ((y + 65535) % 65536) j (λ e g. omega arith) (λ e. omega arith) ∙ ap (λ (n : ℕ). n / 256) (omega arith)
entered_step false a j =
    let y = steps 16 false a j in
    let below : y < 65536 = steps_below 16 false a j in
    let p = up_place a j in
    entered_by (a % 256 + j) y ((y + 1) % 65536) j (λ e g. omega arith) (λ e. omega arith) ∙ ap (λ (n : ℕ). n / 256) (omega arith)

pub entered_more : (down : Bool) (a j : ℕ) → entered down a j + when (turns_page (steps 16 down a j) (steps 16 down a (j + 1))) 1 0 ≡ entered down a (j + 1)
entered_more down a j = rw (← steps_next 16 down a j) (entered_step down a j)

pub entered_none : (down : Bool) (a : ℕ) → entered down a 0 ≡ 0
unfolding entered when
entered_none true a = omega arith
entered_none false a = omega arith

pub entered_most : (down : Bool) (a j : ℕ) → j ≤ 65536 → entered down a j ≤ 257
unfolding entered when
entered_most true a j h = omega arith
entered_most false a j h = omega arith

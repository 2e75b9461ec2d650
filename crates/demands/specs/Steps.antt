-- "The step of address and count is shown once over the width."
use Rattle.std.specs.Prelude.{ℕ, ◌+◌, ◌-◌, ◌^◌, ◌<◌, ◌≡◌, Bool, true, false}
use Rattle.words.specs.Steps.{step}

pub record StepsOverTheWidth : Type 0 where
  -- Up: one more, and from the top to 0.
  pub up : (w x : ℕ) → x + 1 < 2 ^ w → step w false x ≡ x + 1
  pub up_end : (w x : ℕ) → x + 1 ≡ 2 ^ w → step w false x ≡ 0
  -- Down: one less, and from 0 to the top, as the count's "from 0 it becomes FFFFh".
  pub down : (w x : ℕ) → 0 < x → x < 2 ^ w → step w true x ≡ x - 1
  pub down_end : (w : ℕ) → step w true 0 ≡ 2 ^ w - 1
  -- It stays within the width.
  pub below : (w : ℕ) (down : Bool) (x : ℕ) → step w down x < 2 ^ w

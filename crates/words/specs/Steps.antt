-- The step of an address or a count by one, up or down, modulo 2 ^ w. "The step of address and count is shown once over the width": w.
use Rattle.std.specs.Prelude.{ℕ, ◌+◌, ◌-◌, ◌*◌, ◌%◌, ◌^◌, Bool}
use Rattle.words.specs.Choice.{when}

-- what a step adds: one, or, going down, one less than the modulus
unfoldable pub stride : ℕ → Bool → ℕ
stride w down = when down (2 ^ w - 1) 1

-- one step from x
unfoldable pub step : ℕ → Bool → ℕ → ℕ
step w down x = (x + stride w down) % 2 ^ w

-- j steps from x, in closed form: for what moves many bytes at once
unfoldable pub steps : ℕ → Bool → ℕ → ℕ → ℕ
steps w down x j = (x + j * stride w down) % 2 ^ w

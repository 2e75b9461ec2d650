-- The bits of a byte.
use Rattle.std.specs.Prelude.{ℕ, ◌+◌, ◌-◌, ◌*◌, ◌/◌, ◌%◌, ◌^◌, Bool, ltb}
use Rattle.words.specs.Choice.{when}

-- bit n of b, 0 or 1
abbrev pub bit : ℕ → ℕ → ℕ
bit b n = b / 2 ^ n % 2

-- the byte b with its bit n, of bits 0 to 7, set or cleared
unfoldable pub with_bit : ℕ → ℕ → Bool → ℕ
with_bit b n set = when (ltb n 8) (b - bit b n * 2 ^ n + when set (2 ^ n) 0) b

-- Spans of a memory whose size is its number of addresses: places before they turn over, where they go on, and bytes put there.
use Rattle.std.specs.Prelude.{ℕ, zero, suc, ◌+◌, ◌-◌, ◌≤◌, ◌<◌, ◌≡◌, Bool, true, false, List, get_or, set}
use Rattle.words.specs.Choice.{when}

-- the j-th place from a on, counted from 0, where nothing turns over
unfoldable pub place_of : Bool → ℕ → ℕ → ℕ
place_of down a j = when down (a - j) (a + j)

-- how many addresses from a on there are before they turn over, and where they go on then
unfoldable pub reach_of : ℕ → Bool → ℕ → ℕ
reach_of size down a = when down (a + 1) (size - a)

unfoldable pub wrapped_to : ℕ → Bool → ℕ
wrapped_to size down = when down (size - 1) 0

-- dst with j bytes of src put, the i-th from place (from i) to place (to i)
unfoldable pub spread : (ℕ → ℕ) → (ℕ → ℕ) → List ℕ → List ℕ → ℕ → List ℕ
spread to from src dst zero = dst
spread to from src dst (suc j) = set (spread to from src dst j) (to j) (get_or src (from j) 0)

-- the same within one memory, each byte read when it is moved
unfoldable pub carried : (ℕ → ℕ) → (ℕ → ℕ) → List ℕ → ℕ → List ℕ
carried to from m zero = m
carried to from m (suc j) = set (carried to from m j) (to j) (get_or (carried to from m j) (from j) 0)

-- n places from `start` on, in one direction, inside a slice of this size
pub record Within (down : Bool) (start n size : ℕ) : Type 0 where
  pub up : down ≡ false → start + n ≤ size
  pub back : down ≡ true → (start < size) × (n ≤ start + 1)

-- A table of rows: one test over all of it, and what that tells of each entry.
use Prim.Native.Nat.{ℕ, ◌<◌}
use mathlib.Core.Path.{◌≡◌}
use mathlib.Core.Bool.{Bool, true}
use mathlib.Core.List.{List, []}
use lib.Dec.{eqb}
use lib.ListN.{get_or}
use borrow.Author.Tests.{eqb-true}
use Rattle.am9517.proofs.ModeLaws.{every, every_told}

-- entry j of row i; a missing one is 0
abbrev pub entry : List (List ℕ) → ℕ → ℕ → ℕ
entry t i j = get_or (get_or t i []) j 0

-- the entries of m rows of n are what the rule says
unfoldable pub ruled : (ℕ → ℕ → ℕ) → ℕ → ℕ → List (List ℕ) → Bool
ruled rule m n t = every (λ i. every (λ j. eqb (entry t i j) (rule i j)) n) m

pub entry_told : (rule : ℕ → ℕ → ℕ) (m n : ℕ) (t : List (List ℕ)) → ruled rule m n t ≡ true → (i j : ℕ) → i < m → j < n → entry t i j ≡ rule i j
unfolding ruled
entry_told rule m n t e i j h k = eqb-true _ _ (every_told _ n j (every_told _ m i e h) k)

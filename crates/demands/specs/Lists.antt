-- Lists: what holds of each element, and how often a number occurs.
use Rattle.std.specs.Prelude.{ℕ, ◌+◌, List, [], ◌∷◌, eqb}
use Rattle.words.specs.Choice.{when}

-- P holds of each element
pub data All {A : Type 0} (P : A → Type 0) : List A → Type 0 where
  none : All P []
  also : {x : A} {xs : List A} → P x → All P xs → All P (x ∷ xs)

-- how often c occurs
unfoldable pub count : ℕ → List ℕ → ℕ
count c [] = 0
count c (d ∷ ds) = when (eqb d c) 1 0 + count c ds

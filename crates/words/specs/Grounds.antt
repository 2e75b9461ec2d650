-- Grounds in their order: the first that holds decides what is given.
use Rattle.std.specs.Prelude.{Bool, List, [], ◌∷◌}
use Rattle.words.specs.Choice.{when}

pub record Ground (A : Type 0) : Type 0 where
  pub gives : A
  pub holds : Bool

-- gives a where the test holds
infix 68 ◌if◌
abbrev pub ◌if◌ : {A : Type 0} → A → Bool → Ground A
a if t = record { gives = a; holds = t }

-- what the first ground that holds gives, else `other`
unfoldable pub first : {A : Type 0} → List (Ground A) → A → A
first [] other = other
first (g ∷ gs) other = when g.holds g.gives (first gs other)

-- One of two by a test, and two tests that both hold. Shut, so that a law can take them apart.
use Rattle.std.specs.Prelude.{Bool, true, false, ◌&&◌}

-- a where the test holds, else b
module _ {A : Type 0} where
  unfoldable pub when : Bool → A → A → A
  when true a b = a
  when false a b = b

-- both hold: the same as _&&_, but shut
infixr 35 ◌and◌
unfoldable pub ◌and◌ : Bool → Bool → Bool
a and b = a && b

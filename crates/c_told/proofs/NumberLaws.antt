-- An operation that is done or refused has no value.
use Prim.Native.Nat.{ℕ}
use mathlib.Core.Path.{◌≡◌, refl}
use lib.Dec.{eqb}
use Rattle.words.specs.Choice.{when}
use Rattle.words.proofs.ChoiceLaws.{when_both}
use Rattle.am9517.specs.Answers.{Answer}
use Rattle.c_told.specs.Numbers.{value_of}
use Rattle.std.proofs.Common.{None, Ok, Err}
use Rattle.am9517.specs.Refusals.{numbered}

pub no_value : (n : ℕ) → value_of (when (eqb n 0) (Ok None) (Err (numbered n))) ≡ 0
no_value n = when_both (λ (a : Answer). value_of a ≡ 0) (eqb n 0) refl refl

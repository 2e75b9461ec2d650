-- Laws of what the commands on the controller answer.
use Prim.Native.Nat.{ℕ, ◌*◌}
use mathlib.Core.Path.{◌≡◌}
use mathlib.Core.Bool.{true}
use mathlib.Core.List.{List}
use lib.ListN.{length}
use borrow.Author.Tests.{eqb-true}
use Rattle.console_chip.specs.Control.{says_bytes}
use Rattle.words.proofs.ChoiceLaws.{both}

-- a word of n bytes has two digits for each
pub so_long : (digits : List ℕ) (n : ℕ) → says_bytes digits n ≡ true → length digits ≡ 2 * n
unfolding says_bytes
so_long digits n e = eqb-true _ _ (both _ _ e).right

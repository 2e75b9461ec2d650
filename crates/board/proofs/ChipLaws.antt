-- The two chips of a board: what is put is found, and nothing else moves.
use Prim.Native.Nat.{ℕ, ◌<◌}
use mathlib.Core.Path.{◌≡◌, refl}
use native.Mathlib.Omega.{arith}
use Rattle.am9517.specs.declared.Controller.{Controller}
use Rattle.board.specs.declared.Board.{Board}
use Rattle.board.specs.declared.Chip.{Chip}
use Rattle.board.specs.declared.Chip.TheVariants.{First, Second}
use Rattle.board.specs.Chips.{number_of, chip, with_chip, other}
use Rattle.board.specs.Bus.{turned_to}

pub chip_back : (b : Board) (which : Chip) → with_chip b which (chip b which) ≡ b
chip_back b First = refl
chip_back b Second = refl

pub chip_put : (b : Board) (which : Chip) (c : Controller) → chip (with_chip b which c) which ≡ c
chip_put b First c = refl
chip_put b Second c = refl

pub chip_other : (b : Board) (which : Chip) (c : Controller) → chip (with_chip b which c) (other which) ≡ chip b (other which)
chip_other b First c = refl
chip_other b Second c = refl

-- one of two numbers
pub number_below : (which : Chip) → number_of which < 2
number_below First = omega arith
number_below Second = omega arith

-- a chip put, and granted last
pub turned : (b : Board) (which : Chip) (c : Controller) (next : Board) (n : ℕ) → next ≡ with_chip b which c → n ≡ number_of which
    → record { first = next.first; second = next.second; granted_last = n } ≡ turned_to b which c
turned b First c next n e h = rw (e, h) refl
turned b Second c next n e h = rw (e, h) refl

-- Which registers an accepted access names, and what it does to an address or a count.
use Prim.Native.Nat.{ℕ, ◌+◌, ◌≤◌}
use mathlib.Core.Path.{◌≡◌, refl}
use mathlib.Core.Bool.{Bool, true, false, not, ◌&&◌}
use native.Mathlib.Omega.{arith}
use lib.Dec.{ltb, leb, eqb}
use borrow.Author.Tests.{lt-ltb, ltb-false, leb-false, ne_eqb}
use Rattle.words.specs.Grounds.{first}
use Rattle.am9517.specs.Refusals.{refusal, write_grounds, read_grounds}
use Rattle.am9517.specs.Registers.{port_written, after_write, port_read, value, turned_over, after_read}
use Rattle.am9517.specs.declared.Controller.{Controller}
use Rattle.words.proofs.ChoiceLaws.{when_hit, never}
use Rattle.words.proofs.GroundLaws.{passed}

-- an accepted write is of registers 0 to 15
pub write_register : (s : Controller) (r b : ℕ) → refusal (write_grounds s r b) ≡ 0 → r ≤ 15
unfolding refusal first
write_register s r b e = ltb-false _ _ (passed _ _ _ (omega arith) (passed _ _ _ (omega arith) e).next).test

pub less : (r k : ℕ) → r ≤ k + 1 → (r ≡ k + 1 → ⊥) → r ≤ k
less r k h n = omega arith

pub port_after : (s : Controller) (r b : ℕ) → r ≤ 7 → after_write s r b ≡ port_written s r b
unfolding after_write first
port_after s r b h = when_hit (ltb r 8) _ _ (lt-ltb r 8 (omega arith))

pub port_value : (s : Controller) (r : ℕ) → r ≤ 7 → value s r ≡ port_read s r
unfolding value first
port_value s r h = when_hit (ltb r 8) _ _ (lt-ltb r 8 (omega arith))

pub port_left : (s : Controller) (r : ℕ) → r ≤ 7 → after_read s r ≡ turned_over s
unfolding after_read first
port_left s r h = when_hit (ltb r 8) _ _ (lt-ltb r 8 (omega arith))

-- an accepted read is of registers 0 to 8, or D
pub read_register : (s : Controller) (r : ℕ) → refusal (read_grounds s r) ≡ 0 → (r ≡ 0xD → ⊥) → r ≤ 8
unfolding refusal first
read_register s r e d =
    let readable : leb 9 r && not (eqb r 0xD) ≡ false = (passed _ _ _ (omega arith) (passed _ _ _ (omega arith) (passed _ _ _ (omega arith) (passed _ _ _ (omega arith) e).next).next).next).test in
    go (leb 9 r) refl (rw (ne_eqb _ _ d) at readable)
  where
    go : (t : Bool) → leb 9 r ≡ t → t && true ≡ false → r ≤ 8
    go true e h = never h
    go false e h = omega (arith, leb-false 9 r e)

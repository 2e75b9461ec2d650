-- A number below 65,536 as a signed one, as an i32 computes it.
use mathlib.Core.Path.{◌≡◌, ap, ◌∙◌, sym}
use Prim.Native.Nat.{ℕ, suc, ◌-◌, ◌≤◌, ◌<◌}
use native.Mathlib.Omega.{arith}
use lib.IntN.{ℤ, pos, negsuc, ◌-ℤ◌, +ℤ_idl}
use borrow.Author.Tests.{lt-ltb, le-ltb}
use mir.Syntax.{w32}
use mir.Val.{to_z, SFits}
use mir.ValLaws.{to_z_pos}
use Rattle.words.proofs.ChoiceLaws.{when_hit, when_miss}
use Rattle.logs.specs.Judge.{signed}

-- below the middle it is itself
pub low : (d : ℕ) → d < 32768 → to_z w32 d ≡ signed d
unfolding signed
low d h = to_z_pos w32 d (omega arith) ∙ sym (when_hit _ _ _ (lt-ltb d 32768 h))

-- from the middle on it is what is lacking to 65,536, below zero
minus : (d : ℕ) → 32768 ≤ d → d < 65536 → pos 0 -ℤ to_z w32 (65536 - d) ≡ negsuc (65535 - d)
minus d m h =
    let e : 65536 - d ≡ suc (65535 - d) = omega arith in
    ap (λ (z : ℤ). pos 0 -ℤ z) (to_z_pos w32 (65536 - d) (omega arith)) ∙ ap (λ (n : ℕ). pos 0 -ℤ pos n) e ∙ +ℤ_idl (negsuc (65535 - d))

pub high : (d : ℕ) → 32768 ≤ d → d < 65536 → pos 0 -ℤ to_z w32 (65536 - d) ≡ signed d
unfolding signed
high d m h = minus d m h ∙ sym (when_miss _ _ _ (le-ltb d 32768 m))

pub minus_fits : (d : ℕ) → 32768 ≤ d → d < 65536 → SFits w32 (pos 0 -ℤ to_z w32 (65536 - d))
minus_fits d m h = rw (minus d m h) (record { sfits = omega arith })

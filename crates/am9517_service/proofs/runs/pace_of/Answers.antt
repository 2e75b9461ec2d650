use Rattle.am9517_service.specs.States.{pace}
use Rattle.words.specs.Choice.{when}
use Rattle.words.proofs.ChoiceLaws.{when_both}
use Rattle.am9517.specs.Modes.{compressed}
use native.Mathlib.Omega.{arith}
use mathlib.Core.Path.{refl}
use Prim.Native.Nat.{ℕ, ◌≤◌, ◌+◌}
use mir.Val.{Fits}
use mir.Syntax.{w64}
use Rattle.am9517_service.proofs.runs.pace_of.Goals as goal

-- without wait states
plain : (command : ℕ) → when (compressed command) 2 3 ≤ 3
plain command = when_both (λ (x : ℕ). x ≤ 3) (compressed command) (omega arith) (omega arith)

pub overflow_add-result : goal.overflow_add-result
overflow_add-result c =
    rw (c.when.ensures, c.compressed.ensures)
    (when_both (λ (x : ℕ). Fits w64 (x + c.args.waits)) (compressed c.args.command) (omega (arith, c.well_formed)) (omega (arith, c.well_formed)))

pub returns : goal.returns
unfolding pace
returns c =
    rw (c.when.ensures, c.compressed.ensures) (refl, omega (arith, plain c.args.command, c.well_formed))

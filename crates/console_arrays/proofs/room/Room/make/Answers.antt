use Rattle.console_text.proofs.TextLaws.{stands_in_front}
use Rattle.console_text.proofs.NumberLaws.{number_fits}
use Rattle.console_arrays.specs.Arrays.{shown}
use Rattle.console_chip.specs.Answers.{numbered}
use lib.ListN.{length, take, replicate, length-replicate}
use mathlib.Core.Path.{◌≡◌, refl, sym, ap, ◌∙◌}
use Prim.Native.Nat.{ℕ, ◌≤◌}
use native.Mathlib.Omega.{arith}
use Rattle.console_arrays.proofs.room.Room.make.Goals as goal

pub returns : goal.returns
unfolding numbered
returns c =
    let n = c.in-Some.n in
    let b = c.in-Some-number_of.b in
    let room = c.args.array.now in
    let fits : n ≤ 70000 = number_fits 70000 n _ (sym c.in-Some.ensures) in
    let size : length (replicate n b) ≡ n = length-replicate {A = ℕ} n b in
    let front : take n c.copies.new.out ≡ replicate n b = ap (λ (k : ℕ). take k c.copies.new.out) (sym size) ∙ stands_in_front _ room _ _ c.copies.ensures (omega (arith, c.requires.deep)) in
    record { holds = simp (sym c.in-Some.ensures, sym c.in-Some-number_of.ensures, front) (ap (shown (replicate n b)) c.ok.ensures); behind = simp (sym c.in-Some.ensures, sym c.in-Some-number_of.ensures) refl; ordered = omega arith; inside = omega (arith, c.requires.deep) }

use Rattle.console_chip.specs.Answers.{numbered}
use Rattle.console_arrays.proofs.ArrayLaws.{queue_full, queue_grown}
use Prim.Native.Nat.{ℕ}
use lib.ListN.{length-replicate}
use mathlib.Core.Path.{sym}
use native.Mathlib.Omega.{arith}
use Rattle.console_arrays.proofs.queue.Queue.fill.Goals as goal

pub returns-in_default-grow : goal.returns-in_default-grow
unfolding numbered
returns-in_default-grow c =
    let s = c.args in
    let size = length-replicate {A = ℕ} c.in-Some.n c.in-Some-number_of.b in
    let kept = c.in_default-grow.ensures.full in
    rw (kept.1, kept.2)
    (record { holds = simp (sym c.in-Some.ensures, sym c.in-Some-number_of.ensures) (queue_full _ _ _ _ _ _ _ c.requires.inside size kept.0 c.error-in_default-grow.ensures); ordered = s.self.now.ordered; inside = c.requires.inside })

pub returns : goal.returns
unfolding numbered
returns c =
    let size = length-replicate {A = ℕ} c.in-Some.n c.in-Some-number_of.b in
    let grown = c.in-Some-grow.ensures.grown in
    record { holds = simp (sym c.in-Some.ensures, sym c.in-Some-number_of.ensures) (queue_grown _ _ _ _ _ _ _ c.requires.inside size _ _ _ _ _ _ grown.1 grown.0 c.copies.ensures c.ok.ensures); ordered = c.grow.new.self.ordered; inside = omega (arith, grown.0.inside) }

use Rattle.logs.proofs.JudgeLaws.{passed}
use mathlib.Core.Path.{◌∙◌, sym, subst}
use lib.ListN.{length-drop}
use native.Mathlib.Omega.{arith}
use Rattle.am9517.proofs.RangeLaws.{fields}
use Rattle.logs.specs.declared.registers.Registers.{Registers}
use Rattle.logs.proofs.RecordLaws.{one_there}
use Rattle.logs.proofs.JudgeLaws.{Passing, passing_first, passing_turn}
use Rattle.logs.proofs.judging.pass.Goals as goal

pub service_of-s-requires : goal.service_of-s-requires
service_of-s-requires c =
    let here = (fields c.args.c c.requires.1.valid).serving in (omega (arith, here, c.requires.0), c.requires.0)

pub registers_of-g-requires : goal.registers_of-g-requires
registers_of-g-requires c =
    let here = (fields c.args.c c.requires.1.valid).serving in (omega (arith, here, c.requires.0), c.requires.0)

pub loop-s-init : goal.loop-s-init
loop-s-init c =
    subst (λ (g : Registers). Passing c.args.c c.args.memory.now c.args.log.now g c.args.memory.now 0) (sym c.registers_of-g.ensures) (passing_first _ _ _ c.requires.1)

pub goes_on-requires : goal.goes_on-requires
goes_on-requires c = (c.before.loop-s.invariant.flowing.memory, c.before.loop-s.invariant.within)

pub overflow_add-byte : goal.overflow_add-byte
overflow_add-byte c =
    let long = one_there _ _ _ _ (sym c.goes_on.ensures ∙ c.loop-s-test.true) in let size = length-drop c.loop-s.at c.args.log.now in record { fits = omega (arith, long, size, c.well_formed.1.1.1) }

pub bounds-log-at : goal.bounds-log-at
bounds-log-at c =
    let long = one_there _ _ _ _ (sym c.goes_on.ensures ∙ c.loop-s-test.true) in let size = length-drop c.loop-s.at c.args.log.now in omega (arith, long, size)

pub store_by-requires : goal.store_by-requires
store_by-requires c = c.before.before.before.before.before.loop-s.invariant.flowing.memory

pub overflow_add-at : goal.overflow_add-at
overflow_add-at c =
    let long = one_there _ _ _ _ (sym c.goes_on.ensures ∙ c.loop-s-test.true) in let size = length-drop c.loop-s.at c.args.log.now in record { fits = omega (arith, long, size, c.well_formed.1.1.1) }

pub loop-s-smaller : goal.loop-s-smaller
loop-s-smaller c =
    let long = one_there _ _ _ _ (sym c.goes_on.ensures ∙ c.loop-s-test.true) in let size = length-drop c.loop-s.at c.args.log.now in omega (arith, long, size)

pub loop-s-preserved : goal.loop-s-preserved
loop-s-preserved c =
    let c₀ = c.args.c in let here = (fields c₀ c.requires.1.valid).serving in let four = c.well_formed.0.1.1.0.1.0.1 in passing_turn c₀ _ _ four (omega (arith, here)) _ _ _ c.loop-s.invariant _ c.service_of-s.ensures (sym c.goes_on.ensures ∙ c.loop-s-test.true) _ c.store_by.ensures _ c.stepped_by-g.ensures

pub with_registers-requires : goal.with_registers-requires
with_registers-requires c =
    let here = (fields c.args.c c.requires.1.valid).serving in (omega (arith, here, c.requires.0), c.requires.0)

pub shape_of-memory : goal.shape_of-memory
shape_of-memory c =
    c.loop-s.invariant.flowing.memory ∙ sym c.requires.1.memory

pub returns : goal.returns
returns c =
    let c₀ = c.args.c in let here = (fields c₀ c.requires.1.valid).serving in let four = c.well_formed.0.1.1.0.1.0.1 in passed c₀ _ _ four (omega (arith, here)) _ _ _ c.loop-s.invariant _ c.with_registers.ensures _ c.service_of-s.ensures (sym c.goes_on.ensures ∙ c.loop-s-test.false)

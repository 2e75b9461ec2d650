use mathlib.Core.Path.{◌∙◌, sym}
use native.Mathlib.Omega.{arith}
use mathlib.Core.Path.{refl}
use mathlib.Core.Bool.{true, false}
use Rattle.am9517.proofs.RefusalLaws.{accepted, denied}
use Rattle.am9517_service.proofs.AnswerLaws.{run_open, serving_is}
use Rattle.logs.proofs.AnswerLaws.{none_told, next_told}
use borrow.Author.Rules.{rules}
use Rattle.logs.proofs.records.next_record.Goals as goal

pub returns-then-is_some : goal.returns-then-is_some
returns-then-is_some c = none_told _ _ _ _ (denied _ c.run_refusal.result false c.run_refusal.ensures (sym c.is_some.ensures ∙ c.if-is_some.true) refl) _ c.record_in.ensures

pub registers_of-g-requires : goal.registers_of-g-requires
registers_of-g-requires c =
    let free = accepted _ c.run_refusal.result true c.run_refusal.ensures (sym c.is_some.ensures ∙ c.if-is_some.false) refl in (search rules, serving_is c.args.c (run_open c.args.c c.args.memory.now free).serving)

pub bounds-memory-g : goal.bounds-memory-g
bounds-memory-g c =
    let free = accepted _ c.run_refusal.result true c.run_refusal.ensures (sym c.is_some.ensures ∙ c.if-is_some.false) refl in omega (arith, (run_open c.args.c c.args.memory.now free).memory, c.registers_of-g.type_inv)

pub service_of-requires : goal.service_of-requires
service_of-requires c =
    let free = accepted _ c.run_refusal.result true c.run_refusal.ensures (sym c.is_some.ensures ∙ c.if-is_some.false) refl in (search rules, serving_is c.args.c (run_open c.args.c c.args.memory.now free).serving)

pub returns : goal.returns
returns c =
    let free = accepted _ c.run_refusal.result true c.run_refusal.ensures (sym c.is_some.ensures ∙ c.if-is_some.false) refl in let four = c.well_formed.0.1.1.0.1.0.1 in next_told _ _ _ _ free four _ _ _ c.service_of.ensures c.registers_of-g.ensures c.record_by.ensures

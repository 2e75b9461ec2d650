use mir.Syntax.{w32}
use mir.ValLaws.{to_z-of_z}
use Rattle.logs.proofs.JudgeLaws.{left_made}
use lib.ListN.{get_or}
use Rattle.logs.specs.declared.registers.Service.{Service}
use Rattle.logs.specs.declared.registers.Registers.{Registers}
use Rattle.logs.specs.ClosedRegisters.{service_of, record_by}
use Rattle.logs.specs.Judge.{found, signed, apart}
use mathlib.Core.Path.{◌∙◌, ap, sym}
use borrow.Author.Tests.{not-true, not-false}
use Rattle.logs.proofs.RecordLaws.{same_is}
use lib.ListN.{length}
use native.Mathlib.Omega.{arith}
use Rattle.am9517.proofs.RangeLaws.{fields}
use Rattle.logs.specs.Answers.{told}
use Rattle.logs.proofs.JudgeLaws.{left_cut, left_wrong}
use Rattle.logs.proofs.judging.finish.Goals as goal

pub returns-then-size-at-lt8 : goal.returns-then-size-at-lt8
returns-then-size-at-lt8 c =
    let four = c.well_formed.0.1.1.0.1.0.1 in c.told.ensures _ ∙ ap (told (length c.args.log.now)) (left_cut c.args.c four _ _ _ c.requires.1 c.if-size-at-lt8.true)

pub registers_of-g-requires : goal.registers_of-g-requires
registers_of-g-requires c =
    let here = (fields c.args.c c.requires.1.flowing.valid).serving in (omega (arith, here, c.requires.0), c.requires.0)

pub service_of-requires : goal.service_of-requires
service_of-requires c =
    let here = (fields c.args.c c.requires.1.flowing.valid).serving in (omega (arith, here, c.requires.0), c.requires.0)

pub returns-then-ne : goal.returns-then-ne
returns-then-ne c =
    let c₀ = c.args.c in let m = c.args.memory.now in let four = c.well_formed.0.1.1.0.1.0.1 in let b = c.record_at-r.result.byte in let e = c.is_set-eop.result in let says = c.record_by.ensures ∙ ap (λ (s : Service). record_by s c.registers_of-g.result (get_or m c.registers_of-g.result.address 0) b e) c.service_of.ensures ∙ ap (λ (g : Registers). record_by (service_of c₀) g (get_or m g.address 0) b e) c.registers_of-g.ensures in let law = left_wrong c₀ four _ _ _ c.requires.1 c.if-size-at-lt8.false _ _ _ _ c.record_at-r.ensures c.is_set-eop.ensures says (same_is c.record_at-r.result c.record_by.result) (not-true _ (sym c.ne.ensures ∙ c.if-ne.true)) in c.told-then-ne.ensures _ ∙ ap (told (length c.args.log.now)) (ap (found c₀ m c.args.at) (to_z-of_z w32 c.error_of.result (record { sfits = c.error_of.type_inv }) ∙ c.error_of.ensures ∙ ap (λ (g : Registers). signed (apart c.record_at-r.result.address g.address)) c.registers_of-g.ensures) ∙ law)

pub make_last-next-requires : goal.make_last-next-requires
make_last-next-requires c =
    let here = (fields c.args.c c.requires.1.flowing.valid).serving in (omega (arith, here, c.requires.0), c.requires.0, c.requires.1.flowing)

pub overflow_add-at : goal.overflow_add-at
overflow_add-at c =
    record { fits = omega (arith, c.if-size-at-lt8.false, c.well_formed.1.1.1) }

pub returns : goal.returns
returns c =
    let c₀ = c.args.c in let m = c.args.memory.now in let four = c.well_formed.0.1.1.0.1.0.1 in let b = c.record_at-r.result.byte in let e = c.is_set-eop.result in let says = c.record_by.ensures ∙ ap (λ (s : Service). record_by s c.registers_of-g.result (get_or m c.registers_of-g.result.address 0) b e) c.service_of.ensures ∙ ap (λ (g : Registers). record_by (service_of c₀) g (get_or m g.address 0) b e) c.registers_of-g.ensures in let law = left_made c₀ four _ _ _ c.requires.1 c.if-size-at-lt8.false _ _ _ _ c.record_at-r.ensures c.is_set-eop.ensures says (same_is c.record_at-r.result c.record_by.result) (not-false _ (sym c.ne.ensures ∙ c.if-ne.false)) _ _ c.make_last-next.ensures.value c.make_last-next.ensures.memory in c.told-2.ensures _ ∙ ap (told (length c.args.log.now)) law

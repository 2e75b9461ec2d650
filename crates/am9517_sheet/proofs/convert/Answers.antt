use mathlib.Core.Path.{sym, ◌∙◌}
use lib.ListN.{length}
use Rattle.std.proofs.lemmas.Result.{err_from_is_err_and}
use Rattle.am9517_sheet.proofs.ConvertLaws.{both_fit, convert_too, by_size, by_fault, by_place, converted}
use Rattle.am9517_sheet.proofs.convert.Goals as goal

pub returns-then-source-sheet_size : goal.returns-then-source-sheet_size
returns-then-source-sheet_size c =
    rw (← c.other-from.ensures) (convert_too c.other-from.result c.args.to c.args.source.now c.args.out.now _
    (by_size c.other-from.result c.args.to c.args.source.now c.args.out.now (rw (c.sheet_size.ensures, c.sheet_size-2.ensures) at c.if-source-sheet_size.true)))

pub found-requires : goal.found-requires
found-requires c = (both_fit (length c.args.source.now) _ (length c.args.out.now) _ (rw (c.sheet_size.ensures, c.sheet_size-2.ensures) at c.if-source-sheet_size.false)).0

pub put-requires : goal.put-requires
put-requires c = (both_fit (length c.args.source.now) _ (length c.args.out.now) _ (rw (c.sheet_size.ensures, c.sheet_size-2.ensures) at c.if-source-sheet_size.false)).1

pub returns-in_err-c : goal.returns-in_err-c
returns-in_err-c c =
    let p = err_from_is_err_and c.from_residual.result c.from_residual.ensures.1 in
    rw (← c.other-from.ensures) (convert_too c.other-from.result c.args.to c.args.source.now c.args.out.now _
    (rw (p.1, p.2) (by_fault c.other-from.result c.args.to c.args.source.now c.args.out.now (rw (c.sheet_size.ensures, c.sheet_size-2.ensures) at c.if-source-sheet_size.false) _ (sym c.in_err-c.was ∙ c.found.ensures))))

pub returns-then-exceeds : goal.returns-then-exceeds
returns-then-exceeds c =
    rw (← c.other-from.ensures) (convert_too c.other-from.result c.args.to c.args.source.now c.args.out.now _
    (by_place c.other-from.result c.args.to c.args.source.now c.args.out.now (rw (c.sheet_size.ensures, c.sheet_size-2.ensures) at c.if-source-sheet_size.false) _ (sym c.in_ok-c.was ∙ c.found.ensures) (sym c.exceeds.ensures ∙ c.if-exceeds.true)))

pub returns : goal.returns
returns c =
    rw (← c.other-from.ensures) (convert_too c.other-from.result c.args.to c.args.source.now c.args.out.now _
    (rw c.put.ensures (converted c.other-from.result c.args.to c.args.source.now c.args.out.now (rw (c.sheet_size.ensures, c.sheet_size-2.ensures) at c.if-source-sheet_size.false) _ (sym c.in_ok-c.was ∙ c.found.ensures) (sym c.exceeds.ensures ∙ c.if-exceeds.false))))

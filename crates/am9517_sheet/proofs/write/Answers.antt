use Rattle.am9517_sheet.proofs.SheetLaws.{write_too, write_free, write_done}
use mathlib.Core.Path.{sym, ap, ◌∙◌}
use borrow.Author.Tests.{lt-ltb, le-ltb}
use native.Mathlib.Omega.{arith}
use lib.ListN.{length}
use Rattle.words.specs.Grounds.{first}
use Rattle.words.specs.Choice.{when}
use Rattle.am9517.specs.Refusals.{numbered, refusal}
use Rattle.std.proofs.Common.{Ok}
use Rattle.am9517_sheet.specs.Sheet.{answer_of, stored}
use Rattle.am9517_sheet.proofs.write.Goals as goal

pub returns-then-not-valid : goal.returns-then-not-valid
unfolding answer_of numbered refusal first when
returns-then-not-valid c =
    let at-valid = c.before in let entry = at-valid.before.before in
    write_too entry.args.form entry.args.c entry.args.out.now _ (simp (sym at-valid.valid.ensures ∙ c.if-not-valid.true))

pub returns-then-out-sheet_size : goal.returns-then-out-sheet_size
unfolding answer_of numbered refusal first when
returns-then-out-sheet_size c =
    let at-sheet-size = c.before in let at-if1 = at-sheet-size.before in let at-valid = at-if1.before in let entry = at-valid.before.before in
    write_too entry.args.form entry.args.c entry.args.out.now _ (simp (sym at-valid.valid.ensures ∙ at-if1.if-not-valid.false, sym at-sheet-size.sheet_size.ensures, lt-ltb _ _ c.if-out-sheet_size.true))

pub returns-then-exceeds : goal.returns-then-exceeds
unfolding answer_of numbered refusal first when
returns-then-exceeds c =
    let at-exceeds = c.before in let at-if2 = at-exceeds.before in let at-sheet-size = at-if2.before in let at-if1 = at-sheet-size.before in
    let at-valid = at-if1.before in let entry = at-valid.before.before in
    write_too entry.args.form entry.args.c entry.args.out.now _ (simp (sym at-valid.valid.ensures ∙ at-if1.if-not-valid.false, sym at-sheet-size.sheet_size.ensures, le-ltb _ _ at-if2.if-out-sheet_size.false, sym at-exceeds.exceeds.ensures ∙ c.if-exceeds.true))

pub returns : goal.returns
returns c =
    let at-put = c.before.before in let at-if3 = at-put.before.before in let at-exceeds = at-if3.before in let at-if2 = at-exceeds.before in
    let at-sheet-size = at-if2.before in let at-if1 = at-sheet-size.before in let at-valid = at-if1.before in
    let entry = at-valid.before.before in
    write_too entry.args.form entry.args.c entry.args.out.now _ (ap (stored (Ok tt)) at-put.put.ensures
    ∙ sym (write_done entry.args.form entry.args.c entry.args.out.now (write_free entry.args.form entry.args.c (length entry.args.out.now) (sym at-valid.valid.ensures ∙ at-if1.if-not-valid.false) (omega (arith, at-sheet-size.sheet_size.ensures, at-if2.if-out-sheet_size.false)) (sym at-exceeds.exceeds.ensures ∙ at-if3.if-exceeds.false))))

use Prim.Native.Nat.{◌-◌}
use mathlib.Core.Path.{sym, ◌∙◌}
use lib.ListN.{length}
use Rattle.std.proofs.lemmas.Result.{err_from_is_err_and}
use Rattle.am9517_sheet.specs.Form.{sheet_size}
use Rattle.words.proofs.PartLaws.{tail_all}
use Rattle.am9517_sheet.proofs.SheetLaws.{trailer_bad, state_bad, state_good}
use Rattle.am9517_sheet.proofs.sheet.found.Goals as goal

pub returns-in_err-check_trailer : goal.returns-in_err-check_trailer
returns-in_err-check_trailer c =
    let bytes = c.args.bytes.now in let at = length bytes - sheet_size c.args.form in
    let p = err_from_is_err_and c.from_residual.result c.from_residual.ensures.1 in
    rw (p.1, p.2) (trailer_bad c.args.form bytes _ (sym c.in_err-check_trailer.was ∙ rw (c.sheet_size.ensures, tail_all at bytes) at c.check_trailer.ensures))

pub returns-then-not-valid : goal.returns-then-not-valid
returns-then-not-valid c =
    let bytes = c.args.bytes.now in let at = length bytes - sheet_size c.args.form in
    state_bad c.args.form bytes _ (sym c.in_ok-check_trailer.was ∙ rw (c.sheet_size.ensures, tail_all at bytes) at c.check_trailer.ensures) (rw (c.sheet_size.ensures, tail_all at bytes) at c.state_in-told.ensures) (sym c.valid.ensures ∙ c.if-not-valid.true)

pub returns : goal.returns
returns c =
    let bytes = c.args.bytes.now in let at = length bytes - sheet_size c.args.form in
    state_good c.args.form bytes _ (sym c.in_ok-check_trailer.was ∙ rw (c.sheet_size.ensures, tail_all at bytes) at c.check_trailer.ensures) (rw (c.sheet_size.ensures, tail_all at bytes) at c.state_in-told.ensures) (sym c.valid.ensures ∙ c.if-not-valid.false)

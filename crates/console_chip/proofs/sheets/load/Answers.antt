use Rattle.console_chip.specs.Answers.{numbered, error_reply, saying}
use Rattle.console_chip.specs.Sheets.{read_sheet}
use Rattle.console_chip.proofs.SheetLaws.{by_bytes}
use Rattle.am9517_sheet.specs.Sheet.{sheet_read_of}
use Rattle.std.proofs.Common.{List, ℕ, ap, ◌∙◌}
use Rattle.console_chip.proofs.sheets.load.Goals as goal

pub returns-in_default : goal.returns-in_default
unfolding numbered
returns-in_default c =
    let s = c.args in
    let e = by_bytes _ _ _ (λ (b : List ℕ). read_sheet (sheet_read_of s.form s.c b)) (error_reply s.c) c.bytes_of.ensures in
    c.fault.ensures ∙ ap (saying _) (simp c.in_default.is at e)

pub returns : goal.returns
unfolding numbered
returns c =
    let s = c.args in
    let e = by_bytes _ _ _ (λ (b : List ℕ). read_sheet (sheet_read_of s.form s.c b)) (error_reply s.c) c.bytes_of.ensures in
    c.loaded.ensures ∙ ap (saying _) (ap read_sheet c.read-told.ensures.0 ∙ simp c.in-Some.is at e)

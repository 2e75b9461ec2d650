use Rattle.console_chip.specs.Answers.{numbered, error_reply, saying}
use Rattle.console_chip.specs.Sheets.{stored_reply}
use Rattle.console_chip.proofs.SheetLaws.{by_bytes}
use Rattle.am9517_sheet.specs.Convert.{convert_of}
use Rattle.std.proofs.Common.{List, ℕ, ap, ◌∙◌, arith, rules}
use Rattle.words.proofs.ChoiceLaws.{when_hit}
use borrow.Author.Tests.{le-leb}
use Rattle.console_chip.proofs.sheets.convert.Goals as goal

pub returns-in_default : goal.returns-in_default
unfolding numbered
returns-in_default c =
    let s = c.args in
    let e = by_bytes _ _ _ (λ (b : List ℕ). stored_reply (convert_of s.to b) s.c s.size.now) (error_reply s.c) c.bytes_of.ensures in
    c.fault.ensures ∙ ap (saying _) (simp c.in_default.is at e)

pub returns : goal.returns
unfolding numbered
returns c =
    let s = c.args in
    let e = by_bytes _ _ _ (λ (b : List ℕ). stored_reply (convert_of s.to b) s.c s.size.now) (error_reply s.c) c.bytes_of.ensures in
    c.stored.ensures (convert_of s.to c.in-Some.source.now) (λ s a t so. search rules) ∙ ap (saying _) (when_hit _ _ _ (le-leb 70000 70000 (omega arith)) ∙ simp c.in-Some.is at e)

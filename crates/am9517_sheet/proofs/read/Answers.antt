use mathlib.Core.Path.{sym, ◌∙◌}
use borrow.Author.Tests.{lt-ltb}
use native.Mathlib.Omega.{arith}
use Rattle.words.specs.Grounds.{first}
use Rattle.words.specs.Choice.{when}
use Rattle.am9517.specs.Refusals.{numbered, refusal}
use Rattle.am9517_sheet.specs.Sheet.{answer_of}
use Rattle.am9517_sheet.proofs.SheetLaws.{read_too, read_given, read_denied}
use Rattle.am9517_sheet.proofs.read.Goals as goal

pub returns-then-bytes-sheet_size : goal.returns-then-bytes-sheet_size
unfolding answer_of numbered refusal first when
returns-then-bytes-sheet_size c = read_too c.args.form c.args.c c.args.bytes.now _ (simp (sym c.sheet_size.ensures, lt-ltb _ _ c.if-bytes-sheet_size.true))

pub returns-in-Ok : goal.returns-in-Ok
returns-in-Ok c = read_too c.args.form c.args.c c.args.bytes.now _ (read_given c.args.form c.args.bytes.now (omega arith) c.args.c _ (sym c.in-Ok.is ∙ c.found.ensures))

pub returns-in-Err : goal.returns-in-Err
returns-in-Err c = read_too c.args.form c.args.c c.args.bytes.now _ (read_denied c.args.form c.args.bytes.now (omega arith) c.args.c _ (sym c.in-Err.is ∙ c.found.ensures))

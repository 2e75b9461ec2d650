use Rattle.console_chip.specs.Answers.{numbered}
use Rattle.console_arrays.specs.Services.{serving}
use Rattle.console_board.specs.Services.{board_run_service}
use Rattle.console_text.specs.Text.{page}
use mathlib.Core.Path.{sym, ap, ◌∙◌}
use Rattle.console_board.proofs.runs.run.Goals as goal

pub returns-in_default : goal.returns-in_default
unfolding numbered
returns-in_default c = simp (sym c.in_default.ensures) (c.unserved.ensures _ _)

pub returns-in_default-number_of : goal.returns-in_default-number_of
unfolding numbered
returns-in_default-number_of c = simp (sym c.in-Some.ensures, sym c.in_default-number_of.ensures) (c.unserved-in_default-number_of.ensures _ _)

pub returns : goal.returns
unfolding numbered board_run_service
returns c = simp (sym c.in-Some.ensures, sym c.in-Some-number_of.ensures) (c.run_served.ensures _ _ ∙ ap (λ g. serving (page c.args.out.now c.args.at) (board_run_service g)) c.run-ran.ensures.0)

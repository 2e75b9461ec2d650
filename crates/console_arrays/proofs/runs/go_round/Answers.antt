use Rattle.console_chip.specs.Answers.{numbered}
use Rattle.console_arrays.specs.Services.{serving, round_service}
use Rattle.console_text.specs.Text.{page}
use mathlib.Core.Path.{sym, ap, ◌∙◌}
use Rattle.console_arrays.proofs.runs.go_round.Goals as goal

pub returns-in_default : goal.returns-in_default
unfolding numbered
returns-in_default c = simp (sym c.in_default.ensures) (c.unserved.ensures _ _)

pub returns : goal.returns
unfolding numbered round_service
returns c = simp (sym c.in-Some.ensures) (c.round_served.ensures _ _ ∙ ap (λ g. serving (page c.args.out.now c.args.at) (round_service g)) c.round-done.ensures.0)

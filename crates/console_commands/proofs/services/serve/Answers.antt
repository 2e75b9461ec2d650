use Rattle.console_arrays.specs.Services.{serving}
use Rattle.words.proofs.ChoiceLaws.{when_hit}
use borrow.Author.Tests.{le-leb}
use mathlib.Core.Path.{ap, ◌∙◌}
use Rattle.console_commands.specs.Doings.{service_reply}
use Rattle.console_commands.proofs.services.serve.Goals as goal

pub returns-in-Run : goal.returns-in-Run
unfolding service_reply
returns-in-Run c =
    let at-run = c.before.before.before.before.before.before in let at-enum-told = at-run.before.before.before.before in
    simp c.in-Run.is at-run.run.ensures

pub returns-in-Round : goal.returns-in-Round
unfolding service_reply
returns-in-Round c =
    let at-go-round = c.before.before.before.before.before.before in let at-enum-told2 = at-go-round.before.before.before.before in
    simp c.in-Round.is at-go-round.go_round.ensures

pub returns-in-Judge : goal.returns-in-Judge
unfolding service_reply
returns-in-Judge c =
    let at-judge = c.before.before.before.before.before.before in let at-enum-told3 = at-judge.before.before.before.before in
    let at_pre = at-enum-told3.before.before.before.before.before.before.before.before.before in
    simp c.in-Judge.is (at-judge.judge.ensures _ ∙ ap (serving _) (when_hit _ _ _ (le-leb _ _ at_pre.requires)))

use mathlib.Core.Path.{◌∙◌, sym}
use Rattle.words.specs.Choice.{when}
use Rattle.words.specs.Grounds.{first}
use Rattle.am9517.specs.Refusals.{refusal}
use Rattle.c_board.proofs.calls.shown.Goals as goal

pub returns-then-valid : goal.returns-then-valid
unfolding refusal first when
returns-then-valid c = simp (sym c.before.valid.ensures ∙ c.if-valid.true)

pub returns : goal.returns
unfolding refusal first when
returns c = simp (sym c.before.valid.ensures ∙ c.if-valid.false)

use mathlib.Core.Path.{sym, ◌∙◌}
use Rattle.words.proofs.ChoiceLaws.{when_hit, when_miss}
use Rattle.am9517_service.specs.ClosedCopies.{restores}
use Rattle.am9517_service.proofs.copies.restores.Goals as goal

pub returns-then-autoinitialize : goal.returns-then-autoinitialize
unfolding restores
returns-then-autoinitialize c = sym (when_hit _ _ _ (sym c.before.before.autoinitialize.ensures ∙ c.before.if-autoinitialize.true))

pub returns : goal.returns
unfolding restores
returns c = sym (when_miss _ _ _ (sym c.before.autoinitialize.ensures ∙ c.if-autoinitialize.false))

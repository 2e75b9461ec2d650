use Rattle.console_commands.specs.Doings.{ending}
use Rattle.console_text.proofs.TextLaws.{put_none, put_one_lem}
use Rattle.words.specs.Choice.{when}
use borrow.Author.Tests.{eq-eqb, ne_eqb}
use mathlib.Core.Path.{sym, ◌∙◌}
use Rattle.console_commands.proofs.holding.newline.Goals as goal

pub returns-then-name-eq0 : goal.returns-then-name-eq0
unfolding ending when
returns-then-name-eq0 c = simp (eq-eqb _ _ c.if-name-eq0.true) (sym (put_none _))

pub returns : goal.returns
unfolding ending when
returns c = simp (ne_eqb _ _ c.before.before.before.before.if-name-eq0.false) (c.before.before.byte.ensures ∙ sym (put_one_lem _ _))

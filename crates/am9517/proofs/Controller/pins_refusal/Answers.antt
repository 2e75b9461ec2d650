use mathlib.Core.Path.{sym}
use borrow.Author.Tests.{lt-ltb, le-ltb}
use Rattle.words.specs.Grounds.{first}
use Rattle.words.specs.Choice.{when}
use Rattle.am9517.specs.Refusals.{refusal, numbered, refused}
use Rattle.am9517.proofs.Controller.pins_refusal.Goals as goal

pub returns-then-not-valid : goal.returns-then-not-valid
unfolding refused numbered refusal first when
returns-then-not-valid c = simp (sym c.valid.ensures, c.if-not-valid.true)

pub returns-then-levels-gt15 : goal.returns-then-levels-gt15
unfolding refused numbered refusal first when
returns-then-levels-gt15 c = simp (sym c.valid.ensures, c.if-not-valid.false, lt-ltb _ _ c.if-levels-gt15.true)

pub returns : goal.returns
unfolding refused numbered refusal first when
returns c = simp (sym c.valid.ensures, c.if-not-valid.false, le-ltb _ _ c.if-levels-gt15.false)

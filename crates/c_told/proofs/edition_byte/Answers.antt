use borrow.Author.Tests.{lt-ltb, le-ltb}
use Rattle.words.specs.Choice.{when}
use Rattle.c_told.specs.Numbers.{edition_byte}
use Rattle.c_told.proofs.edition_byte.Goals as goal

pub returns-then-edition-gt255 : goal.returns-then-edition-gt255
unfolding edition_byte when
returns-then-edition-gt255 c = simp (lt-ltb _ _ c.if-edition-gt255.true)

pub returns : goal.returns
unfolding edition_byte when
returns c = simp (le-ltb _ _ c.if-edition-gt255.false)

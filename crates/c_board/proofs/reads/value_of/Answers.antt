use Rattle.words.specs.Choice.{when}
use Rattle.words.specs.Grounds.{first}
use Rattle.am9517.specs.Registers.{value, port_read}
use Rattle.am9517.specs.Serving.{status}
use borrow.Author.Tests.{lt-ltb, le-ltb, ne_eqb}
use Rattle.c_board.proofs.reads.value_of.Goals as goal

pub returns-then-reg-lt8 : goal.returns-then-reg-lt8
unfolding value port_read first when
returns-then-reg-lt8 c =
    let at-byte-of = c.before in let at-word = at-byte-of.before.before in let at-if1 = at-word.before in
    simp (lt-ltb _ _ at-if1.if-reg-lt8.true, c.wide.ensures.0, at-byte-of.byte_of.ensures, at-word.word.ensures)

pub returns-then-reg-eq8 : goal.returns-then-reg-eq8
unfolding value status first when
returns-then-reg-eq8 c =
    let at-requesting-set = c.before in let at-wide2 = at-requesting-set.before in let at-if2 = at-wide2.before in
    rw at-if2.if-reg-eq8.true (simp (c.wide-then-reg-eq8-2.ensures.0, at-requesting-set.requesting_set.ensures, at-wide2.wide-then-reg-eq8.ensures.0))

pub returns : goal.returns
unfolding value first when
returns c = simp (le-ltb _ _ c.before.before.if-reg-lt8.false, ne_eqb _ _ c.before.if-reg-eq8.false, c.wide-2.ensures.0)

use borrow.Author.Tests.{eq-eqb, ne_eqb}
use Rattle.words.specs.Grounds.{first}
use Rattle.words.specs.Choice.{when}
use Rattle.am9517.specs.Refusals.{numbered, refusal}
use Rattle.am9517_sheet.specs.Sheet.{answer_of}
use Rattle.am9517_sheet.proofs.trailer.check_trailer.Goals as goal

pub returns-then-word-ne19780 : goal.returns-then-word-ne19780
unfolding answer_of numbered refusal first when
returns-then-word-ne19780 c = rw (← c.body_size-size.ensures, ← c.word.ensures) (simp (ne_eqb _ _ c.if-word-ne19780.true))

pub returns-then-word-number : goal.returns-then-word-number
unfolding answer_of numbered refusal first when
returns-then-word-number c =
    rw (← c.number.ensures, ← c.body_size-size.ensures, ← c.word.ensures, ← c.word-2.ensures) (simp (eq-eqb _ _ c.if-word-ne19780.false, ne_eqb _ _ c.if-word-number.true))

pub returns-then-word-size : goal.returns-then-word-size
unfolding answer_of numbered refusal first when
returns-then-word-size c =
    rw (← c.number.ensures, ← c.body_size-size.ensures, ← c.word.ensures, ← c.word-2.ensures, ← c.word-3.ensures)
    (simp (eq-eqb _ _ c.if-word-ne19780.false, eq-eqb _ _ c.if-word-number.false, ne_eqb _ _ c.if-word-size.true))

pub returns-then-word-sum : goal.returns-then-word-sum
unfolding answer_of numbered refusal first when
returns-then-word-sum c =
    rw (← c.sum.ensures, ← c.number.ensures, ← c.body_size-size.ensures, ← c.word.ensures, ← c.word-2.ensures, ← c.word-3.ensures, ← c.word-4.ensures)
    (simp (eq-eqb _ _ c.if-word-ne19780.false, eq-eqb _ _ c.if-word-number.false, eq-eqb _ _ c.if-word-size.false, ne_eqb _ _ c.if-word-sum.true))

pub returns : goal.returns
unfolding answer_of numbered refusal first when
returns c =
    rw (← c.sum.ensures, ← c.number.ensures, ← c.body_size-size.ensures, ← c.word.ensures, ← c.word-2.ensures, ← c.word-3.ensures, ← c.word-4.ensures)
    (simp (eq-eqb _ _ c.if-word-ne19780.false, eq-eqb _ _ c.if-word-number.false, eq-eqb _ _ c.if-word-size.false, eq-eqb _ _ c.if-word-sum.false))

use mathlib.Core.Path.{sym}
use borrow.Author.Tests.{lt-ltb, le-ltb, eq-eqb, ne_eqb}
use Rattle.words.specs.Grounds.{first}
use Rattle.words.specs.Choice.{when}
use Rattle.am9517.specs.Refusals.{refusal, numbered, refused}
use Rattle.am9517.proofs.Controller.write_refusal.Goals as goal

pub returns-then-not-valid : goal.returns-then-not-valid
unfolding refused numbered refusal first when
returns-then-not-valid c = simp (sym c.valid.ensures, c.if-not-valid.true)

pub returns-then-reg-gt15 : goal.returns-then-reg-gt15
unfolding refused numbered refusal first when
returns-then-reg-gt15 c = simp (sym c.valid.ensures, c.if-not-valid.false, lt-ltb _ _ c.if-reg-gt15.true)

pub returns-then-self-ne0 : goal.returns-then-self-ne0
unfolding refused numbered refusal first when
returns-then-self-ne0 c = simp (sym c.valid.ensures, c.if-not-valid.false, le-ltb _ _ c.if-reg-gt15.false, ne_eqb _ _ c.if-self-ne0.true)

pub returns-then-unwritable : goal.returns-then-unwritable
unfolding refused numbered refusal first when
returns-then-unwritable c =
    simp (sym c.valid.ensures, c.if-not-valid.false, le-ltb _ _ c.if-reg-gt15.false, eq-eqb _ _ c.if-self-ne0.false, sym c.is_intel.ensures, c.if-unwritable.true)

pub returns-then-no_mode : goal.returns-then-no_mode
unfolding refused numbered refusal first when
returns-then-no_mode c =
    simp (sym c.valid.ensures, c.if-not-valid.false, le-ltb _ _ c.if-reg-gt15.false, eq-eqb _ _ c.if-self-ne0.false, sym c.is_intel.ensures, c.if-unwritable.false, sym c.mode_refused.ensures, c.if-no_mode.true)

pub returns : goal.returns
unfolding refused numbered refusal first when
returns c =
    simp (sym c.valid.ensures, c.if-not-valid.false, le-ltb _ _ c.if-reg-gt15.false, eq-eqb _ _ c.if-self-ne0.false, sym c.is_intel.ensures, c.if-unwritable.false, sym c.mode_refused.ensures, c.if-no_mode.false)

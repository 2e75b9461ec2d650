use mathlib.Core.Path.{sym}
use native.Mathlib.Omega.{arith}
use borrow.Author.Tests.{lt-ltb, le-ltb, lt-leb, le-leb, eq-eqb, ne_eqb}
use Rattle.words.specs.Grounds.{first}
use Rattle.words.specs.Choice.{when}
use Rattle.am9517.specs.Refusals.{refusal, numbered, refused}
use Rattle.am9517.proofs.Controller.read_refusal.Goals as goal

pub returns-then-not-valid : goal.returns-then-not-valid
unfolding refused numbered refusal first when
returns-then-not-valid c = simp (sym c.before.valid.ensures, c.if-not-valid.true)

pub returns-then-reg-gt15 : goal.returns-then-reg-gt15
unfolding refused numbered refusal first when
returns-then-reg-gt15 c =
    let at-if1 = c.before in let at-valid = at-if1.before in
    simp (sym at-valid.valid.ensures, at-if1.if-not-valid.false, lt-ltb _ _ c.if-reg-gt15.true)

pub returns-then-self-ne0 : goal.returns-then-self-ne0
unfolding refused numbered refusal first when
returns-then-self-ne0 c =
    let at-if2 = c.before.before in let at-if1 = at-if2.before in let at-valid = at-if1.before in
    simp (sym at-valid.valid.ensures, at-if1.if-not-valid.false, le-ltb _ _ at-if2.if-reg-gt15.false, ne_eqb _ _ c.if-self-ne0.true)

pub returns-then-reg-le8 : goal.returns-then-reg-le8
unfolding refused numbered refusal first when
returns-then-reg-le8 c =
    let at-if3 = c.before in let at-if2 = at-if3.before.before in let at-if1 = at-if2.before in let at-valid = at-if1.before in
    let entry = at-valid.before in
    simp (sym at-valid.valid.ensures, at-if1.if-not-valid.false, le-ltb _ _ at-if2.if-reg-gt15.false, eq-eqb _ _ at-if3.if-self-ne0.false, lt-leb 9 entry.args.reg (omega (arith, c.if-reg-le8.true)))

pub returns-then-reg-ne13 : goal.returns-then-reg-ne13
unfolding refused numbered refusal first when
returns-then-reg-ne13 c =
    let at-if4 = c.before in let at-if3 = at-if4.before in let at-if2 = at-if3.before.before in let at-if1 = at-if2.before in
    let at-valid = at-if1.before in
    simp (sym at-valid.valid.ensures, at-if1.if-not-valid.false, le-ltb _ _ at-if2.if-reg-gt15.false, eq-eqb _ _ at-if3.if-self-ne0.false, le-leb _ _ at-if4.if-reg-le8.false, ne_eqb _ _ c.if-reg-ne13.true)

pub returns : goal.returns
unfolding refused numbered refusal first when
returns c =
    let at-if4 = c.before in let at-if3 = at-if4.before in let at-if2 = at-if3.before.before in let at-if1 = at-if2.before in
    let at-valid = at-if1.before in
    simp (sym at-valid.valid.ensures, at-if1.if-not-valid.false, le-ltb _ _ at-if2.if-reg-gt15.false, eq-eqb _ _ at-if3.if-self-ne0.false, le-leb _ _ at-if4.if-reg-le8.false, eq-eqb _ _ c.if-reg-ne13.false)

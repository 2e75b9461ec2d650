use mathlib.Core.Path.{refl, ap, ◌∙◌}
use mathlib.Core.Bool.{not}
use Rattle.words.specs.Choice.{when}
use Rattle.am9517.specs.Refusals.{numbered, refused}
use Rattle.c_board.proofs.ReadLaws.{each_asked, both_asked, number_asked, service_asked, register_asked, register_refused}
use Rattle.c_board.proofs.reads.read_refusal.Goals as goal

pub returns-then-not-each : goal.returns-then-not-each
unfolding refused numbered when
returns-then-not-each c = ap refused (each_asked c.args.b c.args.register _ _ _ c.valid.ensures c.valid-2.ensures (ap not c.if-not-each.true))

pub returns-then-b : goal.returns-then-b
unfolding refused numbered when
returns-then-b c = ap refused (both_asked c.args.b c.args.register _ c.if-b.true)

pub returns-then-register-gt31 : goal.returns-then-register-gt31
unfolding refused numbered when
returns-then-register-gt31 c =
    ap refused (number_asked c.args.b c.args.register _ _ _ c.valid.ensures c.valid-2.ensures (ap not c.if-not-each.false) c.if-b.false c.if-register-gt31.true)

pub returns-then-b-2 : goal.returns-then-b-2
unfolding refused numbered when
returns-then-b-2 c =
    ap refused (service_asked c.args.b c.args.register _ _ _ c.valid.ensures c.valid-2.ensures (ap not c.if-not-each.false) c.if-b.false c.if-register-gt31.false c.if-b-2.true)

pub returns : goal.returns
returns c =
    c.when.ensures ∙ register_refused _
    ∙ ap refused (register_asked c.args.b c.args.register _ _ _ c.valid.ensures c.valid-2.ensures (ap not c.if-not-each.false) c.if-b.false c.if-register-gt31.false c.if-b-2.false refl)

use mathlib.Core.Path.{sym}
use Rattle.words.specs.Grounds.{first}
use Rattle.words.specs.Choice.{when}
use Rattle.am9517.specs.Refusals.{refusal, numbered, refused, waits_grounds}
use Rattle.am9517.proofs.RefusalLaws.{refused_is}
use Rattle.am9517.proofs.Controller.waits_refusal.Goals as goal

pub returns-then-not-valid : goal.returns-then-not-valid
unfolding refused numbered refusal first when
returns-then-not-valid c = simp (sym c.valid.ensures, c.if-not-valid.true)

pub returns : goal.returns
unfolding refused numbered first when
returns c = rw (refused_is (waits_grounds c.args.self)) (simp (c.when.ensures, sym c.valid.ensures, c.if-not-valid.false))

use Rattle.words.specs.Grounds.{first}
use Rattle.am9517.specs.Refusals.{numbered, refused, reset_grounds}
use Rattle.words.specs.Choice.{when}
use Rattle.am9517.proofs.RefusalLaws.{refused_is}
use Rattle.am9517.proofs.Controller.reset_refusal.Goals as goal

pub returns : goal.returns
unfolding first refused numbered when
returns c = simp (refused_is (reset_grounds c.args.self), c.when.ensures, c.before.valid.ensures)

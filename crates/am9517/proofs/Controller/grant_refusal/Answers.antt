use Rattle.words.specs.Grounds.{first}
use Rattle.am9517.specs.Refusals.{numbered, refused, grant_grounds}
use Rattle.words.specs.Choice.{when}
use Rattle.am9517.proofs.RefusalLaws.{refused_is}
use Rattle.am9517.proofs.Controller.grant_refusal.Goals as goal

pub returns : goal.returns
unfolding first refused numbered when
returns c =
    let at-valid = c.before in let at-when2 = at-valid.before in let at-when = at-when2.before.before in let at_pre = at-when.before in
    simp (refused_is (grant_grounds c.args.self), c.when.ensures, at-when2.when-refusal-2.ensures, at-when.when-refusal.ensures, at-valid.valid.ensures, at_pre.requires)

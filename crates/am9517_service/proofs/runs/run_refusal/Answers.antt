use Rattle.words.specs.Grounds.{first}
use Rattle.words.specs.Choice.{when}
use Rattle.am9517.specs.Refusals.{numbered, refused}
use Rattle.am9517.proofs.RefusalLaws.{refused_is}
use Rattle.am9517_service.specs.Answers.{run_grounds}
use Rattle.am9517_service.proofs.runs.run_refusal.Goals as goal

pub returns : goal.returns
unfolding first refused numbered when
returns c =
    simp (refused_is (run_grounds c.args.c c.args.memory.now), c.when.ensures, c.when-refusal-2.ensures, c.when-refusal.ensures, c.valid.ensures)

use mathlib.Core.Path.{ap}
use lib.ListN.{length}
use Rattle.c_am9517.specs.Host.{judge_call_of}
use Rattle.c_am9517.proofs.calls.judge.Goals as goal

pub returns : goal.returns
returns c =
    let at-judge = c.before.before.before.before in let entry = at-judge.before.before.before.before in
    rw c.judge_told_of-said.ensures (ap (judge_call_of (length entry.args.log.now)) at-judge.judge-judged.ensures.0)

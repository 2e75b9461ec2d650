use mathlib.Core.Path.{refl, sym, ◌∙◌}
use Rattle.board.proofs.RefusalLaws.{free}
use Rattle.board.proofs.RunLaws.{refused_run, ran_is}
use Rattle.board.proofs.runs.run.Goals as goal

pub returns-in-Some : goal.returns-in-Some
returns-in-Some c = refused_run c.args.b _ _ _ _ _ _ (sym c.run_refusal.ensures ∙ c.in-Some.is) _ c.no_counts.ensures

pub returns : goal.returns
returns c =
    ran_is c.args.b _ _ _ _ _ _ refl (free _ c.run_refusal.result c.run_refusal.ensures c.in_default.not-Some) _ c.server-which.ensures _ c.chip_of-c.ensures _ _ _ c.run-ran.ensures.0 c.run-ran.ensures.1 _ c.ran_on.ensures

use mathlib.Core.Path.{◌∙◌, sym, ap}
use lib.ListN.{length}
use Rattle.logs.specs.Answers.{told}
use Rattle.am9517.proofs.RefusalLaws.{free}
use Rattle.logs.proofs.AnswerLaws.{stated, refused_by, found_by, flowing_in, here, still_by}
use borrow.Author.Rules.{rules}
use Rattle.logs.proofs.judging.judge.Goals as goal

pub returns-in-Some : goal.returns-in-Some
returns-in-Some c = stated _ _ _ _ _ (refused_by _ _ _ _ (sym c.run_refusal.ensures ∙ c.in-Some.is))

pub flows-requires : goal.flows-requires
flows-requires c =
    let e = free _ c.run_refusal.result c.run_refusal.ensures c.in_default.not-Some in (search rules, here c.args.c c.args.memory.now c.args.log.now e)

pub returns-then-not-flows : goal.returns-then-not-flows
returns-then-not-flows c =
    let e = free _ c.run_refusal.result c.run_refusal.ensures c.in_default.not-Some in let c₀ = c.args.c in let log = c.args.log.now in stated _ _ _ _ _ (c.told.ensures _ ∙ ap (told (length log)) (still_by c₀ _ log e (sym c.flows.ensures ∙ c.if-not-flows.true)) ∙ found_by c₀ _ log e)

pub pass-p-requires : goal.pass-p-requires
pass-p-requires c =
    let e = free _ c.run_refusal.result c.run_refusal.ensures c.in_default.not-Some in let c₀ = c.args.c in let m = c.args.memory.now in let log = c.args.log.now in (here c₀ m log e, flowing_in c₀ m log e (sym c.flows.ensures ∙ c.if-not-flows.false))

pub finish-requires : goal.finish-requires
finish-requires c =
    let e = free _ c.run_refusal.result c.run_refusal.ensures c.in_default.not-Some in (here c.args.c c.args.memory.now c.args.log.now e ∙ sym c.pass-p.ensures.serving, c.pass-p.ensures.rest)

pub returns : goal.returns
returns c =
    let e = free _ c.run_refusal.result c.run_refusal.ensures c.in_default.not-Some in let c₀ = c.args.c in let log = c.args.log.now in stated _ _ _ _ _ (c.finish.ensures ∙ ap (told (length log)) (sym c.pass-p.ensures.left) ∙ found_by c₀ _ log e)

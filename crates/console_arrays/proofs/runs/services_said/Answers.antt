use Rattle.console_arrays.proofs.ServiceLaws.{services_none, services_some}
use Rattle.console_text.specs.Text.{page, put}
use Rattle.console_text.proofs.TextLaws.{put_both}
use Rattle.words.proofs.PartLaws.{tail_all}
use Rattle.std.proofs.Common.{ap, ◌∙◌}
use Rattle.console_arrays.proofs.runs.services_said.Goals as goal

pub returns-then-services-eq0 : goal.returns-then-services-eq0
returns-then-services-eq0 c =
    c.text-next.ensures ∙ ap (put (page c.args.out.now c.args.at)) (services_none _ c.if-services-eq0.true)

pub returns : goal.returns
returns c =
    put_both _ _ _ _ _ (put_both _ _ _ _ _ c.text-next.ensures c.decimal-next.ensures) (rw (tail_all 1 c.args.services.now) at c.behind_commas.ensures)
    ∙ ap (put (page c.args.out.now c.args.at)) (services_some _ c.if-services-eq0.false)

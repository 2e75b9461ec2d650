use Rattle.am9517_sheet.proofs.BodyLaws.{body_sum}
use Rattle.am9517_sheet.specs.Form.{channels_at}
use Rattle.words.proofs.PartLaws.{tail_all}
use native.Mathlib.Omega.{arith}
use Rattle.am9517_sheet.proofs.bytes.sum.Goals as goal

pub overflow_add-result-3 : goal.overflow_add-result-3
overflow_add-result-3 c =
    let at-sixteen2 = c.before in let at-sixteen = at-sixteen2.before in let at-front-sum = at-sixteen.before in
    omega (arith, at-front-sum.front_sum.ensures.1, at-sixteen.sixteen.ensures.1, at-sixteen2.sixteen-2.ensures.1, c.sixteen-3.ensures.1)

pub returns : goal.returns
returns c =
    let at-sixteen2 = c.before in let at-sixteen = at-sixteen2.before in let at-front-sum = at-sixteen.before in
    let at-channels-at = at-front-sum.before.before in let entry = at-channels-at.before.before in
    simp (at-front-sum.front_sum.ensures.0, at-sixteen.sixteen.ensures.0, at-sixteen2.sixteen-2.ensures.0, c.sixteen-3.ensures.0, at-channels-at.channels_at-at.ensures, tail_all (channels_at entry.args.form) entry.args.b.now) (body_sum entry.args.form entry.args.b.now entry.requires)

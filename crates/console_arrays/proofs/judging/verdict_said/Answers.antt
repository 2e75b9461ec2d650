use mir.Syntax.{w32}
use mir.Val.{SFits}
use Rattle.std.proofs.Common.{rules}
use Rattle.std.proofs.lemmas.Int.{to_z-of_z}
use Rattle.console_text.proofs.TextLaws.{put_both}
use Rattle.console_arrays.specs.Judging.{verdict_text}
use Rattle.console_arrays.proofs.judging.verdict_said.Goals as goal

pub returns-in-Accepted : goal.returns-in-Accepted
unfolding verdict_text
returns-in-Accepted c = simp c.in-Accepted.is (put_both _ _ _ _ _ c.text-next.ensures c.decimal.ensures)

pub returns-in-Wrong : goal.returns-in-Wrong
unfolding verdict_text
returns-in-Wrong c =
    let fits : SFits w32 c.in-Wrong.error = search rules in
    let error = to_z-of_z w32 c.in-Wrong.error fits in
    simp c.in-Wrong.is (put_both _ _ _ _ _ (put_both _ _ _ _ _ (put_both _ _ _ _ _ c.text-next-in-Wrong.ensures c.decimal-next.ensures) c.text-next-in-Wrong-2.ensures) (rw error at c.signed.ensures))

pub returns-in-Refused : goal.returns-in-Refused
unfolding verdict_text
returns-in-Refused c = simp c.in-Refused.is c.refused.ensures

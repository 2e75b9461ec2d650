use Rattle.console_text.proofs.TextLaws.{put_both}
use Rattle.console_arrays.specs.Services.{counts_text}
use Rattle.console_arrays.proofs.runs.counts_said.Goals as goal

pub returns : goal.returns
unfolding counts_text
returns c = put_both _ _ _ _ _ (put_both _ _ _ _ _ (put_both _ _ _ _ _ (put_both _ _ _ _ _ (put_both _ _ _ _ _ (put_both _ _ _ _ _ (put_both _ _ _ _ _ c.text-next.ensures c.decimal-next.ensures) c.text-next-2.ensures) c.decimal-next-2.ensures) c.text-next-3.ensures) c.decimal-next-3.ensures) c.text-next-4.ensures) c.decimal.ensures

use Rattle.console_text.proofs.TextLaws.{put_both}
use Rattle.console_arrays.proofs.runs.behind_comma.Goals as goal

pub returns : goal.returns
returns c = put_both _ _ _ _ _ c.text-next.ensures c.decimal.ensures

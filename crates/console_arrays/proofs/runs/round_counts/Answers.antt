use Rattle.console_text.proofs.TextLaws.{put_both}
use Rattle.console_arrays.proofs.runs.round_counts.Goals as goal

pub returns : goal.returns
returns c = put_both _ _ _ _ _ c.services_said-next.ensures c.counts_said.ensures

use Rattle.std.proofs.Common.{rules}
use Rattle.console_files.proofs.PageLaws.{put_within}
use Rattle.console_files.proofs.page.Page.text.Goals as goal

pub invariant_of-self : goal.invariant_of-self
invariant_of-self g c = let w = put_within _ _ _ _ _ c.text-self.ensures (search rules) in record { within = search rules }

use Rattle.std.proofs.Common.{arith}
use Rattle.std.proofs.lemmas.Grind.{common_steps}
use Rattle.console_files.proofs.PageLaws.{put_within}
use Rattle.console_files.proofs.write.put_file.Goals as goal

pub slice_bounds-write_file-end : goal.slice_bounds-write_file-end
slice_bounds-write_file-end g c = put_within _ _ _ _ _ c.store-n.ensures (omega arith)

pub slice_bounds-write_file-end-2 : goal.slice_bounds-write_file-end-2
slice_bounds-write_file-end-2 g c = let h = slice_bounds-write_file-end g c in grind (arith, common_steps)

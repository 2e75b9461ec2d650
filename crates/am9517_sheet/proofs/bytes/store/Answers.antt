use mathlib.Core.Path.{refl, ◌∙◌}
use native.Mathlib.Omega.{arith}
use lib.ListN.{length}
use Rattle.std.proofs.lemmas.Slice.{put_mid-paste}
use Rattle.am9517_sheet.proofs.BytesLaws.{placed_all}
use Rattle.am9517_sheet.proofs.bytes.store.Goals as goal

pub returns : goal.returns
returns c =
    let out = c.args.out.now in let piece = c.args.piece.now in
    (put_mid-paste c.args.at _ out _ piece (length piece) c.copy_from_slice.ensures.after (omega arith) refl ∙ placed_all out c.args.at piece, refl)

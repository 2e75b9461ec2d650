use Prim.Native.Nat.{ℕ, ◌-◌}
use mathlib.Core.Path.{ap, ◌∙◌}
use native.Mathlib.Omega.{arith}
use lib.ListN.{length}
use Rattle.am9517_sheet.specs.Bytes.{placed}
use Rattle.am9517_sheet.specs.Body.{body_of}
use Rattle.am9517_sheet.specs.Sheet.{sheet_of}
use Rattle.am9517_sheet.proofs.BodyLaws.{body_length}
use Rattle.am9517_sheet.proofs.TrailerLaws.{sealed}
use Rattle.am9517_sheet.proofs.sheet.put_in.Goals as goal

pub returns : goal.returns
returns c =
    let at-store-trailer = c.before.before in let at-store-body = at-store-trailer.before.before.before.before in
    let at-sheet-size = at-store-body.before.before in let entry = at-sheet-size.before.before in
    sealed entry.args.form (body_of entry.args.form entry.args.c) entry.args.out.now _ _ (length entry.args.out.now - at-sheet-size.sheet_size.result) (omega (arith, at-sheet-size.sheet_size.ensures, entry.requires)) (body_length entry.args.form entry.args.c) at-store-body.store_body.ensures at-store-trailer.store_trailer.ensures
    ∙ ap (λ (k : ℕ). placed entry.args.out.now (length entry.args.out.now - k) (sheet_of entry.args.form entry.args.c)) at-sheet-size.sheet_size.ensures

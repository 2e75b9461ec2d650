use Rattle.console_text.specs.Text.{page, put}
use Rattle.console_chip.proofs.SheetLaws.{sheet_told}
use Rattle.std.proofs.Common.{◌≡◌, ℕ, ap, ◌∙◌}
use lib.Seq.{length-take-le}
use lib.ListN.{replicate}
use Rattle.console_chip.proofs.sheets.stored_said.Goals as goal

pub returns : goal.returns
returns g c =
    λ stores so.
    let filled : c.fill.new.self ≡ replicate c.args.n 238 = c.fill.ensures.after (λ y e. e) ∙ ap (λ (k : ℕ). replicate k 238) (length-take-le c.args.n c.args.spare.now c.requires.fits) in
    c.sheet_said.ensures ∙ ap (put (page c.args.out.now c.args.at)) (sheet_told stores c.args.n _ _ _ filled (so _ _ _ c.store-answer.ensures))

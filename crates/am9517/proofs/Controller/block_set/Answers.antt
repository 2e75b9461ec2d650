use Rattle.am9517.specs.Serving.{set_of}
use Rattle.am9517.proofs.Controller.block_set.Goals as goal

pub returns : goal.returns
unfolding set_of
returns c =
    let at-is-block4 = c.before in let at-is-block3 = at-is-block4.before in let at-is-block2 = at-is-block3.before in
    let at-is-block = at-is-block2.before in
    simp (c.set_of.ensures, at-is-block.is_block.ensures, at-is-block2.is_block-2.ensures, at-is-block3.is_block-3.ensures, at-is-block4.is_block-4.ensures)

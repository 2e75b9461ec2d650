use mathlib.Core.Bool.{◌&&◌}
use mathlib.Core.List.{[], ◌∷◌}
use mathlib.Core.Path.{refl}
use lib.Dec.{eqb}
use Rattle.std.proofs.Common.{None, rules}
use Rattle.words.specs.Grounds.{◌if◌}
use Rattle.am9517.specs.Modes.{mode_refused}
use Rattle.am9517.specs.Refusals.{unwritable}
use Rattle.am9517.specs.Registers.{after_write}
use Rattle.board.specs.Chips.{own}
use Rattle.board.specs.Refusals.{board_write_grounds}
use Rattle.board.proofs.OutcomeLaws.{grounds_stated}
use Rattle.board.proofs.Board.write.Goals as goal

pub returns : goal.returns
returns c =
    let r = c.args.reg in
    let byte = c.args.byte in
    grounds_stated _ (board_write_grounds c.args.self r byte) _ _ None refl
    (c.accessed.ensures (λ k. 4 if unwritable k.edition (own r) ∷ 5 if (eqb (own r) 0xB && mode_refused byte) ∷ []) (λ k. after_write k (own r) byte) (λ k. None) (λ o does. search rules))

use mathlib.Core.List.{[], ◌∷◌}
use mathlib.Core.Path.{refl}
use Rattle.std.proofs.Common.{Some, rules}
use Rattle.words.specs.Grounds.{◌if◌}
use Rattle.am9517.specs.Refusals.{unreadable}
use Rattle.am9517.specs.Registers.{after_read, value}
use Rattle.board.specs.Chips.{own}
use Rattle.board.specs.Refusals.{board_read_grounds}
use Rattle.board.proofs.OutcomeLaws.{grounds_stated}
use Rattle.board.proofs.Board.read.Goals as goal

pub returns : goal.returns
returns c =
    let r = c.args.reg in
    grounds_stated _ (board_read_grounds c.args.self r) _ _ (Some _) refl
    (c.accessed.ensures (λ k. 4 if unreadable (own r) ∷ []) (λ k. after_read k (own r)) (λ k. Some (value k (own r))) (λ o does. search rules))

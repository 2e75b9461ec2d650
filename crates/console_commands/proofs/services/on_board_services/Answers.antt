use Rattle.console_arrays.specs.Services.{Service}
use Rattle.board.specs.declared.Board.{Board}
use Rattle.console_commands.proofs.HoldingLaws.{served_standing}
use Rattle.console_commands.proofs.ServedLaws.{service_so}
use Rattle.console_commands.specs.declared.Console.{Console}
use Rattle.console_board.specs.Commands.{board_service_reply}
use Rattle.console_commands.specs.Needs.{with_board}
use Rattle.console_arrays.proofs.ArrayLaws.{held_length}
use mathlib.Core.List.{List}
use mathlib.Core.Path.{ap, ◌∙◌}
use Prim.Native.Nat.{ℕ}
use Rattle.console_commands.proofs.services.on_board_services.Goals as goal

pub returns : goal.returns
returns c =
    let s = c.args in
    let stood = c.requires in
    let size = c.serve_board-done.auto.room ∙ held_length s.room.now s.console.written s.console.size stood.roomed.inside in
    let asked : List ℕ → List ℕ → List ℕ → Service Board = λ (m d r : List ℕ). board_service_reply s.command s.console.board m d r s.one.now s.two.now in
    let next = ap (λ (x : Console). with_board x c.serve_board-done.result.next) c.after_service-next.ensures in
    (service_so s.console s.memory.now s.queue.now s.room.now stood (λ (x : Board). s.console.controller) (λ (x : Board). x) asked _ c.serve_board-done.result.next c.serve_board-done.result.used c.serve_board-done.result.written c.serve_board-done.new.memory c.serve_board-done.new.room _ _ c.serve_board-done.ensures size _ next, served_standing s.console _ _ _ stood _ _ _ _ _ next)

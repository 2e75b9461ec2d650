use Rattle.console_arrays.specs.Services.{Service}
use Rattle.am9517.specs.declared.Controller.{Controller}
use Rattle.console_commands.proofs.HoldingLaws.{served_standing}
use Rattle.console_commands.proofs.ServedLaws.{service_so}
use Rattle.console_commands.specs.declared.Console.{Console}
use Rattle.console_commands.specs.Doings.{service_reply}
use Rattle.console_commands.specs.Needs.{with_controller}
use Rattle.console_arrays.proofs.ArrayLaws.{held_length}
use mathlib.Core.List.{List}
use mathlib.Core.Path.{ap, ◌∙◌}
use Prim.Native.Nat.{ℕ}
use Rattle.console_commands.proofs.services.on_services.Goals as goal

pub returns : goal.returns
returns c =
    let s = c.args in
    let stood = c.requires.0 in
    let size = c.serve-done.auto.room ∙ held_length s.room.now s.console.written s.console.size stood.roomed.inside in
    let asked : List ℕ → List ℕ → List ℕ → Service Controller = λ (m d r : List ℕ). service_reply s.command s.console.controller m d r s.one.now s.two.now in
    let next = ap (λ (x : Console). with_controller x c.serve-done.result.next) c.after_service-next.ensures in
    (service_so s.console s.memory.now s.queue.now s.room.now stood (λ (x : Controller). x) (λ (x : Controller). s.console.board) asked _ c.serve-done.result.next c.serve-done.result.used c.serve-done.result.written c.serve-done.new.memory c.serve-done.new.room _ _ c.serve-done.ensures size _ next, served_standing s.console _ _ _ stood _ _ _ _ _ next)

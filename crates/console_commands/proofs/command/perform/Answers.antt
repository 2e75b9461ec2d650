use Rattle.console_commands.specs.Doings.{does}
use Rattle.console_commands.proofs.HoldingLaws.{stays_so, controlled_so, boarded_so, controlled_standing, boarded_standing}
use Rattle.console_text.proofs.TextLaws.{put_none}
use mathlib.Core.Path.{refl, sym}
use mathlib.Core.List.{[]}
use Rattle.console_commands.proofs.command.perform.Goals as goal

pub returns-in-Nothing : goal.returns-in-Nothing
unfolding does
returns-in-Nothing c =
    let s = c.args in (record { shown = []; so = simp c.in-Nothing.is (stays_so s.console _ s.memory.now s.queue.now s.room.now _ _ _ refl (sym (put_none _))) }, c.requires.0)

pub returns-in-Chip : goal.returns-in-Chip
unfolding does
returns-in-Chip c =
    let s = c.args in (record { shown = []; so = simp c.in-Chip.is (controlled_so s.console _ s.memory.now s.queue.now s.room.now _ _ _ c.on_chip.ensures.0 c.on_chip.ensures.1) }, controlled_standing s.console _ _ _ c.requires.0 _ _ c.on_chip.ensures.0)

pub returns-in-Arrays : goal.returns-in-Arrays
unfolding does
returns-in-Arrays c =
    let s = c.args in (record { shown = []; so = simp c.in-Arrays.is c.on_arrays.ensures.0 }, c.on_arrays.ensures.1)

pub returns-in-Services : goal.returns-in-Services
unfolding does
returns-in-Services c =
    let s = c.args in (record { shown = []; so = simp c.in-Services.is c.on_services.ensures.0 }, c.on_services.ensures.1)

pub returns-in-Board : goal.returns-in-Board
unfolding does
returns-in-Board c =
    let s = c.args in (record { shown = []; so = simp c.in-Board.is (boarded_so s.console _ s.memory.now s.queue.now s.room.now _ _ _ c.on_board.ensures.0 c.on_board.ensures.1) }, boarded_standing s.console _ _ _ c.requires.0 _ _ c.on_board.ensures.0)

pub returns-in-BoardServices : goal.returns-in-BoardServices
unfolding does
returns-in-BoardServices c =
    let s = c.args in (record { shown = []; so = simp c.in-BoardServices.is c.on_board_services.ensures.0 }, c.on_board_services.ensures.1)

pub returns-in-People : goal.returns-in-People
unfolding does
returns-in-People c =
    let s = c.args in (record { shown = c.on_people-next.ensures.text; so = simp c.in-People.is (stays_so s.console _ s.memory.now s.queue.now s.room.now _ _ _ refl c.on_people-next.ensures.so) }, c.requires.0)

pub returns-in-Unknown : goal.returns-in-Unknown
unfolding does
returns-in-Unknown c =
    let s = c.args in (record { shown = []; so = simp c.in-Unknown.is (stays_so s.console _ s.memory.now s.queue.now s.room.now _ _ _ refl c.error-next.ensures) }, c.requires.0)

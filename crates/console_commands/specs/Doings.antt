-- What a line does, command by command: what is held after it, and its answer.
use Rattle.std.specs.Prelude.{ℕ, ◌+◌, ◌-◌, Bool, List, [], ◌++◌, eqb, ltb, length, take, drop}
use Rattle.words.specs.Choice.{when}
use Rattle.am9517.specs.State.{fresh}
use Rattle.am9517.specs.Answers.{reset_of, grant_of}
use Rattle.am9517.specs.declared.Controller.{Controller}
use Rattle.board.specs.declared.Board.{Board}
use Rattle.am9517_sheet.specs.declared.forms.Form.TheVariants.{One, Two}
use Rattle.console_text.specs.Text.{codes}
use Rattle.console_text.specs.Lines.{cut, words_in}
use Rattle.console_text.specs.Commands.{command_of}
use Rattle.console_text.specs.declared.line.Words.{Words}
use Rattle.console_text.specs.declared.forms.Command.{Command}
use Rattle.console_text.specs.declared.forms.Command.TheVariants.{Nothing, Chip, Arrays, Services, Board as OnBoard, BoardServices, People, Unknown}
use Rattle.console_text.specs.declared.forms.ChipCommand.{ChipCommand}
use Rattle.console_text.specs.declared.forms.ChipCommand.TheVariants.{State, SetState, Full, SetFull, Fresh, FreshOf, Write, Read, Pins, Reset, Waits, Grant, Sheet, Load, Sheet2, Load2, Forward, Back}
use Rattle.console_text.specs.declared.forms.ArrayCommand.{ArrayCommand}
use Rattle.console_text.specs.declared.forms.ArrayCommand.TheVariants.{Memory, Poke, Peek, Feed, Fill, Room, Out, Dump, Queue, Empty}
use Rattle.console_text.specs.declared.forms.ServiceCommand.{ServiceCommand}
use Rattle.console_text.specs.declared.forms.ServiceCommand.TheVariants.{Run, Round, Judge}
use Rattle.console_text.specs.declared.forms.BoardServiceCommand.{BoardServiceCommand}
use Rattle.console_chip.specs.declared.answers.ValueKind.TheVariants.{Byte, Channel}
use Rattle.console_chip.specs.Answers.{ok_text, error_text, bytes_answer, Reply, reply, outcome_reply}
use Rattle.console_chip.specs.Control.{state_text, state_reply, full_text, full_reply, fresh_reply, write_reply, read_reply, pins_reply, waits_reply}
use Rattle.console_chip.specs.Sheets.{sheet_reply, load_reply, convert_reply}
use Rattle.console_arrays.specs.Arrays.{lent_of, lent_text, peek_text, Changed, changed, poke_of, feed_of, fill_of, room_of, position_of}
use Rattle.console_arrays.specs.Services.{Service, run_reply, round_reply}
use Rattle.console_arrays.specs.Judging.{judge_reply}
use Rattle.console_board.specs.Commands.{board_reply, board_service_reply}
use Rattle.console_dump.specs.Dump.{dump_of}
use Rattle.console_commands.specs.Holding.{Held, having, Said, said}

-- On the controller: the next one, and the answer.
unfoldable pub chip_reply : ChipCommand → Controller → List ℕ → List ℕ → Reply Controller
chip_reply State c one two = reply c (state_text c)
chip_reply SetState c one two = state_reply c one
chip_reply Full c one two = reply c (full_text c)
chip_reply SetFull c one two = full_reply c one
chip_reply Fresh c one two = reply (fresh 0) ok_text
chip_reply FreshOf c one two = fresh_reply c one
chip_reply Write c one two = write_reply c one two
chip_reply Read c one two = read_reply c one
chip_reply Pins c one two = pins_reply c one
chip_reply Reset c one two = outcome_reply Byte (reset_of c)
chip_reply Waits c one two = waits_reply c one
chip_reply Grant c one two = outcome_reply Channel (grant_of c)
chip_reply Sheet c one two = sheet_reply One c one
chip_reply Load c one two = load_reply One c one
chip_reply Sheet2 c one two = sheet_reply Two c one
chip_reply Load2 c one two = load_reply Two c one
chip_reply Forward c one two = convert_reply Two c one two
chip_reply Back c one two = convert_reply One c one two

abbrev pub controlled : Held → Reply Controller → Said
controlled h r = said (having r.next h.board h.memory h.lent h.queue h.room h.written) r.text

-- On the board likewise.
abbrev pub boarded : Held → Reply Board → Said
boarded h r = said (having h.controller r.next h.memory h.lent h.queue h.room h.written) r.text

-- On the memory, the queue and the room: what is held with another one, and the answer.
abbrev pub lending : Held → ℕ → List ℕ → Said
lending h n text = said (having h.controller h.board h.memory n h.queue h.room h.written) text

abbrev pub remembering : Held → Changed → Said
remembering h c = said (having h.controller h.board c.array h.lent h.queue h.room h.written) c.text

abbrev pub queueing : Held → Changed → Said
queueing h c = said (having h.controller h.board h.memory h.lent c.array h.room h.written) c.text

abbrev pub rooming : Held → Changed → ℕ → Said
rooming h c position = said (having h.controller h.board h.memory h.lent h.queue c.array position) c.text

unfoldable pub arrays_do : ArrayCommand → List ℕ → List ℕ → Held → Said
arrays_do Memory one two h = lending h (lent_of h.lent one) (lent_text one)
arrays_do Poke one two h = remembering h (poke_of h.memory one two)
arrays_do Peek one two h = said h (peek_text h.memory one two)
arrays_do Feed one two h = queueing h (feed_of h.queue one)
arrays_do Fill one two h = queueing h (fill_of h.queue one two)
arrays_do Room one two h = rooming h (room_of h.room one two) (position_of h.written one two)
arrays_do Out one two h = said h (peek_text h.room one two)
arrays_do Dump one two h = said h (dump_of h.memory one two)
arrays_do Queue one two h = said h (bytes_answer h.queue)
arrays_do Empty one two h = queueing h (changed [] ok_text)

-- A service on what is lent to it: memory, device bytes and room.
unfoldable pub service_reply : ServiceCommand → Controller → List ℕ → List ℕ → List ℕ → List ℕ → List ℕ → Service Controller
service_reply Run c memory device room one two = run_reply c memory device room one two
service_reply Round c memory device room one two = round_reply c memory device room one
service_reply Judge c memory device room one two = judge_reply c memory room one

-- a place n further on, and not past the last
unfoldable pub further : ℕ → ℕ → ℕ → ℕ
further from n last = when (ltb last from) from (when (ltb (last - from) n) last (from + n))

-- "Bytes used leave the queue; bytes written go to the room from its write position on, which moves behind them"
abbrev pub serviced : {A : Type 0} → Held → Controller → Board → Service A → Said
serviced h c b s =
    said
    (having c b
    (s.memory ++ drop h.lent h.memory)
    h.lent
    (drop s.used h.queue)
    (take h.written h.room ++ s.room)
    (further h.written s.written (length h.room)))
    s.text

-- "the first `memory` bytes are lent to runs and rounds"; the queue is lent, and the room from its write position on
abbrev pub lent_to : {A : Type 0} → Held → (List ℕ → List ℕ → List ℕ → A) → A
lent_to h asked = asked (take h.lent h.memory) h.queue (drop h.written h.room)

abbrev pub services_do : ServiceCommand → List ℕ → List ℕ → Held → Said
services_do k one two h =
    let s = lent_to h (λ (m d r : List ℕ). service_reply k h.controller m d r one two) in
    serviced h s.next h.board s

abbrev pub board_services_do : BoardServiceCommand → List ℕ → List ℕ → Held → Said
board_services_do k one two h =
    let s = lent_to h (λ (m d r : List ℕ). board_service_reply k h.board m d r one two) in
    serviced h h.controller s.next s

-- All commands; `shown` is what `show` or `help` tells.
unfoldable pub does : List ℕ → Command → List ℕ → List ℕ → List ℕ → Held → Said
does shown Nothing one two three h = said h []
does shown (Chip k) one two three h = controlled h (chip_reply k h.controller one two)
does shown (Arrays k) one two three h = arrays_do k one two h
does shown (Services k) one two three h = services_do k one two h
does shown (OnBoard k) one two three h = boarded h (board_reply k h.board one two three)
does shown (BoardServices k) one two three h = board_services_do k one two h
does shown (People k) one two three h = said h shown
does shown Unknown one two three h = said h error_text

-- an answer is a line; a line of no words, that is of no name, has none
unfoldable pub ending : List ℕ → List ℕ
ending name = when (eqb (length name) 0) [] (codes "\n")

abbrev pub ended : List ℕ → Said → Said
ended name s = said s.holding (s.text ++ ending name)

-- "error, nothing changed"
abbrev pub erred : Held → Said
erred h = said h (error_text ++ codes "\n")

abbrev pub words_do : List ℕ → List ℕ → Words → Held → Said
words_do shown line w h =
    let name = cut line w.name in
    ended name (does shown (command_of name w.count) (cut line w.one) (cut line w.two) (cut line w.three) h)

-- what a line says, without comment and carriage return: "A line may be as long as 200,000 characters."
unfoldable pub line_of : List ℕ → List ℕ → Held → Said
line_of shown line h = when (ltb 200000 (length line)) (erred h) (words_do shown line (words_in line) h)

-- asked of a console that doesn't stand, too
unfoldable pub execute_of : List ℕ → Bool → Held → List ℕ → Said
execute_of line standing h shown = when standing (line_of shown line h) (erred h)

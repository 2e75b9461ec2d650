-- The commands: each is a name and a number of further words.
use Rattle.std.specs.Prelude.{ℕ, Bool, List, [], ◌∷◌, eqb, length}
use Prim.Native.String.{String}
use Rattle.words.specs.Choice.{when, ◌and◌}
use Rattle.console_text.specs.Text.{codes, same}
use Rattle.console_text.specs.declared.forms.Command.{Command}
use Rattle.console_text.specs.declared.forms.Command.TheVariants.{Nothing, Chip, Arrays, Services, Board, BoardServices, People, Unknown}
use Rattle.console_text.specs.declared.forms.ChipCommand.TheVariants.{State, SetState, Full, SetFull, Fresh, FreshOf, Write, Read, Pins, Reset, Waits, Grant, Sheet, Load, Sheet2, Load2, Forward, Back}
use Rattle.console_text.specs.declared.forms.ArrayCommand.TheVariants.{Memory, Poke, Peek, Feed, Fill, Room, Out, Dump, Queue, Empty}
use Rattle.console_text.specs.declared.forms.ServiceCommand.TheVariants.{Run, Round, Judge}
use Rattle.console_text.specs.declared.forms.BoardCommand.TheVariants as board
use Rattle.console_text.specs.declared.forms.BoardServiceCommand.TheVariants as board_service
use Rattle.console_text.specs.declared.forms.PeopleCommand.TheVariants.{Show, BoardShow, Help, HelpOn}

-- a line of this name with n further words is the command of that name with k
unfoldable pub is_form : List ℕ → ℕ → List ℕ → ℕ → Bool
is_form name n word k = eqb n k and same name word

-- A row: a name, the number of words behind it, and the command.
pub record Row : Type 0 where
  pub name : String
  pub words : ℕ
  pub command : Command

abbrev pub row : String → ℕ → Command → Row
row name words command = record { name = name; words = words; command = command }

-- the command of the first row that a name with n further words is, else `other`
abbrev pub pick : List Row → List ℕ → ℕ → Command → Command
pick [] name n other = other
pick (r ∷ rows) name n other = when (is_form name n (codes r.name) r.words) r.command (pick rows name n other)

-- on the controller
abbrev pub controller_rows : List Row
controller_rows =
    row "state" 0 (Chip State)
    ∷ row "state" 1 (Chip SetState)
    ∷ row "full" 0 (Chip Full)
    ∷ row "full" 1 (Chip SetFull)
    ∷ row "fresh" 0 (Chip Fresh)
    ∷ row "fresh" 1 (Chip FreshOf)
    ∷ row "write" 2 (Chip Write)
    ∷ row "read" 1 (Chip Read)
    ∷ row "pins" 1 (Chip Pins)
    ∷ row "reset" 0 (Chip Reset)
    ∷ row "waits" 1 (Chip Waits)
    ∷ row "grant" 0 (Chip Grant)
    ∷ []

-- on the memory, the queue and the room
abbrev pub array_rows : List Row
array_rows =
    row "memory" 1 (Arrays Memory)
    ∷ row "poke" 2 (Arrays Poke)
    ∷ row "peek" 2 (Arrays Peek)
    ∷ row "feed" 1 (Arrays Feed)
    ∷ row "fill" 2 (Arrays Fill)
    ∷ row "room" 2 (Arrays Room)
    ∷ row "out" 2 (Arrays Out)
    ∷ []

-- services
abbrev pub service_rows : List Row
service_rows =
    row "run" 2 (Services Run)
    ∷ row "round" 1 (Services Round)
    ∷ row "judge" 1 (Services Judge)
    ∷ []

-- sheets
abbrev pub sheet_rows : List Row
sheet_rows =
    row "sheet" 1 (Chip Sheet)
    ∷ row "load" 1 (Chip Load)
    ∷ row "sheet2" 1 (Chip Sheet2)
    ∷ row "load2" 1 (Chip Load2)
    ∷ row "forward" 2 (Chip Forward)
    ∷ row "back" 2 (Chip Back)
    ∷ []

-- on the board
abbrev pub board_rows : List Row
board_rows =
    row "b.state" 0 (Board board.State)
    ∷ row "b.state" 1 (Board board.SetState)
    ∷ row "b.fresh" 0 (Board board.Fresh)
    ∷ row "b.fresh" 2 (Board board.FreshOf)
    ∷ row "b.write" 2 (Board board.Write)
    ∷ row "b.read" 1 (Board board.Read)
    ∷ row "b.pins" 1 (Board board.Pins)
    ∷ row "b.reset" 0 (Board board.Reset)
    ∷ row "b.waits" 2 (Board board.Waits)
    ∷ row "b.grant" 0 (Board board.Grant)
    ∷ row "b.sheet" 3 (Board board.Sheet)
    ∷ row "b.load" 3 (Board board.Load)
    ∷ row "b.run" 2 (BoardServices board_service.Run)
    ∷ row "b.round" 1 (BoardServices board_service.Round)
    ∷ row "b.show" 0 (People BoardShow)
    ∷ []

-- for people
abbrev pub people_rows : List Row
people_rows =
    row "show" 0 (People Show)
    ∷ row "help" 0 (People Help)
    ∷ row "help" 1 (People HelpOn)
    ∷ row "dump" 2 (Arrays Dump)
    ∷ row "queue" 0 (Arrays Queue)
    ∷ row "empty" 0 (Arrays Empty)
    ∷ []

-- the command that a name with n further words is; a line of no words has no name
unfoldable pub command_of : List ℕ → ℕ → Command
command_of name n =
    when (eqb (length name) 0) Nothing
    (pick controller_rows name n (pick array_rows name n (pick service_rows name n (pick sheet_rows name n (pick board_rows name n (pick people_rows name n Unknown))))))

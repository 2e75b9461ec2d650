-- What the console holds, and where it lies in the console's arrays.
use Rattle.std.specs.Prelude.{ℕ, ◌≡◌, Bool, List, leb, length, take}
use Rattle.words.specs.Choice.{◌and◌}
use Rattle.am9517.specs.State.{fresh}
use Rattle.am9517.specs.declared.Controller.{Controller}
use Rattle.board.specs.declared.Board.{Board}
use Rattle.board.specs.Chips.{fresh_board}
use Rattle.console_text.specs.Text.{Page, page, put}
use Rattle.console_arrays.specs.Arrays.{held}
use Rattle.console_commands.specs.declared.Console.{Console}
use Rattle.console_commands.specs.declared.holding.Executed.{Executed}

-- "The console holds: one controller (fresh at the start); a memory array of 65,537 bytes, zero at the start, of which
-- the first memory bytes are lent to runs and rounds (65,536 at the start); the device's input queue (empty, at most
-- 70,000 bytes); the device room (0 bytes at the start, at most 70,000) with a write position." With document 02's A9 it holds one
-- board, too: "The memory array, queue and room above serve the controller, the board and the 8257 alike."
pub record Held : Type 0 where
  pub controller : Controller
  pub board : Board
  pub memory : List ℕ
  pub lent : ℕ
  pub queue : List ℕ
  pub room : List ℕ
  pub written : ℕ

abbrev pub having : Controller → Board → List ℕ → ℕ → List ℕ → List ℕ → ℕ → Held
having c b memory lent queue room written =
    record { controller = c; board = b; memory = memory; lent = lent; queue = queue; room = room; written = written }

-- at the start: a fresh controller, "a fresh board, of these editions (0 0 when missing)", 65,536 bytes lent, the queue empty, a room of 0 bytes
abbrev pub fresh_console : Console
fresh_console = record { controller = fresh 0; board = fresh_board 0 0; lent = 65536; start = 0; end = 0; size = 0; written = 0 }

-- What a line does: what is held after it, and the text of its answer.
pub record Said : Type 0 where
  pub holding : Held
  pub text : List ℕ

abbrev pub said : Held → List ℕ → Said
said h t = record { holding = h; text = t }

-- it lies in arrays of these lengths
unfoldable pub stands : Console → ℕ → ℕ → ℕ → ℕ → Bool
stands c memory queue room spare =
    (leb c.lent memory and leb 65537 memory)
    and (leb c.start c.end and leb c.end queue and leb 70000 queue)
    and (leb c.written c.size and leb c.size room and leb 70000 room)
    and leb 100000 spare

abbrev pub holds : Console → List ℕ → List ℕ → List ℕ → Held
holds c memory queue room = having c.controller c.board memory c.lent (held queue c.start c.end) (take c.size room) c.written

-- What is seen of a line: what the console holds after it, and the page that its answer stands on.
pub record Left : Type 0 where
  pub holding : Held
  pub page : Page

abbrev pub left : Executed → List ℕ → List ℕ → List ℕ → List ℕ → Left
left r memory queue room out = record { holding = holds r.console memory queue room; page = page out r.at }

abbrev pub leaving : Page → Said → Left
leaving p s = record { holding = s.holding; page = put p s.text }

-- The console's arrays; of the last, which commands use for their own ends, nothing is held.
pub record Arrays : Type 0 where
  pub memory : List ℕ
  pub queue : List ℕ
  pub room : List ℕ
  pub spare : List ℕ

abbrev pub arrays : List ℕ → List ℕ → List ℕ → List ℕ → Arrays
arrays memory queue room spare = record { memory = memory; queue = queue; room = room; spare = spare }

abbrev pub stands_in : Console → Arrays → Bool
stands_in c a = stands c (length a.memory) (length a.queue) (length a.room) (length a.spare)

-- What was asked of a console with these arrays and this page is done: what is left is what it gives, for some text of `show`
-- and `help`, of which no more is promised; and its positions lie in the arrays as before.
pub record Done (gives : Bool → Held → List ℕ → Said) (c : Console) (was : Arrays) (p : Page) (r : Executed) (now : Arrays) (out : List ℕ) : Type 0 where
  pub shown : List ℕ
  pub so : left r now.memory now.queue now.room out ≡ leaving p (gives (stands_in c was) (holds c was.memory was.queue was.room) shown)
  pub stood : stands_in r.console was ≡ stands_in c was

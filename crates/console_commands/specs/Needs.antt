-- What functions of the console ask for, and give their callers: that what is held lies in the arrays, as inequalities.
use Rattle.std.specs.Prelude.{ℕ, ◌≤◌, ◌≡◌, List}
use Rattle.am9517.specs.declared.Controller.{Controller}
use Rattle.board.specs.declared.Board.{Board}
use Rattle.console_text.specs.Text.{Page, put}
use Rattle.console_commands.specs.declared.Console.{Console}
use Rattle.console_commands.specs.declared.holding.Executed.{Executed}
use Rattle.console_commands.specs.Holding.{Said, Left, leaving}
use Rattle.console_commands.specs.Doings.{further}

-- what is from one place up to another lies in an array of this length: the queue, or the room from its write position on
pub record Lies (from to size : ℕ) : Type 0 where
  pub ordered : from ≤ to
  pub inside : to ≤ size
  pub deep : 70000 ≤ size

pub record Standing (c : Console) (memory queue room : ℕ) : Type 0 where
  pub lent : c.lent ≤ memory
  pub whole : 65537 ≤ memory
  pub queued : Lies c.start c.end queue
  pub roomed : Lies c.written c.size room

-- what is left of a command, for some text of `show` and `help`
pub record ForSome (seen : Left) (gives : List ℕ → Said) (p : Page) : Type 0 where
  pub shown : List ℕ
  pub so : seen ≡ leaving p (gives shown)

-- a text was put on a page: which one is not said
pub record Tells (p q : Page) : Type 0 where
  pub text : List ℕ
  pub so : q ≡ put p text

-- a console that differs in its queue, its room, the bytes lent, its controller or its board alone
abbrev pub with_queue : Console → Executed → Console
with_queue c r =
    record { controller = c.controller; board = c.board; lent = c.lent; start = r.console.start; end = r.console.end; size = c.size; written = c.written }

abbrev pub with_room : Console → Executed → Console
with_room c r =
    record { controller = c.controller; board = c.board; lent = c.lent; start = c.start; end = c.end; size = r.console.size; written = r.console.written }

abbrev pub with_lent : Console → ℕ → Console
with_lent c n =
    record { controller = c.controller; board = c.board; lent = n; start = c.start; end = c.end; size = c.size; written = c.written }

abbrev pub with_controller : Console → Controller → Console
with_controller c next =
    record { controller = next; board = c.board; lent = c.lent; start = c.start; end = c.end; size = c.size; written = c.written }

abbrev pub with_board : Console → Board → Console
with_board c next =
    record { controller = c.controller; board = next; lent = c.lent; start = c.start; end = c.end; size = c.size; written = c.written }

-- and one whose controller or board used and wrote so many device bytes
abbrev pub after_service : Console → Controller → Board → ℕ → ℕ → Console
after_service c controller board used written =
    record {
      controller = controller;
      board = board;
      lent = c.lent;
      start = further c.start used c.end;
      end = c.end;
      size = c.size;
      written = further c.written written c.size;
    }

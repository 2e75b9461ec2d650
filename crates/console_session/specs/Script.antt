-- A script's lines, and what each does: "one a line", "the last line may lack its newline".
use Rattle.std.specs.Prelude.{ℕ, ◌+◌, ◌≤◌, ◌≡◌, Bool, true, false, List, [], ◌∷◌, ◌++◌, eqb, ltb, length, take, drop}
use Rattle.words.specs.Choice.{when}
use Rattle.console_text.specs.Text.{codes, Page, page, put_byte}
use Rattle.console_text.specs.Lines.{end_of, said_in}
use Rattle.console_commands.specs.Holding.{Held, Said, said}
use Rattle.console_commands.specs.Doings.{erred, execute_of}
use Rattle.console_session.specs.declared.Reached.{Reached}

-- How a script is cut: the lines that have ended, and what has come of the one under way.
pub record Cut : Type 0 where
  pub lines : List (List ℕ)
  pub rest : List ℕ

abbrev pub ending : List ℕ → Cut → Cut
ending line c = record { lines = line ∷ c.lines; rest = c.rest }

-- behind what has come of a line
unfoldable pub cut_of : List ℕ → List ℕ → Cut
cut_of line [] = record { lines = []; rest = line }
cut_of line (b ∷ bs) = when (eqb b 10) (ending line (cut_of [] bs)) (cut_of (line ++ (b ∷ [])) bs)

-- the lines of a script, the last with its newline or without
unfoldable pub lines_of : List ℕ → List (List ℕ)
lines_of script = (cut_of [] (script ++ codes "\n")).lines

-- a whole line: one of more than 200,000 characters, a carriage return at its end not among them, is an error and does nothing;
-- of another, what it says before a comment is executed
unfoldable pub answer_of : List ℕ → Bool → Held → List ℕ → Said
answer_of line standing h shown = when (ltb 200000 (end_of line)) (erred h) (execute_of (take (said_in line) line) standing h shown)

-- How far a script has come: what is kept of the line under way, the lines before it, what is held, and the answers so far.
pub record Way : Type 0 where
  pub line : List ℕ
  pub count : ℕ
  pub holding : Held
  pub text : List ℕ

abbrev pub before : Held → Way
before h = record { line = []; count = 0; holding = h; text = [] }

abbrev pub comes_to : Way → Said
comes_to w = said w.holding w.text

-- a character is kept, if it finds room
unfoldable pub keeping : List ℕ → ℕ → List ℕ
keeping line b = when (ltb (length line) 200002) (line ++ (b ∷ [])) line

abbrev pub going : Way → ℕ → Way
going w b = record { line = keeping w.line b; count = w.count; holding = w.holding; text = w.text }

-- a line that has ended is answered
abbrev pub answering : Way → Said → Way
answering w s = record { line = []; count = w.count + 1; holding = s.holding; text = w.text ++ s.text }

-- `tells` is what `show` or `help` tells in a line, by the number of the line.
module _ (tells : ℕ → List ℕ) where
  -- lines one after another: what is held after the last, and the answers in a row
  unfoldable pub lines_do : ℕ → List (List ℕ) → Held → Said
  lines_do n [] h = said h []
  lines_do n (line ∷ lines) h =
      let s = answer_of line true h (tells n) in
      let t = lines_do (n + 1) lines s.holding in
      said t.holding (s.text ++ t.text)

  -- a part of the script, byte by byte, and parts one after another
  unfoldable pub part_does : Way → List ℕ → Way
  part_does w [] = w
  part_does w (b ∷ bs) =
      when (eqb b 10) (part_does (answering w (answer_of w.line true w.holding (tells w.count))) bs) (part_does (going w b) bs)

  unfoldable pub parts_do : Way → List (List ℕ) → Way
  parts_do w [] = w
  parts_do w (part ∷ parts) = parts_do (part_does w part) parts

-- What is seen when characters are gathered: the page that the line stands on, the place behind the last one taken, and
-- whether that was a newline.
pub record Gathered : Type 0 where
  pub page : Page
  pub taken : ℕ
  pub ended : Bool

abbrev pub gathered : Reached → List ℕ → Gathered
gathered r line = record { page = page line r.length; taken = r.taken; ended = r.ended }

-- up to a newline or the part's end
unfoldable pub gather_from : Page → List ℕ → ℕ → Gathered
gather_from p [] taken = record { page = p; taken = taken; ended = false }
gather_from p (b ∷ bs) taken =
    when (eqb b 10) (record { page = p; taken = taken + 1; ended = true }) (gather_from (put_byte p b) bs (taken + 1))

-- what stands on the page that a line is gathered on
abbrev pub line_on : Page → List ℕ
line_on p = take p.at p.bytes

-- `gather` and `answer` in turn: the characters up to a newline are kept, the line is answered, and the rest comes next
abbrev pub in_turn : (ℕ → List ℕ) → Way → Gathered → List ℕ → Way
in_turn tells w g rest =
    let x : Way = record { line = line_on g.page; count = w.count; holding = w.holding; text = w.text } in
    when g.ended (part_does tells (answering x (answer_of x.line true x.holding (tells x.count))) rest) x

unfoldable pub joined : List (List ℕ) → List ℕ
joined [] = []
joined (part ∷ parts) = part ++ joined parts

-- A script that comes in any parts, with a newline behind the last of them, does what its lines do.
abbrev pub ScriptInParts : Type 0
ScriptInParts =
    (tells : ℕ → List ℕ) (h : Held) (parts : List (List ℕ))
    → comes_to (part_does tells (parts_do tells (before h) parts) (codes "\n")) ≡ lines_do tells 0 (lines_of (joined parts)) h

-- A line that is gathered on an array of 200,002 bytes and then answered is what a part does up to its first newline.
abbrev pub GatherThenAnswer : Type 0
GatherThenAnswer =
    (tells : ℕ → List ℕ) (w : Way) (p : Page) (part : List ℕ) (from : ℕ) → w.line ≡ line_on p → length p.bytes ≡ 200002 → p.at ≤ 200002
    → let g = gather_from p (drop from part) from in part_does tells w (drop from part) ≡ in_turn tells w g (drop g.taken part)

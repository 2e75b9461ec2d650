-- Laws of a line: a command done, and the newline behind its answer.
use Prim.Native.Nat.{ℕ, ◌≤◌}
use mathlib.Core.Path.{◌≡◌, ap, ◌∙◌}
use mathlib.Core.Bool.{Bool, true}
use mathlib.Core.List.{List, ◌++◌}
use lib.ListN.{length}
use borrow.Author.Tests.{le-ltb}
use Rattle.words.specs.Choice.{when}
use Rattle.console_text.specs.Text.{Page, page, put}
use Rattle.console_text.specs.Lines.{cut, words_in}
use Rattle.console_text.specs.Commands.{command_of}
use Rattle.console_text.specs.declared.line.Words.{Words}
use Rattle.console_text.specs.declared.forms.Command.{Command}
use Rattle.console_text.proofs.TextLaws.{put_both}
use Rattle.console_commands.specs.Holding.{Held, Said, Left, left, leaving}
use Rattle.console_commands.specs.Doings.{does, ending, ended, words_do, line_of, execute_of}
use Rattle.console_commands.specs.declared.holding.Executed.{Executed}

-- an answer with its newline
ended_so : (p : Page) (s : Said) (name : List ℕ) (done : Executed) (m q room out final : List ℕ) (end : ℕ) → left done m q room out ≡ leaving p s
    → page final end ≡ put (page out done.at) (ending name)
    → left (record { console = done.console; at = end }) m q room final ≡ leaving p (ended name s)
ended_so p s name done m q room out final end e d =
    let all : page final end ≡ put p (s.text ++ ending name) = put_both p (page out done.at) (page final end) s.text (ending name) (ap (λ (x : Left). x.page) e) d in
    ap (λ (x : Left). record { holding = x.holding; page = page final end }) e
    ∙ ap (λ (x : Page). record { holding = s.holding; page = x }) all

module _ (line : List ℕ) (h : Held) (p : Page) (shown : List ℕ) where
  pub executed_so : (w : Words) (k : Command) (done : Executed) (m q room out final : List ℕ) (end : ℕ) (standing : Bool) → standing ≡ true → length line ≤ 200000
      → w ≡ words_in line → k ≡ command_of (cut line w.name) w.count
      → left done m q room out ≡ leaving p (does shown k (cut line w.one) (cut line w.two) (cut line w.three) h)
      → page final end ≡ put (page out done.at) (ending (cut line w.name))
      → left (record { console = done.console; at = end }) m q room final ≡ leaving p (execute_of line standing h shown)
  unfolding execute_of line_of when
  executed_so w k done m q room out final end standing t l e c d n =
      let one = cut line w.one in
      let two = cut line w.two in
      let three = cut line w.three in
      let told = d ∙ ap (λ (x : Command). leaving p (does shown x one two three h)) c in
      let words = ended_so p (does shown (command_of (cut line w.name) w.count) one two three h) (cut line w.name) done m q room out final end told n in
      rw (t, le-ltb _ _ l) (words ∙ ap (λ (x : Words). leaving p (words_do shown line x h)) e)

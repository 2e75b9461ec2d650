use Rattle.console_commands.specs.Holding.{holds}
use Rattle.console_commands.specs.Doings.{line_of, execute_of}
use Rattle.console_commands.proofs.HoldingLaws.{standing, stands_so, stays_so}
use Rattle.console_commands.proofs.LineLaws.{executed_so}
use Rattle.console_arrays.proofs.ArrayLaws.{held_length}
use Rattle.words.specs.Choice.{when}
use borrow.Author.Tests.{lt-ltb}
use native.Mathlib.Omega.{arith}
use mathlib.Core.Path.{refl, sym, ◌∙◌}
use mathlib.Core.List.{[]}
use Rattle.console_commands.proofs.command.execute.Goals as goal

pub returns-then-not-stands : goal.returns-then-not-stands
unfolding execute_of when
returns-then-not-stands c =
    let s = c.args in record { shown = []; so = simp (sym c.stands.ensures ∙ c.if-not-stands.true) (stays_so s.console _ s.memory.now s.queue.now s.room.now _ _ _ refl c.error_line-next.ensures); stood = refl }

pub returns-then-line-gt-LONGEST : goal.returns-then-line-gt-LONGEST
unfolding execute_of line_of when
returns-then-line-gt-LONGEST c =
    let s = c.args in record { shown = []; so = simp (sym c.stands.ensures ∙ c.if-not-stands.false, lt-ltb _ _ c.if-line-gt-LONGEST.true) (stays_so s.console _ s.memory.now s.queue.now s.room.now _ _ _ refl c.error_line-next-then-line-gt-LONGEST.ensures); stood = refl }

pub perform-done-requires : goal.perform-done-requires
perform-done-requires c =
    let all = standing _ _ _ _ _ (sym c.stands.ensures ∙ c.if-not-stands.false) in let line = c.args.line.now in let words = c.words_in-words.result in (all.0, all.1, omega (arith, c.if-line-gt-LONGEST.false, held_length line words.one.from words.one.to c.words_in-words.ensures.2), omega (arith, c.if-line-gt-LONGEST.false, held_length line words.three.from words.three.to c.words_in-words.ensures.4))

pub returns : goal.returns
returns c =
    let s = c.args in let stood = sym c.stands.ensures ∙ c.if-not-stands.false in record { shown = c.perform-done.ensures.0.shown; so = executed_so s.line.now (holds s.console s.memory.now s.queue.now s.room.now) _ _ c.words_in-words.result _ c.perform-done.result c.perform-done.new.memory c.perform-done.new.queue c.perform-done.new.room _ _ _ _ stood c.if-line-gt-LONGEST.false c.words_in-words.ensures.0 c.command_of-command.ensures c.perform-done.ensures.0.so c.newline-end.ensures; stood = stands_so _ _ _ _ _ c.perform-done.ensures.1 (standing _ _ _ _ _ stood).1 ∙ sym stood }

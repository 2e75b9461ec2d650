use Rattle.console_text.proofs.TextLaws.{put_both, put_one_lem}
use Rattle.console_commands.specs.Holding.{holds, leaving}
use Rattle.console_commands.proofs.HoldingLaws.{stays_so}
use Rattle.console_session.proofs.GatherLaws.{too_long, answered}
use mathlib.Core.List.{[]}
use mathlib.Core.Path.{refl, sym, ap, ◌∙◌}
use Rattle.console_session.proofs.answer.Goals as goal

pub returns-then-end_of-gt-LONGEST : goal.returns-then-end_of-gt-LONGEST
returns-then-end_of-gt-LONGEST c =
    let s = c.args in
    let h = holds s.console s.memory.now s.queue.now s.room.now in
    record { shown = []; so = stays_so s.console _ s.memory.now s.queue.now s.room.now _ _ _ refl (put_both _ _ _ _ _ c.error-next.ensures (c.byte-end.ensures ∙ sym (put_one_lem _ _))) ∙ ap (leaving _) (sym (too_long _ s.line.now h [] (rw c.end_of.ensures.0 at c.if-end_of-gt-LONGEST.true))); stood = refl }

pub returns : goal.returns
returns c =
    let s = c.args in
    let h = holds s.console s.memory.now s.queue.now s.room.now in
    record { shown = c.execute.ensures.shown; so = c.execute.ensures.so ∙ ap (leaving _) (answered _ s.line.now h _ c.said-n.result (rw c.end_of.ensures.0 at c.if-end_of-gt-LONGEST.false) c.said-n.ensures.0); stood = c.execute.ensures.stood }

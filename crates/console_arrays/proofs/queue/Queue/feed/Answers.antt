use Rattle.console_text.proofs.HexLaws.{bytes_length}
use Rattle.console_arrays.proofs.ArrayLaws.{queue_full, queue_grown}
use Rattle.console_arrays.specs.Arrays.{shown, held, feed_of}
use Rattle.words.specs.Choice.{when}
use mathlib.Core.Path.{sym, ap, ◌∙◌}
use native.Mathlib.Omega.{arith}
use Rattle.console_arrays.proofs.queue.Queue.feed.Goals as goal

pub returns-then-not-is_bytes : goal.returns-then-not-is_bytes
unfolding feed_of when
returns-then-not-is_bytes c =
    let s = c.args in
    let was = s.self.now in
    record { holds = simp (sym c.is_bytes.ensures ∙ c.if-not-is_bytes.true) (ap (shown (held s.array.now was.from was.to)) c.error.ensures); ordered = was.ordered; inside = c.requires.inside }

pub returns-in_default : goal.returns-in_default
unfolding feed_of when
returns-in_default c =
    let s = c.args in
    let kept = c.in_default.ensures.full in
    rw (kept.1, kept.2)
    (record { holds = simp (sym c.is_bytes.ensures ∙ c.if-not-is_bytes.false) (queue_full _ _ _ _ _ _ _ c.requires.inside (bytes_length s.digits.now) kept.0 c.error-in_default.ensures); ordered = s.self.now.ordered; inside = c.requires.inside })

pub returns : goal.returns
unfolding feed_of when
returns c =
    let s = c.args in
    let grown = c.in-Some.ensures.grown in
    record { holds = simp (sym c.is_bytes.ensures ∙ c.if-not-is_bytes.false) (queue_grown _ _ _ _ _ _ _ c.requires.inside (bytes_length s.digits.now) _ _ _ _ _ _ grown.1 grown.0 c.store.ensures c.ok.ensures); ordered = c.grow.new.self.ordered; inside = omega (arith, grown.0.inside) }

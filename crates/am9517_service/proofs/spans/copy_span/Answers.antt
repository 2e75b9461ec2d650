use Rattle.words.proofs.ChoiceLaws.{when_hit, when_miss}
use Rattle.am9517_service.specs.ClosedSpans.{copy_span}
use borrow.Author.Tests.{le-leb, lt-leb}
use mathlib.Core.Path.{sym}
use Rattle.am9517_service.proofs.spans.copy_span.Goals as goal

pub returns-then-most-limit : goal.returns-then-most-limit
unfolding copy_span
returns-then-most-limit c = rw (c.span_to.ensures, ← c.before.before.until_end-most.ensures) (sym (when_hit _ _ _ (le-leb _ _ c.before.if-most-limit.true)))

pub returns : goal.returns
unfolding copy_span
returns c = rw (c.span_to-2.ensures, ← c.before.before.until_end-most.ensures) (sym (when_miss _ _ _ (lt-leb _ _ c.before.if-most-limit.false)))

use Rattle.am9517_service.proofs.SpanLaws.{write_not_read}
use Rattle.am9517_service.specs.ClosedLegs.{address_after}
use Rattle.words.proofs.ChoiceLaws.{when_hit, when_miss}
use mathlib.Core.Path.{sym, ◌∙◌}
use Rattle.am9517_service.proofs.bytes.move_bytes.Goals as goal

pub returns-then-is_write : goal.returns-then-is_write
unfolding address_after
returns-then-is_write c =
    let w = sym c.is_write.ensures ∙ c.if-is_write.true in record { memory_after = c.bring.ensures ∙ sym (when_hit _ _ _ w); room = sym (when_miss _ _ _ (write_not_read c.args.ch.mode w)) }

pub returns-then-is_read : goal.returns-then-is_read
unfolding address_after
returns-then-is_read c =
    record { memory_after = sym (when_miss _ _ _ (sym c.is_write.ensures ∙ c.if-is_write.false)); room = c.fetch.ensures ∙ sym (when_hit _ _ _ (sym c.is_read.ensures ∙ c.if-is_read.true)) }

pub returns-else-is_read : goal.returns-else-is_read
returns-else-is_read c =
    record { memory_after = sym (when_miss _ _ _ (sym c.is_write.ensures ∙ c.if-is_write.false)); room = sym (when_miss _ _ _ (sym c.is_read.ensures ∙ c.if-is_read.false)) }

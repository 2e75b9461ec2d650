use Rattle.am9517_service.proofs.SpanLaws.{read_not_write, not_used_up, used_up}
use lib.ListN.{take}
use Prim.Native.Nat.{ℕ}
use mathlib.Core.List.{List, ◌++◌}
use mathlib.Core.Path.{refl, sym, ap, ◌∙◌}
use Rattle.am9517_service.specs.ClosedRounds.{made_alone}
use Rattle.words.proofs.PartLaws.{tail_all, put_tail}
use Rattle.words.proofs.ChoiceLaws.{when_hit, when_miss}
use Rattle.words.specs.Choice.{when}
use native.Mathlib.Nat.{add-zero}
use Rattle.am9517_service.proofs.rounds.transfer_alone.Goals as goal

pub returns-then-written-room : goal.returns-then-written-room
unfolding made_alone when
returns-then-written-room c =
    let r = sym c.is_read.ensures ∙ c.if-is_read.true in let w = read_not_write c.args.mode r in record { made_value = simp (c.if-may.true, w, r, not_used_up _ _ c.if-written-room.true, add-zero c.args.n.used); memory = sym (when_miss _ _ _ w); room = put_tail c.args.n.written _ _ ∙ ap (λ (k : List ℕ). take c.args.n.written c.args.room.now ++ k) (rw (tail_all c.args.n.written _) at c.fetch.ensures) ∙ sym (when_hit _ _ _ r) }

pub returns-then-used-device : goal.returns-then-used-device
unfolding made_alone when
returns-then-used-device c =
    let r = sym c.is_read.ensures ∙ c.if-is_read.false in let w = sym c.is_write.ensures ∙ c.if-is_write.true in record { made_value = simp (c.if-may.true, w, r, not_used_up _ _ c.if-used-device.true, add-zero c.args.n.written); memory = (rw (tail_all c.args.n.used _) at c.bring.ensures) ∙ sym (when_hit _ _ _ w); room = sym (when_miss _ _ _ r) }

pub returns-else-is_write : goal.returns-else-is_write
unfolding made_alone when
returns-else-is_write c =
    let r = sym c.is_read.ensures ∙ c.if-is_read.false in let w = sym c.is_write.ensures ∙ c.if-is_write.false in record { made_value = simp (c.if-may.true, w, r, add-zero c.args.n.used, add-zero c.args.n.written); memory = sym (when_miss _ _ _ w); room = sym (when_miss _ _ _ r) }

pub returns-else-written-room : goal.returns-else-written-room
unfolding made_alone when
returns-else-written-room c =
    let r = sym c.is_read.ensures ∙ c.if-is_read.true in record { made_value = simp (c.if-may.true, read_not_write c.args.mode r, r, used_up _ _ c.if-written-room.false); memory = refl; room = refl }

pub returns-else-used-device : goal.returns-else-used-device
unfolding made_alone when
returns-else-used-device c =
    record { made_value = simp (c.if-may.true, sym c.is_write.ensures ∙ c.if-is_write.true, used_up _ _ c.if-used-device.false); memory = refl; room = refl }

pub returns-else-may : goal.returns-else-may
unfolding made_alone when
returns-else-may c =
    record { made_value = simp c.if-may.false; memory = refl; room = refl }

use Rattle.am9517_service.proofs.StatedLaws.{run_stated}
use Rattle.am9517_service.specs.Transfer.{writes, reads}
use Rattle.words.proofs.ChoiceLaws.{when_le}
use mathlib.Core.Bool.{false}
use mathlib.Core.Path.{refl, ◌≡◌, sym, ap, ◌∙◌}
use Prim.Native.Nat.{◌%◌, ℕ, ◌<◌, ◌≤◌}
use Rattle.am9517_service.proofs.LegLaws.{leg_led, leg_stocked, leg_answer}
use Rattle.am9517_service.proofs.CopyLegLaws.{serving_0}
use Rattle.am9517_service.specs.Bounds.{most_states}
use Rattle.am9517_service.proofs.TransferLaws.{states_most, pace_most}
use Rattle.am9517.proofs.RefusalLaws.{free}
use Rattle.am9517_service.proofs.AnswerLaws.{run_refused, run_accepted, run_open, serving_is}
use Rattle.am9517_service.specs.ClosedLegs.{leg_of}
use Rattle.am9517_service.specs.Answers.{stopped}
use Rattle.am9517_service.specs.World.{memory_to_memory}
use Rattle.am9517.specs.Fields.{channel}
use native.Mathlib.Omega.{arith}
use Rattle.am9517_service.proofs.runs.run.Goals as goal

pub returns-in-Some : goal.returns-in-Some
returns-in-Some c = run_stated _ _ _ _ _ _ _ _ _ (rw c.refused.ensures (sym (run_refused _ _ _ _ _ _ _ (sym c.run_refusal.ensures ∙ c.in-Some.is))))

pub run_copy-requires : goal.run_copy-requires
run_copy-requires c =
    let e = free _ c.run_refusal.result c.run_refusal.ensures c.in_default.not-Some in
    let copies = sym c.is_copy.ensures ∙ c.if-is_copy.true in
    let zero : c.args.c.serving ≡ 0 = serving_0 c.args.c copies in
    (copies, omega (arith, zero), ap (λ (k : ℕ). channel c.args.c k) (omega (arith, zero)), (run_open c.args.c c.args.memory.now e).memory)

pub returns-then-is_copy : goal.returns-then-is_copy
returns-then-is_copy c =
    run_stated _ _ _ _ _ _ _ _ _ (
    c.run_copy.ensures _ _ ∙ sym (run_accepted _ _ _ _ _ _ (free _ c.run_refusal.result c.run_refusal.ensures c.in_default.not-Some)))

pub returns-then-n-eq0 : goal.returns-then-n-eq0
returns-then-n-eq0 c =
    run_stated _ _ _ _ _ _ _ _ _ (
    let c₀ = c.args.c in let m = c.args.memory.now in let d = c.args.device.now in let r = c.args.room.now in let e = free _ c.run_refusal.result c.run_refusal.ensures c.in_default.not-Some in let o = run_open c₀ m e in let nc : memory_to_memory c₀ ≡ false = sym c.is_copy.ensures ∙ c.if-is_copy.false in let ch = channel c₀ (c₀.serving % 4) in let below : ch.address < 65536 = c.sixteen_bits.ensures.0 in let small : ch.count < 65536 = c.sixteen_bits.ensures.1 in c.stood.ensures _ _ ∙ ap stopped (sym ((leg_led c₀ m d r _ _ nc _ (serving_is c₀ o.serving) ch refl below small _ c.active.ensures _ c.span_of-s.ensures).stood c.if-n-eq0.true)) ∙ sym (run_accepted _ _ _ _ _ _ e))

pub open_leg-l-requires : goal.open_leg-l-requires
open_leg-l-requires c =
    let c₀ = c.args.c in let m = c.args.memory.now in let d = c.args.device.now in let r = c.args.room.now in let e = free _ c.run_refusal.result c.run_refusal.ensures c.in_default.not-Some in let o = run_open c₀ m e in let nc : memory_to_memory c₀ ≡ false = sym c.is_copy.ensures ∙ c.if-is_copy.false in let ch = channel c₀ (c₀.serving % 4) in let below : ch.address < 65536 = c.sixteen_bits.ensures.0 in let small : ch.count < 65536 = c.sixteen_bits.ensures.1 in (omega (arith, c.if-n-eq0.false), (leg_led c₀ m d r _ _ nc _ (serving_is c₀ o.serving) ch refl below small _ c.active.ensures _ c.span_of-s.ensures).most)

pub counted-requires : goal.counted-requires
unfolding leg_of
counted-requires c =
    let c₀ = c.args.c in let m = c.args.memory.now in let d = c.args.device.now in let r = c.args.room.now in let e = free _ c.run_refusal.result c.run_refusal.ensures c.in_default.not-Some in let o = run_open c₀ m e in let nc : memory_to_memory c₀ ≡ false = sym c.is_copy.ensures ∙ c.if-is_copy.false in let ch = channel c₀ (c₀.serving % 4) in let below : ch.address < 65536 = c.sixteen_bits.ensures.0 in let small : ch.count < 65536 = c.sixteen_bits.ensures.1 in let most = (leg_led c₀ m d r _ _ nc _ (serving_is c₀ o.serving) ch refl below small _ c.active.ensures _ c.span_of-s.ensures).most in let h : c.open_leg-l.result.states ≤ most_states = rw c.open_leg-l.ensures (states_most _ _ _ _ most (pace_most _ _ (omega (arith, c.well_formed)))) in let n = c.span_of-s.result.transfers in rw c.no_counts.ensures (omega (arith, most), omega (arith, most, when_le (writes ch) n), omega (arith, most, when_le (reads ch) n), omega (arith, h))

pub move_bytes-requires : goal.move_bytes-requires
move_bytes-requires c =
    let c₀ = c.args.c in let m = c.args.memory.now in let d = c.args.device.now in let r = c.args.room.now in let e = free _ c.run_refusal.result c.run_refusal.ensures c.in_default.not-Some in let o = run_open c₀ m e in let nc : memory_to_memory c₀ ≡ false = sym c.is_copy.ensures ∙ c.if-is_copy.false in let ch = channel c₀ (c₀.serving % 4) in let below : ch.address < 65536 = c.sixteen_bits.ensures.0 in let small : ch.count < 65536 = c.sixteen_bits.ensures.1 in leg_stocked c₀ m d r _ _ nc _ (serving_is c₀ o.serving) ch refl below small _ c.active.ensures _ c.span_of-s.ensures o.memory

pub returns : goal.returns
returns c =
    run_stated _ _ _ _ _ _ _ _ _ (
    let c₀ = c.args.c in let m = c.args.memory.now in let d = c.args.device.now in let r = c.args.room.now in let e = free _ c.run_refusal.result c.run_refusal.ensures c.in_default.not-Some in let o = run_open c₀ m e in let nc : memory_to_memory c₀ ≡ false = sym c.is_copy.ensures ∙ c.if-is_copy.false in let ch = channel c₀ (c₀.serving % 4) in let below : ch.address < 65536 = c.sixteen_bits.ensures.0 in let small : ch.count < 65536 = c.sixteen_bits.ensures.1 in leg_answer c₀ m d r _ _ nc _ (serving_is c₀ o.serving) ch refl below small _ c.active.ensures _ c.span_of-s.ensures (omega (arith, c.if-n-eq0.false)) _ c.open_leg-l.ensures _ c.move_bytes.ensures.memory_after _ c.move_bytes.ensures.room _ c.stays_open.ensures _ c.after_leg.ensures _ c.no_counts.ensures _ c.counted.ensures _ c.ran-out.ensures ∙ sym (run_accepted _ _ _ _ _ _ e))

use Prim.Native.Nat.{◌-◌}
use mathlib.Core.Path.{◌≡◌, sym, ◌∙◌}
use native.Mathlib.Omega.{arith}
use Rattle.board.proofs.RefusalLaws.{free}
use Rattle.board.proofs.RoundLaws.{round_passed, rolling_start, rolling_done, rolling_quiet, rolling_stops, rolling_on, made_own, ready, channel_below, services_below, rota_there, said_refused, said_over}
use Rattle.board.proofs.rounds.round.Goals as goal

pub returns-in-Some : goal.returns-in-Some
returns-in-Some c = said_refused c.args.b _ _ _ c.args.k _ (sym c.round_refusal.ensures ∙ c.in-Some.is) _ c.no_counts-n.ensures

pub next_of-requires : goal.next_of-requires
next_of-requires c = made_own _ _ c.rota_of-one.ensures (round_passed c.args.b c.args.memory.now c.args.k (free _ c.round_refusal.result c.round_refusal.ensures c.in_default.not-Some)).0

pub next_of-requires-2 : goal.next_of-requires-2
next_of-requires-2 c = made_own _ _ c.rota_of-two.ensures (round_passed c.args.b c.args.memory.now c.args.k (free _ c.round_refusal.result c.round_refusal.ensures c.in_default.not-Some)).1

pub loop-begun-init : goal.loop-begun-init
loop-begun-init c =
    let o = round_passed c.args.b c.args.memory.now c.args.k (free _ c.round_refusal.result c.round_refusal.ensures c.in_default.not-Some) in
    let z : c.args.k - 0 ≡ c.args.k = omega arith in
    rw z
    (rolling_start c.args.b c.args.memory.now c.args.device.now c.args.room.now c.args.k o.0 o.1 o.2 o.3 o.4 o.5 _ _ c.rota_of-one.ensures c.rota_of-two.ensures _ _ c.next_of.ensures.0 c.next_of-2.ensures.0 _ c.no_counts-n.ensures)

pub returns-then-nexts : goal.returns-then-nexts
returns-then-nexts c =
    said_over c.args.b _ _ _ c.args.k (free _ c.round_refusal.result c.round_refusal.ensures c.in_default.not-Some) _ _ c.rota_of-one.ensures c.rota_of-two.ensures _ _ _ _ c.closed.ensures (rolling_quiet _ _ _ _ _ _ _ _ _ _ _ _ c.loop-begun.invariant (omega (arith, c.loop-begun-test.true)) c.if-nexts.true _)

pub bounds-services-channel : goal.bounds-services-channel
bounds-services-channel c = let h = channel_below _ _ _ _ _ _ _ _ _ _ _ _ c.loop-begun.invariant (omega (arith, c.loop-begun-test.true)) c.if-nexts.false _ c.winner_of-which.ensures _ (c.from-t.ensures ∙ c.from-last.ensures) in omega (arith, h)

pub overflow_add-services : goal.overflow_add-services
overflow_add-services c = let h = services_below _ _ _ _ _ _ _ _ _ _ _ _ c.loop-begun.invariant (omega (arith, c.loop-begun-test.true)) c.if-nexts.false _ c.winner_of-which.ensures _ (c.from-t.ensures ∙ c.from-last.ensures) in omega (arith, h)

pub bounds-services-channel-in-loop-begun : goal.bounds-services-channel-in-loop-begun
bounds-services-channel-in-loop-begun c = let h = channel_below _ _ _ _ _ _ _ _ _ _ _ _ c.loop-begun.invariant (omega (arith, c.loop-begun-test.true)) c.if-nexts.false _ c.winner_of-which.ensures _ (c.from-t.ensures ∙ c.from-last.ensures) in omega (arith, h)

pub serve-done-requires : goal.serve-done-requires
serve-done-requires c = ready _ _ _ _ _ _ _ _ _ _ _ _ c.loop-begun.invariant (omega (arith, c.loop-begun-test.true)) c.if-nexts.false _ c.winner_of-which.ensures _ (c.from-t.ensures ∙ c.from-last.ensures) _ (rota_there _ _ _ _ _ _ _ _ _ _ _ _ c.loop-begun.invariant (omega (arith, c.loop-begun-test.true)) c.if-nexts.false _ c.winner_of-which.ensures _ (c.from-t.ensures ∙ c.from-last.ensures) _)

pub returns-then-not-is_ended : goal.returns-then-not-is_ended
returns-then-not-is_ended c =
    said_over c.args.b _ _ _ c.args.k (free _ c.round_refusal.result c.round_refusal.ensures c.in_default.not-Some) _ _ c.rota_of-one.ensures c.rota_of-two.ensures _ _ _ _ (rw (← c.from-t.ensures) at c.closed-then-not-is_ended.ensures) (rolling_stops _ _ _ _ _ _ _ _ _ _ _ _ c.loop-begun.invariant (omega (arith, c.loop-begun-test.true)) c.if-nexts.false _ c.winner_of-which.ensures _ (c.from-t.ensures ∙ c.from-last.ensures) _ (rota_there _ _ _ _ _ _ _ _ _ _ _ _ c.loop-begun.invariant (omega (arith, c.loop-begun-test.true)) c.if-nexts.false _ c.winner_of-which.ensures _ (c.from-t.ensures ∙ c.from-last.ensures) _) _ _ _ c.serve-done.ensures.0 c.serve-done.ensures.1 (sym c.is_ended.ensures ∙ c.if-not-is_ended.true) _)

pub next_of-requires-in-loop-begun : goal.next_of-requires-in-loop-begun
next_of-requires-in-loop-begun c = (c.serve-done.ensures.1.own, c.serve-done.ensures.1.range)

pub loop-begun-preserved : goal.loop-begun-preserved
loop-begun-preserved c =
    rw (← c.from-t.ensures)
    (rolling_on _ _ _ _ _ _ _ _ _ _ _ _ c.loop-begun.invariant (omega (arith, c.loop-begun-test.true)) c.if-nexts.false _ c.winner_of-which.ensures _ (c.from-t.ensures ∙ c.from-last.ensures) _ (rota_there _ _ _ _ _ _ _ _ _ _ _ _ c.loop-begun.invariant (omega (arith, c.loop-begun-test.true)) c.if-nexts.false _ c.winner_of-which.ensures _ (c.from-t.ensures ∙ c.from-last.ensures) _) _ _ _ c.serve-done.ensures.0 c.serve-done.ensures.1 (sym c.is_ended.ensures ∙ c.if-not-is_ended.false) _ c.next_of-in-loop-begun.ensures.0 _ (omega arith))

pub returns : goal.returns
returns c =
    said_over c.args.b _ _ _ c.args.k (free _ c.round_refusal.result c.round_refusal.ensures c.in_default.not-Some) _ _ c.rota_of-one.ensures c.rota_of-two.ensures _ _ _ _ c.closed-2.ensures (rolling_done _ _ _ _ _ _ _ _ _ _ _ _ c.loop-begun.invariant (omega (arith, c.loop-begun-test.false)) _)

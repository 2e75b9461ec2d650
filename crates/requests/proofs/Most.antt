-- The most that a run and a round count.
use Prim.Native.Nat.{ℕ, zero, suc, ◌+◌, ◌*◌, ◌≤◌, ◌<◌}
use mathlib.Core.Path.{◌≡◌, refl, ap, ◌∙◌}
use mathlib.Core.Bool.{true, false, not, ◌||◌}
use mathlib.Core.List.{List, [], ◌∷◌}
use native.Mathlib.Omega.{arith}
use lib.Dec.{eqb}
use lib.ListN.{length, get_or, drop}
use borrow.Author.Tests.{eqb-true, eqb-false, le-leb}
use Rattle.words.specs.Choice.{when, ◌and◌}
use Rattle.words.specs.Bits.{with_bit}
use Rattle.words.specs.Grounds.{Ground, first}
use Rattle.am9517.specs.Modes.{is_cascade}
use Rattle.am9517.specs.Fields.{Field, make, but, blank, channel, Command, Tc, Mask, Temporary, Pins, Lowest, Waits}
use Rattle.am9517.specs.Ranges.{mode_valid, modes_valid, fields_valid, service_valid, valid}
use Rattle.am9517.specs.Refusals.{refusal}
use Rattle.am9517.specs.Answers.{outcome}
use Rattle.am9517.specs.Serving.{active, request_counts, entitled, set_of, picked_from, picked, granted}
use Rattle.am9517.specs.declared.Channel.{Channel}
use Rattle.am9517.specs.declared.Controller.{Controller}
use Rattle.am9517_service.specs.Bounds.{most_waits, most_transfers, most_states, most_services, most_round_transfers, most_round_states}
use Rattle.am9517_service.specs.World.{World, world, start_of, memory_to_memory, serving_channel, Stop, stop}
use Rattle.am9517_service.specs.Counts.{counts, none, plus}
use Rattle.am9517_service.specs.States.{copy_pace}
use Rattle.am9517_service.specs.Copy.{source_after}
use Rattle.am9517_service.specs.declared.Reason.TheVariants.{Ended}
use Rattle.am9517_service.specs.ClosedLegs.{current_after, leg_of}
use Rattle.am9517_service.specs.ClosedSpans.{until_end, span, copy_span}
use Rattle.am9517_service.specs.ClosedCopies.{carried_by, route_of, copy_leg_of, last_byte, after_copy}
use Rattle.am9517_service.specs.Stops.{dropped, short, stops}
use Rattle.am9517_service.specs.Ends.{counting, reaches_tc, bits_of, single, ends}
use Rattle.am9517_service.specs.Run.{transferred, run_of}
use Rattle.am9517_service.specs.Answers.{Given, stopped, run_grounds, ran_of}
use Rattle.am9517_service.specs.Round.{Course, beginning, run_next, with_run, after_next, is_ended, Close, round_of}
use Rattle.am9517_service.specs.RoundAnswers.{RoundGiven, closed, round_grounds, rounded_of}
use Rattle.demands.specs.Rounds.{Words}
use Rattle.requests.specs.Most.{AtMost, longest, MostCounted}
use Rattle.demands.specs.Operations.{Grant, next}
use Rattle.words.proofs.ChoiceLaws.{when_both, when_each, when_miss}
use Rattle.am9517_service.proofs.RunWayLaws.{neither_left}
use Rattle.am9517_service.proofs.KeepLaws.{Counted, run_counted}
use Rattle.am9517_service.proofs.AnswerLaws.{run_accepted}
use Rattle.am9517_service.proofs.CopyLegLaws.{copy_led}
use Rattle.am9517_service.proofs.RoundTurnLaws.{counts_same}
use Rattle.am9517_service.proofs.RoundLaws.{Tally, tally_start, tally_on, round_accepted, round_open}
use Rattle.demands.proofs.StopLaws.{run_count, count_falls}
use Rattle.requests.proofs.EditionRunLaws.{transfer_counted}

-- A run makes as many transfers as its count allows: TC ends it.
module _ (eop : ℕ) (d : List ℕ) where
  abbrev Few : Stop → Type 0
  Few s = s.world.counts.transfers ≤ most_transfers

  stops_few : (left : ℕ) (w : World) (x : Stop) → w.counts.transfers ≤ most_transfers → Few x → Few (first (stops w d left) x)
  unfolding stops first
  stops_few left w x h g =
      when_both (λ (gs : List (Ground Stop)). Few (first gs x)) (memory_to_memory w.controller)
      (when_both Few (eqb left 0) h g)
      (when_both Few (dropped w.controller) h
      (when_both Few (is_cascade (serving_channel w.controller).mode) h (when_both Few (eqb left 0) h (when_both Few (short w d) h g))))

  ends_few : (c : Controller) (w : World) (x : Stop) → w.counts.transfers ≤ most_transfers → (reaches_tc c ≡ false → Few x) → Few (first (ends c w eop) x)
  unfolding first
  ends_few c w x h g =
      when_each Few (reaches_tc c || eqb w.counts.transfers eop) (λ e. h)
      (λ e. when_both Few (single c) h (g (neither_left (reaches_tc c) (eqb w.counts.transfers eop) e)))

  run_few : (left : ℕ) (w : World) → w.counts.transfers + run_count w.controller < most_transfers → Few (run_of left eop d w)
  unfolding run_of
  run_few zero w h = stops_few 0 w _ (omega arith) (omega arith)
  run_few (suc left) w h =
      let v = transferred w d in
      let made : v.counts.transfers ≡ w.counts.transfers + 1 = transfer_counted w d in
      stops_few (suc left) w _ (omega arith)
      (ends_few w.controller v _ (omega arith)
      (λ tc. run_few left v (omega (arith, made, eqb-false (run_count w.controller) 0 tc, count_falls w d (omega arith) tc))))

-- no counts at all
none_most : (d r : List ℕ) (transfers states : ℕ) → AtMost none transfers states d r
none_most d r transfers states = record { transfers = omega arith; used = omega arith; written = omega arith; states = omega arith }

run_most : (s : Controller) (m d r : List ℕ) (limit eop : ℕ) → Words s → s.waits ≤ most_waits → AtMost (ran_of s m d r limit eop).ran.counts most_transfers most_states d r
unfolding ran_of stopped
run_most s m d r limit eop words waits =
    when_both (λ (g : Given). AtMost g.ran.counts most_transfers most_states d r) (eqb (refusal (run_grounds s m)) 0) ran (none_most d r _ _)
  where
    counted : Counted (length m) (length r) (length d) limit s.waits (run_of limit eop d (start_of s m r)).world
    counted =
        run_counted (length m) (length r) s.waits d limit eop (start_of s m r)
        (record { memory_length = refl; room_length = refl; used = omega arith; written = omega arith; transfers = omega arith; slow = refl; states = λ h. omega arith })

    few : (run_of limit eop d (start_of s m r)).world.counts.transfers ≤ most_transfers
    few = run_few eop d limit (start_of s m r) (omega (arith, (words (counting s)).0))

    ran : AtMost (run_of limit eop d (start_of s m r)).world.counts most_transfers most_states d r
    ran = record { transfers = few; used = counted.used; written = counted.written; states = omega (arith, counted.states waits, few) }

-- A round: each service adds at most a run's.
module _ (d : List ℕ) (size : ℕ) where
  abbrev Bounded : Course → Type 0
  Bounded w = Tally d size most_services w

  enough : (begun : ℕ) (w : Course) → Tally d size begun w → begun ≤ most_services → Bounded w
  enough begun w t h =
      record {
        room = t.room;
        used = t.used;
        written = t.written;
        services = λ i. omega (arith, t.services i);
        transfers = omega (arith, t.transfers);
        states = omega (arith, t.states);
        waits = t.waits;
      }

  round_tally : (left begun : ℕ) (w : Course) → Tally d size begun w → left + begun ≤ most_services → Bounded (round_of left d w).course
  unfolding round_of first
  round_tally zero begun w t h = enough begun w t (omega arith)
  round_tally (suc left) begun w t h =
      let Kept : Close → Type 0 = λ k. Bounded k.course in
      let on = tally_on d size begun w t in
      when_both Kept (eqb (picked w.controller) 4) (enough begun w t (omega arith))
      (when_both Kept (not (is_ended (run_next w d).reason)) (enough (begun + 1) (after_next w d) on (omega arith)) (round_tally left (begun + 1) (after_next w d) on (omega arith)))

round_bounded : (s : Controller) (m d r : List ℕ) (k : ℕ) → s.waits ≤ most_waits
    → AtMost (rounded_of s m d r k).rounded.totals most_round_transfers most_round_states d r × ((i : ℕ) → get_or (rounded_of s m d r k).rounded.services i 0 ≤ most_services)
unfolding rounded_of closed
round_bounded s m d r k waits =
    when_each (λ (g : RoundGiven). AtMost g.rounded.totals most_round_transfers most_round_states d r × ((i : ℕ) → get_or g.rounded.services i 0 ≤ most_services)) (eqb (refusal (round_grounds s m k)) 0)
    (λ e. let few = (round_open s m k (eqb-true _ _ e)).3 in
    let t = round_tally d (length r) k 0 (beginning s m r) start (omega arith) in
    (record { transfers = t.transfers; used = t.used; written = t.written; states = t.states }, t.services))
    (λ e. (none_most d r _ _, λ i. omega (arith, start.services i)))
  where
    start : Tally d (length r) 0 (beginning s m r)
    start = tally_start s m d r waits

-- What is reached: the states of the longest round, which differ in TC bits, temporary byte and channel 0.
abbrev standing : ℕ → ℕ → Channel → Controller
standing tc byte source =
    make
    (source ∷ record { base_address = 0; address = 0; base_count = 0xFFFF; count = 0xFFFF; mode = 0x90 } ∷ blank ∷ blank ∷ [])
    (but (but (but (but (but (but (but (λ (f : Field). 0) Command 1) Mask 14) Pins 1) Lowest 3) Waits most_waits) Tc tc) Temporary byte)

module _ (tc byte : ℕ) (source : Channel) where
  abbrev s : Controller
  s = standing tc byte source

  abbrev c : Controller
  c = granted s 0

  zeroth : picked s ≡ 0
  unfolding picked set_of entitled active request_counts picked_from first when
  zeroth = refl

  copies : memory_to_memory c ≡ true
  unfolding memory_to_memory granted
  copies = refl

  abbrev target : Channel
  target = channel s 1

  -- the service, whole: what it leaves of the state, and what it counts
  abbrev left_by_lem : List ℕ → Controller
  left_by_lem m = standing (with_bit tc 1 true) (last_byte (route_of false source target) m most_transfers) (source_after false source most_transfers)

  module _ (m d r : List ℕ) (limit : ℕ) (h : most_transfers ≤ limit) where
    span_is : span most_transfers Ended ≡ copy_span 0xFFFF limit 0
    unfolding copy_span until_end when
    span_is = simp (le-leb _ _ h)

    state_is : after_copy c (copy_leg_of 0 source target (bits_of s) false most_transfers 0) (last_byte (route_of false source target) m most_transfers) false ≡ left_by_lem m
    unfolding copy_leg_of leg_of current_after granted with_bit when
    state_is = refl

    pub longest_run : run_of limit 0 d (start_of c m r) ≡ stop (world (left_by_lem m) (carried_by (route_of false source target) m most_transfers) r (counts most_transfers 0 0 most_states)) Ended
    unfolding granted copy_pace
    longest_run =
        (copy_led c m d r limit 0 copies (omega arith) (omega arith) (span most_transfers Ended) span_is).some (omega arith)
        ∙ ap (λ (x : Controller). stop (world x (carried_by (route_of false source target) m most_transfers) r (counts most_transfers 0 0 most_states)) Ended) state_is

-- it is granted and run, and the round is accepted
longest_granted : next longest Grant ≡ granted longest 0
unfolding outcome picked set_of entitled active request_counts picked_from first when refusal valid modes_valid fields_valid service_valid mode_valid ◌and◌
longest_granted = refl

longest_runs : (m : List ℕ) → length m ≡ 65536 → refusal (run_grounds (granted longest 0) m) ≡ 0
unfolding granted first when refusal valid modes_valid fields_valid service_valid mode_valid ◌and◌
longest_runs m size = simp size

longest_rounds : (m : List ℕ) → length m ≡ 65536 → refusal (round_grounds longest m most_services) ≡ 0
unfolding first when refusal valid modes_valid fields_valid service_valid mode_valid ◌and◌
longest_rounds m size = simp size

run_reached_lem : (m d r : List ℕ) (limit : ℕ) → length m ≡ 65536 → most_transfers ≤ limit
    → (ran_of (next longest Grant) m d r limit 0).ran.counts ≡ counts most_transfers 0 0 most_states
unfolding stopped
run_reached_lem m d r limit size h =
    ap (λ (x : Controller). (ran_of x m d r limit 0).ran.counts) longest_granted
    ∙ ap (λ (g : Given). g.ran.counts) (run_accepted (granted longest 0) m d r limit 0 (longest_runs m size) ∙ ap stopped (longest_run 0 0 blank m d r limit h))

module _ (d : List ℕ) where
  run_is : (w : Course) (tc byte : ℕ) (source : Channel) → w.controller ≡ standing tc byte source
      → run_next w d ≡ stop (world (left_by_lem tc byte source w.memory) (carried_by (route_of false source (target tc byte source)) w.memory most_transfers) (drop w.totals.written w.room) (counts most_transfers 0 0 most_states)) Ended
  unfolding run_next
  run_is w tc byte source is =
      let rest = drop w.totals.used d in
      let space = drop w.totals.written w.room in
      ap (λ (x : Controller). run_of 65536 0 rest (start_of (granted x (picked x)) w.memory space)) is
      ∙ ap (λ (k : ℕ). run_of 65536 0 rest (start_of (granted (standing tc byte source) k) w.memory space)) (zeroth tc byte source)
      ∙ longest_run tc byte source w.memory rest space 65536 (omega arith)

  round_reached_by : (left : ℕ) (w : Course) (tc byte : ℕ) (source : Channel) → w.controller ≡ standing tc byte source
      → (round_of left d w).course.totals ≡ plus w.totals (counts (left * most_transfers) 0 0 (left * most_states))
  unfolding round_of first with_run
  round_reached_by zero w tc byte source is = counts_same _ _ _ _ _ _ _ _ (omega arith) (omega arith) (omega arith) (omega arith)
  round_reached_by (suc left) w tc byte source is =
      let who : picked w.controller ≡ 0 = ap picked is ∙ zeroth tc byte source in
      let run = run_is w tc byte source is in
      ap (λ (k : Close). k.course.totals) (when_miss _ _ _ (ap (λ (k : ℕ). eqb k 4) who) ∙ when_miss _ _ _ (ap (λ (x : Stop). not (is_ended x.reason)) run))
      ∙ round_reached_by left (after_next w d) _ _ _ (ap (λ (x : Stop). x.world.controller) run)
      ∙ ap (λ (x : Stop). plus (plus w.totals x.world.counts) (counts (left * most_transfers) 0 0 (left * most_states))) run
      ∙ counts_same _ _ _ _ _ _ _ _ (omega arith) (omega arith) (omega arith) (omega arith)

round_reached_lem : (m d r : List ℕ) → length m ≡ 65536 → (rounded_of longest m d r most_services).rounded.totals ≡ counts most_round_transfers 0 0 most_round_states
unfolding closed
round_reached_lem m d r size =
    ap (λ (g : RoundGiven). g.rounded.totals) (round_accepted longest m d r most_services (longest_rounds m size))
    ∙ round_reached_by d most_services (beginning longest m r) 0 0 blank refl

pub most_counted : MostCounted
most_counted =
    record {
      run = run_most;
      round = λ s m d r k h. (round_bounded s m d r k h).0;
      services = λ s m d r k i h. (round_bounded s m d r k h).1 i;
      numbers = (refl, refl, refl, omega arith);
      fits = (omega arith, omega arith, omega arith);
      run_reached = run_reached_lem;
      round_reached = round_reached_lem;
    }

-- The loop of a round, turn by turn, as the code computes it.
use Prim.Native.Nat.{ℕ, ◌+◌, ◌-◌, ◌*◌, ◌^◌, ◌≤◌, ◌<◌}
use mathlib.Core.Path.{◌≡◌, refl, sym, ap, ◌∙◌}
use mathlib.Core.Bool.{Bool, true, false, not, ◌&&◌, ◌||◌}
use mathlib.Core.List.{List, [], ◌∷◌, ◌++◌}
use native.Mathlib.Omega.{arith}
use native.Mathlib.Nat.{add_assoc}
use lib.Dec.{eqb, ltb}
use lib.ListN.{length, get_or, set, take, drop, take-append-drop}
use borrow.Author.Tests.{eqb-true, eqb-false, eq-eqb, ne_eqb, ltb-true, ltb-false}
use Rattle.words.specs.Choice.{when}
use Rattle.words.specs.Bits.{bit}
use Rattle.words.specs.Steps.{steps}
use Rattle.words.specs.Spans.{spread}
use Rattle.am9517.specs.Fields.{channel, blank, with_channel, put, LatchFull, Latch, Temporary, Lowest}
use Rattle.am9517.specs.Modes.{memory_to_memory_bit, address_hold, rotating, decrement, is_write, is_read, is_single}
use Rattle.am9517.specs.Ranges.{valid}
use Rattle.am9517.specs.Refusals.{refused, refusal}
use Rattle.am9517.specs.Serving.{picked, granted}
use Rattle.am9517.specs.ClosedSets.{lines_of, blocks_of}
use Rattle.am9517.specs.declared.Channel.{Channel}
use Rattle.am9517.specs.declared.Controller.{Controller}
use Rattle.am9517.specs.declared.refusals.Refusal.{Refusal}
use Rattle.am9517_service.specs.declared.Counts.{Counts}
use Rattle.am9517_service.specs.declared.Reason.{Reason}
use Rattle.am9517_service.specs.declared.Reason.TheVariants.{Ended, Dropped, Cascade, Limit, Short}
use Rattle.am9517_service.specs.declared.RoundEnd.TheVariants.{Done, Quiet, Stopped}
use Rattle.am9517_service.specs.declared.Rounded.{Rounded}
use Rattle.am9517_service.specs.declared.spans.Span.{Span}
use Rattle.am9517_service.specs.declared.legs.Bits.{Bits}
use Rattle.am9517_service.specs.declared.legs.Leg.{Leg}
use Rattle.am9517_service.specs.declared.copies.Copied.{Copied}
use Rattle.am9517_service.specs.declared.rounds.Facts.{Facts}
use Rattle.am9517_service.specs.declared.bytes.Moved.{Moved}
use Rattle.am9517_service.specs.declared.rounds.Turn.{Turn}
use Rattle.am9517_service.specs.Counts.{counts, plus, none}
use Rattle.am9517_service.specs.World.{World, world, memory_to_memory, stop}
use Rattle.am9517_service.specs.Transfer.{stepped, writes, reads}
use Rattle.am9517_service.specs.Ends.{bits_of, with_bits}
use Rattle.am9517_service.specs.States.{pace, copy_pace}
use Rattle.am9517_service.specs.Bounds.{most_waits, most_pace, most_transfers, most_states, most_services, most_round_transfers, most_round_states}
use Rattle.am9517_service.specs.Round.{Course, course, RoundAnswer, Close, close, beginning, run_next, with_run, nobody, is_ended, round_of}
use Rattle.am9517_service.specs.RoundAnswers.{round_given, closed, round_grounds, rounded_of}
use Rattle.am9517_service.specs.ClosedLegs.{address_after, current_after, states_of, counts_of, stored, loaded, leg_of}
use Rattle.am9517_service.specs.ClosedSpans.{span_of, stays_open}
use Rattle.am9517_service.specs.ClosedCopies.{carried_by, route_of, copy_leg_of, last_byte}
use Rattle.am9517_service.specs.Needs.{Stocked}
use Rattle.am9517_service.specs.ClosedRounds.{facts_of, nexts_of, made_alone, turn_of, with_alone, settled_of, answer_of}
use Rattle.words.proofs.ChoiceLaws.{when_both, when_hit, when_miss, when_same, never}
use Rattle.words.proofs.SpreadLaws.{length_spread}
use Rattle.am9517.proofs.RangeLaws.{fields}
use Rattle.am9517.proofs.KeepLaws.{modes_kept}
use Rattle.am9517.proofs.ServingLaws.{lines_same, blocks_same, picked_most}
use Rattle.am9517_service.proofs.TransferLaws.{next_mul, states_most, pace_most}
use Rattle.am9517_service.proofs.RoundLaws.{ended_is, tail_length, round_refused, round_accepted, Rolling, rolling_start, rolling_done, rolling_quiet, rolling_on, rolling_stops}
use Rattle.am9517_service.proofs.RoundTurnLaws.{resting, AtRest, at_rest, settles, next_is, counts_same, alone_plus, led_stocked, led_few, turn_stood, still_open, stays_open_lem, leg_ended, leg_halted, turn_alone, turn_copied}
use Rattle.am9517_service.proofs.CopySourceLaws.{source_mode}
use Rattle.am9517_service.proofs.AloneLaws.{one_more, still_all, Made, made_all}
use Rattle.std.proofs.Common.{Option, Some, None, Ok, Err, is_some}

abbrev pub rounded : Controller → RoundAnswer → List ℕ → Counts → Rounded
rounded c a services n = record { controller = c; answer = a; services = services; totals = n }

-- Where the loop stands, with left services to go.
pub record Looping (k : ℕ) (d : List ℕ) (size : ℕ) (o : Close) (f : Facts) (s : Controller) (services : List ℕ) (n : Counts) (nexts : List ℕ) (longs i left : ℕ) (m r : List ℕ) : Type 0 where
  pub rolling : Rolling d size o left (k - left) (course (resting s i) m r services (with_alone n (k - left - longs) f.pace))
  pub facts : f ≡ facts_of s
  pub listed : nexts ≡ nexts_of f s.mask s.request
  pub place : i < 4
  pub fewer : left ≤ k
  pub long : longs ≤ k - left
  pub most : k ≤ 4096
  pub bytes : length d < 2 ^ 64
  pub space : size < 2 ^ 64

pub resting_own : (c : Controller) → resting c c.lowest ≡ c
resting_own c = ap (λ (x : ℕ). put c Lowest x) (when_same (rotating c.command) c.lowest)

pub looping_start : (k : ℕ) (c : Controller) (m d r : List ℕ) (f : Facts) (nexts : List ℕ) → valid c ≡ true → c.in_service ≡ 0 → c.waits ≤ most_waits → length m ≡ 65536 → k ≤ 4096 → f ≡ facts_of c → nexts ≡ nexts_of f c.mask c.request
    → length d < 2 ^ 64 → length r < 2 ^ 64 → Looping k d (length r) (round_of k d (beginning c m r)) f c (0 ∷ 0 ∷ 0 ∷ 0 ∷ []) none nexts 0 c.lowest k m r
looping_start k c m d r f nexts v e h size most ef en hd hr =
    let zero : k - k - 0 ≡ 0 = omega arith in
    let begun : k - k ≡ 0 = omega arith in
    let free : with_alone none (k - k - 0) f.pace ≡ none = ap (λ (x : ℕ). with_alone none x f.pace) zero ∙ counts_same _ _ _ _ _ _ _ _ (omega arith) refl refl (omega arith) in
    let all : course (resting c c.lowest) m r (0 ∷ 0 ∷ 0 ∷ 0 ∷ []) (with_alone none (k - k - 0) f.pace) ≡ beginning c m r =
    ap (λ (x : Controller). course x m r (0 ∷ 0 ∷ 0 ∷ 0 ∷ []) (with_alone none (k - k - 0) f.pace)) (resting_own c) ∙ ap (course c m r (0 ∷ 0 ∷ 0 ∷ 0 ∷ [])) free in
    record {
      rolling = rw (all, begun) (rolling_start k c m d r v e h size);
      facts = ef;
      listed = en;
      place = omega (arith, (fields c v).lowest);
      fewer = omega arith;
      long = omega arith;
      most = most;
      bytes = hd;
      space = hr;
    }

-- the answer of a round whose last leg did not end
stopped_answer : (why : Reason) (done : Bool) → is_ended why ≡ false → answer_of why done ≡ Ok (Stopped why)
stopped_answer Ended done h = never h
stopped_answer Dropped done h = refl
stopped_answer Cascade done h = refl
stopped_answer Limit done h = refl
stopped_answer Short done h = refl

abbrev facts : ℕ → ℕ → ℕ → ℕ → Facts
facts command waits lines blocks =
    record { rotating = rotating command; copier = when (memory_to_memory_bit command) 0 4; hold = address_hold command; pace = pace command waits; lines = lines; blocks = blocks; waits = waits }

pub facts_same : (s x : Controller) → x.command ≡ s.command → x.waits ≡ s.waits → x.pins ≡ s.pins → ((i : ℕ) → (channel x i).mode ≡ (channel s i).mode) → facts_of s ≡ facts_of x
facts_same s x ec ew ep em =
    ap (λ (k : ℕ). facts k s.waits (lines_of s) (blocks_of s)) (sym ec) ∙ ap (λ (k : ℕ). facts x.command k (lines_of s) (blocks_of s)) (sym ew) ∙ ap (λ (k : ℕ). facts x.command x.waits k (blocks_of s)) (sym (lines_same s x ec ep)) ∙ ap (facts x.command x.waits (lines_of x)) (sym (blocks_same s x ec em))

module _ (k : ℕ) (d : List ℕ) (size : ℕ) (o : Close) (f : Facts) (s : Controller) (services : List ℕ) (n : Counts) (nexts : List ℕ) (longs i left : ℕ) (m r : List ℕ) (g : Looping k d size o f s services n nexts longs i left m r) where
  abbrev total : Counts
  total = with_alone n (k - left - longs) f.pace

  abbrev W : Course
  W = course (resting s i) m r services total

  pub rest : AtRest s
  rest = at_rest s i g.rolling.range g.rolling.idle

  next_picked : get_or nexts i 0 ≡ picked (resting s i)
  next_picked = ap (λ (l : List ℕ). get_or l i 0) g.listed ∙ next_is s i f g.facts (omega (arith, (fields (resting s i) g.rolling.range).mask)) g.place

  settled_is : settled_of s i f.rotating false ≡ resting s i
  settled_is = ap (λ (x : Facts). settled_of s i x.rotating false) g.facts ∙ settles s i rest

  -- all services were begun, or nobody is entitled
  pub looping_done : (why : Reason) → why ≡ Ended → left ≡ 0 → round_given (rounded (settled_of s i f.rotating (stays_open why)) (answer_of why (eqb left 0)) services total) m r ≡ closed o
  unfolding closed when
  looping_done why e z =
      rw (e, eq-eqb _ _ z)
      (ap (λ (x : Controller). round_given (rounded x (Ok Done) services total) m r) settled_is ∙ ap closed (rolling_done d size o left (k - left) W g.rolling z))

  pub looping_quiet : (why : Reason) → why ≡ Ended → 0 < left → get_or nexts i 0 ≡ 4 → round_given (rounded (settled_of s i f.rotating (stays_open why)) (answer_of why (eqb left 0)) services total) m r ≡ closed o
  unfolding closed when
  looping_quiet why e h z =
      let more : left ≡ 0 → ⊥ = λ x. omega arith in
      rw (e, ne_eqb _ _ more)
      (ap (λ (x : Controller). round_given (rounded x (Ok Quiet) services total) m r) settled_is ∙ ap closed (rolling_quiet d size o left (k - left) W g.rolling h (eq-eqb _ _ (sym next_picked ∙ z))))

  -- A service of channel j comes next.
  module _ (more : 0 < left) (j : ℕ) (is-next : j ≡ get_or nexts i 0) (somebody : j ≡ 4 → ⊥) where
    pub who : j ≡ picked (resting s i)
    who = is-next ∙ next_picked

    pub who_below : j < 4
    who_below = omega (arith, who, picked_most (resting s i), somebody)

    some : nobody (resting s i) ≡ false
    some = ne_eqb _ _ (λ (e : picked (resting s i) ≡ 4). somebody (who ∙ e))

    abbrev services' : List ℕ
    services' = set services j (get_or services j 0 + 1)

    behind : (v : World) (why : Reason) → with_run W (picked (resting s i)) (stop v why) ≡ course v.controller v.memory (take n.written r ++ v.room) services' (plus total v.counts)
    unfolding with_run
    behind v why =
        ap (λ (x : ℕ). course v.controller v.memory (take n.written r ++ v.room) (set services x (get_or services x 0 + 1)) (plus total v.counts)) (sym who)

    -- the service ended, and the loop goes on
    pub turned : (v : World) → run_next W d ≡ stop v Ended → (s' : Controller) (m' r' : List ℕ) (n' : Counts) (nexts' : List ℕ) (longs' : ℕ)
        → v.controller ≡ resting s' j → v.memory ≡ m' → take n.written r ++ v.room ≡ r' → plus total v.counts ≡ with_alone n' (k - (left - 1) - longs') f.pace
        → s'.command ≡ s.command → s'.waits ≡ s.waits → s'.pins ≡ s.pins → ((x : ℕ) → (channel s' x).mode ≡ (channel s x).mode) → nexts' ≡ nexts_of f s'.mask s'.request → longs' ≤ k - (left - 1)
        → Looping k d size o f s' services' n' nexts' longs' j (left - 1) m' r'
    turned v is s' m' r' n' nexts' longs' ec em er en ek ew ep modes el few =
        let begun : k - left + 1 ≡ k - (left - 1) = omega (arith, g.fewer) in
        let on : Rolling d size o (left - 1) (k - left + 1) (with_run W (picked (resting s i)) (stop v Ended)) = rolling_on d size o left (k - left) W g.rolling more some (stop v Ended) is refl in
        let there : with_run W (picked (resting s i)) (stop v Ended) ≡ course (resting s' j) m' r' services' (with_alone n' (k - (left - 1) - longs') f.pace) =
        behind v Ended ∙ rw (ec, em, er, en) refl in
        record {
          rolling = rw (there, begun) at on;
          facts = g.facts ∙ facts_same s s' ek ew ep modes;
          listed = el;
          place = who_below;
          fewer = omega (arith, g.fewer);
          long = few;
          most = g.most;
          bytes = g.bytes;
          space = g.space;
        }

    -- it did not, and the round closes
    pub halted : (v : World) (why : Reason) → run_next W d ≡ stop v why → is_ended why ≡ false → (x : Controller) (m' r' : List ℕ) (n' : Counts) (longs' : ℕ) (done : Bool)
        → v.controller ≡ x → v.memory ≡ m' → take n.written r ++ v.room ≡ r' → plus total v.counts ≡ with_alone n' (k - (left - 1) - longs') f.pace
        → round_given (rounded x (answer_of why done) services' (with_alone n' (k - (left - 1) - longs') f.pace)) m' r' ≡ closed o
    unfolding closed
    halted v why is h x m' r' n' longs' done ec em er en =
        let there : with_run W (picked (resting s i)) (stop v why) ≡ course x m' r' services' (with_alone n' (k - (left - 1) - longs') f.pace) = behind v why ∙ rw (ec, em, er, en) refl in
        ap (λ (a : RoundAnswer). round_given (rounded x a services' (with_alone n' (k - (left - 1) - longs') f.pace)) m' r') (stopped_answer why done h)
        ∙ ap closed (ap (λ (w : Course). close w (Ok (Stopped why))) (sym there) ∙ rolling_stops d size o left (k - left) W g.rolling more some (stop v why) is h)

-- what the loop's test tells
pub goes_on_lem : (left x : ℕ) → (ltb 0 left && not (eqb x 4)) ≡ true → (0 < left) × (x ≡ 4 → ⊥)
goes_on_lem left x e = go (ltb 0 left) (eqb x 4) refl refl e
  where
    go : (a b : Bool) → ltb 0 left ≡ a → eqb x 4 ≡ b → (a && not b) ≡ true → (0 < left) × (x ≡ 4 → ⊥)
    go true true ea eb h = never (sym h)
    go true false ea eb h = (ltb-true 0 left ea, eqb-false x 4 eb)
    go false b ea eb h = never (sym h)

pub ends_by : (left x : ℕ) → (ltb 0 left && not (eqb x 4)) ≡ false → (left ≡ 0 → ⊥) → x ≡ 4
ends_by left x e more = go (ltb 0 left) (eqb x 4) refl refl e
  where
    go : (a b : Bool) → ltb 0 left ≡ a → eqb x 4 ≡ b → (a && not b) ≡ false → x ≡ 4
    go true true ea eb h = eqb-true x 4 eb
    go true false ea eb h = never h
    go false b ea eb h = absurd (more (omega (arith, ltb-false 0 left ea)))

pub pace_low : (f : Facts) (s : Controller) → f ≡ facts_of s → s.waits ≤ most_waits → f.pace ≤ most_pace
pace_low f s e h = rw e (pace_most s.command s.waits h)

module _ (k : ℕ) (d : List ℕ) (size : ℕ) (o : Close) (f : Facts) (s : Controller) (services : List ℕ) (n : Counts) (nexts : List ℕ) (longs i left : ℕ) (m r : List ℕ) (g : Looping k d size o f s services n nexts longs i left m r) where
  -- what is counted fits its type, with room for one service more
  pub record Fits : Type 0 where
    pub transfers : n.transfers + most_transfers < 2 ^ 32
    pub states : n.states + most_states < 2 ^ 38
    pub used : n.used ≤ length d
    pub written : n.written ≤ length r
    pub pace : f.pace ≤ most_pace

  pub fits : Fits
  fits =
      let low = pace_low f s g.facts g.rolling.tally.waits in
      let t : n.transfers ≤ most_round_transfers = omega (arith, g.rolling.tally.transfers, g.most) in
      let u : n.states ≤ most_round_states = omega (arith, g.rolling.tally.states, g.most) in
      record { transfers = omega arith; states = omega arith; used = g.rolling.tally.used; written = omega (arith, g.rolling.tally.written, g.rolling.tally.room); pace = low }

  -- the loop is left: all services were begun, or nobody is entitled
  pub looping_left : (ltb 0 left && not (eqb (get_or nexts i 0) 4)) ≡ false → round_given (rounded (settled_of s i f.rotating (stays_open Ended)) (answer_of Ended (eqb left 0)) services (with_alone n (k - left - longs) f.pace)) m r ≡ closed o
  looping_left e = go (eqb left 0) refl
    where
      go : (t : Bool) → eqb left 0 ≡ t → round_given (rounded (settled_of s i f.rotating (stays_open Ended)) (answer_of Ended (eqb left 0)) services (with_alone n (k - left - longs) f.pace)) m r ≡ closed o
      go true h = looping_done k d size o f s services n nexts longs i left m r g Ended refl (eqb-true left 0 h)
      go false h = let nz = eqb-false left 0 h in looping_quiet k d size o f s services n nexts longs i left m r g Ended refl (omega arith) (ends_by left (get_or nexts i 0) e nz)

  module _ (test : (ltb 0 left && not (eqb (get_or nexts i 0) 4)) ≡ true) where
    abbrev j : ℕ
    j = get_or nexts i 0

    pub next_below : j < 4
    next_below = who_below k d size o f s services n nexts longs i left m r g (goes_on_lem left j test).0 j refl (goes_on_lem left j test).1

    pub services_below : get_or services j 0 < 4096
    services_below = omega (arith, g.rolling.tally.services j, g.most, g.fewer, (goes_on_lem left j test).0)

    pub longs_below : longs < 4096
    longs_below = omega (arith, g.long, g.most, g.fewer, (goes_on_lem left j test).0)

    pub left_some : 0 < left
    left_some = (goes_on_lem left j test).0

    pub left_falls : left - 1 < left
    left_falls = omega (arith, left_some)

    pub left_fewer : left - 1 ≤ k
    left_fewer = omega (arith, g.fewer)

    pub longs_fewer : longs + 1 ≤ k - (left - 1)
    longs_fewer = omega (arith, g.long, g.fewer, left_some)

-- a channel that is not the copier's serves a device; the copier is channel 0
pub serves_device : (s : Controller) (i j : ℕ) (f : Facts) → f ≡ facts_of s → (j ≡ f.copier → ⊥) → memory_to_memory (granted (resting s i) j) ≡ false
unfolding memory_to_memory granted
serves_device s i j f e h = go (memory_to_memory_bit s.command) refl
  where
    go : (t : Bool) → memory_to_memory_bit s.command ≡ t → (t && eqb j 0) ≡ false
    go true h' = ne_eqb _ _ (λ (z : j ≡ 0). h (z ∙ sym (ap (λ (x : Facts). x.copier) e ∙ when_hit _ _ _ h')))
    go false h' = refl

-- a leg leaves its channel's mode, and one of memory-to-memory every mode
pub leg_mode : (edition i : ℕ) (ch : Channel) (b : Bits) (first : Bool) (p n eop : ℕ) → (leg_of edition i ch b first p n eop).channel.mode ≡ ch.mode
unfolding leg_of current_after
leg_mode edition i ch b first p n eop = when_both (λ (x : Channel). x.mode ≡ ch.mode) (eqb n (ch.count + 1) || eqb n eop) refl refl

pub copy_modes : (s : Controller) (q : ℕ) (source target : Channel) (b : Bits) (hold : Bool) (n : ℕ) → source.mode ≡ (channel s q).mode → target.mode ≡ (channel s 1).mode
    → (y : ℕ) → (get_or (set (set s.channels q (copy_leg_of s.edition source target b hold n 0).source) 1 (copy_leg_of s.edition source target b hold n 0).target) y blank).mode ≡ (channel s y).mode
unfolding copy_leg_of
copy_modes s q source target b hold n es et y =
    let u = copy_leg_of s.edition source target b hold n 0 in
    let from : u.source.mode ≡ (channel s q).mode = source_mode _ source _ ∙ es in
    let to : u.target.mode ≡ (channel s 1).mode = leg_mode _ _ target _ _ _ _ _ ∙ et in
    modes_kept (set s.channels q u.source) 1 y u.target (to ∙ sym (modes_kept s.channels q 1 u.source from)) ∙ modes_kept s.channels q y u.source from

pub copies_0 : (s : Controller) (i j : ℕ) (f : Facts) → f ≡ facts_of s → j < 4 → j ≡ f.copier → (memory_to_memory (granted (resting s i) j) ≡ true) × (j ≡ 0)
unfolding memory_to_memory granted
copies_0 s i j f e h is = go (memory_to_memory_bit s.command) refl
  where
    go : (t : Bool) → memory_to_memory_bit s.command ≡ t → ((t && eqb j 0) ≡ true) × (j ≡ 0)
    go true h' = let z : j ≡ 0 = is ∙ ap (λ (x : Facts). x.copier) e ∙ when_hit _ _ _ h' in (eq-eqb _ _ z, z)
    go false h' = let z : j ≡ 4 = is ∙ ap (λ (x : Facts). x.copier) e ∙ when_miss _ _ _ h' in absurd (omega arith)

-- nothing counted more
pub plus_none : (n : Counts) → plus n none ≡ n
plus_none n = counts_same _ _ _ _ _ _ _ _ (omega arith) (omega arith) (omega arith) (omega arith)

module _ (k : ℕ) (d : List ℕ) (size : ℕ) (o : Close) (f : Facts) (s : Controller) (services : List ℕ) (n : Counts) (nexts : List ℕ) (longs i left : ℕ) (m r : List ℕ) (g : Looping k d size o f s services n nexts longs i left m r)
    (test : (ltb 0 left && not (eqb (get_or nexts i 0) 4)) ≡ true) where
  abbrev q : ℕ
  q = get_or nexts i 0

  abbrev ch : Channel
  ch = channel s q

  more' : 0 < left
  more' = (goes_on_lem left q test).0

  somebody' : q ≡ 4 → ⊥
  somebody' = (goes_on_lem left q test).1

  who' : q ≡ picked (resting s i)
  who' = who k d size o f s services n nexts longs i left m r g more' q refl somebody'

  abbrev all : Counts
  all = with_alone n (k - left - longs) f.pace

  pace_is : pace s.command s.waits ≡ f.pace
  pace_is = ap (λ (x : Facts). x.pace) (sym g.facts)

  turns_is : rotating s.command ≡ f.rotating
  turns_is = ap (λ (x : Facts). x.rotating) (sym g.facts)

  abbrev resting_now : AtRest s
  resting_now = rest k d size o f s services n nexts longs i left m r g

  -- a lone transfer
  module _ (count address : ℕ) (ec : count ≡ ch.count) (hc : count < 65536) (ea : address ≡ ch.address) (ha : address < 65536) (single : Bool) (es : single ≡ is_single ch.mode) (moved : Option Moved) (m' r' : List ℕ)
      (eo : moved ≡ when (made_alone (single && (not (eqb count 0) && not (eqb q f.copier))) ch.mode (length d - n.used) (length r - n.written)) (Some (one_more n ch.mode)) None)
      (em : m' ≡ when (is_some moved && is_write ch.mode) (spread (steps 16 (decrement ch.mode) address) (λ (x : ℕ). x) (drop n.used d) m 1) m)
      (er : r' ≡ when (is_some moved && is_read ch.mode) (take n.written r ++ spread (λ (x : ℕ). x) (steps 16 (decrement ch.mode) address) m (drop n.written r) 1) r) where
    -- none was made: all is as it was
    pub looping_still : ((x : Moved) → moved ≡ Some x → ⊥) → Looping k d size o f s services n nexts longs i left m' r'
    looping_still h = let x = still_all ch q f.copier n d m r count address ec ea single es moved m' r' eo em er h in rw (x.0, x.1) g

    module _ (l : Moved) (made : moved ≡ Some l) where
      told : Made ch q f.copier n d m r count address ec ea single es moved m' r' eo em er l made
      told = made_all ch q f.copier n d m r count address ec ea single es moved m' r' eo em er l made

      run_is : run_next (course (resting s i) m r services all) d
          ≡ stop (world (resting (with_channel s q (stepped ch)) q) (stored ch (drop n.used d) m 1) (loaded ch m (drop n.written r) 1) (counts_of ch 1 (pace s.command s.waits + 1))) Ended
      run_is = turn_alone s i q resting_now m d r services all who' (rw (sym ea) ha) (rw (sym ec) hc) (serves_device s i q f g.facts told.device) told.alone told.more told.found

      totals_is : plus all (counts_of ch 1 (pace s.command s.waits + 1)) ≡ with_alone (counts n.transfers l.used l.written n.states) (k - (left - 1) - longs) f.pace
      totals_is =
          let x = k - left - longs in
          let one : k - (left - 1) - longs ≡ x + 1 = omega (arith, g.fewer, g.long, more') in
          let times : (x + 1) * (f.pace + 1) ≡ x * (f.pace + 1) + (f.pace + 1) = next_mul x (f.pace + 1) in
          let made_one : n.transfers + x + 1 ≡ n.transfers + (k - (left - 1) - longs) = omega (arith, one) in
          let cost : n.states + x * (f.pace + 1) + (pace s.command s.waits + 1) ≡ n.states + (k - (left - 1) - longs) * (f.pace + 1) =
          ap (λ (p : ℕ). n.states + x * (f.pace + 1) + (p + 1)) pace_is ∙ add_assoc n.states (x * (f.pace + 1)) (f.pace + 1) ∙ ap (λ (y : ℕ). n.states + y) (sym times) ∙ ap (λ (y : ℕ). n.states + y * (f.pace + 1)) (sym one) in
          counts_same _ _ _ _ _ _ _ _ made_one
          told.used
          told.written
          cost

      pub looping_alone : (x : Channel) → x ≡ stepped ch → Looping k d size o f (with_channel s q x) (set services q (get_or services q 0 + 1)) (counts n.transfers l.used l.written n.states) nexts longs q (left - 1) m' r'
      looping_alone x ex =
          rw ex
          (turned k d size o f s services n nexts longs i left m r g more' q refl somebody' _ run_is (with_channel s q (stepped ch)) m' r' (counts n.transfers l.used l.written n.states) nexts longs refl told.memory told.room totals_is refl refl refl
          (λ y. modes_kept s.channels q y (stepped ch) refl) g.listed (omega (arith, g.long)))

  -- A long service: what a leg of a device's service leaves, as the code computes it.
  module _ (nc : q ≡ f.copier → ⊥) (there : Channel) (et : there ≡ ch) (ha : there.address < 65536) (hc : there.count < 65536) (act : Bool) (ek : act ≡ not (eqb (bit s.pins q) (bit s.command 6))) (l : Span)
      (el : l ≡ span_of there act (length d - n.used) (length r - n.written) 65536 0) where
    below : ch.address < 65536
    below = rw (sym et) ha

    small : ch.count < 65536
    small = rw (sym et) hc

    span_told : l ≡ span_of ch (not (eqb (bit s.pins q) (bit s.command 6))) (length d - n.used) (length r - n.written) 65536 0
    span_told = el ∙ ap (λ (x : Channel). span_of x act (length d - n.used) (length r - n.written) 65536 0) et ∙ ap (λ (b : Bool). span_of ch b (length d - n.used) (length r - n.written) 65536 0) ek

    device : memory_to_memory (granted (resting s i) q) ≡ false
    device = serves_device s i q f g.facts nc

    pub leg_stocked : Stocked there m (drop n.used d) (drop n.written r) l.transfers
    leg_stocked = rw et (led_stocked s i q resting_now m d r services all who' below small device l span_told g.rolling.memory)

    pub leg_few : l.transfers ≤ 65536
    leg_few = led_few s i q resting_now m d r services all who' below small device l span_told

    same_alone : k - (left - 1) - (longs + 1) ≡ k - left - longs
    same_alone = omega (arith, g.fewer, g.long, more')

    -- it made no transfer, and the round closes
    pub looping_stood : l.transfers ≡ 0 → (done : Bool)
        → round_given (rounded (settled_of s q f.rotating (stays_open l.why)) (answer_of l.why done) (set services q (get_or services q 0 + 1)) (with_alone n (k - (left - 1) - (longs + 1)) f.pace)) m r ≡ closed o
    looping_stood z done =
        halted k d size o f s services n nexts longs i left m r g more' q refl somebody' _ l.why (turn_stood s i q resting_now m d r services all who' below small device l span_told z)
        (still_open s i q resting_now m d r services all who' below small device l span_told z) _ m r n (longs + 1) done
        (ap (λ (t : Bool). settled_of s q t (stays_open l.why)) turns_is) refl (take-append-drop n.written r)
        (plus_none all ∙ ap (λ (x : ℕ). with_alone n x f.pace) (sym same_alone))

    -- it made some, and its channel, bits and counts are these
    module _ (some : 0 < l.transfers) (b : Bits) (eb : b ≡ bits_of s) (u : Turn) (eu : u ≡ turn_of s.edition f.pace q there l.transfers b n) (m' r' : List ℕ)
        (em : m' ≡ stored there (drop n.used d) m l.transfers) (er : r' ≡ take n.written r ++ loaded there m (drop n.written r) l.transfers) where
      abbrev leg : Leg
      leg = leg_of s.edition q ch (bits_of s) true (pace s.command s.waits) l.transfers 0

      turn_is : u ≡ turn_of s.edition (pace s.command s.waits) q ch l.transfers (bits_of s) n
      turn_is =
          eu ∙ ap (λ (p : ℕ). turn_of s.edition p q there l.transfers b n) (sym pace_is) ∙ ap (λ (x : Channel). turn_of s.edition (pace s.command s.waits) q x l.transfers b n) et ∙ ap (λ (x : Bits). turn_of s.edition (pace s.command s.waits) q ch l.transfers x n) eb

      states_is : leg.states ≡ states_of ch (pace s.command s.waits) true l.transfers
      unfolding leg_of
      states_is = refl

      memory_left : stored ch (drop n.used d) m l.transfers ≡ m'
      memory_left = ap (λ (x : Channel). stored x (drop n.used d) m l.transfers) (sym et) ∙ sym em

      room_left_lem : take n.written r ++ loaded ch m (drop n.written r) l.transfers ≡ r'
      room_left_lem = ap (λ (x : Channel). take n.written r ++ loaded x m (drop n.written r) l.transfers) (sym et) ∙ sym er

      totals_left : plus all (counts_of ch l.transfers (states_of ch (pace s.command s.waits) true l.transfers)) ≡ with_alone u.counts (k - (left - 1) - (longs + 1)) f.pace
      totals_left =
          sym (alone_plus n (counts_of ch l.transfers (states_of ch (pace s.command s.waits) true l.transfers)) (k - left - longs) f.pace)
          ∙ ap (λ (x : ℕ). with_alone (plus n (counts_of ch l.transfers x)) (k - left - longs) f.pace) (sym states_is)
          ∙ ap (λ (x : Turn). with_alone x.counts (k - left - longs) f.pace) (sym turn_is)
          ∙ ap (λ (x : ℕ). with_alone u.counts x f.pace) (sym same_alone)

      -- the counts with it still have room
      pub turn_fits : (u.counts.transfers + most_services < 2 ^ 64) × (u.counts.states + most_states < 2 ^ 64)
      turn_fits =
          let x = fits k d size o f s services n nexts longs i left m r g in
          let few = leg_few in
          let most = states_most ch (pace s.command s.waits) true l.transfers few (rw pace_is (omega (arith, x.pace))) in
          rw turn_is (omega (arith, x.transfers), omega (arith, x.states, most, states_is))

      pub turn_memory : length m' ≡ 65536
      turn_memory = ap length em ∙ when_both (λ (x : List ℕ). length x ≡ length m) (writes there) (length_spread (address_after there) (λ (x : ℕ). x) (drop n.used d) m l.transfers) refl ∙ g.rolling.memory

      pub turn_room : length r' ≡ size
      turn_room =
          ap length er ∙ tail_length n.written r _ (when_both (λ (x : List ℕ). length x ≡ length (drop n.written r)) (reads there) (length_spread (λ (x : ℕ). x) (address_after there) m (drop n.written r) l.transfers) refl) ∙ g.rolling.tally.room

      there_is : with_bits (with_channel s q leg.channel) leg.bits ≡ with_bits (with_channel s q u.channel) u.bits
      there_is = ap (λ (x : Turn). with_bits (with_channel s q x.channel) x.bits) (sym turn_is)

      turn_mode : u.channel.mode ≡ ch.mode
      turn_mode = ap (λ (x : Turn). x.channel.mode) turn_is ∙ leg_mode s.edition q ch (bits_of s) true (pace s.command s.waits) l.transfers 0

      -- and ended the service
      pub looping_leg : is_ended l.why ≡ true → (nexts' : List ℕ) → nexts' ≡ nexts_of f u.bits.mask u.bits.request
          → Looping k d size o f (with_bits (with_channel s q u.channel) u.bits) (set services q (get_or services q 0 + 1)) u.counts nexts' (longs + 1) q (left - 1) m' r'
      looping_leg h nexts' en =
          turned k d size o f s services n nexts longs i left m r g more' q refl somebody' _ (leg_ended s i q resting_now m d r services all who' below small device l span_told some (ended_is l.why h))
          (with_bits (with_channel s q u.channel) u.bits) m' r' u.counts nexts' (longs + 1) (ap (λ (x : Controller). resting x q) there_is) memory_left room_left_lem totals_left refl refl refl
          (λ y. modes_kept s.channels q y u.channel turn_mode) en (omega (arith, g.long, g.fewer, more'))

      -- or did not, and the round closes
      pub looping_halted : is_ended l.why ≡ false → (done : Bool)
          → round_given (rounded (settled_of (put (put (with_bits (with_channel s q u.channel) u.bits) LatchFull 1) Latch u.latch) q f.rotating (stays_open l.why)) (answer_of l.why done) (set services q (get_or services q 0 + 1)) (with_alone u.counts (k - (left - 1) - (longs + 1)) f.pace)) m' r' ≡ closed o
      looping_halted h done =
          halted k d size o f s services n nexts longs i left m r g more' q refl somebody' _ l.why
          (leg_halted s i q resting_now m d r services all who' below small device l span_told some (stays_open_lem s i q resting_now m d r services all who' below small device l span_told some h)) h _ m' r' u.counts (longs + 1) done
          (ap (λ (x : Turn). settled_of (put (put (with_bits (with_channel s q x.channel) x.bits) LatchFull 1) Latch x.latch) q (rotating s.command) (stays_open l.why)) (sym turn_is)
          ∙ ap (λ (t : Bool). settled_of (put (put (with_bits (with_channel s q u.channel) u.bits) LatchFull 1) Latch u.latch) q t (stays_open l.why)) turns_is)
          memory_left room_left_lem totals_left

  -- A service of memory-to-memory, up to its end.
  module _ (is-copier : q ≡ f.copier) (source target : Channel) (es : source ≡ ch) (hs : source.address < 65536) (hsc : source.count < 65536) (et : target ≡ channel s 1) (ht : target.address < 65536) (hc : target.count < 65536)
      (b : Bits) (eb : b ≡ bits_of s) (u : Copied) (eu : u ≡ copy_leg_of s.edition source target b f.hold (target.count + 1) 0) (byte : ℕ) (ey : byte ≡ last_byte (route_of f.hold source target) m (target.count + 1))
      (m' : List ℕ) (em : m' ≡ carried_by (route_of f.hold source target) m (target.count + 1)) (n' : Counts) (en : n' ≡ plus n (counts (target.count + 1) 0 0 ((target.count + 1) * copy_pace f.waits))) where
    copies : (memory_to_memory (granted (resting s i) q) ≡ true) × (q ≡ 0)
    copies = copies_0 s i q f g.facts (next_below k d size o f s services n nexts longs i left m r g test) is-copier

    hold_is : address_hold s.command ≡ f.hold
    hold_is = ap (λ (x : Facts). x.hold) (sym g.facts)

    waits_is : s.waits ≡ f.waits
    waits_is = ap (λ (x : Facts). x.waits) (sym g.facts)

    abbrev more_of : Channel → Channel → Bits → Bool → Copied
    more_of x y z h = copy_leg_of s.edition x y z h (y.count + 1) 0

    copy_is : more_of ch (channel s 1) (bits_of s) (address_hold s.command) ≡ u
    copy_is =
        ap (λ (x : Channel). more_of x (channel s 1) (bits_of s) (address_hold s.command)) (sym es) ∙ ap (λ (x : Channel). more_of source x (bits_of s) (address_hold s.command)) (sym et)
        ∙ ap (λ (x : Bits). more_of source target x (address_hold s.command)) (sym eb) ∙ ap (more_of source target b) hold_is ∙ sym eu

    byte_is : last_byte (route_of (address_hold s.command) ch (channel s 1)) m ((channel s 1).count + 1) ≡ byte
    byte_is =
        ap (λ (x : Channel). last_byte (route_of (address_hold s.command) x (channel s 1)) m ((channel s 1).count + 1)) (sym es) ∙ ap (λ (x : Channel). last_byte (route_of (address_hold s.command) source x) m (x.count + 1)) (sym et)
        ∙ ap (λ (h : Bool). last_byte (route_of h source target) m (target.count + 1)) hold_is ∙ sym ey

    memory_copied : carried_by (route_of (address_hold s.command) ch (channel s 1)) m ((channel s 1).count + 1) ≡ m'
    memory_copied =
        ap (λ (x : Channel). carried_by (route_of (address_hold s.command) x (channel s 1)) m ((channel s 1).count + 1)) (sym es) ∙ ap (λ (x : Channel). carried_by (route_of (address_hold s.command) source x) m (x.count + 1)) (sym et)
        ∙ ap (λ (h : Bool). carried_by (route_of h source target) m (target.count + 1)) hold_is ∙ sym em

    alone_copied : k - (left - 1) - (longs + 1) ≡ k - left - longs
    alone_copied = omega (arith, g.fewer, g.long, more')

    totals_copied : plus all (counts ((channel s 1).count + 1) 0 0 (((channel s 1).count + 1) * copy_pace s.waits)) ≡ with_alone n' (k - (left - 1) - (longs + 1)) f.pace
    totals_copied =
        ap (λ (x : Channel). plus all (counts (x.count + 1) 0 0 ((x.count + 1) * copy_pace s.waits))) (sym et)
        ∙ ap (λ (x : ℕ). plus all (counts (target.count + 1) 0 0 ((target.count + 1) * copy_pace x))) waits_is
        ∙ sym (alone_plus n (counts (target.count + 1) 0 0 ((target.count + 1) * copy_pace f.waits)) (k - left - longs) f.pace)
        ∙ ap (λ (x : Counts). with_alone x (k - left - longs) f.pace) (sym en) ∙ ap (λ (x : ℕ). with_alone n' x f.pace) (sym alone_copied)

    abbrev left_by_lem : Copied → ℕ → ℕ → Controller
    left_by_lem x y at = with_bits (with_channel (with_channel (put s Temporary y) at x.source) 1 x.target) x.bits

    modes_copied : (y : ℕ) → (channel (left_by_lem u byte q) y).mode ≡ (channel s y).mode
    modes_copied y = rw copy_is at (copy_modes s q ch (channel s 1) (bits_of s) (address_hold s.command) ((channel s 1).count + 1) refl refl y)

    pub looping_copied : (nexts' : List ℕ) → nexts' ≡ nexts_of f u.bits.mask u.bits.request
        → Looping k d size o f (left_by_lem u byte q) (set services q (get_or services q 0 + 1)) n' nexts' (longs + 1) q (left - 1) m' r
    looping_copied nexts' el =
        turned k d size o f s services n nexts longs i left m r g more' q refl somebody' _
        (turn_copied s i q resting_now m d r services all who' (rw (sym es) hs) (rw (sym es) hsc) copies.0 copies.1 (rw (sym et) ht) (rw (sym et) hc)) (left_by_lem u byte q) m' r n' nexts' (longs + 1)
        (ap (λ (x : Copied). resting (left_by_lem x (last_byte (route_of (address_hold s.command) ch (channel s 1)) m ((channel s 1).count + 1)) 0) q) copy_is ∙ ap (λ (y : ℕ). resting (left_by_lem u y 0) q) byte_is ∙ ap (λ (at : ℕ). resting (left_by_lem u byte at) q) (sym copies.1))
        memory_copied (take-append-drop n.written r) totals_copied refl refl refl modes_copied el (omega (arith, g.long, g.fewer, more'))

-- what a round answers that was refused, or came to its close
pub said_refused : (c : Controller) (m d r : List ℕ) (k : ℕ) (why : Refusal) (x : Rounded) (z : Counts) → z ≡ none → x ≡ rounded c (Err why) (0 ∷ 0 ∷ 0 ∷ 0 ∷ []) z → refused (refusal (round_grounds c m k)) ≡ Some why → round_given x m r ≡ rounded_of c m d r k
unfolding closed
said_refused c m d r k why x z ez ex h =
    ap (λ (y : Rounded). round_given y m r) (ex ∙ ap (rounded c (Err why) (0 ∷ 0 ∷ 0 ∷ 0 ∷ [])) ez) ∙ round_refused c m d r k why h

pub said_closed : (c : Controller) (m d r : List ℕ) (k : ℕ) (x y : Rounded) (m' r' : List ℕ) → x ≡ y → refusal (round_grounds c m k) ≡ 0 → round_given y m' r' ≡ closed (round_of k d (beginning c m r)) → round_given x m' r' ≡ rounded_of c m d r k
said_closed c m d r k x y m' r' ex e h = ap (λ (z : Rounded). round_given z m' r') ex ∙ h ∙ sym (round_accepted c m d r k e)

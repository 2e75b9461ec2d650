-- A turn of the round's loop is a service of the rules.
use Prim.Native.Nat.{ℕ, ◌+◌, ◌-◌, ◌*◌, ◌≤◌, ◌<◌, min}
use mathlib.Core.Path.{◌≡◌, refl, sym, ap, ◌∙◌}
use mathlib.Core.Bool.{Bool, true, false, not, ◌&&◌, ◌||◌}
use mathlib.Core.List.{List}
use native.Mathlib.Omega.{arith}
use lib.Dec.{eqb, leb}
use lib.ListN.{length, get_or, drop, length-drop}
use borrow.Author.Tests.{eqb-true, ne_eqb, le-leb}
use Rattle.words.specs.Choice.{when}
use Rattle.words.specs.Bits.{bit}
use Rattle.am9517.specs.State.{ended}
use Rattle.am9517.specs.Fields.{channel, blank, with_channel, put, Lowest, InService, Serving, LatchFull, Latch, Temporary}
use Rattle.am9517.specs.Modes.{address_hold, rotating, decrement, service_bits, is_single, is_cascade, is_demand}
use Rattle.am9517.specs.Ranges.{valid}
use Rattle.am9517.specs.Serving.{active, last_asked, picked, picked_from, granted}
use Rattle.am9517.specs.ClosedSets.{lines_of, blocks_of, entitled_of}
use Rattle.am9517.specs.declared.Channel.{Channel}
use Rattle.am9517.specs.declared.Controller.{Controller}
use Rattle.am9517_service.specs.declared.Counts.{Counts}
use Rattle.am9517_service.specs.declared.Reason.{Reason}
use Rattle.am9517_service.specs.declared.Reason.TheVariants.{Ended}
use Rattle.am9517_service.specs.declared.spans.Span.{Span}
use Rattle.am9517_service.specs.declared.legs.Bits.{Bits}
use Rattle.am9517_service.specs.declared.legs.Leg.{Leg}
use Rattle.am9517_service.specs.declared.copies.Copied.{Copied}
use Rattle.am9517_service.specs.declared.rounds.Facts.{Facts}
use Rattle.am9517_service.specs.Counts.{counts, plus}
use Rattle.am9517_service.specs.World.{world, start_of, memory_to_memory, serving_channel, Stop, stop}
use Rattle.am9517_service.specs.Transfer.{stepped}
use Rattle.am9517_service.specs.Ends.{bits_of, with_bits}
use Rattle.am9517_service.specs.States.{pace, copy_pace, needs_s1}
use Rattle.am9517_service.specs.Run.{run_of}
use Rattle.am9517_service.specs.Round.{Course, course, run_next, is_ended}
use Rattle.am9517_service.specs.ClosedLegs.{entered, states_of, counts_of, stored, loaded, leg_of, after_leg}
use Rattle.am9517_service.specs.ClosedSpans.{until_end, stock_of, span, halt, span_of, stays_open, copy_span}
use Rattle.am9517_service.specs.ClosedCopies.{carried_by, route_of, copy_leg_of, last_byte, after_copy}
use Rattle.am9517_service.specs.Needs.{Stocked}
use Rattle.am9517_service.specs.ClosedRounds.{facts_of, nexts_of, with_alone, settled_of}
use Rattle.words.proofs.ChoiceLaws.{when_both, when_same, never}
use Rattle.am9517.proofs.RangeLaws.{ranges, below4}
use Rattle.am9517.proofs.ServingLaws.{entitled_set_is, lines_same, blocks_same}
use Rattle.am9517_service.proofs.SpanLaws.{until}
use Rattle.am9517_service.proofs.StatesLaws.{entered_none}
use Rattle.am9517_service.proofs.TransferLaws.{stepped_first}
use Rattle.am9517_service.proofs.LegLaws.{Led, leg_run}
use Rattle.am9517_service.proofs.CopyLegLaws.{CopyLed, copy_run}

-- the controller s, whose last service was channel i's: only its lowest channel is not yet put
abbrev pub resting : Controller → ℕ → Controller
resting s i = put s Lowest (when (rotating s.command) i s.lowest)

-- nothing of a service is left in it
pub record AtRest (s : Controller) : Type 0 where
  pub idle : s.in_service ≡ 0
  pub serving : s.serving ≡ 0
  pub full : s.latch_full ≡ 0
  pub latch : s.latch ≡ 0

pub at_rest : (s : Controller) (i : ℕ) → valid (resting s i) ≡ true → s.in_service ≡ 0 → AtRest s
at_rest s i v e =
    let r = ranges (resting s i) v in
    let z = r.rest e in
    record { idle = e; serving = z.0; full = z.1; latch = r.latch z.1 }

when_again : {A : Type 0} (t : Bool) (a b c : A) → when t a (when t b c) ≡ when t a c
unfolding when
when_again true a b c = refl
when_again false a b c = refl

-- a state with another lowest channel, and with this of a service
abbrev served : Controller → ℕ → ℕ → ℕ → ℕ → ℕ → Controller
served x lowest a b d e = put (put (put (put (put x Lowest lowest) InService a) Serving b) LatchFull d) Latch e

served_none : (x : Controller) → AtRest x → (a b : ℕ) → a ≡ b → served x a 0 0 0 0 ≡ put x Lowest b
served_none x r a b e =
    ap (λ (k : ℕ). served x k 0 0 0 0) e
    ∙ ap (λ (k : ℕ). served x b k 0 0 0) (sym r.idle)
    ∙ ap (λ (k : ℕ). served x b x.in_service k 0 0) (sym r.serving)
    ∙ ap (λ (k : ℕ). served x b x.in_service x.serving k 0) (sym r.full)
    ∙ ap (λ (k : ℕ). served x b x.in_service x.serving x.latch_full k) (sym r.latch)

latch_none : (x : Controller) → AtRest x → (a b c d : ℕ) → a ≡ b → served x a c d 0 0 ≡ served x b c d x.latch_full x.latch
latch_none x r a b c d e =
    ap (λ (k : ℕ). served x k c d 0 0) e
    ∙ ap (λ (k : ℕ). served x b c d k 0) (sym r.full)
    ∙ ap (λ (k : ℕ). served x b c d x.latch_full k) (sym r.latch)

-- What a service of channel j leaves of it.
module _ (s : Controller) (i j : ℕ) (rest : AtRest s) where
  abbrev turns : Bool
  turns = rotating s.command

  abbrev begun : Controller
  begun = granted (resting s i) j

  again : when turns j (when turns i s.lowest) ≡ when turns j s.lowest
  again = when_again turns j i s.lowest

  leg_rests : (l : Leg) → after_leg begun j l false ≡ resting (with_bits (with_channel s j l.channel) l.bits) j
  unfolding granted when
  leg_rests l =
      served_none (with_bits (with_channel s j l.channel) l.bits) (record { idle = rest.idle; serving = rest.serving; full = rest.full; latch = rest.latch }) _ _ again

  leg_stays : (l : Leg) → after_leg begun j l true ≡ settled_of (put (put (with_bits (with_channel s j l.channel) l.bits) LatchFull 1) Latch l.latch) j turns true
  unfolding granted when
  leg_stays l = ap (λ (k : ℕ). served (with_bits (with_channel s j l.channel) l.bits) k 1 j 1 l.latch) again

  stands : (b : Bool) → when b begun (ended begun) ≡ settled_of s j turns b
  unfolding granted when
  stands true = latch_none s rest _ _ 1 j again
  stands false = latch_none s rest _ _ 0 0 again

  copy_rests : j ≡ 0 → (l : Copied) (byte : ℕ) → after_copy begun l byte false ≡ resting (with_bits (with_channel (with_channel (put s Temporary byte) 0 l.source) 1 l.target) l.bits) j
  unfolding granted when
  copy_rests e l byte =
      let x = with_bits (with_channel (with_channel (put s Temporary byte) 0 l.source) 1 l.target) l.bits in
      ap (λ (k : ℕ). served x (when turns j (when turns i s.lowest)) 0 k 0 0) e
      ∙ served_none x (record { idle = rest.idle; serving = rest.serving; full = rest.full; latch = rest.latch }) _ _ again

pub settles : (s : Controller) (i : ℕ) → AtRest s → settled_of s i (rotating s.command) false ≡ resting s i
unfolding when
settles s i rest =
    let low = when (rotating s.command) i s.lowest in
    ap (λ (k : ℕ). served s low k 0 s.latch_full s.latch) (sym rest.idle) ∙ ap (λ (k : ℕ). served s low s.in_service k s.latch_full s.latch) (sym rest.serving)

-- Who is next.
pub nexts_are : (f : Facts) (mask request i : ℕ) → i < 4 → get_or (nexts_of f mask request) i 0 ≡ picked_from (when f.rotating i 3) (entitled_of f.lines f.blocks mask request)
unfolding nexts_of
nexts_are f mask request i h =
    let set = entitled_of f.lines f.blocks mask request in
    below4 (λ (k : ℕ). get_or (nexts_of f mask request) k 0 ≡ picked_from (when f.rotating k 3) set) refl refl refl (ap (λ (k : ℕ). picked_from k set) (sym (when_same f.rotating 3))) i h

last_same : (t : Bool) (a b : ℕ) → when t a 3 ≡ when t (when t a b) 3
unfolding when
last_same true a b = refl
last_same false a b = refl

pub next_is : (s : Controller) (i : ℕ) (f : Facts) → f ≡ facts_of s → s.mask ≤ 255 → i < 4 → get_or (nexts_of f s.mask s.request) i 0 ≡ picked (resting s i)
unfolding picked
next_is s i f e small h =
    let C = resting s i in
    let lines : lines_of C ≡ lines_of s = lines_same s C refl refl in
    let blocks : blocks_of C ≡ blocks_of s = blocks_same s C refl (λ k. refl) in
    nexts_are f s.mask s.request i h
    ∙ ap (λ (x : Facts). picked_from (when x.rotating i 3) (entitled_of x.lines x.blocks s.mask s.request)) e
    ∙ ap (λ (k : ℕ). picked_from k (entitled_of (lines_of s) (blocks_of s) s.mask s.request)) (last_same (rotating s.command) i s.lowest)
    ∙ ap (picked_from (last_asked C)) (sym (entitled_set_is C small ∙ ap (λ (k : ℕ). entitled_of k (blocks_of C) s.mask s.request) lines ∙ ap (λ (k : ℕ). entitled_of (lines_of s) k s.mask s.request) blocks))

-- a leg that makes no transfer has not ended the service
spans_open : (ch : Channel) (act : Bool) (bytes space : ℕ) → (span_of ch act bytes space 65536 0).transfers ≡ 0 → is_ended (span_of ch act bytes space 65536 0).why ≡ false
unfolding span_of halt
spans_open ch act bytes space =
    let P : Span → Type 0 = λ l. l.transfers ≡ 0 → is_ended l.why ≡ false in
    when_both P ((is_demand ch.mode || is_cascade ch.mode) && not act) (λ z. refl)
    (when_both P (is_cascade ch.mode) (λ z. refl)
    (when_both P (leb (until_end (is_single ch.mode) ch.count 0) (min 65536 (stock_of ch bytes space))) (λ z. absurd (omega (arith, (until (is_single ch.mode) ch.count 0).some)))
    (λ z. when_both (λ (e : Reason). is_ended e ≡ false) (leb 65536 (stock_of ch bytes space)) refl refl)))

-- one that makes some and does not end it stays open
spans_stay : (ch : Channel) (act : Bool) (bytes space : ℕ) → 0 < (span_of ch act bytes space 65536 0).transfers → is_ended (span_of ch act bytes space 65536 0).why ≡ false → stays_open (span_of ch act bytes space 65536 0).why ≡ true
unfolding span_of halt
spans_stay ch act bytes space =
    let P : Span → Type 0 = λ l. 0 < l.transfers → is_ended l.why ≡ false → stays_open l.why ≡ true in
    when_both P ((is_demand ch.mode || is_cascade ch.mode) && not act) (λ z h. absurd (omega arith))
    (when_both P (is_cascade ch.mode) (λ z h. refl)
    (when_both P (leb (until_end (is_single ch.mode) ch.count 0) (min 65536 (stock_of ch bytes space))) (λ z h. never h)
    (λ z h. when_both (λ (e : Reason). stays_open e ≡ true) (leb 65536 (stock_of ch bytes space)) refl refl)))

-- Counts with lone services among them.
pub counts_same : (a b c d a' b' c' d' : ℕ) → a ≡ a' → b ≡ b' → c ≡ c' → d ≡ d' → counts a b c d ≡ counts a' b' c' d'
counts_same a b c d a' b' c' d' ea eb ec ed = rw (ea, eb, ec, ed)

pub alone_plus : (n x : Counts) (alone p : ℕ) → with_alone (plus n x) alone p ≡ plus (with_alone n alone p) x
alone_plus n x alone p =
    let y = alone * (p + 1) in
    counts_same _ _ _ _ _ _ _ _ (omega arith) refl refl (omega arith)

-- The run of the service that channel j was granted, told of the state at rest.
module _ (s : Controller) (i j : ℕ) (rest : AtRest s) (m d r services : List ℕ) (total : Counts) (is-j : j ≡ picked (resting s i)) where
  abbrev c : Controller
  c = granted (resting s i) j

  abbrev ch : Channel
  ch = channel s j

  abbrev w : Course
  w = course (resting s i) m r services total

  abbrev bytes : List ℕ
  bytes = drop total.used d

  abbrev space : List ℕ
  space = drop total.written r

  next_run_lem : run_next w d ≡ run_of 65536 0 bytes (start_of c m space)
  unfolding run_next
  next_run_lem = ap (λ (k : ℕ). run_of 65536 0 bytes (start_of (granted (resting s i) k) m space)) (sym is-j)

  serving_is : serving_channel c ≡ ch
  unfolding granted
  serving_is = refl

  module _ (below : ch.address < 65536) (small : ch.count < 65536) where
    pub below' : (serving_channel c).address < 65536
    below' = rw serving_is below

    pub small' : (serving_channel c).count < 65536
    small' = rw serving_is small

    -- a leg of a device's service
    module _ (nc : memory_to_memory c ≡ false) (l : Span)
        (is-l : l ≡ span_of ch (not (eqb (bit s.pins j) (bit s.command 6))) (length d - total.used) (length r - total.written) 65536 0) where
      span_is : span_of (serving_channel c) (active c c.serving) (length bytes) (length space) 65536 0 ≡ l
      unfolding granted active
      span_is =
          ap (λ (k : ℕ). span_of ch (not (eqb (bit s.pins j) (bit s.command 6))) k (length space) 65536 0) (length-drop total.used d)
          ∙ ap (λ (k : ℕ). span_of ch (not (eqb (bit s.pins j) (bit s.command 6))) (length d - total.used) k 65536 0) (length-drop total.written r)
          ∙ sym is-l

      pub led : Led c m bytes space 65536 0 nc below' small' l
      led = rw (sym span_is) (leg_run c m bytes space 65536 0 nc below' small')

      pub led_stocked : length m ≡ 65536 → Stocked ch m bytes space l.transfers
      unfolding granted
      led_stocked size = led.stocked size

      pub led_few : l.transfers ≤ 65536
      led_few = led.most

      pub turn_stood : l.transfers ≡ 0 → run_next w d ≡ stop (start_of (settled_of s j (rotating s.command) (stays_open l.why)) m space) l.why
      turn_stood z = next_run_lem ∙ led.stood z ∙ ap (λ (x : Controller). stop (start_of x m space) l.why) (stands s i j rest (stays_open l.why))

      abbrev leg : Leg
      leg = leg_of s.edition j ch (bits_of s) true (pace s.command s.waits) l.transfers 0

      pub turn_led : 0 < l.transfers
          → run_next w d ≡ stop (world (after_leg c j leg (stays_open l.why)) (stored ch bytes m l.transfers) (loaded ch m space l.transfers) (counts_of ch l.transfers (states_of ch (pace s.command s.waits) true l.transfers))) l.why
      unfolding granted needs_s1
      turn_led h = next_run_lem ∙ led.some h

      -- what stands still has not ended, and what ended is closed
      pub still_open : l.transfers ≡ 0 → is_ended l.why ≡ false
      still_open = rw is-l (spans_open ch (not (eqb (bit s.pins j) (bit s.command 6))) (length d - total.used) (length r - total.written))

      pub stays_open_lem : 0 < l.transfers → is_ended l.why ≡ false → stays_open l.why ≡ true
      stays_open_lem = rw is-l (spans_stay ch (not (eqb (bit s.pins j) (bit s.command 6))) (length d - total.used) (length r - total.written))

      abbrev there : Controller
      there = with_bits (with_channel s j leg.channel) leg.bits

      -- the course behind a leg that ended the service
      pub leg_ended : 0 < l.transfers → l.why ≡ Ended
          → run_next w d ≡ stop (world (resting there j) (stored ch bytes m l.transfers) (loaded ch m space l.transfers) (counts_of ch l.transfers (states_of ch (pace s.command s.waits) true l.transfers))) Ended
      leg_ended h e =
          turn_led h
          ∙ ap (λ (y : Reason). stop (world (after_leg c j leg (stays_open y)) (stored ch bytes m l.transfers) (loaded ch m space l.transfers) (counts_of ch l.transfers (states_of ch (pace s.command s.waits) true l.transfers))) y) e
          ∙ ap (λ (x : Controller). stop (world x (stored ch bytes m l.transfers) (loaded ch m space l.transfers) (counts_of ch l.transfers (states_of ch (pace s.command s.waits) true l.transfers))) Ended) (leg_rests s i j rest leg)

      -- and behind one that did not
      pub leg_halted : 0 < l.transfers → stays_open l.why ≡ true
          → run_next w d ≡ stop (world (settled_of (put (put there LatchFull 1) Latch leg.latch) j (rotating s.command) (stays_open l.why)) (stored ch bytes m l.transfers) (loaded ch m space l.transfers) (counts_of ch l.transfers (states_of ch (pace s.command s.waits) true l.transfers))) l.why
      leg_halted h e =
          let f : Controller → Stop = λ x. stop (world x (stored ch bytes m l.transfers) (loaded ch m space l.transfers) (counts_of ch l.transfers (states_of ch (pace s.command s.waits) true l.transfers))) l.why in
          turn_led h
          ∙ ap (λ (b : Bool). f (after_leg c j leg b)) e
          ∙ ap f (leg_stays s i j rest leg)
          ∙ ap (λ (b : Bool). f (settled_of (put (put there LatchFull 1) Latch leg.latch) j (rotating s.command) b)) (sym e)

    -- a service that makes one transfer alone
    module _ (nc : memory_to_memory c ≡ false) (single : is_single ch.mode ≡ true) (more : ch.count ≡ 0 → ⊥) (found : 0 < stock_of ch (length d - total.used) (length r - total.written)) where
      abbrev act : Bool
      act = not (eqb (bit s.pins j) (bit s.command 6))

      abbrev alone : Span
      alone = span 1 Ended

      alone_is : alone ≡ span_of ch act (length d - total.used) (length r - total.written) 65536 0
      unfolding span_of until_end when
      alone_is =
          let one : service_bits ch.mode ≡ 1 = eqb-true _ _ single in
          let enough : 1 ≤ min 65536 (stock_of ch (length d - total.used) (length r - total.written)) = omega (arith, found) in
          simp (one, le-leb _ _ enough) refl

      last_not : eqb 1 (ch.count + 1) ≡ false
      last_not = ne_eqb _ _ (λ (e : 1 ≡ ch.count + 1). more (omega arith))

      alone_leg : (leg_of s.edition j ch (bits_of s) true (pace s.command s.waits) 1 0).channel ≡ stepped ch
      unfolding leg_of when
      alone_leg = simp last_not (sym (stepped_first ch))

      alone_bits : (leg_of s.edition j ch (bits_of s) true (pace s.command s.waits) 1 0).bits ≡ bits_of s
      unfolding leg_of when
      alone_bits = simp last_not

      alone_states : states_of ch (pace s.command s.waits) true 1 ≡ pace s.command s.waits + 1
      unfolding states_of when
      alone_states = let z : entered (decrement ch.mode) ch.address (1 - 1) ≡ 0 = entered_none (decrement ch.mode) ch.address in omega (arith, z)

      pub turn_alone : run_next w d ≡ stop (world (resting (with_channel s j (stepped ch)) j) (stored ch bytes m 1) (loaded ch m space 1) (counts_of ch 1 (pace s.command s.waits + 1))) Ended
      turn_alone =
          let f : Channel → Bits → ℕ → Stop = λ x b k. stop (world (resting (with_bits (with_channel s j x) b) j) (stored ch bytes m 1) (loaded ch m space 1) (counts_of ch 1 k)) Ended in
          leg_ended nc alone alone_is (omega arith) refl
          ∙ ap (λ (x : Channel). f x (leg_of s.edition j ch (bits_of s) true (pace s.command s.waits) 1 0).bits (states_of ch (pace s.command s.waits) true 1)) alone_leg
          ∙ ap (λ (b : Bits). f (stepped ch) b (states_of ch (pace s.command s.waits) true 1)) alone_bits
          ∙ ap (f (stepped ch) (bits_of s)) alone_states

    -- a service of memory-to-memory, up to its end
    module _ (ic : memory_to_memory c ≡ true) (zeroth : j ≡ 0) (target_below : (channel s 1).address < 65536) (target_small : (channel s 1).count < 65536) where
      abbrev target : Channel
      target = channel s 1

      abbrev all : ℕ
      all = target.count + 1

      abbrev hold : Bool
      hold = address_hold s.command

      abbrev copy : Copied
      copy = copy_leg_of s.edition ch target (bits_of s) hold all 0

      abbrev byte : ℕ
      byte = last_byte (route_of hold ch target) m all

      source_there : channel c 0 ≡ ch
      unfolding granted
      source_there = ap (λ (k : ℕ). get_or s.channels k blank) (sym zeroth)

      target_there : channel c 1 ≡ target
      unfolding granted
      target_there = refl

      target_below' : (channel c 1).address < 65536
      target_below' = rw target_there target_below

      target_small' : (channel c 1).count < 65536
      target_small' = rw target_there target_small

      all_span : copy_span (channel c 1).count 65536 0 ≡ span all Ended
      unfolding copy_span until_end granted when
      all_span = let enough : target.count + 1 ≤ 65536 = omega arith in simp (le-leb _ _ enough)

      copied : CopyLed c m bytes space 65536 0 ic target_below' target_small' (span all Ended)
      copied = rw (sym all_span) (copy_run c m bytes space 65536 0 ic target_below' target_small')

      pub turn_copied : run_next w d ≡ stop (world (resting (with_bits (with_channel (with_channel (put s Temporary byte) 0 copy.source) 1 copy.target) copy.bits) j) (carried_by (route_of hold ch target) m all) space (counts all 0 0 (all * copy_pace s.waits))) Ended
      unfolding granted
      turn_copied =
          let f : Channel → Stop = λ x. stop (world (after_copy c (copy_leg_of s.edition x target (bits_of s) hold all 0) (last_byte (route_of hold x target) m all) false) (carried_by (route_of hold x target) m all) space (counts all 0 0 (all * copy_pace s.waits))) Ended in
          next_run_lem ∙ copied.some (omega arith)
          ∙ ap f source_there
          ∙ ap (λ (x : Controller). stop (world x (carried_by (route_of hold ch target) m all) space (counts all 0 0 (all * copy_pace s.waits))) Ended) (copy_rests s i j rest zeroth copy byte)

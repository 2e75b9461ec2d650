-- A leg of memory-to-memory is what the rules say of its run: the one law's sibling.
use Prim.Native.Nat.{ℕ, suc, ◌+◌, ◌-◌, ◌*◌, ◌≤◌, ◌<◌}
use mathlib.Core.Path.{◌≡◌, refl, sym, ap, ◌∙◌}
use mathlib.Core.Bool.{Bool, true, false, ◌||◌}
use mathlib.Core.List.{List}
use native.Mathlib.Omega.{arith}
use lib.Dec.{eqb, leb}
use lib.ListN.{length, get_or, set}
use borrow.Author.Tests.{eqb-true, eqb-false, ne_eqb, leb-true, leb-false}
use Rattle.words.specs.Choice.{when}
use Rattle.words.specs.Bits.{with_bit}
use Rattle.words.specs.Steps.{steps}
use Rattle.words.specs.Spans.{carried}
use Rattle.am9517.specs.State.{ended}
use Rattle.am9517.specs.Fields.{channel, blank, make, field, put, InService, Serving, LatchFull, Latch, Request, Temporary}
use Rattle.am9517.specs.Modes.{memory_to_memory_bit, address_hold, decrement}
use Rattle.am9517.specs.declared.Channel.{Channel}
use Rattle.am9517.specs.declared.Controller.{Controller}
use Rattle.am9517_service.specs.declared.Reason.TheVariants.{Ended, Limit}
use Rattle.am9517_service.specs.declared.spans.Span.{Span}
use Rattle.am9517_service.specs.declared.legs.Bits.{Bits}
use Rattle.am9517_service.specs.declared.copies.Copied.{Copied}
use Rattle.am9517_service.specs.declared.Counts.{Counts}
use Rattle.am9517_service.specs.declared.Ran.{Ran}
use Rattle.am9517_service.specs.Counts.{counts, none, plus}
use Rattle.am9517_service.specs.World.{World, world, start_of, with_controller, memory_to_memory, Stop, stop}
use Rattle.am9517_service.specs.Ends.{bits_of, with_bits, bits_after, channel_after, finished}
use Rattle.am9517_service.specs.States.{copy_pace}
use Rattle.am9517_service.specs.Run.{run_of}
use Rattle.am9517_service.specs.Answers.{given, stopped}
use Rattle.am9517_service.specs.ClosedLegs.{address_after, current_after, leg_of}
use Rattle.am9517_service.specs.ClosedSpans.{until_end, span, stays_open, copy_span}
use Rattle.am9517_service.specs.Copy.{source_after}
use Rattle.am9517_service.specs.ClosedCopies.{carried_by, route_of, route_in, copy_leg_of, last_byte, after_copy, copied_on, copied_all, reached_copying}
use Rattle.words.proofs.ChoiceLaws.{when_each, never, not-false}
use Rattle.words.proofs.StepLaws.{steps_below}
use Rattle.words.proofs.SpreadLaws.{carried_last}
use Rattle.am9517.proofs.KeepLaws.{modes_kept}
use Rattle.am9517_service.proofs.SpanLaws.{Until, until, until_most}
use Rattle.am9517_service.proofs.RunWayLaws.{neither_left, neither_right}
use Rattle.am9517_service.proofs.TransferLaws.{current_after_mode}
use Rattle.am9517_service.proofs.LegLaws.{put_again}
use Rattle.am9517_service.proofs.AnswerLaws.{none_plus}
use Rattle.am9517.proofs.RangeLaws.{and_right}
use Rattle.am9517_service.proofs.CopySourceLaws.{source_mode}
use Rattle.am9517_service.proofs.CopyLaws.{copying_none, copying_some, copy_ends, copy_halts}
use Rattle.std.proofs.Common.{Ok}

pub serving_0 : (c : Controller) → memory_to_memory c ≡ true → c.serving ≡ 0
unfolding memory_to_memory
serving_0 c h = eqb-true _ _ (and_right (memory_to_memory_bit c.command) (eqb c.serving 0) h)

-- the byte moved last stands where it was put
pub last_moved : (hold : Bool) (source target : Channel) (m l : List ℕ) (n : ℕ) → 0 < n → length m ≡ 65536 → l ≡ carried_by (route_of hold source target) m n
    → get_or l (address_after target (n - 1)) 0 ≡ last_byte (route_of hold source target) m n
unfolding carried_by address_after
last_moved hold source target m l n h size e =
    let j = n - 1 in
    let is : n ≡ suc j = omega arith in
    let to : ℕ → ℕ = steps 16 (decrement target.mode) target.address in
    let from : ℕ → ℕ = λ k. (source_after hold source k).address in
    let inside : to j < length m = rw size (steps_below 16 (decrement target.mode) target.address j) in
    rw e (ap (λ (k : ℕ). get_or (carried to from m k) (to j) 0) is ∙ carried_last to from m j inside)

-- What n transfers leave of the controller, told by the two records and the bits.
module _ (c : Controller) (ic : memory_to_memory c ≡ true) (byte n eop : ℕ) where
  abbrev from : Channel
  from = channel c 0

  abbrev to : Channel
  to = channel c 1

  abbrev hold : Bool
  hold = address_hold c.command

  abbrev tc : Bool
  tc = eqb n (to.count + 1)

  abbrev met : Bool
  met = eqb n eop

  abbrev leg : Copied
  leg = copy_leg_of c.edition from to (bits_of c) hold n eop

  abbrev sent : List Channel
  sent = set c.channels 0 (source_after hold from n)

  abbrev cleared : Bits
  cleared = record { tc = c.tc; request = with_bit c.request 0 false; mask = c.mask }

  abbrev over : List Channel → ℕ → ℕ → Controller
  over l mode k = put (put (put (put (with_bits (make l (field (put c Temporary byte))) (bits_after c.edition 1 mode cleared tc met)) InService 0) Serving k) LatchFull 0) Latch 0

  to_mode : (get_or (set sent 1 (current_after to n)) 1 blank).mode ≡ to.mode
  to_mode = modes_kept sent 1 1 (current_after to n) (current_after_mode to n ∙ sym (modes_kept c.channels 0 1 (source_after hold from n) (source_mode hold from n))) ∙ modes_kept c.channels 0 1 (source_after hold from n) (source_mode hold from n)

  ended_copy : tc || met ≡ true → finished (put (copied_on c byte n) Request (with_bit c.request 0 false)) 1 tc met ≡ after_copy c leg byte false
  unfolding finished copy_leg_of leg_of when
  ended_copy h =
      ap (λ (l : List Channel). over l (get_or (set sent 1 (current_after to n)) 1 blank).mode 0) (put_again channel_after sent 1 (current_after to n))
      ∙ ap (λ (k : ℕ). over (set sent 1 (channel_after (current_after to n))) k 0) to_mode
      ∙ ap (over (set sent 1 (channel_after (current_after to n))) to.mode) (sym (serving_0 c ic))
      ∙ simp h

  open_copy : tc || met ≡ false → copied_on c byte n ≡ after_copy c leg byte true
  unfolding copy_leg_of leg_of when
  open_copy h = simp h

-- The run of an open memory-to-memory service.
module _ (c : Controller) (m d r : List ℕ) (limit eop : ℕ) (ic : memory_to_memory c ≡ true) (target_below : (channel c 1).address < 65536) (small : (channel c 1).count < 65536) where
  abbrev count : ℕ
  count = (channel c 1).count

  abbrev most : ℕ
  most = until_end false count eop

  abbrev ran : Stop
  ran = run_of limit eop d (start_of c m r)

  -- the world after n transfers
  abbrev led : ℕ → Bool → World
  led n stays =
      world (after_copy c (copy_leg_of c.edition (channel c 0) (channel c 1) (bits_of c) (address_hold c.command) n eop) (last_byte (route_in c) m n) stays) (carried_by (route_in c) m n) r
      (counts n 0 0 (n * copy_pace c.waits))

  pub record CopyLed (s : Span) : Type 0 where
    pub most : s.transfers ≤ 65536
    pub stood : s.transfers ≡ 0 → ran ≡ stop (start_of (when (stays_open s.why) c (ended c)) m r) s.why
    pub some : 0 < s.transfers → ran ≡ stop (led s.transfers (stays_open s.why)) s.why

  u : Until false count eop most
  u = until false count eop

  led_ended : leb most limit ≡ true → CopyLed (span most Ended)
  unfolding copied_all
  led_ended t =
      record { most = until_most false count eop most small (omega arith); stood = λ z. absurd (omega (arith, u.some)); some = λ z. ends (leb-true _ _ t) }
    where
      met : eqb most (count + 1) || eqb most eop ≡ true
      met = not-false _ (λ z. never (sym (u.last (eqb-false _ _ (neither_left (eqb most (count + 1)) (eqb most eop) z)) (eqb-false _ _ (neither_right (eqb most (count + 1)) (eqb most eop) z)))))

      ends : most ≤ limit → ran ≡ stop (led most false) Ended
      ends h =
          copy_ends c m r ic target_below small limit eop d most refl h
          ∙ ap (λ (w : World). stop (with_controller w (finished (put w.controller Request (with_bit w.controller.request 0 false)) 1 (eqb most (count + 1)) (eqb most eop))) Ended) (copying_some c m r most u.some)
          ∙ ap (λ (x : Controller). stop (with_controller (copied_all c m r most) x) Ended) (ended_copy c ic (last_byte (route_in c) m most) most eop met)

  led_halted : leb most limit ≡ false → CopyLed (span limit Limit)
  unfolding copied_all when
  led_halted t =
      let h : limit < most = leb-false _ _ t in
      let few : limit ≤ 65536 = until_most false count eop limit small (omega arith) in
      record {
        most = few;
        stood = λ z. halts h ∙ ap (λ (k : ℕ). stop (reached_copying c m r k) Limit) z ∙ ap (λ (w : World). stop w Limit) (copying_none c m r);
        some = λ z. halts h ∙ ap (λ (w : World). stop w Limit) (copying_some c m r limit z) ∙ ap (λ (x : Controller). stop (with_controller (copied_all c m r limit) x) Limit) (open_copy c ic (last_byte (route_in c) m limit) limit eop (quiet h z));
      }
    where
      halts : limit < most → ran ≡ stop (reached_copying c m r limit) Limit
      halts h = copy_halts c m r ic target_below small limit eop d h

      quiet : limit < most → 0 < limit → eqb limit (count + 1) || eqb limit eop ≡ false
      quiet h z =
          let last : eqb limit (count + 1) ≡ false = ne_eqb _ _ (λ (e : limit ≡ count + 1). omega (arith, u.most)) in
          let none : eqb limit eop ≡ false = ne_eqb _ _ (u.quiet limit z h) in
          simp (last, none)

  pub copy_run : CopyLed (copy_span count limit eop)
  unfolding copy_span
  copy_run = when_each CopyLed (leb most limit) led_ended led_halted

  pub copy_led : (s : Span) → s ≡ copy_span count limit eop → CopyLed s
  copy_led s e = rw e copy_run

  -- what the run answers, told by the parts of the leg
  pub copy_answer : (s : Span) → s ≡ copy_span count limit eop → 0 < s.transfers → (source : Channel) → source ≡ channel c 0 → (target : Channel) → target ≡ channel c 1
      → (hold : Bool) → hold ≡ address_hold c.command → (b : Bits) → b ≡ bits_of c → (l : Copied) → l ≡ copy_leg_of c.edition source target b hold s.transfers eop
      → (byte : ℕ) → byte ≡ last_byte (route_of hold source target) m s.transfers → (m' : List ℕ) → m' ≡ carried_by (route_of hold source target) m s.transfers
      → (stays : Bool) → stays ≡ stays_open s.why → (x : Controller) → x ≡ after_copy c l byte stays
      → (k₀ : Counts) → k₀ ≡ none → (k : Counts) → k ≡ plus k₀ (counts s.transfers 0 0 (s.transfers * copy_pace c.waits))
      → (a : Ran) → a ≡ record { controller = x; answer = Ok s.why; counts = k } → given a m' r ≡ stopped ran
  unfolding stopped
  copy_answer s e some source es target eg hold eh b eb l el byte ey m' em stays et x ex k₀ e₀ k ek a ea =
      let n = s.transfers in
      let last = led n (stays_open s.why) in
      rw (ea, ex, el, ey, em, et, eb, eh, es, eg, ek, e₀)
      (ap (λ (q : Counts). given (record { controller = last.controller; answer = Ok s.why; counts = q }) last.memory r) (none_plus (counts n 0 0 (n * copy_pace c.waits)))
      ∙ ap stopped (sym ((copy_led s e).some some)))

-- A leg is what the rules say of a run: the one law of a service that is not memory-to-memory.
use Prim.Native.Nat.{ℕ, zero, suc, ◌+◌, ◌≤◌, ◌<◌, min}
use mathlib.Core.Path.{◌≡◌, refl, sym, ap, ◌∙◌}
use mathlib.Core.Bool.{Bool, true, false, ◌||◌}
use mathlib.Core.List.{List, [], ◌∷◌}
use native.Mathlib.Omega.{arith}
use lib.Dec.{eqb, leb}
use lib.ListN.{length, get_or, set}
use borrow.Author.Tests.{ne_eqb, leb-true, leb-false}
use Rattle.words.specs.Choice.{when}
use Rattle.am9517.specs.State.{ended}
use Rattle.am9517.specs.Fields.{blank, channel, make, field}
use Rattle.am9517.specs.Modes.{is_single, is_cascade}
use Rattle.am9517.specs.Serving.{active}
use Rattle.am9517.specs.declared.Channel.{Channel}
use Rattle.am9517.specs.declared.Controller.{Controller}
use Rattle.am9517_service.specs.declared.Reason.{Reason}
use Rattle.am9517_service.specs.declared.Reason.TheVariants.{Ended, Dropped, Cascade}
use Rattle.am9517_service.specs.declared.spans.Span.{Span}
use Rattle.am9517_service.specs.declared.legs.Leg.{Leg}
use Rattle.am9517_service.specs.declared.Counts.{Counts}
use Rattle.am9517_service.specs.declared.Ran.{Ran}
use Rattle.am9517_service.specs.Counts.{none, plus}
use Rattle.am9517_service.specs.World.{World, world, start_of, with_controller, memory_to_memory, serving_channel, Stop, stop}
use Rattle.am9517_service.specs.Stops.{dropped}
use Rattle.am9517_service.specs.Ends.{bits_of, with_bits, bits_after, channel_after, finished}
use Rattle.am9517_service.specs.States.{pace, needs_s1}
use Rattle.am9517_service.specs.Run.{run_of}
use Rattle.am9517_service.specs.Answers.{given, stopped}
use Rattle.am9517_service.specs.ClosedLegs.{current_after, states_of, counts_of, stored, loaded, leg_of, after_leg, moved_on, travelled, reached}
use Rattle.am9517_service.specs.ClosedSpans.{until_end, stock_of, span, halt, span_of, stays_open}
use Rattle.am9517_service.specs.Needs.{Stocked}
use Rattle.words.proofs.ChoiceLaws.{when_both, when_each, when_hit, when_miss}
use Rattle.am9517.proofs.KeepLaws.{modes_kept}
use Rattle.am9517_service.proofs.SpanLaws.{Until, until, stocked, until_most}
use Rattle.am9517_service.proofs.TransferLaws.{current_after_mode, reached_none, reached_some}
use Rattle.am9517_service.proofs.AnswerLaws.{none_plus}
use Rattle.am9517_service.proofs.LegRunLaws.{run_dropped, run_cascade, run_ends, run_halts}
use Rattle.std.proofs.Common.{Ok}

-- what is made of an element that was just put takes its place
pub put_again : (f : Channel → Channel) (l : List Channel) (n : ℕ) (x : Channel) → set (set l n x) n (f (get_or (set l n x) n blank)) ≡ set l n (f x)
put_again f [] n x = refl
put_again f (y ∷ ys) zero x = refl
put_again f (y ∷ ys) (suc n) x = ap (λ (l : List Channel). y ∷ l) (put_again f ys n x)

-- What n transfers leave of the controller, told by the channel's record and the bits.
module _ (c : Controller) (n : ℕ) (first : Bool) (p eop : ℕ) where
  abbrev i : ℕ
  i = c.serving

  abbrev ch : Channel
  ch = serving_channel c

  abbrev far : Channel
  far = current_after ch n

  abbrev tc : Bool
  tc = eqb n (ch.count + 1)

  abbrev met : Bool
  met = eqb n eop

  abbrev leg : Leg
  leg = leg_of c.edition i ch (bits_of c) first p n eop

  abbrev over : List Channel → ℕ → Controller
  over l mode = ended (with_bits (make l (field c)) (bits_after c.edition i mode (bits_of c) tc met))

  finished_is : finished (moved_on c n) i tc met ≡ over (set c.channels i (channel_after far)) ch.mode
  unfolding finished
  finished_is =
      ap (λ (l : List Channel). over l (get_or (set c.channels i far) i blank).mode) (put_again channel_after c.channels i far)
      ∙ ap (over (set c.channels i (channel_after far))) (modes_kept c.channels i i far (current_after_mode ch n))

  ended_leg : when (tc || met) (finished (moved_on c n) i tc met) (ended (moved_on c n)) ≡ after_leg c i leg false
  unfolding leg_of when
  ended_leg = go (tc || met) refl
    where
      go : (b : Bool) → tc || met ≡ b → when (tc || met) (finished (moved_on c n) i tc met) (ended (moved_on c n)) ≡ after_leg c i leg false
      go true h = when_hit _ _ _ h ∙ finished_is ∙ simp h
      go false h = when_miss _ _ _ h ∙ simp h

  open_leg_lem : tc || met ≡ false → moved_on c n ≡ after_leg c i leg true
  unfolding leg_of when
  open_leg_lem h = simp h

halt_open : (limit stock : ℕ) → stays_open (halt limit stock) ≡ true
unfolding halt
halt_open limit stock = when_both (λ (e : Reason). stays_open e ≡ true) (leb limit stock) refl refl

-- The run of an open service that is not memory-to-memory.
module _ (c : Controller) (m d r : List ℕ) (limit eop : ℕ) (nc : memory_to_memory c ≡ false) (below : (serving_channel c).address < 65536) (small : (serving_channel c).count < 65536) where
  abbrev chan : Channel
  chan = serving_channel c

  abbrev stock : ℕ
  stock = stock_of chan (length d) (length r)

  abbrev most : ℕ
  most = until_end (is_single chan.mode) chan.count eop

  abbrev ran : Stop
  ran = run_of limit eop d (start_of c m r)

  abbrev s1 : Bool
  s1 = needs_s1 c chan.address

  -- the world after n transfers
  abbrev led : ℕ → Bool → World
  led n stays =
      world (after_leg c c.serving (leg_of c.edition c.serving chan (bits_of c) s1 (pace c.command c.waits) n eop) stays) (stored chan d m n) (loaded chan m r n)
      (counts_of chan n (states_of chan (pace c.command c.waits) s1 n))

  pub record Led (s : Span) : Type 0 where
    pub most : s.transfers ≤ 65536
    pub stocked : length m ≡ 65536 → Stocked chan m d r s.transfers
    pub stood : s.transfers ≡ 0 → ran ≡ stop (start_of (when (stays_open s.why) c (ended c)) m r) s.why
    pub some : 0 < s.transfers → ran ≡ stop (led s.transfers (stays_open s.why)) s.why

  none_stocked : (n : ℕ) → n ≡ 0 → length m ≡ 65536 → Stocked chan m d r n
  none_stocked n e size = record { memory = size; most = omega arith; bytes = λ w. omega arith; space = λ w. omega arith }

  led_dropped : dropped c ≡ true → Led (span 0 Dropped)
  unfolding when
  led_dropped e =
      record { most = omega arith; stocked = none_stocked 0 refl; stood = λ z. run_dropped c m d r limit eop nc e; some = λ z. absurd (omega arith) }

  led_cascade : dropped c ≡ false → is_cascade chan.mode ≡ true → Led (span 0 Cascade)
  unfolding when
  led_cascade nd e =
      record { most = omega arith; stocked = none_stocked 0 refl; stood = λ z. run_cascade c m d r limit eop nc nd e; some = λ z. absurd (omega arith) }

  module _ (nd : dropped c ≡ false) (ns : is_cascade chan.mode ≡ false) where
    u : Until (is_single chan.mode) chan.count eop most
    u = until (is_single chan.mode) chan.count eop

    led_ended : leb most (min limit stock) ≡ true → Led (span most Ended)
    unfolding travelled
    led_ended t =
        let h : most ≤ min limit stock = leb-true _ _ t in
        record {
          most = until_most (is_single chan.mode) chan.count eop most small (omega arith);
          stocked = λ size. stocked chan m d r limit most size (until_most (is_single chan.mode) chan.count eop most small (omega arith)) h;
          stood = λ z. absurd (omega (arith, u.some));
          some = λ z. ends h;
        }
      where
        ends : most ≤ min limit stock → ran ≡ stop (led most false) Ended
        ends h =
            run_ends c m d r limit eop nc nd ns below small most refl h
            ∙ ap (λ (w : World). stop (with_controller w (when (eqb most (chan.count + 1) || eqb most eop) (finished w.controller w.controller.serving (eqb most (chan.count + 1)) (eqb most eop)) (ended w.controller))) Ended) (reached_some c m d r most u.some)
            ∙ ap (λ (x : Controller). stop (with_controller (travelled c m d r most) x) Ended) (ended_leg c most s1 (pace c.command c.waits) eop)

    led_halted : leb most (min limit stock) ≡ false → Led (span (min limit stock) (halt limit stock))
    unfolding travelled
    led_halted t =
        let h : min limit stock < most = leb-false _ _ t in
        let few : min limit stock ≤ 65536 = until_most (is_single chan.mode) chan.count eop (min limit stock) small (omega arith) in
        record {
          most = few;
          stocked = λ size. stocked chan m d r limit (min limit stock) size few (omega arith);
          stood = λ z. halts h ∙ ap (λ (k : ℕ). stop (reached c m d r k) (halt limit stock)) z ∙ ap (λ (w : World). stop w (halt limit stock)) (reached_none c m d r)
              ∙ ap (λ (x : Controller). stop (start_of x m r) (halt limit stock)) (sym (when_hit _ _ _ (halt_open limit stock)));
          some = λ z. halts h ∙ ap (λ (w : World). stop w (halt limit stock)) (reached_some c m d r (min limit stock) z) ∙ goes h z;
        }
      where
        halts : min limit stock < most → ran ≡ stop (reached c m d r (min limit stock)) (halt limit stock)
        halts h = run_halts c m d r limit eop nc nd ns below small (min limit stock) refl h

        quiet : min limit stock < most → 0 < min limit stock → eqb (min limit stock) (chan.count + 1) || eqb (min limit stock) eop ≡ false
        quiet h z =
            let last : eqb (min limit stock) (chan.count + 1) ≡ false = ne_eqb _ _ (λ (e : min limit stock ≡ chan.count + 1). omega (arith, u.most)) in
            let none : eqb (min limit stock) eop ≡ false = ne_eqb _ _ (u.quiet (min limit stock) z h) in
            simp (last, none)

        goes : min limit stock < most → 0 < min limit stock → stop (travelled c m d r (min limit stock)) (halt limit stock) ≡ stop (led (min limit stock) (stays_open (halt limit stock))) (halt limit stock)
        goes h z =
            ap (λ (x : Controller). stop (with_controller (travelled c m d r (min limit stock)) x) (halt limit stock)) (open_leg_lem c (min limit stock) s1 (pace c.command c.waits) eop (quiet h z))
            ∙ ap (λ (b : Bool). stop (led (min limit stock) b) (halt limit stock)) (sym (halt_open limit stock))

  pub leg_run : Led (span_of chan (active c c.serving) (length d) (length r) limit eop)
  unfolding span_of dropped
  leg_run =
      when_each Led (dropped c) led_dropped
      (λ nd. when_each Led (is_cascade chan.mode) (led_cascade nd)
      (λ ns. when_each Led (leb most (min limit stock)) (led_ended nd ns) (led_halted nd ns)))

-- The same, told by what a function has at hand: the channel i, its record, its line and the span.
module _ (c : Controller) (m d r : List ℕ) (limit eop : ℕ) (nc : memory_to_memory c ≡ false) (i : ℕ) (here : i ≡ c.serving) (ch : Channel) (is : ch ≡ channel c i)
    (below : ch.address < 65536) (small : ch.count < 65536) where
  pub serves : ch ≡ serving_channel c
  serves = is ∙ ap (λ (k : ℕ). channel c k) here

  pub low : (serving_channel c).address < 65536
  low = rw (← serves) below

  pub few : (serving_channel c).count < 65536
  few = rw (← serves) small

  module _ (live : Bool) (line : live ≡ active c i) (s : Span) (far : s ≡ span_of ch live (length d) (length r) limit eop) where
    pub leg_led : Led c m d r limit eop nc low few s
    leg_led =
        let e : s ≡ span_of (serving_channel c) (active c c.serving) (length d) (length r) limit eop = far ∙ ap (λ (b : Bool). span_of ch b (length d) (length r) limit eop) (line ∙ ap (active c) here) ∙ ap (λ (x : Channel). span_of x (active c c.serving) (length d) (length r) limit eop) serves in
        rw e (leg_run c m d r limit eop nc low few)

    pub leg_stocked : length m ≡ 65536 → Stocked ch m d r s.transfers
    leg_stocked size = rw serves (leg_led.stocked size)

    -- what the run answers, told by the parts of the leg
    pub leg_answer : 0 < s.transfers → (l : Leg) → l ≡ leg_of c.edition i ch (bits_of c) (needs_s1 c ch.address) (pace c.command c.waits) s.transfers eop
        → (m' : List ℕ) → m' ≡ stored ch d m s.transfers → (r' : List ℕ) → r' ≡ loaded ch m r s.transfers
        → (stays : Bool) → stays ≡ stays_open s.why → (x : Controller) → x ≡ after_leg c i l stays
        → (k₀ : Counts) → k₀ ≡ none → (k : Counts) → k ≡ plus k₀ (counts_of ch s.transfers l.states)
        → (a : Ran) → a ≡ record { controller = x; answer = Ok s.why; counts = k } → given a m' r' ≡ stopped (run_of limit eop d (start_of c m r))
    unfolding stopped leg_of
    leg_answer some l el m' em r' er stays et x ex k₀ e₀ k ek a ea =
        let n = s.transfers in
        let last = led c m d r limit eop nc low few n (stays_open s.why) in
        rw (ea, ex, ek, e₀, el, em, er, et, serves, here)
        (ap (λ (q : Counts). given (record { controller = last.controller; answer = Ok s.why; counts = q }) last.memory last.room) (none_plus last.counts)
        ∙ ap stopped (sym (leg_led.some some)))

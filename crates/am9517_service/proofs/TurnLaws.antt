-- One service at a time is a service of a round.
use Prim.Native.Nat.{ℕ, ◌+◌, ◌-◌, ◌*◌, ◌≤◌, ◌<◌}
use mathlib.Core.Path.{◌≡◌, refl, sym, ap, ◌∙◌}
use mathlib.Core.Bool.{Bool, true, false, not, ◌&&◌}
use mathlib.Core.List.{List, [], ◌++◌}
use native.Mathlib.Omega.{arith}
use native.Mathlib.Nat.{add_assoc}
use lib.Dec.{eqb}
use lib.ListN.{length, get_or, take, drop, length-drop, take-append-drop}
use Rattle.words.specs.Choice.{when}
use Rattle.words.specs.Bits.{bit}
use Rattle.words.specs.Steps.{steps}
use Rattle.words.specs.Spans.{spread}
use Rattle.am9517.specs.Fields.{channel, with_channel, put, Temporary, Lowest}
use Rattle.am9517.specs.Modes.{address_hold, rotating, decrement, is_write, is_read, is_single}
use Rattle.am9517.specs.Ranges.{valid}
use Rattle.am9517.specs.Serving.{picked, granted}
use Rattle.am9517.specs.declared.Channel.{Channel}
use Rattle.am9517.specs.declared.Controller.{Controller}
use Rattle.am9517_service.specs.declared.Counts.{Counts}
use Rattle.am9517_service.specs.declared.Reason.{Reason}
use Rattle.am9517_service.specs.declared.Reason.TheVariants.{Ended}
use Rattle.am9517_service.specs.declared.spans.Span.{Span}
use Rattle.am9517_service.specs.declared.legs.Bits.{Bits}
use Rattle.am9517_service.specs.declared.legs.Leg.{Leg}
use Rattle.am9517_service.specs.declared.copies.Copied.{Copied}
use Rattle.am9517_service.specs.declared.rounds.Facts.{Facts}
use Rattle.am9517_service.specs.declared.bytes.Moved.{Moved}
use Rattle.am9517_service.specs.declared.rounds.Turn.{Turn}
use Rattle.am9517_service.specs.declared.turns.Rota.{Rota}
use Rattle.am9517_service.specs.declared.turns.Served.{Served}
use Rattle.am9517_service.specs.Counts.{counts, plus}
use Rattle.am9517_service.specs.World.{World, memory_to_memory, Stop, stop}
use Rattle.am9517_service.specs.Transfer.{stepped}
use Rattle.am9517_service.specs.Ends.{bits_of, with_bits}
use Rattle.am9517_service.specs.States.{pace, copy_pace}
use Rattle.am9517_service.specs.Bounds.{most_waits, most_pace}
use Rattle.am9517_service.specs.Round.{course, run_next}
use Rattle.am9517_service.specs.ClosedLegs.{states_of, counts_of, stored, loaded, leg_of, after_leg}
use Rattle.am9517_service.specs.ClosedSpans.{span_of, stays_open}
use Rattle.am9517_service.specs.ClosedCopies.{carried_by, route_of, copy_leg_of, last_byte}
use Rattle.am9517_service.specs.Needs.{Stocked, Chosen}
use Rattle.am9517_service.specs.ClosedRounds.{facts_of, nexts_of, made_alone, turn_of, settled_of, turned_of}
use Rattle.am9517_service.specs.Turns.{rota_of, ServedGiven, served_given, served_of, Ready, Serves}
use Rattle.words.proofs.ChoiceLaws.{when_same}
use Rattle.am9517.proofs.RangeLaws.{fields, of_ranges}
use Rattle.am9517.proofs.KeepLaws.{modes_kept}
use Rattle.am9517_service.proofs.GrantLaws.{picked_below}
use Rattle.am9517_service.proofs.RoundLaws.{ended_is, tail_length, next_counted, next_left}
use Rattle.am9517_service.proofs.RoundTurnLaws.{resting, AtRest, at_rest, next_is, counts_same, led_stocked, turn_stood, turn_led, turn_alone, turn_copied}
use Rattle.am9517_service.proofs.AloneLaws.{one_more, still_all, made_all}
use Rattle.am9517_service.proofs.RoundLoopLaws.{resting_own, facts_same, leg_mode, copy_modes, serves_device, copies_0, pace_low, plus_none}
use Rattle.std.proofs.Common.{Option, Some, None, is_some}

-- What a service keeps.
onto : (P : ServedGiven → Type 0) (a b : ServedGiven) → a ≡ b → P b → P a
onto P a b e h = rw e h

module _ (ρ : Rota) (n : Counts) (m d r : List ℕ) (g : Ready ρ n m d r) (low : ρ.controller.waits ≤ most_waits) where
  abbrev Keeps : ServedGiven → Type 0
  Keeps x = Serves ρ n d (length r) x.served x.memory x.room

  served_keeps : Keeps (served_of ρ.controller n m d r)
  unfolding served_of
  served_keeps =
      let w = course ρ.controller m r [] n in
      let c = next_counted w d in
      let left = next_left w d g.range g.some in
      let bytes = length-drop n.used d in
      let space = length-drop n.written r in
      record {
        own = refl;
        range = of_ranges _ left.ranges;
        idle = λ h. left.idle (ended_is _ h);
        waits = c.slow;
        memory = c.memory_length ∙ g.memory;
        room = tail_length n.written r _ c.room_length;
        used = omega (arith, c.used, bytes, g.used);
        used_on = omega arith;
        written = omega (arith, c.written, space, g.written);
        written_on = omega arith;
        transfers = omega (arith, c.transfers);
        states = omega (arith, c.states low, c.transfers);
      }

  pub serves : (x : Served) (m' r' : List ℕ) → served_given x m' r' ≡ served_of ρ.controller n m d r
      → (served_given x m' r' ≡ served_of ρ.controller n m d r) × Serves ρ n d (length r) x m' r'
  serves x m' r' e = (e, onto Keeps (served_given x m' r') (served_of ρ.controller n m d r) e served_keeps)

-- Who is next.
pub next_own : (ρ : Rota) → ρ ≡ rota_of ρ.controller → valid ρ.controller ≡ true → get_or ρ.nexts ρ.controller.lowest 0 ≡ picked ρ.controller
next_own ρ own v =
    let s = ρ.controller in
    let f = fields s v in
    ap (λ (x : Rota). get_or x.nexts s.lowest 0) own ∙ next_is s s.lowest (facts_of s) refl (omega (arith, f.mask)) (omega (arith, f.lowest)) ∙ ap picked (resting_own s)

pub chosen : (ρ : Rota) (n : Counts) (m d r : List ℕ) → Ready ρ n m d r → Chosen ρ (get_or ρ.nexts ρ.controller.lowest 0)
chosen ρ n m d r g =
    let e = next_own ρ g.own g.range in
    record { own = g.own; range = g.range; idle = g.idle; next = e; below = omega (arith, e, picked_below ρ.controller g.some) }

abbrev pub served : Controller → Facts → List ℕ → Reason → Counts → Served
served c f nexts why n = record { rota = record { controller = c; facts = f; nexts = nexts }; why = why; counts = n }

module _ (ρ : Rota) (j : ℕ) (g : Chosen ρ j) where
  abbrev s : Controller
  s = ρ.controller

  facts_are : ρ.facts ≡ facts_of s
  facts_are = ap (λ (x : Rota). x.facts) g.own

  pub nexts_listed : ρ.nexts ≡ nexts_of ρ.facts s.mask s.request
  nexts_listed = ap (λ (x : Rota). x.nexts) g.own ∙ ap (λ (f : Facts). nexts_of f s.mask s.request) (sym facts_are)

  pub pace_small : s.waits ≤ most_waits → ρ.facts.pace ≤ most_pace
  pace_small h = pace_low ρ.facts s facts_are h

  rest : AtRest s
  rest = at_rest s s.lowest (rw (resting_own s) g.range) g.idle

  who : j ≡ picked (resting s s.lowest)
  who = g.next ∙ ap picked (sym (resting_own s))

  device : (j ≡ ρ.facts.copier → ⊥) → memory_to_memory (granted (resting s s.lowest) j) ≡ false
  device = serves_device s s.lowest j ρ.facts facts_are

  module _ (n : Counts) (m d r : List ℕ) where
    -- what the rules' service comes to, as the code gives it
    comes_to_lem : (v : World) (why : Reason) → run_next (course (resting s s.lowest) m r [] n) d ≡ stop v why
        → (c : Controller) (nexts : List ℕ) (n' : Counts) (m' r' : List ℕ) → v.controller ≡ c → plus n v.counts ≡ n' → v.memory ≡ m' → take n.written r ++ v.room ≡ r'
        → c.command ≡ s.command → c.waits ≡ s.waits → c.pins ≡ s.pins → ((x : ℕ) → (channel c x).mode ≡ (channel s x).mode) → nexts ≡ nexts_of ρ.facts c.mask c.request
        → served_given (served c ρ.facts nexts why n') m' r' ≡ served_of s n m d r
    unfolding served_of
    comes_to_lem v why is c nexts n' m' r' ec en em er ek ew ep modes el =
        let f : ρ.facts ≡ facts_of c = facts_are ∙ facts_same s c ek ew ep modes in
        let run : run_next (course s m r [] n) d ≡ stop v why = ap (λ (x : Controller). run_next (course x m r [] n) d) (sym (resting_own s)) ∙ is in
        let given : Controller → Counts → List ℕ → List ℕ → ServedGiven = λ x k a b. served_given (record { rota = rota_of x; why = why; counts = k }) a b in
        ap (λ (l : List ℕ). served_given (served c ρ.facts l why n') m' r') el
        ∙ ap (λ (x : Facts). served_given (served c x (nexts_of x c.mask c.request) why n') m' r') f
        ∙ ap (λ (x : Controller). given x n' m' r') (sym ec)
        ∙ ap (λ (k : Counts). given v.controller k m' r') (sym en)
        ∙ ap (λ (a : List ℕ). given v.controller (plus n v.counts) a r') (sym em)
        ∙ ap (given v.controller (plus n v.counts) v.memory) (sym er)
        ∙ ap (λ (x : Stop). served_given (record { rota = rota_of x.world.controller; why = x.reason; counts = plus n x.world.counts }) x.world.memory (take n.written r ++ x.world.room)) (sym run)

    -- a lone transfer
    module _ (count address : ℕ) (ec : count ≡ (channel s j).count) (hc : count < 65536) (ea : address ≡ (channel s j).address) (ha : address < 65536) (single : Bool) (es : single ≡ is_single (channel s j).mode) (moved : Option Moved) (m' r' : List ℕ)
        (eo : moved ≡ when (made_alone (single && (not (eqb count 0) && not (eqb j ρ.facts.copier))) (channel s j).mode (length d - n.used) (length r - n.written)) (Some (one_more n (channel s j).mode)) None)
        (em : m' ≡ when (is_some moved && is_write (channel s j).mode) (spread (steps 16 (decrement (channel s j).mode) address) (λ (x : ℕ). x) (drop n.used d) m 1) m)
        (er : r' ≡ when (is_some moved && is_read (channel s j).mode) (take n.written r ++ spread (λ (x : ℕ). x) (steps 16 (decrement (channel s j).mode) address) m (drop n.written r) 1) r) where
      -- none was made
      pub alone_still : ((x : Moved) → moved ≡ Some x → ⊥) → (m' ≡ m) × (r' ≡ r)
      alone_still h = still_all (channel s j) j ρ.facts.copier n d m r count address ec ea single es moved m' r' eo em er h

      pub alone_served : (l : Moved) → moved ≡ Some l → (x : Channel) → x ≡ stepped (channel s j) → (low : ℕ) → low ≡ when ρ.facts.rotating j s.lowest
          → (y : Served) → y ≡ served (put (with_channel s j x) Lowest low) ρ.facts ρ.nexts Ended (counts (n.transfers + 1) l.used l.written (n.states + ρ.facts.pace + 1)) → served_given y m' r' ≡ served_of s n m d r
      alone_served l made x ex low et y ey =
          let ch = channel s j in
          let t = made_all ch j ρ.facts.copier n d m r count address ec ea single es moved m' r' eo em er l made in
          let cost : n.states + (pace s.command s.waits + 1) ≡ n.states + ρ.facts.pace + 1 =
          ap (λ (f : Facts). n.states + (f.pace + 1)) (sym facts_are) ∙ sym (add_assoc n.states ρ.facts.pace 1) in
          rw (ey, ex, et)
          (comes_to_lem _ Ended (turn_alone s s.lowest j rest m d r [] n who (rw (sym ea) ha) (rw (sym ec) hc) (device t.device) t.alone t.more t.found)
          (put (with_channel s j (stepped ch)) Lowest (when ρ.facts.rotating j s.lowest)) ρ.nexts _ m' r'
          (ap (λ (f : Facts). put (with_channel s j (stepped ch)) Lowest (when f.rotating j s.lowest)) (sym facts_are))
          (counts_same _ _ _ _ _ _ _ _ refl t.used t.written cost) t.memory t.room refl refl refl (λ y. modes_kept s.channels j y (stepped ch) refl) nexts_listed)

    -- a leg of a device's service
    module _ (nc : j ≡ ρ.facts.copier → ⊥) (there : Channel) (et : there ≡ channel s j) (ha : there.address < 65536) (hc : there.count < 65536) (act : Bool) (ek : act ≡ not (eqb (bit s.pins j) (bit s.command 6))) (l : Span)
        (el : l ≡ span_of there act (length d - n.used) (length r - n.written) 65536 0) where
      abbrev ch : Channel
      ch = channel s j

      below : ch.address < 65536
      below = rw (sym et) ha

      small : ch.count < 65536
      small = rw (sym et) hc

      span_told : l ≡ span_of ch (not (eqb (bit s.pins j) (bit s.command 6))) (length d - n.used) (length r - n.written) 65536 0
      span_told = rw (et, ek) at el

      pub turn_stocked : length m ≡ 65536 → Stocked there m (drop n.used d) (drop n.written r) l.transfers
      turn_stocked size = rw et (led_stocked s s.lowest j rest m d r [] n who below small (device nc) l span_told size)

      -- it made no transfer
      pub stood_served : l.transfers ≡ 0 → (stays : Bool) → stays ≡ stays_open l.why → (c : Controller) → c ≡ settled_of s j ρ.facts.rotating stays → (x : Served) → x ≡ served c ρ.facts ρ.nexts l.why n → served_given x m r ≡ served_of s n m d r
      stood_served z stays ey c ec x ex =
          rw (ex, ec, ey)
          (comes_to_lem _ l.why (turn_stood s s.lowest j rest m d r [] n who below small (device nc) l span_told z) (settled_of s j ρ.facts.rotating (stays_open l.why)) ρ.nexts n m r
          (ap (λ (f : Facts). settled_of s j f.rotating (stays_open l.why)) (sym facts_are)) (plus_none n) refl (take-append-drop n.written r) refl refl refl (λ y. refl) nexts_listed)

      -- it made some
      module _ (some : 0 < l.transfers) (b : Bits) (eb : b ≡ bits_of s) (u : Turn) (eu : u ≡ turn_of s.edition ρ.facts.pace j there l.transfers b n) (m' r' : List ℕ)
          (em : m' ≡ stored there (drop n.used d) m l.transfers) (er : r' ≡ take n.written r ++ loaded there m (drop n.written r) l.transfers) where
        abbrev p : ℕ
        p = pace s.command s.waits

        abbrev leg : Leg
        leg = leg_of s.edition j ch (bits_of s) true p l.transfers 0

        turn_is : u ≡ turn_of s.edition p j ch l.transfers (bits_of s) n
        turn_is = eu ∙ ap (λ (f : Facts). turn_of s.edition f.pace j there l.transfers b n) facts_are ∙ ap (λ (x : Channel). turn_of s.edition p j x l.transfers b n) et ∙ ap (λ (x : Bits). turn_of s.edition p j ch l.transfers x n) eb

        states_is : leg.states ≡ states_of ch p true l.transfers
        unfolding leg_of
        states_is = refl

        leg_settled : after_leg (granted (resting s s.lowest) j) j leg (stays_open l.why) ≡ (turned_of ρ j u l.why).rota.controller
        unfolding granted
        leg_settled =
            let at : Turn → Bool → Controller = λ x turns. (turned_of (record { controller = s; facts = record { rotating = turns; copier = 0; hold = true; pace = 0; lines = 0; blocks = 0; waits = 0 }; nexts = [] }) j x l.why).rota.controller in
            ap (λ (k : ℕ). put (after_leg (granted s j) j leg (stays_open l.why)) Lowest (when (rotating s.command) j k)) (when_same (rotating s.command) s.lowest)
            ∙ ap (λ (x : Turn). at x (rotating s.command)) (sym turn_is) ∙ ap (λ (f : Facts). at u f.rotating) (sym facts_are)

        totals_is : plus n (counts_of ch l.transfers (states_of ch p true l.transfers)) ≡ u.counts
        totals_is = ap (λ (k : ℕ). plus n (counts_of ch l.transfers k)) (sym states_is) ∙ ap (λ (x : Turn). x.counts) (sym turn_is)

        turn_mode : u.channel.mode ≡ ch.mode
        turn_mode = ap (λ (x : Turn). x.channel.mode) turn_is ∙ leg_mode s.edition j ch (bits_of s) true p l.transfers 0

        pub leg_served : (x : Served) → x ≡ turned_of ρ j u l.why → served_given x m' r' ≡ served_of s n m d r
        leg_served x ex =
            ap (λ (y : Served). served_given y m' r') ex
            ∙ comes_to_lem _ l.why (turn_led s s.lowest j rest m d r [] n who below small (device nc) l span_told some) (turned_of ρ j u l.why).rota.controller (turned_of ρ j u l.why).rota.nexts u.counts m' r' leg_settled totals_is
            (ap (λ (x : Channel). stored x (drop n.used d) m l.transfers) (sym et) ∙ sym em) (ap (λ (x : Channel). take n.written r ++ loaded x m (drop n.written r) l.transfers) (sym et) ∙ sym er)
            refl refl refl (λ y. modes_kept s.channels j y u.channel turn_mode) refl

    -- a service of memory-to-memory, up to its end
    module _ (is-copier : j ≡ ρ.facts.copier) (source target : Channel) (es : source ≡ channel s j) (hs : source.address < 65536) (hsc : source.count < 65536) (et : target ≡ channel s 1) (ht : target.address < 65536) (hc : target.count < 65536)
        (b : Bits) (eb : b ≡ bits_of s) (u : Copied) (eu : u ≡ copy_leg_of s.edition source target b ρ.facts.hold (target.count + 1) 0) (byte : ℕ) (ey : byte ≡ last_byte (route_of ρ.facts.hold source target) m (target.count + 1))
        (m' : List ℕ) (em : m' ≡ carried_by (route_of ρ.facts.hold source target) m (target.count + 1)) (n' : Counts) (en : n' ≡ plus n (counts (target.count + 1) 0 0 ((target.count + 1) * copy_pace ρ.facts.waits))) where
      copies : (memory_to_memory (granted (resting s s.lowest) j) ≡ true) × (j ≡ 0)
      copies = copies_0 s s.lowest j ρ.facts facts_are g.below is-copier

      abbrev hold : Bool
      hold = address_hold s.command

      abbrev all : ℕ
      all = (channel s 1).count + 1

      abbrev copy : Copied
      copy = copy_leg_of s.edition (channel s j) (channel s 1) (bits_of s) hold all 0

      abbrev last : ℕ
      last = last_byte (route_of hold (channel s j) (channel s 1)) m all

      copy_is : copy ≡ u
      copy_is = sym (eu ∙ rw (eb, et, es, facts_are) refl)

      byte_is : last ≡ byte
      byte_is = sym (ey ∙ rw (et, es, facts_are) refl)

      memory_copied : carried_by (route_of hold (channel s j) (channel s 1)) m all ≡ m'
      memory_copied = sym (em ∙ rw (et, es, facts_are) refl)

      totals_copied : plus n (counts all 0 0 (all * copy_pace s.waits)) ≡ n'
      totals_copied = sym (en ∙ rw (et, facts_are) refl)

      abbrev left_by_lem : Copied → ℕ → ℕ → Controller
      left_by_lem x y at = with_bits (with_channel (with_channel (put s Temporary y) at x.source) 1 x.target) x.bits

      pub copy_served : (low : ℕ) → low ≡ when ρ.facts.rotating j s.lowest → (nexts : List ℕ) → nexts ≡ nexts_of ρ.facts u.bits.mask u.bits.request
          → (x : Served) → x ≡ served (put (left_by_lem u byte j) Lowest low) ρ.facts nexts Ended n' → served_given x m' r ≡ served_of s n m d r
      copy_served low eo nexts el x ex =
          rw (ex, eo)
          (comes_to_lem _ Ended (turn_copied s s.lowest j rest m d r [] n who (rw (sym es) hs) (rw (sym es) hsc) copies.0 copies.1 (rw (sym et) ht) (rw (sym et) hc))
          (put (left_by_lem u byte j) Lowest (when ρ.facts.rotating j s.lowest)) nexts n' m' r
          (ap (λ (x : Copied). resting (left_by_lem x last 0) j) copy_is ∙ ap (λ (y : ℕ). resting (left_by_lem u y 0) j) byte_is ∙ ap (λ (at : ℕ). resting (left_by_lem u byte at) j) (sym copies.1) ∙ ap (λ (f : Facts). put (left_by_lem u byte j) Lowest (when f.rotating j s.lowest)) (sym facts_are))
          totals_copied memory_copied (take-append-drop n.written r) refl refl refl
          (rw copy_is at (copy_modes s j (channel s j) (channel s 1) (bits_of s) hold all refl refl)) el)

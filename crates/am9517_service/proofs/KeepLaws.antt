-- What every run keeps: one induction, and what follows of lengths, counts, ranges, the lowest channel and the end of a service.
use Prim.Native.Nat.{ℕ, zero, suc, ◌+◌, ◌-◌, ◌*◌, ◌≤◌, ◌<◌}
use mathlib.Core.Path.{◌≡◌, refl, sym, ◌∙◌}
use mathlib.Core.Bool.{Bool, true, false, ◌&&◌, ◌||◌}
use mathlib.Core.List.{List}
use native.Mathlib.Omega.{arith}
use lib.Dec.{eqb, leb}
use lib.ListN.{length, set, length-set}
use borrow.Author.Tests.{leb-false}
use Rattle.words.specs.Choice.{when}
use Rattle.words.specs.Grounds.{Ground, first}
use Rattle.words.specs.Bits.{with_bit}
use Rattle.am9517.specs.State.{ended}
use Rattle.am9517.specs.Fields.{channel, with_channel, put, Request}
use Rattle.am9517.specs.Modes.{address_hold, autoinitialize, is_cascade}
use Rattle.am9517.specs.declared.Controller.{Controller}
use Rattle.am9517_service.specs.declared.Reason.{Reason}
use Rattle.am9517_service.specs.declared.Reason.TheVariants.{Ended, Dropped, Cascade, Limit, Short}
use Rattle.am9517_service.specs.World.{World, with_controller, memory_to_memory, serving_channel, Stop, stop}
use Rattle.am9517_service.specs.Stops.{dropped, short, stops}
use Rattle.am9517_service.specs.States.{copy_pace, needs_s1, cost}
use Rattle.am9517_service.specs.Bounds.{most_waits, most_copy_pace}
use Rattle.am9517_service.proofs.TransferLaws.{pace_most}
use Rattle.am9517_service.specs.Transfer.{writes, reads, moved}
use Rattle.am9517_service.specs.Copy.{source_next, copied}
use Rattle.am9517_service.specs.Ends.{bits_of, with_bits, sets_tc_bit, bits_after, channel_after, finished, after_tc_or_eop, single, reaches_tc, ends}
use Rattle.am9517_service.specs.Run.{transferred, run_of}
use Rattle.words.proofs.BitLaws.{four_kept}
use Rattle.words.proofs.ChoiceLaws.{when_both, when_each, when_le, never}
use Rattle.am9517.proofs.RangeLaws.{Ranges}
use Rattle.am9517_service.proofs.RunWayLaws.{neither_left, neither_right}
use Rattle.am9517.proofs.KeepLaws.{kept_same, kept_open, kept_ended, modes_kept}
use Rattle.am9517_service.proofs.CopySourceLaws.{source_next_mode}

-- the device is not short, where that matters
abbrev pub Supplied : World → List ℕ → Type 0
Supplied w d = memory_to_memory w.controller ≡ false → short w d ≡ false

limit_not : Limit ≡ Ended → ⊥
limit_not e = let z : ◌≡◌ {A = ℕ} 0 1 = cc in omega arith

cascade_not : Cascade ≡ Ended → ⊥
cascade_not e = let z : ◌≡◌ {A = ℕ} 0 1 = cc in omega arith

short_not : Short ≡ Ended → ⊥
short_not e = let z : ◌≡◌ {A = ℕ} 0 1 = cc in omega arith

-- Whatever holds of worlds along a run and comes through each way to stop holds where it stops.
module _ (P : ℕ → World → Type 0) (Q : Stop → Type 0) (eop : ℕ) (d : List ℕ)
    (step : (left : ℕ) (w : World) → P (suc left) w → Supplied w d → P left (transferred w d))
    (halts : (left : ℕ) (w : World) (e : Reason) → (e ≡ Ended → ⊥) → P left w → Q (stop w e))
    (drops : (left : ℕ) (w : World) → P left w → Q (stop (with_controller w (ended w.controller)) Dropped))
    (meets : (left : ℕ) (w : World) (tc eop : Bool) → P left w → Q (stop (with_controller w (after_tc_or_eop w.controller tc eop)) Ended))
    (parts : (left : ℕ) (w : World) → P left w → Q (stop (with_controller w (ended w.controller)) Ended)) where
  through_stops : (left : ℕ) (w : World) (x : Stop) → P left w → (Supplied w d → Q x) → Q (first (stops w d left) x)
  unfolding stops first
  through_stops left w x p g =
      when_each (λ (gs : List (Ground Stop)). Q (first gs x)) (memory_to_memory w.controller)
      (λ ic. when_both Q (eqb left 0) (halts left w Limit limit_not p) (g (λ nc. never (sym ic ∙ nc))))
      (λ nc. when_both Q (dropped w.controller) (drops left w p)
      (when_both Q (is_cascade (serving_channel w.controller).mode) (halts left w Cascade cascade_not p)
      (when_both Q (eqb left 0) (halts left w Limit limit_not p) (when_each Q (short w d) (λ s. halts left w Short short_not p) (λ s. g (λ z. s))))))

  through_ends : (left : ℕ) (c : Controller) (w : World) (x : Stop) → P left w → Q x → Q (first (ends c w eop) x)
  unfolding first
  through_ends left c w x p g =
      when_both Q (reaches_tc c || eqb w.counts.transfers eop) (meets left w (reaches_tc c) (eqb w.counts.transfers eop) p) (when_both Q (single c) (parts left w p) g)

  pub run_ind : (left : ℕ) (w : World) → P left w → Q (run_of left eop d w)
  unfolding run_of
  run_ind zero w p = through_stops zero w (stop w Limit) p (λ s. halts zero w Limit limit_not p)
  run_ind (suc left) w p =
      through_stops (suc left) w _ p (λ s. through_ends left w.controller (transferred w d) _ (step left w p s) (run_ind left (transferred w d) (step left w p s)))

-- Lengths stay, and the counts have their bounds.
pub record Counted (memory room bytes most waits : ℕ) (w : World) : Type 0 where
  pub memory_length : length w.memory ≡ memory
  pub room_length : length w.room ≡ room
  pub used : w.counts.used ≤ bytes
  pub written : w.counts.written ≤ room
  pub transfers : w.counts.transfers ≤ most
  pub slow : w.controller.waits ≡ waits
  pub states : waits ≤ most_waits → w.counts.states ≤ w.counts.transfers * most_copy_pace

cost_most : (c : Controller) (a : ℕ) → c.waits ≤ most_waits → cost c a ≤ most_copy_pace
unfolding cost
cost_most c a h = omega (arith, pace_most c.command c.waits h, when_le (needs_s1 c a) 1)

copy_most : (waits : ℕ) → waits ≤ most_waits → copy_pace waits ≤ most_copy_pace
unfolding copy_pace
copy_most waits h = omega arith

-- one more by a test stays within a bound where the test leaves room
one_within : (t : Bool) (x n : ℕ) → x ≤ n → (t ≡ true → x < n) → x + when t 1 0 ≤ n
unfolding when
one_within true x n h g = omega (arith, g refl)
one_within false x n h g = omega arith

or_false : (b : Bool) → b ≡ false → b || false ≡ false
or_false b e = rw e

supplied_bytes : (t : Bool) (a b : ℕ) (rest : Bool) → t && leb b a || rest ≡ false → t ≡ true → a < b
supplied_bytes true a b rest e h = leb-false b a (neither_left (leb b a) rest e)
supplied_bytes false a b rest e h = never (sym h)

-- TC and EOP leave the wait states
over_waits : (c : Controller) (tc eop : Bool) → (after_tc_or_eop c tc eop).waits ≡ c.waits
unfolding after_tc_or_eop finished
over_waits c tc eop = when_both (λ (x : Controller). x.waits ≡ c.waits) (memory_to_memory c) refl refl

module _ (M R ω : ℕ) (d : List ℕ) where
  -- with left more transfers allowed, of most in all
  abbrev Within : ℕ → ℕ → World → Type 0
  Within most left w = Counted M R (length d) (most - left) ω w × (left ≤ most)

  moved_counted : (most left : ℕ) (w : World) → Within most (suc left) w → short w d ≡ false → Counted M R (length d) (most - left) ω (moved w d)
  unfolding moved short
  moved_counted most left w p s =
      let c = p.0 in
      let ch = serving_channel w.controller in
      let bytes = supplied_bytes (writes ch) w.counts.used (length d) _ s in
      let space = supplied_bytes (reads ch) w.counts.written (length w.room) false (or_false _ (neither_right (writes ch && leb (length d) w.counts.used) _ s)) in
      record {
        memory_length = when_both (λ (l : List ℕ). length l ≡ M) (writes ch) (simp length-set c.memory_length) c.memory_length;
        room_length = when_both (λ (l : List ℕ). length l ≡ R) (reads ch) (simp length-set c.room_length) c.room_length;
        used = one_within (writes ch) w.counts.used (length d) c.used bytes;
        written = one_within (reads ch) w.counts.written R c.written (λ e. omega (arith, space e, c.room_length));
        transfers = omega (arith, c.transfers, p.1);
        slow = c.slow;
        states = λ h. omega (arith, c.states h, cost_most w.controller ch.address (rw c.slow h));
      }

  copied_counted : (most left : ℕ) (w : World) → Within most (suc left) w → Counted M R (length d) (most - left) ω (copied w)
  unfolding copied
  copied_counted most left w p =
      let c = p.0 in
      record {
        memory_length = simp length-set c.memory_length;
        room_length = c.room_length;
        used = omega (arith, c.used);
        written = omega (arith, c.written);
        transfers = omega (arith, c.transfers, p.1);
        slow = c.slow;
        states = λ h. omega (arith, c.states h, copy_most w.controller.waits (rw c.slow h));
      }

  step_counted : (most left : ℕ) (w : World) → Within most (suc left) w → Supplied w d → Within most left (transferred w d)
  unfolding transferred
  step_counted most left w p s =
      (when_each (λ (x : World). Counted M R (length d) (most - left) ω x) (memory_to_memory w.controller) (λ ic. copied_counted most left w p) (λ nc. moved_counted most left w p (s nc)), omega (arith, p.1))

  counted_on : (most left : ℕ) (w : World) (c : Controller) → c.waits ≡ w.controller.waits → Counted M R (length d) (most - left) ω w → Counted M R (length d) most ω (with_controller w c)
  counted_on most left w c e p =
      record { memory_length = p.memory_length; room_length = p.room_length; used = p.used; written = p.written; transfers = omega (arith, p.transfers); slow = e ∙ p.slow; states = p.states }

  -- What a run of most transfers counts at the most.
  pub run_counted : (most eop : ℕ) (w : World) → Counted M R (length d) 0 ω w → Counted M R (length d) most ω (run_of most eop d w).world
  run_counted most eop w p =
      run_ind (Within most) (λ (s : Stop). Counted M R (length d) most ω s.world) eop d (step_counted most)
      (λ left x e n q. counted_on most left x x.controller refl q.0) (λ left x q. counted_on most left x _ refl q.0) (λ left x tc e q. counted_on most left x _ (over_waits x.controller tc e) q.0) (λ left x q. counted_on most left x _ refl q.0)
      most w (record { memory_length = p.memory_length; room_length = p.room_length; used = p.used; written = p.written; transfers = omega (arith, p.transfers); slow = p.slow; states = p.states }, omega arith)

-- A run keeps the ranges and the lowest channel, and leaves no service open where it says "ended".
pub record Sound (l : ℕ) (c : Controller) : Type 0 where
  pub ranges : Ranges c
  pub busy : c.in_service ≡ 1
  pub lowest : c.lowest ≡ l

pub record Left (l : ℕ) (s : Stop) : Type 0 where
  pub ranges : Ranges s.world.controller
  pub idle : s.reason ≡ Ended → s.world.controller.in_service ≡ 0
  pub lowest : s.world.controller.lowest ≡ l

moved_sound : (l : ℕ) (w : World) (d : List ℕ) → Sound l w.controller → Sound l (moved w d).controller
unfolding moved
moved_sound l w d p =
    let c = w.controller in
    let r = p.ranges in
    record {
      ranges = kept_open c r _ (record { mode = λ k. modes_kept c.channels c.serving k _ refl; pins = refl; flip_flop = refl; lowest = refl; edition = refl; tc = r.fields.tc; request = r.fields.request; mask = r.fields.mask }) p.busy (omega arith) (λ e. absurd (omega arith)) r.fields.serving;
      busy = p.busy;
      lowest = p.lowest;
    }

copied_sound : (l : ℕ) (w : World) → Sound l w.controller → Sound l (copied w).controller
unfolding copied
copied_sound l w p =
    let c = w.controller in
    let r = p.ranges in
    record {
      ranges = kept_open c r _ (record { mode = λ k. modes_kept (set c.channels 0 (source_next (address_hold c.command) (channel c 0))) 1 k _ (sym (modes_kept c.channels 0 1 (source_next (address_hold c.command) (channel c 0)) (source_next_mode (address_hold c.command) (channel c 0)))) ∙ modes_kept c.channels 0 k (source_next (address_hold c.command) (channel c 0)) (source_next_mode (address_hold c.command) (channel c 0)); pins = refl; flip_flop = refl; lowest = refl; edition = refl; tc = r.fields.tc; request = r.fields.request; mask = r.fields.mask }) p.busy r.fields.latch_full r.latch r.fields.serving;
      busy = p.busy;
      lowest = p.lowest;
    }

transferred_sound : (l : ℕ) (w : World) (d : List ℕ) → Sound l w.controller → Sound l (transferred w d).controller
unfolding transferred
transferred_sound l w d p = when_both (λ (x : World). Sound l x.controller) (memory_to_memory w.controller) (copied_sound l w p) (moved_sound l w d p)

finished_ranges : (c : Controller) (n : ℕ) (tc eop : Bool) → n < 4 → Ranges c → Ranges (finished c n tc eop)
unfolding finished
finished_ranges c n tc eop h r =
    let ch = channel c n in
    let f = r.fields in
    kept_ended c r (with_bits (with_channel c n (channel_after ch)) (bits_after c.edition n ch.mode (bits_of c) tc eop))
    (record {
      mode = λ k. modes_kept c.channels n k _ refl;
      pins = refl;
      flip_flop = refl;
      lowest = refl;
      edition = refl;
      tc = when_both (λ (x : ℕ). x ≤ 15) (sets_tc_bit c.edition tc eop) (four_kept c.tc n true f.tc h) f.tc;
      request = four_kept c.request n false f.request h;
      mask = when_both (λ (x : ℕ). x ≤ 15) (autoinitialize ch.mode) f.mask (four_kept c.mask n true f.mask h);
    })

finished_lowest : (c : Controller) (n : ℕ) (tc eop : Bool) → (finished c n tc eop).lowest ≡ c.lowest
unfolding finished
finished_lowest c n tc eop = refl

finished_idle : (c : Controller) (n : ℕ) (tc eop : Bool) → (finished c n tc eop).in_service ≡ 0
unfolding finished
finished_idle c n tc eop = refl

after_tc_or_eop_left : (l : ℕ) (w : World) (tc eop : Bool) → Sound l w.controller → Left l (stop (with_controller w (after_tc_or_eop w.controller tc eop)) Ended)
unfolding after_tc_or_eop
after_tc_or_eop_left l w tc eop p =
    let c = w.controller in
    let r = p.ranges in
    let q = put c Request (with_bit c.request 0 false) in
    let f = r.fields in
    let rq : Ranges q = kept_open c r q (record { mode = λ k. refl; pins = refl; flip_flop = refl; lowest = refl; edition = refl; tc = f.tc; request = four_kept c.request 0 false f.request (omega arith); mask = f.mask }) p.busy f.latch_full r.latch f.serving in
    when_both (λ (x : Controller). Left l (stop (with_controller w x) Ended)) (memory_to_memory c)
    (record { ranges = finished_ranges q 1 tc eop (omega arith) rq; idle = λ e. finished_idle q 1 tc eop; lowest = finished_lowest q 1 tc eop ∙ p.lowest })
    (record { ranges = finished_ranges c c.serving tc eop (omega (arith, f.serving)) r; idle = λ e. finished_idle c c.serving tc eop; lowest = finished_lowest c c.serving tc eop ∙ p.lowest })

ended_left : (l : ℕ) (w : World) (e : Reason) → Sound l w.controller → Left l (stop (with_controller w (ended w.controller)) e)
ended_left l w e p =
    record { ranges = kept_ended w.controller p.ranges w.controller (kept_same w.controller p.ranges); idle = λ z. refl; lowest = p.lowest }

pub run_left_lem : (left eop : ℕ) (d : List ℕ) (w : World) → Ranges w.controller → w.controller.in_service ≡ 1 → Left w.controller.lowest (run_of left eop d w)
run_left_lem left eop d w r b =
    let l = w.controller.lowest in
    run_ind (λ (n : ℕ) (x : World). Sound l x.controller) (Left l) eop d step
    (λ n x e not p. record { ranges = p.ranges; idle = λ z. absurd (not z); lowest = p.lowest }) (λ n x p. ended_left l x Dropped p) (λ n x tc e p. after_tc_or_eop_left l x tc e p) (λ n x p. ended_left l x Ended p)
    left w (record { ranges = r; busy = b; lowest = refl })
  where
    step : (n : ℕ) (x : World) → Sound w.controller.lowest x.controller → Supplied x d → Sound w.controller.lowest (transferred x d).controller
    step n x p s = transferred_sound w.controller.lowest x d p

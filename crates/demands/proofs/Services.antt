-- A run leaves its service open or over, as its reason says.
use Prim.Native.Nat.{ℕ, zero, suc}
use mathlib.Core.Path.{◌≡◌, refl, sym, ap, subst, ◌∙◌}
use mathlib.Core.Bool.{Bool, true, false, ◌||◌}
use mathlib.Core.List.{List}
use native.Mathlib.Omega.{arith}
use lib.Dec.{eqb}
use lib.ListN.{length}
use borrow.Author.Tests.{eqb-true, eqb-false}
use Rattle.words.specs.Grounds.{Ground, first}
use Rattle.am9517.specs.State.{ended}
use Rattle.am9517.specs.Modes.{is_cascade}
use Rattle.am9517.specs.Refusals.{refusal}
use Rattle.am9517.specs.declared.Controller.{Controller}
use Rattle.am9517_service.specs.World.{World, start_of, with_controller, memory_to_memory, serving_channel, Stop, stop}
use Rattle.am9517_service.specs.declared.Reason.{Reason}
use Rattle.am9517_service.specs.declared.Reason.TheVariants.{Ended, Dropped, Cascade, Limit, Short}
use Rattle.am9517_service.specs.Stops.{dropped, short, stops}
use Rattle.am9517_service.specs.Transfer.{moved}
use Rattle.am9517_service.specs.Copy.{copied}
use Rattle.am9517_service.specs.Ends.{reaches_tc, finished, after_tc_or_eop, single, ends}
use Rattle.am9517_service.specs.Run.{transferred, run_of}
use Rattle.am9517_service.specs.Answers.{Given, stopped, run_grounds, ran_of}
use Rattle.demands.specs.Services.{open_behind, Stops, StopsAsSaid}
use Rattle.words.proofs.ChoiceLaws.{when_both}
use Rattle.am9517.proofs.RangeLaws.{Ranges, ranges, fields}
use Rattle.am9517_service.proofs.AnswerLaws.{run_refused, run_accepted}
use Rattle.am9517_service.proofs.KeepLaws.{Counted, run_counted, run_left_lem}
use Rattle.am9517_service.proofs.StatedLaws.{ran_told}
use Rattle.demands.proofs.Refusals.{refused_some}
use Rattle.demands.proofs.Fairness.{open_run}

-- a transfer leaves the service open, TC and EOP end it
transferred_open : (w : World) (d : List ℕ) → (transferred w d).controller.in_service ≡ w.controller.in_service
unfolding transferred copied moved
transferred_open w d = when_both (λ (x : World). x.controller.in_service ≡ w.controller.in_service) (memory_to_memory w.controller) refl refl

met_over : (c : Controller) (tc eop : Bool) → (after_tc_or_eop c tc eop).in_service ≡ 0
unfolding after_tc_or_eop finished
met_over c tc eop = when_both (λ (x : Controller). x.in_service ≡ 0) (memory_to_memory c) refl refl

record AsSaid (x : Stop) : Type 0 where
  service : x.world.controller.in_service ≡ open_behind x.reason

stays : (w : World) (e : Reason) → w.controller.in_service ≡ open_behind e → AsSaid (stop w e)
stays w e h = record { service = h }

through_stops : (left : ℕ) (d : List ℕ) (w : World) (x : Stop) → w.controller.in_service ≡ 1 → AsSaid x → AsSaid (first (stops w d left) x)
unfolding stops first
through_stops left d w x o h =
    when_both (λ (gs : List (Ground Stop)). AsSaid (first gs x)) (memory_to_memory w.controller) (when_both AsSaid (eqb left 0) (stays w Limit o) h)
    (when_both AsSaid (dropped w.controller) (stays (with_controller w (ended w.controller)) Dropped refl)
    (when_both AsSaid (is_cascade (serving_channel w.controller).mode) (stays w Cascade o)
    (when_both AsSaid (eqb left 0) (stays w Limit o) (when_both AsSaid (short w d) (stays w Short o) h))))

through_ends : (eop : ℕ) (c : Controller) (w : World) (x : Stop) → AsSaid x → AsSaid (first (ends c w eop) x)
unfolding first
through_ends eop c w x h =
    when_both AsSaid (reaches_tc c || eqb w.counts.transfers eop) (stays (with_controller w (after_tc_or_eop w.controller (reaches_tc c) (eqb w.counts.transfers eop))) Ended (met_over w.controller (reaches_tc c) (eqb w.counts.transfers eop)))
    (when_both AsSaid (single c) (stays (with_controller w (ended w.controller)) Ended refl) h)

run_as_said : (left eop : ℕ) (d : List ℕ) (w : World) → w.controller.in_service ≡ 1 → AsSaid (run_of left eop d w)
unfolding run_of
run_as_said zero eop d w o = through_stops zero d w (stop w Limit) o (stays w Limit o)
run_as_said (suc left) eop d w o =
    through_stops (suc left) d w _ o (through_ends eop w.controller (transferred w d) _ (run_as_said left eop d (transferred w d) (transferred_open w d ∙ o)))

module _ (s : Controller) (m d r : List ℕ) (limit eop : ℕ) where
  abbrev x : Stop
  x = run_of limit eop d (start_of s m r)

  stopped_so : AsSaid x → Ranges x.world.controller → ran_of s m d r limit eop ≡ stopped x → Stops s m d r limit eop
  unfolding stopped
  stopped_so h rs is =
      let over : open_behind x.reason ≡ 0 → x.world.controller.in_service ≡ 0 = λ e. h.service ∙ e in
      record {
        reason = x.reason;
        answer = ap (λ (g : Given). g.ran.answer) is;
        service = ap (λ (g : Given). g.ran.controller.in_service) is ∙ h.service;
        zeros = λ e.
            let z = rs.rest (over e) in
            (ap (λ (g : Given). g.ran.controller.serving) is ∙ z.0, ap (λ (g : Given). g.ran.controller.latch) is ∙ rs.latch z.1, ap (λ (g : Given). g.ran.controller.latch_full) is ∙ z.1);
      }

  -- an accepted run has found an open service
  accepted_so : refusal (run_grounds s m) ≡ 0 → Stops s m d r limit eop
  accepted_so free =
      let o = open_run s m free in
      let busy : s.in_service ≡ 1 = omega (arith, (fields s o.0).in_service, o.1) in
      stopped_so (run_as_said limit eop d (start_of s m r) busy) (run_left_lem limit eop d (start_of s m r) (ranges s o.0) busy).ranges (run_accepted s m d r limit eop free)

  -- the sizes of what is handed back
  counted : Counted (length m) (length r) (length d) limit s.waits x.world
  counted =
      run_counted (length m) (length r) s.waits d limit eop (start_of s m r)
      (record { memory_length = refl; room_length = refl; used = omega arith; written = omega arith; transfers = omega arith; slow = refl; states = λ h. omega arith })

  abbrev Sized : Given → Type 0
  Sized g = (length g.memory ≡ length m) × (length g.room ≡ length r)

  stopped_sized : Sized (stopped x)
  unfolding stopped
  stopped_sized = (counted.memory_length, counted.room_length)

  sized : Sized (ran_of s m d r limit eop)
  sized = go (eqb (refusal (run_grounds s m)) 0) refl
    where
      go : (t : Bool) → eqb (refusal (run_grounds s m)) 0 ≡ t → Sized (ran_of s m d r limit eop)
      go true e = subst Sized (sym (run_accepted s m d r limit eop (eqb-true _ _ e))) stopped_sized
      go false e = subst Sized (sym (run_refused s m d r limit eop _ (refused_some _ (eqb-false _ _ e)))) (refl, refl)

pub stops_as_said : StopsAsSaid
stops_as_said =
    record {
      stops = λ s m d r limit eop free. accepted_so s m d r limit eop (sym (ran_told s m d r limit eop) ∙ free);
      memory = λ s m d r limit eop. (sized s m d r limit eop).0;
      room = λ s m d r limit eop. (sized s m d r limit eop).1;
    }

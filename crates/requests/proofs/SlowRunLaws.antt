-- One run with wait states and without: what they differ in is the states counted.
use Prim.Native.Nat.{ℕ, zero, suc, ◌+◌, ◌*◌}
use mathlib.Core.Path.{◌≡◌, refl, sym, ap, ◌∙◌}
use mathlib.Core.Bool.{Bool, true, false, ◌||◌}
use mathlib.Core.List.{List}
use native.Mathlib.Omega.{arith}
use lib.Dec.{eqb}
use Rattle.words.specs.Choice.{when}
use Rattle.words.specs.Grounds.{first}
use Rattle.am9517.specs.State.{ended}
use Rattle.am9517.specs.Modes.{is_cascade, compressed}
use Rattle.am9517.specs.Serving.{active}
use Rattle.am9517.specs.declared.Controller.{Controller}
use Rattle.am9517_service.specs.declared.Reason.TheVariants.{Ended, Dropped, Cascade, Limit, Short}
use Rattle.am9517_service.specs.Counts.{counts}
use Rattle.am9517_service.specs.World.{World, world, with_controller, memory_to_memory, serving_channel, Stop, stop}
use Rattle.am9517_service.specs.Stops.{dropped, short, stops}
use Rattle.am9517_service.specs.States.{pace, copy_pace, needs_s1, cost}
use Rattle.am9517_service.specs.Transfer.{moved}
use Rattle.am9517_service.specs.Copy.{copied}
use Rattle.am9517_service.specs.Ends.{counting, reaches_tc, finished, after_tc_or_eop, single, ends}
use Rattle.am9517_service.specs.Run.{transferred, run_of}
use Rattle.requests.specs.Waits.{waiting, slower}
use Rattle.words.proofs.ChoiceLaws.{when_both, when_over}
use Rattle.am9517_service.proofs.TransferLaws.{next_mul}
use Rattle.requests.proofs.LastLaws.{transfer_lasts}
use Rattle.requests.proofs.EditionRunLaws.{ways_over}

-- which sort of service it is stays
sort_kept : (w : World) (d : List ℕ) → memory_to_memory (transferred w d).controller ≡ memory_to_memory w.controller
unfolding transferred copied moved memory_to_memory
sort_kept w d = when_both (λ (x : World). memory_to_memory x.controller ≡ memory_to_memory w.controller) (memory_to_memory w.controller) refl refl

-- With n wait states each transfer costs so many states more than without.
module _ (n each : ℕ) (d : List ℕ) where
  abbrev pub slow : World → World
  slow w = world (waiting n w.controller) w.memory w.room (slower each w.counts)

  abbrev pub slow_stop : Stop → Stop
  slow_stop s = stop (slow s.world) s.reason

  -- what `each` is, by the sort of service
  pub record Costs (c : Controller) : Type 0 where
    pub none : c.waits ≡ 0
    pub copy : memory_to_memory c ≡ true → each ≡ 2 * n
    pub other : memory_to_memory c ≡ false → each ≡ n

  module _ (w : World) (p : Costs w.controller) where
    abbrev t : ℕ
    t = w.counts.transfers

    abbrev before : ℕ
    before = w.counts.states

    copied_slow : memory_to_memory w.controller ≡ true → copied (slow w) ≡ slow (copied w)
    unfolding copied copy_pace
    copied_slow ic =
        let e : before + t * each + (8 + 2 * n) ≡ before + (8 + 2 * w.controller.waits) + (t + 1) * each = omega (arith, next_mul t each, p.none, p.copy ic) in
        ap (λ (k : ℕ). world (slow (copied w)).controller (copied w).memory (copied w).room (counts (t + 1) (w.counts.used + 0) (w.counts.written + 0) k)) e

    moved_slow : memory_to_memory w.controller ≡ false → moved (slow w) d ≡ slow (moved w d)
    unfolding moved cost pace needs_s1
    moved_slow nc =
        let c = w.controller in
        let a = (serving_channel c).address in
        let s1 : ℕ = when (needs_s1 c a) 1 0 in
        let b : ℕ = when (compressed c.command) 2 3 in
        let e : before + t * each + (b + n + s1) ≡ before + (b + c.waits + s1) + (t + 1) * each = omega (arith, next_mul t each, p.none, p.other nc) in
        ap (λ (k : ℕ). world (slow (moved w d)).controller (moved w d).memory (moved w d).room (counts (t + 1) (moved w d).counts.used (moved w d).counts.written k)) e

    transferred_slow : transferred (slow w) d ≡ slow (transferred w d)
    unfolding transferred memory_to_memory
    transferred_slow = when_over slow (memory_to_memory w.controller) copied_slow moved_slow

    on : Costs (transferred w d).controller
    on = record { none = (transfer_lasts w d).1 ∙ p.none; copy = λ e. p.copy (sym (sort_kept w d) ∙ e); other = λ e. p.other (sym (sort_kept w d) ∙ e) }

  -- no test of a run asks for wait states
  module _ (w : World) (left : ℕ) where
    abbrev c : Controller
    c = w.controller

    stops_slow : (x x' : Stop) → x' ≡ slow_stop x → first (stops (slow w) d left) x' ≡ slow_stop (first (stops w d left) x)
    unfolding stops memory_to_memory dropped active short
    stops_slow x x' same =
        ways_over slow_stop (memory_to_memory c) (dropped c) (is_cascade (serving_channel c).mode) (eqb left 0) (short w d)
        (stop (with_controller w (ended c)) Dropped) (stop w Cascade) (stop w Limit) (stop w Short) x refl refl refl refl same

  met_slow : (c : Controller) (tc met : Bool) → after_tc_or_eop (waiting n c) tc met ≡ waiting n (after_tc_or_eop c tc met)
  unfolding after_tc_or_eop finished memory_to_memory
  met_slow c tc met = when_over (waiting n) (memory_to_memory c) (λ e. refl) (λ e. refl)

  reaches_slow : (c : Controller) → reaches_tc (waiting n c) ≡ reaches_tc c
  unfolding counting memory_to_memory
  reaches_slow c = refl

  single_slow : (c : Controller) → single (waiting n c) ≡ single c
  unfolding single memory_to_memory
  single_slow c = refl

  ends_slow : (eop : ℕ) (c : Controller) (v : World) (x x' : Stop) → x' ≡ slow_stop x → first (ends (waiting n c) (slow v) eop) x' ≡ slow_stop (first (ends c v eop) x)
  unfolding first
  ends_slow eop c v x x' same =
      rw (reaches_slow c, single_slow c)
      (when_over slow_stop (reaches_tc c || eqb v.counts.transfers eop)
      (λ e. ap (λ (y : Controller). stop (world y v.memory v.room (slower each v.counts)) Ended) (met_slow v.controller (reaches_tc c) (eqb v.counts.transfers eop)))
      (λ e. when_over slow_stop (single c) (λ u. refl) (λ u. same)))

  pub run_slow : (eop left : ℕ) (w : World) → Costs w.controller → run_of left eop d (slow w) ≡ slow_stop (run_of left eop d w)
  unfolding run_of
  run_slow eop zero w p = stops_slow w 0 (stop w Limit) (stop (slow w) Limit) refl
  run_slow eop (suc left) w p =
      stops_slow w (suc left) _ _ (rw (transferred_slow w p) (ends_slow eop w.controller (transferred w d) _ _ (run_slow eop left (transferred w d) (on w p))))

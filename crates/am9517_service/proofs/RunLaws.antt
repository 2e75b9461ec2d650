-- How a run unfolds: it stops, it ends, or it goes on.
use Prim.Native.Nat.{ℕ, zero, suc, ◌-◌, ◌<◌}
use mathlib.Core.Path.{◌≡◌, ap, ◌∙◌}
use mathlib.Core.Bool.{true, false}
use mathlib.Core.List.{List}
use native.Mathlib.Omega.{arith}
use lib.Dec.{eqb}
use Rattle.words.specs.Choice.{when}
use Rattle.words.specs.Grounds.{Ground, first}
use Rattle.am9517.specs.State.{ended}
use Rattle.am9517.specs.Modes.{is_cascade}
use Rattle.am9517_service.specs.declared.Reason.TheVariants.{Dropped, Cascade, Limit, Short}
use Rattle.am9517_service.specs.World.{World, Stop, stop, with_controller, serving_channel, memory_to_memory}
use Rattle.am9517_service.specs.Stops.{dropped, short, stops}
use Rattle.am9517_service.specs.Transfer.{moved}
use Rattle.am9517_service.specs.Copy.{copied}
use Rattle.am9517_service.specs.Ends.{ends}
use Rattle.am9517_service.specs.Run.{transferred, run_of}

-- no ground holds; or the first that holds gives s
abbrev pub Free : List (Ground Stop) → Type 0
Free gs = (x : Stop) → first gs x ≡ x

abbrev pub Gives : List (Ground Stop) → Stop → Type 0
Gives gs s = (x : Stop) → first gs x ≡ s

module _ (eop : ℕ) (d : List ℕ) (w : World) where
  pub run_stop : (left : ℕ) (s : Stop) → Gives (stops w d left) s → run_of left eop d w ≡ s
  unfolding run_of
  run_stop zero s h = h _
  run_stop (suc left) s h = h _

  pub run_end : (left : ℕ) (s : Stop) → 0 < left → Free (stops w d left) → Gives (ends w.controller (transferred w d) eop) s → run_of left eop d w ≡ s
  unfolding run_of
  run_end zero s l h e = absurd (omega arith)
  run_end (suc left) s l h e = h _ ∙ e _

  pub run_on : (left : ℕ) → 0 < left → Free (stops w d left) → Free (ends w.controller (transferred w d) eop) → run_of left eop d w ≡ run_of (left - 1) eop d (transferred w d)
  unfolding run_of
  run_on zero l h e = absurd (omega arith)
  run_on (suc left) l h e =
      let k : left ≡ suc left - 1 = omega arith in
      h _ ∙ e _ ∙ ap (λ (x : ℕ). run_of x eop d (transferred w d)) k

  pub transferred_moved : memory_to_memory w.controller ≡ false → transferred w d ≡ moved w d
  unfolding transferred when
  transferred_moved h = simp h

  pub transferred_copied : memory_to_memory w.controller ≡ true → transferred w d ≡ copied w
  unfolding transferred when
  transferred_copied h = simp h

-- Which ground of the stops holds.
module _ (w : World) (d : List ℕ) (left : ℕ) (nc : memory_to_memory w.controller ≡ false) where
  pub stops_dropped : dropped w.controller ≡ true → Gives (stops w d left) (stop (with_controller w (ended w.controller)) Dropped)
  unfolding stops first when
  stops_dropped h x = simp (nc, h)

  module _ (nd : dropped w.controller ≡ false) where
    pub stops_cascade : is_cascade (serving_channel w.controller).mode ≡ true → Gives (stops w d left) (stop w Cascade)
    unfolding stops first when
    stops_cascade h x = simp (nc, nd, h)

    module _ (ns : is_cascade (serving_channel w.controller).mode ≡ false) where
      pub stops_limit : eqb left 0 ≡ true → Gives (stops w d left) (stop w Limit)
      unfolding stops first when
      stops_limit h x = simp (nc, nd, ns, h)

      pub stops_short : eqb left 0 ≡ false → short w d ≡ true → Gives (stops w d left) (stop w Short)
      unfolding stops first when
      stops_short l h x = simp (nc, nd, ns, l, h)

      pub stops_none : eqb left 0 ≡ false → short w d ≡ false → Free (stops w d left)
      unfolding stops first when
      stops_none l h x = simp (nc, nd, ns, l, h)

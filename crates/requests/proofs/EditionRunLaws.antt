-- One run in both editions: what they differ in is the TC bit where EOP is met.
use Prim.Native.Nat.{ℕ, zero, suc, ◌+◌, ◌<◌}
use mathlib.Core.Path.{◌≡◌, refl, sym, ap, ◌∙◌}
use mathlib.Core.Bool.{Bool, true, false, not, ◌&&◌, ◌||◌}
use mathlib.Core.List.{List, [], ◌∷◌}
use native.Mathlib.Omega.{arith}
use lib.Dec.{eqb, leb}
use borrow.Author.Tests.{eqb-true, eqb-false, ne_eqb, le-leb, lt-leb}
use Rattle.words.specs.Choice.{when}
use Rattle.words.specs.Bits.{with_bit}
use Rattle.words.specs.Grounds.{Ground, ◌if◌, first}
use Rattle.am9517.specs.Fields.{put, Edition, Tc, Request}
use Rattle.am9517.specs.State.{ended}
use Rattle.am9517.specs.Modes.{is_cascade}
use Rattle.am9517.specs.Serving.{active}
use Rattle.am9517.specs.declared.Controller.{Controller}
use Rattle.am9517_service.specs.declared.Reason.{Reason}
use Rattle.am9517_service.specs.declared.Reason.TheVariants.{Ended, Dropped, Cascade, Limit, Short}
use Rattle.am9517_service.specs.World.{World, with_controller, memory_to_memory, serving_channel, Stop, stop}
use Rattle.am9517_service.specs.Stops.{dropped, short, stops}
use Rattle.am9517_service.specs.States.{needs_s1, cost}
use Rattle.am9517_service.specs.Transfer.{moved}
use Rattle.am9517_service.specs.Copy.{copied}
use Rattle.am9517_service.specs.Ends.{counting, reaches_tc, finished, after_tc_or_eop, single, ends}
use Rattle.am9517_service.specs.Run.{transferred, run_of}
use Rattle.words.proofs.BitLaws.{bit_twice}
use Rattle.words.proofs.ChoiceLaws.{when_both, when_over, never}

-- the world with its controller of this edition
abbrev pub in_world : ℕ → World → World
in_world e w = with_controller w (put w.controller Edition e)

-- a transfer asks for no edition
module _ (e : ℕ) (w : World) where
  copied_in : copied (in_world e w) ≡ in_world e (copied w)
  unfolding copied
  copied_in = refl

  moved_in : (d : List ℕ) → moved (in_world e w) d ≡ in_world e (moved w d)
  unfolding moved cost needs_s1
  moved_in d = refl

  transferred_in : (d : List ℕ) → transferred (in_world e w) d ≡ in_world e (transferred w d)
  unfolding transferred memory_to_memory
  transferred_in d = when_over (in_world e) (memory_to_memory w.controller) (λ t. copied_in) (λ t. moved_in d)

-- an end of the service by TC or EOP: the TC bit of the channel that met EOP
abbrev pub marked : Bool → ℕ → Controller → Controller
marked met n c = put (put c Edition 1) Tc (when met (with_bit c.tc n true) c.tc)

finished_in : (c : Controller) (n : ℕ) (tc met : Bool) → finished (put c Edition 1) n tc met ≡ marked met n (finished (put c Edition 0) n tc met)
unfolding finished when
finished_in c n true true = rw (bit_twice c.tc n)
finished_in c n true false = refl
finished_in c n false true = refl
finished_in c n false false = refl

met_in : (c : Controller) (tc met : Bool) → after_tc_or_eop (put c Edition 1) tc met ≡ marked met (counting c) (after_tc_or_eop (put c Edition 0) tc met)
unfolding after_tc_or_eop counting memory_to_memory when
met_in c tc met = go (memory_to_memory c)
  where
    go : (t : Bool)
        → when t (finished (put (put c Edition 1) Request (with_bit c.request 0 false)) 1 tc met) (finished (put c Edition 1) c.serving tc met)
        ≡ marked met (when t 1 c.serving) (when t (finished (put (put c Edition 0) Request (with_bit c.request 0 false)) 1 tc met) (finished (put c Edition 0) c.serving tc met))
    go true = finished_in (put c Request (with_bit c.request 0 false)) 1 tc met
    go false = finished_in c c.serving tc met

-- Where a run stops that meets the transfer eop, or not.
abbrev pub meets : ℕ → ℕ → Bool
meets eop transfers = not (eqb eop 0) && leb eop transfers

abbrev pub in_stop : ℕ → ℕ → Stop → Stop
in_stop eop n s = stop (with_controller s.world (marked (meets eop s.world.counts.transfers) n s.world.controller)) s.reason

-- EOP is still to come, or doesn't come
abbrev pub Ahead : ℕ → ℕ → Type 0
Ahead eop transfers = ¬ (eop ≡ 0) → transfers < eop

pub not_yet : (eop t : ℕ) → Ahead eop t → meets eop t ≡ false
not_yet eop t h = go (eqb eop 0) refl
  where
    go : (b : Bool) → eqb eop 0 ≡ b → not b && leb eop t ≡ false
    go true e = refl
    go false e = lt-leb eop t (h (eqb-false eop 0 e))

now_met : (eop t : ℕ) → Ahead eop t → meets eop (t + 1) ≡ eqb (t + 1) eop
now_met eop t h = go (eqb (t + 1) eop) refl
  where
    go : (b : Bool) → eqb (t + 1) eop ≡ b → meets eop (t + 1) ≡ b
    go true e = let p : t + 1 ≡ eop = eqb-true _ _ e in rw (ne_eqb eop 0 (omega arith), le-leb eop (t + 1) (omega arith))
    go false e = not_yet eop (t + 1) (λ z. omega (arith, h z, eqb-false (t + 1) eop e))

still_ahead : (eop t : ℕ) → Ahead eop t → eqb (t + 1) eop ≡ false → Ahead eop (t + 1)
still_ahead eop t h e z = omega (arith, h z, eqb-false (t + 1) eop e)

-- no test of a run asks for the edition
module _ (e : ℕ) (w : World) where
  abbrev c : Controller
  c = w.controller

  copy_in : memory_to_memory (put c Edition e) ≡ memory_to_memory c
  unfolding memory_to_memory
  copy_in = refl

  dropped_in : dropped (put c Edition e) ≡ dropped c
  unfolding dropped active
  dropped_in = refl

  short_in : (d : List ℕ) → short (in_world e w) d ≡ short w d
  unfolding short
  short_in d = refl

-- the ways in which a run stops before a transfer
abbrev pub ways : Bool → Bool → Bool → Bool → Bool → Stop → Stop → Stop → Stop → List (Ground Stop)
ways copy drops cascades none lacks dropped cascade limit short =
    when copy (limit if none ∷ []) (dropped if drops ∷ cascade if cascades ∷ limit if none ∷ short if lacks ∷ [])

stops_are : (e : ℕ) (w : World) (d : List ℕ) (left : ℕ) → let c = w.controller in
    stops (in_world e w) d left
    ≡ ways (memory_to_memory c) (dropped c) (is_cascade (serving_channel c).mode) (eqb left 0) (short w d)
    (stop (with_controller w (put (ended c) Edition e)) Dropped) (stop (in_world e w) Cascade) (stop (in_world e w) Limit) (stop (in_world e w) Short)
unfolding stops
stops_are e w d left = rw (copy_in e w, dropped_in e w, short_in e w d)

pub ways_over : (f : Stop → Stop) (copy drops cascades none lacks : Bool) (p q l s x : Stop) {p' q' l' s' x' : Stop} → p' ≡ f p → q' ≡ f q → l' ≡ f l → s' ≡ f s → x' ≡ f x
    → first (ways copy drops cascades none lacks p' q' l' s') x' ≡ f (first (ways copy drops cascades none lacks p q l s) x)
unfolding first when
ways_over f true drops cascades none lacks p q l s x ep eq el es ex = when_over f none (λ t. el) (λ t. ex)
ways_over f false drops cascades none lacks p q l s x ep eq el es ex =
    when_over f drops (λ t. ep) (λ t. when_over f cascades (λ u. eq) (λ u. when_over f none (λ v. el) (λ v. when_over f lacks (λ z. es) (λ z. ex))))

-- A run in both editions: n is the channel whose count is run.
module _ (eop n : ℕ) (d : List ℕ) where
  abbrev over : Stop → Stop
  over = in_stop eop n

  -- a stop before EOP is the same
  same_stop : (w : World) (c : Controller) (e : Reason) → Ahead eop w.counts.transfers
      → stop (with_controller w (put c Edition 1)) e ≡ over (stop (with_controller w (put c Edition 0)) e)
  unfolding when
  same_stop w c e h = rw (not_yet eop w.counts.transfers h)

  stops_in : (w : World) (left : ℕ) (x x' : Stop) → Ahead eop w.counts.transfers → x' ≡ over x
      → first (stops (in_world 1 w) d left) x' ≡ over (first (stops (in_world 0 w) d left) x)
  stops_in w left x x' h same =
      let c = w.controller in
      rw (stops_are 1 w d left, stops_are 0 w d left)
      (ways_over over (memory_to_memory c) (dropped c) (is_cascade (serving_channel c).mode) (eqb left 0) (short w d) _ _ _ _ x (same_stop w (ended c) Dropped h) (same_stop w c Cascade h) (same_stop w c Limit h) (same_stop w c Short h) same)

  -- an end, met by TC or EOP, or that of a single service
  met_stop : (w : World) (tc : Bool) (t : ℕ) → n ≡ counting w.controller → w.counts.transfers ≡ t + 1 → Ahead eop t
      → stop (with_controller w (after_tc_or_eop (put w.controller Edition 1) tc (eqb w.counts.transfers eop))) Ended
      ≡ over (stop (with_controller w (after_tc_or_eop (put w.controller Edition 0) tc (eqb w.counts.transfers eop))) Ended)
  met_stop w tc t is made h =
      let met : meets eop w.counts.transfers ≡ eqb w.counts.transfers eop = ap (meets eop) made ∙ now_met eop t h ∙ ap (λ (k : ℕ). eqb k eop) (sym made) in
      rw (met, is) (ap (λ (x : Controller). stop (with_controller w x) Ended) (met_in w.controller tc (eqb w.counts.transfers eop)))

-- what a transfer leaves as it was, and that it is counted
counting_kept : (w : World) (d : List ℕ) → counting (transferred w d).controller ≡ counting w.controller
unfolding transferred copied moved counting memory_to_memory
counting_kept w d = when_both (λ (x : World). counting x.controller ≡ counting w.controller) (memory_to_memory w.controller) refl refl

pub transfer_counted : (w : World) (d : List ℕ) → (transferred w d).counts.transfers ≡ w.counts.transfers + 1
unfolding transferred copied moved
transfer_counted w d = when_both (λ (x : World). x.counts.transfers ≡ w.counts.transfers + 1) (memory_to_memory w.controller) refl refl

reaches_in : (e : ℕ) (c : Controller) → reaches_tc (put c Edition e) ≡ reaches_tc c
unfolding counting memory_to_memory
reaches_in e c = refl

single_in : (e : ℕ) (c : Controller) → single (put c Edition e) ≡ single c
unfolding single memory_to_memory
single_in e c = refl

neither : (a b : Bool) → a || b ≡ false → b ≡ false
neither true b e = never e
neither false b e = e

module _ (eop n : ℕ) (d : List ℕ) where
  ends_in : (c : Controller) (v : World) (t : ℕ) (x x' : Stop) → n ≡ counting v.controller → v.counts.transfers ≡ t + 1 → Ahead eop t
      → (Ahead eop v.counts.transfers → x' ≡ in_stop eop n x)
      → first (ends (put c Edition 1) (in_world 1 v) eop) x' ≡ in_stop eop n (first (ends (put c Edition 0) (in_world 0 v) eop) x)
  unfolding first
  ends_in c v t x x' is made h same =
      let ahead : eqb v.counts.transfers eop ≡ false → Ahead eop v.counts.transfers = λ z. rw made (still_ahead eop t h (rw made at z)) in
      rw (reaches_in 1 c, reaches_in 0 c, single_in 1 c, single_in 0 c)
      (when_over (in_stop eop n) (reaches_tc c || eqb v.counts.transfers eop) (λ z. met_stop eop n d v (reaches_tc c) t is made h)
      (λ z. let on = ahead (neither (reaches_tc c) _ z) in
      when_over (in_stop eop n) (single c) (λ u. same_stop eop n d v (ended v.controller) Ended on) (λ u. same on)))

  pub run_in : (left : ℕ) (w : World) → n ≡ counting w.controller → Ahead eop w.counts.transfers
      → run_of left eop d (in_world 1 w) ≡ in_stop eop n (run_of left eop d (in_world 0 w))
  unfolding run_of
  run_in zero w is h = stops_in eop n d w 0 _ _ h (same_stop eop n d w w.controller Limit h)
  run_in (suc left) w is h =
      let v = transferred w d in
      let kept : n ≡ counting v.controller = is ∙ sym (counting_kept w d) in
      stops_in eop n d w (suc left) _ _ h
      (rw (transferred_in 1 w d, transferred_in 0 w d) (ends_in w.controller v w.counts.transfers _ _ kept (transfer_counted w d) h (λ on. run_in left v kept on)))

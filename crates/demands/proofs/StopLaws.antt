-- Why a run stops: one with its line or its software request is never dropped, and 65,536 transfers bring every count to TC.
use Prim.Native.Nat.{ℕ, zero, suc, ◌-◌, ◌≤◌, ◌<◌}
use mathlib.Core.Path.{◌≡◌, refl, sym, ap, ◌∙◌}
use mathlib.Core.Bool.{Bool, true, false, not, ◌&&◌, ◌||◌}
use mathlib.Core.List.{List, [], ◌∷◌}
use native.Mathlib.Omega.{arith}
use lib.Dec.{eqb}
use lib.ListN.{get_or, set}
use lib.Seq.{get_or-set_other}
use borrow.Author.Tests.{ne_eqb, eqb-true, eqb-false}
use Rattle.words.specs.Grounds.{Ground, ◌if◌, first}
use Rattle.words.specs.Bits.{bit, with_bit}
use Rattle.words.specs.Steps.{step}
use Rattle.am9517.specs.Fields.{blank, channel, put, Request}
use Rattle.am9517.specs.Modes.{disabled, address_hold, autoinitialize, is_demand, is_block, is_cascade, service_bits}
use Rattle.am9517.specs.Serving.{active, request_counts, entitled, last_asked, asked, picked, granted}
use Rattle.am9517.specs.declared.Channel.{Channel}
use Rattle.am9517.specs.declared.Controller.{Controller}
use Rattle.am9517_service.specs.declared.Reason.{Reason}
use Rattle.am9517_service.specs.declared.Reason.TheVariants.{Ended, Dropped, Cascade, Limit, Short}
use Rattle.am9517_service.specs.World.{World, memory_to_memory, serving_channel, Stop, stop}
use Rattle.am9517_service.specs.Stops.{dropped, short, stops}
use Rattle.am9517_service.specs.Transfer.{stepped, moved}
use Rattle.am9517_service.specs.Copy.{source_stepped, source_next, copied}
use Rattle.am9517_service.specs.Ends.{counting, reaches_tc, channel_after, finished, after_tc_or_eop, single, ends}
use Rattle.am9517_service.specs.Run.{transferred, run_of}
use Rattle.demands.specs.Rounds.{Words}
use Rattle.words.proofs.ChoiceLaws.{when_both, when_each, when_hit, when_miss, never}
use Rattle.words.proofs.StepLaws.{step_down, step_below}
use Rattle.am9517.proofs.KeepLaws.{modes_kept}
use Rattle.am9517.proofs.ServingLaws.{picked_asked}
use Rattle.am9517_service.proofs.KeepLaws.{run_ind}
use Rattle.am9517_service.proofs.RunWayLaws.{neither_left}
use Rattle.am9517_service.proofs.CopySourceLaws.{source_next_mode}

-- What holds of the reasons that a run may have holds of its reason; it goes on only where TC was not met.
module _ (P : ℕ → World → Type 0) (Q : Reason → Type 0) (eop : ℕ) (d : List ℕ) (by_end : Q Ended) (by-cascade : Q Cascade) (by-short : Q Short)
    (by-limit : (left : ℕ) (w : World) → P left w → left ≡ 0 → Q Limit)
    (by-drop : (left : ℕ) (w : World) → P left w → dropped w.controller ≡ true → Q Dropped)
    (step : (left : ℕ) (w : World) → P (suc left) w → reaches_tc w.controller ≡ false → P left (transferred w d)) where
  stops_reason : (left : ℕ) (w : World) (x : Stop) → P left w → Q x.reason → Q (first (stops w d left) x).reason
  unfolding stops first
  stops_reason left w x p g =
      let R : Stop → Type 0 = λ y. Q y.reason in
      when_both (λ (gs : List (Ground Stop)). R (first gs x)) (memory_to_memory w.controller)
      (when_each R (eqb left 0) (λ e. by-limit left w p (eqb-true _ _ e)) (λ e. g))
      (when_each R (dropped w.controller) (λ e. by-drop left w p e)
      (λ n. when_both R (is_cascade (serving_channel w.controller).mode) by-cascade
      (when_each R (eqb left 0) (λ e. by-limit left w p (eqb-true _ _ e)) (λ e. when_both R (short w d) by-short g))))

  ends_reason : (c : Controller) (w : World) (x : Stop) → (reaches_tc c ≡ false → Q x.reason) → Q (first (ends c w eop) x).reason
  unfolding first
  ends_reason c w x g =
      let R : Stop → Type 0 = λ y. Q y.reason in
      when_each R (reaches_tc c || eqb w.counts.transfers eop) (λ e. by_end)
      (λ e. when_both R (single c) by_end (g (neither_left (reaches_tc c) (eqb w.counts.transfers eop) e)))

  pub run_reason : (left : ℕ) (w : World) → P left w → Q (run_of left eop d w).reason
  unfolding run_of
  run_reason zero w p = stops_reason zero w (stop w Limit) p (by-limit zero w p refl)
  run_reason (suc left) w p =
      stops_reason (suc left) w _ p (ends_reason w.controller (transferred w d) _ (λ tc. run_reason left (transferred w d) (step left w p tc)))

-- Reasons told apart.
ended_not_dropped : Ended ≡ Dropped → ⊥
ended_not_dropped e = let z : ◌≡◌ {A = ℕ} 0 1 = cc in omega arith

cascade_not_dropped : Cascade ≡ Dropped → ⊥
cascade_not_dropped e = let z : ◌≡◌ {A = ℕ} 0 1 = cc in omega arith

limit_not_dropped : Limit ≡ Dropped → ⊥
limit_not_dropped e = let z : ◌≡◌ {A = ℕ} 0 1 = cc in omega arith

short_not_dropped : Short ≡ Dropped → ⊥
short_not_dropped e = let z : ◌≡◌ {A = ℕ} 0 1 = cc in omega arith

ended_not_limit : Ended ≡ Limit → ⊥
ended_not_limit e = let z : ◌≡◌ {A = ℕ} 0 1 = cc in omega arith

dropped_not_limit : Dropped ≡ Limit → ⊥
dropped_not_limit e = let z : ◌≡◌ {A = ℕ} 0 1 = cc in omega arith

cascade_not_limit : Cascade ≡ Limit → ⊥
cascade_not_limit e = let z : ◌≡◌ {A = ℕ} 0 1 = cc in omega arith

short_not_limit : Short ≡ Limit → ⊥
short_not_limit e = let z : ◌≡◌ {A = ℕ} 0 1 = cc in omega arith

-- A transfer leaves pins, command, serving channel and modes, so it leaves whether the service is dropped.
dropped_same : (c x : Controller) → x.pins ≡ c.pins → x.command ≡ c.command → x.serving ≡ c.serving → ((n : ℕ) → (channel x n).mode ≡ (channel c n).mode) → dropped x ≡ dropped c
unfolding dropped active
dropped_same c x p k s m = rw (s, m c.serving, p, k)

dropped_moved : (w : World) (d : List ℕ) → dropped (moved w d).controller ≡ dropped w.controller
unfolding moved
dropped_moved w d =
    let c = w.controller in
    dropped_same c _ refl refl refl (λ n. modes_kept c.channels c.serving n _ refl)

dropped_copied : (w : World) → dropped (copied w).controller ≡ dropped w.controller
unfolding copied
dropped_copied w =
    let c = w.controller in
    let source = source_next (address_hold c.command) (channel c 0) in
    dropped_same c _ refl refl refl
    (λ n. modes_kept (set c.channels 0 source) 1 n _ (sym (modes_kept c.channels 0 1 source (source_next_mode (address_hold c.command) (channel c 0)))) ∙ modes_kept c.channels 0 n source (source_next_mode (address_hold c.command) (channel c 0)))

dropped_after : (w : World) (d : List ℕ) → dropped (transferred w d).controller ≡ dropped w.controller
unfolding transferred
dropped_after w d = when_both (λ (x : World). dropped x.controller ≡ dropped w.controller) (memory_to_memory w.controller) (dropped_copied w) (dropped_moved w d)

pub never_dropped : (left eop : ℕ) (d : List ℕ) (w : World) → dropped w.controller ≡ false → ¬ ((run_of left eop d w).reason ≡ Dropped)
never_dropped left eop d w h =
    run_reason (λ n x. dropped x.controller ≡ false) (λ e. ¬ (e ≡ Dropped)) eop d ended_not_dropped cascade_not_dropped short_not_dropped
    (λ n x p z. limit_not_dropped) (λ n x p z. never (sym z ∙ p)) (λ n x p tc. dropped_after x d ∙ p) left w h

-- The channel picked is entitled, and a service granted to it is not dropped.
first_holds : (E : ℕ → Bool) (a b c d : ℕ) → (first (a if E a ∷ b if E b ∷ c if E c ∷ d if E d ∷ []) 4 ≡ 4 → ⊥) → E (first (a if E a ∷ b if E b ∷ c if E c ∷ d if E d ∷ []) 4) ≡ true
unfolding first
first_holds E a b c d =
    let P : ℕ → Type 0 = λ n. (n ≡ 4 → ⊥) → E n ≡ true in
    when_each P (E a) (λ e h. e)
    (λ na. when_each P (E b) (λ e h. e) (λ nb. when_each P (E c) (λ e h. e) (λ nc. when_each P (E d) (λ e h. e) (λ nd h. absurd (h refl)))))

picked_entitled : (s : Controller) → (picked s ≡ 4 → ⊥) → entitled s (picked s) ≡ true
picked_entitled s h =
    let l = last_asked s in
    let is = picked_asked s in
    rw is (first_holds (entitled s) (asked l 0) (asked l 1) (asked l 2) (asked l 3) (λ e. h (is ∙ e)))

with_line : (off line free set block demand cascade : Bool) → not off && (line && free || set && block) ≡ true → (block ≡ true → demand ≡ false) → (block ≡ true → cascade ≡ false)
    → (demand || cascade) && not line ≡ false
with_line true line free set block demand cascade e f g = never (sym e)
with_line false true free set block demand cascade e f g = go (demand || cascade)
  where
    go : (t : Bool) → t && false ≡ false
    go true = refl
    go false = refl
with_line false false free true true demand cascade e f g = rw (f refl, g refl)
with_line false false free true false demand cascade e f g = never (sym e)
with_line false false free false block demand cascade e f g = never (sym e)

-- one sort of service is no other
block_not : (mode k : ℕ) → ¬ (k ≡ 2) → is_block mode ≡ true → eqb (service_bits mode) k ≡ false
block_not mode k h e = ne_eqb _ _ (λ z. h (sym z ∙ eqb-true _ _ e))

pub granted_undropped : (s : Controller) → (picked s ≡ 4 → ⊥) → dropped (granted s (picked s)) ≡ false
unfolding dropped granted entitled request_counts active
granted_undropped s h =
    let n = picked s in
    let mode = (channel s n).mode in
    with_line (disabled s.command) (not (eqb (bit s.pins n) (bit s.command 6))) (eqb (bit s.mask n) 0) (eqb (bit s.request n) 1) (is_block mode) (is_demand mode) (is_cascade mode)
    (picked_entitled s h) (block_not mode 0 (λ e. omega arith)) (block_not mode 3 (λ e. omega arith))

-- The count that is run falls by one with each transfer before TC.
abbrev pub run_count : Controller → ℕ
run_count c = (channel c (counting c)).count

counted_set : (l : List Channel) (n : ℕ) (x : Channel) → ¬ ((get_or l n blank).count ≡ 0) → get_or (set l n x) n blank ≡ x
counted_set [] n x h = absurd (h refl)
counted_set (y ∷ ys) zero x h = refl
counted_set (y ∷ ys) (suc n) x h = counted_set ys n x h

counting_own : (c : Controller) → memory_to_memory c ≡ false → counting c ≡ c.serving
unfolding counting
counting_own c h = when_miss _ _ _ h

counting_1 : (c : Controller) → memory_to_memory c ≡ true → counting c ≡ 1
unfolding counting
counting_1 c h = when_hit _ _ _ h

sort_moved : (w : World) (d : List ℕ) → memory_to_memory (moved w d).controller ≡ memory_to_memory w.controller
unfolding moved memory_to_memory
sort_moved w d = refl

sort_copied : (w : World) → memory_to_memory (copied w).controller ≡ memory_to_memory w.controller
unfolding copied memory_to_memory
sort_copied w = refl

module _ (w : World) (d : List ℕ) (most : run_count w.controller < 65536) (more : reaches_tc w.controller ≡ false) where
  abbrev c : Controller
  c = w.controller

  -- the count of channel n, which is run, and the next one
  module _ (n : ℕ) (at : counting c ≡ n) where
    abbrev count : ℕ
    count = (channel c n).count

    same : run_count c ≡ count
    same = ap (λ (k : ℕ). (channel c k).count) at

    some : ¬ (count ≡ 0)
    some z = eqb-false _ _ more (same ∙ z)

    falls : step 16 true count ≡ run_count c - 1
    falls = step_down 16 count (omega (arith, some)) (omega (arith, most, same)) ∙ ap (λ (k : ℕ). k - 1) (sym same)

  moved_count : memory_to_memory c ≡ false → run_count (moved w d).controller ≡ run_count c - 1
  unfolding moved
  moved_count nc =
      let at = counting_own c nc in
      ap (λ (k : ℕ). (channel (moved w d).controller k).count) (counting_own _ (sort_moved w d ∙ nc))
      ∙ ap (λ (x : Channel). x.count) (counted_set c.channels c.serving (stepped (serving_channel c)) (some c.serving at))
      ∙ falls c.serving at

  copied_count : memory_to_memory c ≡ true → run_count (copied w).controller ≡ run_count c - 1
  unfolding copied
  copied_count ic =
      let at = counting_1 c ic in
      let source = source_next (address_hold c.command) (channel c 0) in
      let other : get_or (set c.channels 0 source) 1 blank ≡ channel c 1 = get_or-set_other c.channels 0 1 source blank (λ z. omega arith) in
      ap (λ (k : ℕ). (channel (copied w).controller k).count) (counting_1 _ (sort_copied w ∙ ic))
      ∙ ap (λ (x : Channel). x.count) (counted_set (set c.channels 0 source) 1 (stepped (channel c 1)) (λ z. some 1 at (ap (λ (x : Channel). x.count) (sym other) ∙ z)))
      ∙ falls 1 at

  pub count_falls : run_count (transferred w d).controller ≡ run_count c - 1
  unfolding transferred
  count_falls = when_each (λ (x : World). run_count x.controller ≡ run_count c - 1) (memory_to_memory c) copied_count moved_count

pub never_limit : (left eop : ℕ) (d : List ℕ) (w : World) → run_count w.controller < left → left ≤ 65536 → ¬ ((run_of left eop d w).reason ≡ Limit)
never_limit left eop d w h most =
    run_reason (λ n x. (run_count x.controller < n) × (n ≤ 65536)) (λ e. ¬ (e ≡ Limit)) eop d ended_not_limit cascade_not_limit short_not_limit
    (λ n x p z. absurd (omega (arith, p.0))) (λ n x p z. dropped_not_limit)
    (λ n x p tc. (omega (arith, p.0, p.1, eqb-false (run_count x.controller) 0 tc, count_falls x d (omega (arith, p.0, p.1)) tc), omega (arith, p.1))) left w (h, most)

-- Counts fit 16 bits all along a run.
abbrev Fits : Channel → Type 0
Fits ch = (ch.count < 65536) × (ch.base_count < 65536)

set_fits : (l : List Channel) (n k : ℕ) (x : Channel) → Fits x → Fits (get_or l k blank) → Fits (get_or (set l n x) k blank)
set_fits [] n k x h g = g
set_fits (y ∷ ys) zero zero x h g = h
set_fits (y ∷ ys) zero (suc k) x h g = g
set_fits (y ∷ ys) (suc n) zero x h g = g
set_fits (y ∷ ys) (suc n) (suc k) x h g = set_fits ys n k x h g

stepped_fits : (ch : Channel) → Fits ch → Fits (stepped ch)
stepped_fits ch h = (step_below 16 true ch.count, h.1)

after_fits : (ch : Channel) → Fits ch → Fits (channel_after ch)
after_fits ch h = (when_both (λ (x : ℕ). x < 65536) (autoinitialize ch.mode) h.1 h.0, h.1)

source_fits : (hold : Bool) (ch : Channel) → Fits ch → Fits (source_next hold ch)
source_fits hold ch h =
    let down : Fits (source_stepped hold ch) = (step_below 16 true ch.count, h.1) in
    when_both Fits (eqb ch.count 0) (after_fits (source_stepped hold ch) down) down

transferred_words : (w : World) (d : List ℕ) → Words w.controller → Words (transferred w d).controller
unfolding transferred moved copied
transferred_words w d h =
    let c = w.controller in
    when_both (λ (x : World). Words x.controller) (memory_to_memory c)
    (λ n. set_fits (set c.channels 0 _) 1 n _ (stepped_fits (channel c 1) (h 1)) (set_fits c.channels 0 n _ (source_fits (address_hold c.command) (channel c 0) (h 0)) (h n)))
    (λ n. set_fits c.channels c.serving n _ (stepped_fits (serving_channel c) (h c.serving)) (h n))

finished_words : (c : Controller) (i : ℕ) (tc eop : Bool) → Words c → Words (finished c i tc eop)
unfolding finished
finished_words c i tc eop h n = set_fits c.channels i n _ (after_fits (channel c i) (h i)) (h n)

ended_words : (c : Controller) (tc eop : Bool) → Words c → Words (after_tc_or_eop c tc eop)
unfolding after_tc_or_eop
ended_words c tc eop h =
    when_both Words (memory_to_memory c) (finished_words (put c Request (with_bit c.request 0 false)) 1 tc eop h) (finished_words c c.serving tc eop h)

pub run_words : (left eop : ℕ) (d : List ℕ) (w : World) → Words w.controller → Words (run_of left eop d w).world.controller
run_words left eop d w h =
    run_ind (λ n x. Words x.controller) (λ x. Words x.world.controller) eop d (λ n x p s. transferred_words x d p)
    (λ n x e z p. p) (λ n x p. p) (λ n x tc e p. ended_words x.controller tc e p) (λ n x p. p) left w h

pub granted_words : (s : Controller) (n : ℕ) → Words s → Words (granted s n)
unfolding granted
granted_words s n h = h

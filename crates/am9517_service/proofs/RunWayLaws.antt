-- A run along worlds that are known in closed form, of either sort of service: it goes on, and it ends.
use Prim.Native.Nat.{ℕ, zero, suc, ◌+◌, ◌-◌, ◌≤◌, ◌<◌}
use mathlib.Core.Path.{◌≡◌, refl, ap, ◌∙◌}
use mathlib.Core.Bool.{Bool, true, false, ◌||◌}
use mathlib.Core.List.{List}
use native.Mathlib.Omega.{arith}
use lib.Dec.{eqb}
use borrow.Author.Tests.{eq-eqb, ne_eqb, eqb-true, eqb-false}
use Rattle.words.specs.Choice.{when}
use Rattle.words.specs.Grounds.{first}
use Rattle.am9517.specs.State.{ended}
use Rattle.am9517.specs.declared.Controller.{Controller}
use Rattle.am9517_service.specs.declared.Reason.TheVariants.{Ended}
use Rattle.am9517_service.specs.World.{World, with_controller, stop}
use Rattle.am9517_service.specs.Stops.{stops}
use Rattle.am9517_service.specs.Ends.{reaches_tc, after_tc_or_eop, single, ends}
use Rattle.am9517_service.specs.Run.{transferred, run_of}
use Rattle.words.proofs.ChoiceLaws.{never, not-true}
use Rattle.am9517_service.proofs.SpanLaws.{Until}
use Rattle.am9517_service.proofs.RunLaws.{Free, Gives, run_end, run_on}

-- two tests of numbers that say the same
same_test : (a b x y : ℕ) → (a ≡ b → x ≡ y) → (x ≡ y → a ≡ b) → eqb a b ≡ eqb x y
same_test a b x y f g = go (eqb x y) refl
  where
    go : (t : Bool) → eqb x y ≡ t → eqb a b ≡ t
    go true e = eq-eqb _ _ (g (eqb-true _ _ e))
    go false e = ne_eqb _ _ (λ h. eqb-false _ _ e (f h))

pub neither_left : (a b : Bool) → a || b ≡ false → a ≡ false
neither_left true b e = e
neither_left false b e = refl

pub neither_right : (a b : Bool) → a || b ≡ false → b ≡ false
neither_right true b e = never e
neither_right false b e = e

-- Which end a transfer meets.
module _ (c : Controller) (w : World) (eop : ℕ) where
  ends_none : reaches_tc c ≡ false → eqb w.counts.transfers eop ≡ false → single c ≡ false → Free (ends c w eop)
  unfolding first when
  ends_none t e s x = simp (t, e, s)

  ends_met : (tc e : Bool) → reaches_tc c ≡ tc → eqb w.counts.transfers eop ≡ e → (tc || e ≡ false → single c ≡ true)
      → Gives (ends c w eop) (stop (with_controller w (when (tc || e) (after_tc_or_eop w.controller tc e) (ended w.controller))) Ended)
  unfolding first when
  ends_met true e t g s x = simp (t, g)
  ends_met false true t g s x = simp (t, g)
  ends_met false false t g s x = simp (t, g, s refl)

-- The world after n transfers is here n; the count lasts for this many, and a single service makes one.
pub record Way (d : List ℕ) (here : ℕ → World) (once : Bool) (count : ℕ) : Type 0 where
  pub more : (n : ℕ) → n ≤ count → transferred (here n) d ≡ here (n + 1)
  pub tc : (n : ℕ) → n ≤ count → reaches_tc (here n).controller ≡ eqb (count - n) 0
  pub alone : (n : ℕ) → n ≤ count → single (here n).controller ≡ once
  pub made : (n : ℕ) → (here n).counts.transfers ≡ n

module _ (limit eop : ℕ) (d : List ℕ) (here : ℕ → World) (once : Bool) (count : ℕ) (way : Way d here once count) (n : ℕ) (u : Until once count eop n) where
  -- nothing stops the first j transfers
  abbrev Unstopped : ℕ → Type 0
  Unstopped j = (k : ℕ) → k < j → Free (stops (here k) d (limit - k))

  -- j transfers before the one that ends the service are j steps of the run
  pub way_on : (j : ℕ) → j < n → j ≤ limit → Unstopped j → run_of limit eop d (here 0) ≡ run_of (limit - j) eop d (here j)
  way_on zero h l f = let e : limit ≡ limit - 0 = omega arith in ap (λ (k : ℕ). run_of k eop d (here 0)) e
  way_on (suc j) h l f =
      let e : j + 1 ≡ suc j = omega arith in
      let within : j ≤ count = omega (arith, u.most) in
      let next : transferred (here j) d ≡ here (suc j) = way.more j within ∙ ap here e in
      let left_some : count - j ≡ 0 → ⊥ = λ z. omega (arith, u.most) in
      let many : once ≡ false = not-true _ (λ o. omega (arith, u.alone o)) in
      let made : (transferred (here j) d).counts.transfers ≡ suc j = ap (λ (w : World). w.counts.transfers) next ∙ way.made (suc j) in
      let quiet : eqb (transferred (here j) d).counts.transfers eop ≡ false = ap (λ (x : ℕ). eqb x eop) made ∙ ne_eqb _ _ (u.quiet (suc j) (omega arith) h) in
      way_on j (omega arith) (omega arith) (λ k g. f k (omega arith))
      ∙ run_on eop d (here j) (limit - j) (omega arith) (f j (omega arith))
      (ends_none (here j).controller (transferred (here j) d) eop (way.tc j within ∙ ne_eqb _ _ left_some) quiet (way.alone j within ∙ many))
      ∙ ap (λ (w : World). run_of (limit - j - 1) eop d w) next
      ∙ ap (λ (k : ℕ). run_of k eop d (here (suc j))) (omega arith)

  -- The n-th transfer ends the service.
  pub way_end : n ≤ limit → Unstopped n
      → run_of limit eop d (here 0)
      ≡ stop (with_controller (here n) (when (eqb n (count + 1) || eqb n eop) (after_tc_or_eop (here n).controller (eqb n (count + 1)) (eqb n eop)) (ended (here n).controller))) Ended
  way_end l f =
      let j = n - 1 in
      let is : j + 1 ≡ n = omega (arith, u.some) in
      let before : j < n = omega (arith, u.some) in
      let within : j ≤ count = omega (arith, u.most) in
      let next : transferred (here j) d ≡ here n = way.more j within ∙ ap here is in
      let tc : reaches_tc (here j).controller ≡ eqb n (count + 1) = way.tc j within ∙ same_test (count - j) 0 n (count + 1) (λ z. omega arith) (λ z. omega arith) in
      let met : eqb (here n).counts.transfers eop ≡ eqb n eop = ap (λ (x : ℕ). eqb x eop) (way.made n) in
      let alone : eqb n (count + 1) || eqb n eop ≡ false → single (here j).controller ≡ true =
      λ z. way.alone j within ∙ u.last (eqb-false _ _ (neither_left (eqb n (count + 1)) (eqb n eop) z)) (eqb-false _ _ (neither_right (eqb n (count + 1)) (eqb n eop) z)) in
      way_on j before (omega arith) (λ k g. f k (omega arith))
      ∙ run_end eop d (here j) (limit - j) _ (omega arith) (f j before) (rw next (ends_met (here j).controller (here n) eop (eqb n (count + 1)) (eqb n eop) tc met alone))

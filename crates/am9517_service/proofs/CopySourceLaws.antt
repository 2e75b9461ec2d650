-- Channel 0 in memory-to-memory: what n transfers leave of it, in closed form. It begins again where its count passes 0.
use Prim.Native.Nat.{ℕ, zero, suc, ◌+◌, ◌-◌, ◌*◌, ◌/◌, ◌%◌, ◌≤◌, ◌<◌}
use mathlib.Core.Path.{◌≡◌, refl, sym, ap, ◌∙◌}
use mathlib.Core.Bool.{Bool, true, false, ◌&&◌}
use native.Mathlib.Omega.{arith}
use native.Mathlib.Numerals.{add-one}
use native.Mathlib.Nat.{mod-lt, div-add-mod}
use lib.Dec.{eqb, leb}
use borrow.Author.Tests.{eq-eqb, eqb-true, leb-true, leb-false}
use Rattle.words.specs.Choice.{when}
use Rattle.words.specs.Steps.{step, steps}
use Rattle.am9517.specs.Modes.{autoinitialize, decrement}
use Rattle.am9517.specs.declared.Channel.{Channel}
use Rattle.am9517_service.specs.Transfer.{with_current}
use Rattle.am9517_service.specs.Ends.{channel_after}
use Rattle.am9517_service.specs.Copy.{source_stepped, source_next, source_after}
use Rattle.am9517_service.specs.ClosedLegs.{address_after}
use Rattle.am9517_service.specs.ClosedCopies.{source_on, restored}
use Rattle.words.proofs.ChoiceLaws.{when_both, when_each, when_hit, not-true}
use Rattle.words.proofs.StepLaws.{steps_next, steps_none, steps_on}
use Rattle.am9517.proofs.RangeLaws.{and_left, and_right}
use Rattle.am9517_service.proofs.TransferLaws.{count_left}

-- a transfer keeps its mode
pub source_next_mode : (hold : Bool) (ch : Channel) → (source_next hold ch).mode ≡ ch.mode
source_next_mode hold ch = when_both (λ (x : Channel). x.mode ≡ ch.mode) (eqb ch.count 0) refl refl

pub source_mode : (hold : Bool) (ch : Channel) (n : ℕ) → (source_after hold ch n).mode ≡ ch.mode
unfolding source_after
source_mode hold ch zero = refl
source_mode hold ch (suc n) = source_next_mode hold (source_after hold ch n) ∙ source_mode hold ch n

-- none, one more, and some more
pub source_none : (hold : Bool) (ch : Channel) → source_after hold ch 0 ≡ ch
unfolding source_after
source_none hold ch = refl

pub source_more : (hold : Bool) (ch : Channel) (n : ℕ) → source_next hold (source_after hold ch n) ≡ source_after hold ch (n + 1)
unfolding source_after
source_more hold ch n = rw (add-one n)

pub source_add : (hold : Bool) (ch : Channel) (j n : ℕ) → source_after hold (source_after hold ch j) n ≡ source_after hold ch (j + n)
unfolding source_after
source_add hold ch j zero = let e : j ≡ j + 0 = omega arith in ap (source_after hold ch) e
source_add hold ch j (suc n) = let e : suc (j + n) ≡ j + suc n = omega arith in ap (source_next hold) (source_add hold ch j n) ∙ ap (source_after hold ch) e

-- a transfer that doesn't restore it
kept_by : (ch : Channel) → autoinitialize ch.mode ≡ false → channel_after ch ≡ ch
unfolding when
kept_by ch h = simp h

restored_by : (ch : Channel) → autoinitialize ch.mode ≡ true → channel_after ch ≡ restored ch
unfolding when
restored_by ch h = simp h

unrestored : (hold : Bool) (ch : Channel) → (autoinitialize ch.mode ≡ true → ch.count ≡ 0 → ⊥) → source_next hold ch ≡ source_stepped hold ch
unrestored hold ch h =
    when_each (λ (x : Channel). x ≡ source_stepped hold ch) (eqb ch.count 0)
    (λ e. kept_by (source_stepped hold ch) (not-true _ (λ t. h t (eqb-true _ _ e))))
    (λ e. refl)

on_more : (hold : Bool) (ch : Channel) (n : ℕ) → source_stepped hold (source_on hold ch n) ≡ source_on hold ch (n + 1)
unfolding address_after when
on_more true ch n = ap (with_current ch ch.address) (steps_next 16 true ch.count n)
on_more false ch n =
    ap (λ (a : ℕ). with_current ch a (step 16 true (steps 16 true ch.count n))) (steps_next 16 (decrement ch.mode) ch.address n)
    ∙ ap (with_current ch (steps 16 (decrement ch.mode) ch.address (n + 1))) (steps_next 16 true ch.count n)

pub on_none : (hold : Bool) (ch : Channel) → ch.address < 65536 → ch.count < 65536 → source_on hold ch 0 ≡ ch
unfolding address_after when
on_none true ch below small = ap (with_current ch ch.address) (steps_none 16 true ch.count small)
on_none false ch below small =
    ap (λ (a : ℕ). with_current ch a (steps 16 true ch.count 0)) (steps_none 16 (decrement ch.mode) ch.address below)
    ∙ ap (with_current ch ch.address) (steps_none 16 true ch.count small)

pub on_add : (hold : Bool) (ch : Channel) (j n : ℕ) → source_on hold (source_on hold ch j) n ≡ source_on hold ch (j + n)
unfolding address_after when
on_add true ch j n = ap (with_current ch ch.address) (steps_on 16 true ch.count j n)
on_add false ch j n =
    ap (λ (a : ℕ). with_current ch a (steps 16 true (steps 16 true ch.count j) n)) (steps_on 16 (decrement ch.mode) ch.address j n)
    ∙ ap (with_current ch (steps 16 (decrement ch.mode) ch.address (j + n))) (steps_on 16 true ch.count j n)

module _ (hold : Bool) (ch : Channel) (below : ch.address < 65536) (small : ch.count < 65536) where
  -- up to where it is restored
  pub source_on_lem : (n : ℕ) → (autoinitialize ch.mode ≡ true → n ≤ ch.count) → source_after hold ch n ≡ source_on hold ch n
  unfolding source_after
  source_on_lem zero h = sym (on_none hold ch below small)
  source_on_lem (suc n) h =
      ap (source_next hold) (source_on_lem n (λ t. omega (arith, h t)))
      ∙ unrestored hold (source_on hold ch n) (λ t z. absurd (omega (arith, h t, z, count_left ch.count n (omega (arith, h t)) small)))
      ∙ on_more hold ch n
      ∙ ap (source_on hold ch) (add-one n)

  -- and there
  pub source_restored : autoinitialize ch.mode ≡ true → source_after hold ch (ch.count + 1) ≡ restored ch
  source_restored t =
      sym (source_more hold ch ch.count)
      ∙ ap (source_next hold) (source_on_lem ch.count (λ t. omega arith))
      ∙ when_hit _ _ _ (eq-eqb _ 0 (count_left ch.count ch.count (omega arith) small ∙ none))
      ∙ restored_by (source_stepped hold (source_on hold ch ch.count)) t
    where
      none : ch.count - ch.count ≡ 0
      none = omega arith

-- Where it was restored it begins again after each area.
module _ (hold : Bool) (ch : Channel) (t : autoinitialize ch.mode ≡ true) (below : ch.base_address < 65536) (small : ch.base_count < 65536) where
  abbrev area : ℕ
  area = ch.base_count + 1

  pub source_again : (j : ℕ) → source_after hold (restored ch) (area + j) ≡ source_after hold (restored ch) j
  source_again j = sym (source_add hold (restored ch) area j) ∙ ap (λ (x : Channel). source_after hold x j) (source_restored hold (restored ch) below small t)

  areas_on : (q r : ℕ) → source_after hold (restored ch) (area * q + r) ≡ source_after hold (restored ch) r
  areas_on zero r = let e : area * 0 + r ≡ r = omega arith in ap (source_after hold (restored ch)) e
  areas_on (suc q) r =
      let e : area * suc q + r ≡ area + (area * q + r) = next in
      ap (source_after hold (restored ch)) e ∙ source_again (area * q + r) ∙ areas_on q r
    where
      next : area * suc q + r ≡ area + (area * q + r)
      next = omega arith

  -- so after j transfers it stands where it does after what is left of j
  pub source_left : (j : ℕ) → source_after hold (restored ch) j ≡ source_on hold (restored ch) (j % area)
  source_left j =
      let few : j % area < area = mod-lt j (omega arith) in
      ap (source_after hold (restored ch)) (sym (div-add-mod j area))
      ∙ areas_on (j / area) (j % area)
      ∙ source_on_lem hold (restored ch) below small (j % area) (λ z. omega (arith, few))

-- In closed form: past where it is restored, and before.
module _ (hold : Bool) (ch : Channel) (n : ℕ) (below : ch.address < 65536) (small : ch.count < 65536) where
  abbrev first : ℕ
  first = ch.count + 1

  pub source_past : ch.base_address < 65536 → ch.base_count < 65536 → autoinitialize ch.mode && leb first n ≡ true
      → source_on hold (restored ch) ((n - first) % (ch.base_count + 1)) ≡ source_after hold ch n
  source_past base last h =
      let t = and_left (autoinitialize ch.mode) (leb first n) h in
      let sum : first + (n - first) ≡ n = omega (arith, leb-true first n (and_right (autoinitialize ch.mode) (leb first n) h)) in
      sym (source_left hold ch t base last (n - first))
      ∙ ap (λ (x : Channel). source_after hold x (n - first)) (sym (source_restored hold ch below small t))
      ∙ source_add hold ch first (n - first)
      ∙ ap (source_after hold ch) sum

  pub source_before : autoinitialize ch.mode && leb first n ≡ false → source_on hold ch n ≡ source_after hold ch n
  source_before h = sym (source_on_lem hold ch below small n few)
    where
      few : autoinitialize ch.mode ≡ true → n ≤ ch.count
      few t = let miss : leb first n ≡ false = ap (λ (b : Bool). b && leb first n) (sym t) ∙ h in omega (arith, leb-false first n miss)

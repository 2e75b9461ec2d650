-- The ranges of a valid state, one by one, and back.
use Prim.Native.Nat.{ℕ, zero, suc, ◌≤◌, ◌<◌}
use mathlib.Core.Path.{◌≡◌, refl, sym}
use mathlib.Core.Bool.{Bool, true, false, not, ◌&&◌, ◌||◌}
use native.Mathlib.Omega.{arith}
use lib.Dec.{eqb}
use borrow.Author.Tests.{leb-true, le-leb, eq-eqb, eqb-true}
use Rattle.am9517.specs.Fields.{channel}
use Rattle.am9517.specs.Ranges.{mode_valid, modes_valid, fields_valid, service_valid, valid}
use Rattle.am9517.specs.declared.Controller.{Controller}
use Rattle.words.proofs.ChoiceLaws.{both, both_hold, never}

pub record Fields (s : Controller) : Type 0 where
  pub tc : s.tc ≤ 15
  pub request : s.request ≤ 15
  pub mask : s.mask ≤ 15
  pub pins : s.pins ≤ 15
  pub flip_flop : s.flip_flop ≤ 1
  pub in_service : s.in_service ≤ 1
  pub latch_full : s.latch_full ≤ 1
  pub lowest : s.lowest ≤ 3
  pub serving : s.serving ≤ 3
  pub edition : s.edition ≤ 1

-- all ranges of a state
pub record Ranges (s : Controller) : Type 0 where
  pub mode : (n : ℕ) → n < 4 → mode_valid (channel s n).mode ≡ true
  pub fields : Fields s
  pub rest : s.in_service ≡ 0 → (s.serving ≡ 0) × (s.latch_full ≡ 0)
  pub latch : s.latch_full ≡ 0 → s.latch ≡ 0

-- what holds of 0 to 3 holds below 4
pub below4 : (P : ℕ → Type 0) → P 0 → P 1 → P 2 → P 3 → (n : ℕ) → n < 4 → P n
below4 P a b c d zero h = a
below4 P a b c d (suc zero) h = b
below4 P a b c d (suc (suc zero)) h = c
below4 P a b c d (suc (suc (suc zero))) h = d
below4 P a b c d (suc (suc (suc (suc n)))) h = absurd (omega arith)

fields_of : (s : Controller) → fields_valid s ≡ true → Fields s
unfolding fields_valid
fields_of s e =
    let f1 = both _ _ e in
    let f2 = both _ _ f1.right in
    let f3 = both _ _ f2.right in
    let f4 = both _ _ f3.right in
    let f5 = both _ _ f4.right in
    let f6 = both _ _ f5.right in
    let f7 = both _ _ f6.right in
    let f8 = both _ _ f7.right in
    let f9 = both _ _ f8.right in
    record {
      tc = leb-true _ _ f1.left;
      request = leb-true _ _ f2.left;
      mask = leb-true _ _ f3.left;
      pins = leb-true _ _ f4.left;
      flip_flop = leb-true _ _ f5.left;
      in_service = leb-true _ _ f6.left;
      latch_full = leb-true _ _ f7.left;
      lowest = leb-true _ _ f8.left;
      serving = leb-true _ _ f9.left;
      edition = leb-true _ _ f9.right;
    }

of_fields : (s : Controller) → Fields s → fields_valid s ≡ true
unfolding fields_valid
of_fields s f =
    both_hold (le-leb _ _ f.tc) (both_hold (le-leb _ _ f.request) (both_hold (le-leb _ _ f.mask) (both_hold (le-leb _ _ f.pins)
    (both_hold (le-leb _ _ f.flip_flop) (both_hold (le-leb _ _ f.in_service) (both_hold (le-leb _ _ f.latch_full) (both_hold (le-leb _ _ f.lowest) (both_hold (le-leb _ _ f.serving) (le-leb _ _ f.edition)))))))))

pub modes_of : (s : Controller) → modes_valid s ≡ true → (n : ℕ) → n < 4 → mode_valid (channel s n).mode ≡ true
unfolding modes_valid
modes_of s e =
    let m1 = both _ _ e in
    let m2 = both _ _ m1.right in
    let m3 = both _ _ m2.right in
    below4 (λ (n : ℕ). mode_valid (channel s n).mode ≡ true) m1.left m2.left m3.left m3.right

of_modes : (s : Controller) → ((n : ℕ) → n < 4 → mode_valid (channel s n).mode ≡ true) → modes_valid s ≡ true
unfolding modes_valid
of_modes s h = both_hold (h 0 (omega arith)) (both_hold (h 1 (omega arith)) (both_hold (h 2 (omega arith)) (h 3 (omega arith))))

-- a test that is waived by another
unless : (a b : Bool) → not a || b ≡ true → a ≡ true → b ≡ true
unless true b e h = e
unless false b e h = never (sym h)

of_unless : (a b : Bool) → (a ≡ true → b ≡ true) → not a || b ≡ true
of_unless true b h = h refl
of_unless false b h = refl

pub and_left : (a b : Bool) → a && b ≡ true → a ≡ true
and_left true b e = refl
and_left false b e = e

pub and_right : (a b : Bool) → a && b ≡ true → b ≡ true
and_right true b e = e
and_right false b e = never (sym e)

pub ranges : (s : Controller) → valid s ≡ true → Ranges s
unfolding valid service_valid
ranges s e =
    let v = both _ _ e in
    let w = both _ _ v.right in
    let x = both _ _ w.right in
    record {
      mode = modes_of s v.left;
      fields = fields_of s w.left;
      rest = λ h.
          let y = unless (eqb s.in_service 0) (eqb s.serving 0 && eqb s.latch_full 0 && eqb s.latch 0) x.left (eq-eqb _ _ h) in
          let z = and_left (eqb s.serving 0 && eqb s.latch_full 0) (eqb s.latch 0) y in
          (eqb-true _ _ (and_left (eqb s.serving 0) (eqb s.latch_full 0) z), eqb-true _ _ (and_right (eqb s.serving 0) (eqb s.latch_full 0) z));
      latch = λ h. eqb-true _ _ (unless (eqb s.latch_full 0) (eqb s.latch 0) x.right (eq-eqb _ _ h));
    }

pub of_ranges : (s : Controller) → Ranges s → valid s ≡ true
unfolding valid service_valid
of_ranges s r =
    both_hold (of_modes s r.mode) (both_hold (of_fields s r.fields) (both_hold
    (of_unless (eqb s.in_service 0) (eqb s.serving 0 && eqb s.latch_full 0 && eqb s.latch 0)
    (λ h. let y = r.rest (eqb-true _ _ h) in simp (eq-eqb _ _ y.0, eq-eqb _ _ y.1, eq-eqb _ _ (r.latch y.1))))
    (of_unless (eqb s.latch_full 0) (eqb s.latch 0) (λ h. eq-eqb _ _ (r.latch (eqb-true _ _ h))))))

pub fields : (s : Controller) → valid s ≡ true → Fields s
fields s e = (ranges s e).fields

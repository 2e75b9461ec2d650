-- The ranges of a state, asked of several fields at once by a mask.
use Prim.Native.Nat.{ℕ, zero, suc, ◌+◌, ◌-◌, ◌*◌, ◌/◌, ◌^◌, ◌≤◌, ◌<◌}
use mathlib.Core.Path.{◌≡◌, refl, sym, ap, ◌∙◌}
use mathlib.Core.Bool.{Bool, true, false, ◌&&◌, ◌||◌}
use mathlib.Core.List.{List, [], ◌∷◌}
use native.Mathlib.Omega.{arith}
use native.Mathlib.Nat.{mod-eq_of_lt}
use lib.Dec.{eqb}
use lib.Bits.{bit_and, and_block, and_high, and_zero_r}
use borrow.Author.Tests.{eq-eqb, eqb-true, eqb-false}
use Rattle.am9517.specs.Ranges.{modes_valid, valid}
use Rattle.am9517.specs.ClosedMasks.{joined, flags, others, flags_of, others_of}
use Rattle.am9517.specs.declared.Controller.{Controller}
use Rattle.words.proofs.ChoiceLaws.{never}
use Rattle.am9517.proofs.RangeLaws.{Fields, Ranges, ranges, of_ranges, modes_of, and_left, and_right}

-- all are bytes
abbrev pub Bytes : List ℕ → Type 0
Bytes [] = Unit {0}
Bytes (b ∷ bs) = (b < 256) × Bytes bs

-- each byte has no bit of its mask
abbrev Clear : List ℕ → List ℕ → Type 0
Clear [] ms = Unit {0}
Clear (b ∷ bs) [] = Unit {0}
Clear (b ∷ bs) (m ∷ ms) = (bit_and b m ≡ 0) × Clear bs ms

clear : (bs ms : List ℕ) → Bytes bs → Bytes ms → bit_and (joined bs) (joined ms) ≡ 0 → Clear bs ms
unfolding joined
clear [] ms hb hm e = tt
clear (b ∷ bs) [] hb hm e = tt
clear (b ∷ bs) (m ∷ ms) hb hm e =
    let f : bit_and (joined bs) (joined ms) * 256 + bit_and b m ≡ 0 = sym (and_block 8 (joined bs) (joined ms) b m hb.0 hm.0) ∙ e in
    (omega arith, clear bs ms hb.1 hm.1 (omega arith))

cleared : (bs ms : List ℕ) → Bytes bs → Bytes ms → Clear bs ms → bit_and (joined bs) (joined ms) ≡ 0
unfolding joined
cleared [] ms hb hm c = refl
cleared (b ∷ bs) [] hb hm c = and_zero_r (joined (b ∷ bs))
cleared (b ∷ bs) (m ∷ ms) hb hm c =
    and_block 8 (joined bs) (joined ms) b m hb.0 hm.0 ∙ omega (arith, c.0, cleared bs ms hb.1 hm.1 c.1)

-- the bits that must be zero in an idle state, in a service, and in the other four fields
abbrev four_masks : List ℕ → List ℕ
four_masks ms = 0xf0 ∷ 0xf0 ∷ 0xf0 ∷ 0xf0 ∷ ms

abbrev idle_masks : List ℕ
idle_masks = 0xff ∷ 0xff ∷ 0xff ∷ 0xff ∷ []

abbrev open_masks : List ℕ
open_masks = 0xfe ∷ 0xfc ∷ 0xfe ∷ 0 ∷ []

abbrev other_masks : List ℕ
other_masks = 0xfc ∷ 0xfe ∷ 0xfe ∷ 0 ∷ []

idle_bytes : Bytes (four_masks idle_masks)
idle_bytes = (omega arith, (omega arith, (omega arith, (omega arith, (omega arith, (omega arith, (omega arith, (omega arith, tt))))))))

open_bytes : Bytes (four_masks open_masks)
open_bytes = (omega arith, (omega arith, (omega arith, (omega arith, (omega arith, (omega arith, (omega arith, (omega arith, tt))))))))

other_bytes : Bytes other_masks
other_bytes = (omega arith, (omega arith, (omega arith, (omega arith, tt))))

-- what the high j of j + k bits leave of a number
high_bits : (j k b : ℕ) → b / 2 ^ k < 2 ^ j → bit_and b (2 ^ (j + k) - 2 ^ k) ≡ b / 2 ^ k * 2 ^ k
high_bits j k b h = and_high b j k ∙ ap (λ (x : ℕ). x * 2 ^ k) (mod-eq_of_lt h)

-- a byte that has none of the high bits is small, and a small one has none
pub record Small (m top b : ℕ) : Type 0 where
  pub told : bit_and b m ≡ 0 → b ≤ top
  pub holds : b ≤ top → bit_and b m ≡ 0

module _ (b : ℕ) (h : b < 256) where
  to15 : Small 0xf0 15 b
  to15 = record { told = λ e. omega (arith, high_bits 4 4 b (omega arith)); holds = λ e. high_bits 4 4 b (omega arith) ∙ omega arith }

  to3 : Small 0xfc 3 b
  to3 = record { told = λ e. omega (arith, high_bits 6 2 b (omega arith)); holds = λ e. high_bits 6 2 b (omega arith) ∙ omega arith }

  to1 : Small 0xfe 1 b
  to1 = record { told = λ e. omega (arith, high_bits 7 1 b (omega arith)); holds = λ e. high_bits 7 1 b (omega arith) ∙ omega arith }

  to0 : Small 0xff 0 b
  to0 = record { told = λ e. omega (arith, high_bits 8 0 b (omega arith)); holds = λ e. high_bits 8 0 b (omega arith) ∙ omega arith }

-- the tests of `valid`
abbrev idle_flags : Controller → Bool
idle_flags s = eqb (bit_and (flags_of s) 0xffff_ffff_f0f0_f0f0) 0

abbrev open_flags : Controller → Bool
open_flags s = eqb (bit_and (flags_of s) 0x00fe_fcfe_f0f0_f0f0) 0

abbrev other_test : Controller → Bool
other_test s = eqb (bit_and (others_of s) 0x00fe_fefc) 0

abbrev latch_test : Controller → Bool
latch_test s = eqb s.latch_full 1 || eqb s.latch 0

abbrev pub idle_test : Controller → Bool
idle_test s = idle_flags s && other_test s

abbrev open_fields : Controller → Bool
open_fields s = open_flags s && other_test s

abbrev pub open_test : Controller → Bool
open_test s = (open_fields s && eqb s.in_service 1) && latch_test s

module _ (s : Controller) (fits : Bytes (flags s)) (both : Bytes (others s)) where
  -- the last four flags
  abbrev service : List ℕ
  service = s.in_service ∷ s.serving ∷ s.latch_full ∷ s.latch ∷ []

  abbrev last : Bytes service
  last = fits.1.1.1.1

  fields_told : (ms : List ℕ) → Clear (flags s) (four_masks ms) → other_test s ≡ true → s.in_service ≤ 1 → s.serving ≤ 3 → s.latch_full ≤ 1 → Fields s
  unfolding joined
  fields_told ms c e i n f =
      let p = clear (others s) other_masks both other_bytes (eqb-true _ _ e) in
      record {
        tc = (to15 _ fits.0).told c.0;
        request = (to15 _ fits.1.0).told c.1.0;
        mask = (to15 _ fits.1.1.0).told c.1.1.0;
        pins = (to15 _ fits.1.1.1.0).told c.1.1.1.0;
        flip_flop = (to1 _ both.1.0).told p.1.0;
        in_service = i;
        latch_full = f;
        lowest = (to3 _ both.0).told p.0;
        serving = n;
        edition = (to1 _ both.1.1.0).told p.1.1.0;
      }

  module _ (f : Fields s) where
    fields_clear : (ms : List ℕ) → Clear service ms → Clear (flags s) (four_masks ms)
    fields_clear ms c =
        ((to15 _ fits.0).holds f.tc, ((to15 _ fits.1.0).holds f.request, ((to15 _ fits.1.1.0).holds f.mask, ((to15 _ fits.1.1.1.0).holds f.pins, c))))

    other_clear : other_test s ≡ true
    unfolding joined
    other_clear = eq-eqb _ _ (cleared (others s) other_masks both other_bytes ((to3 _ both.0).holds f.lowest, ((to1 _ both.1.0).holds f.flip_flop, ((to1 _ both.1.1.0).holds f.edition, (and_zero_r s.temporary, tt)))))

  module _ (m : modes_valid s ≡ true) where
    pub idle_told : idle_test s ≡ true → valid s ≡ true
    unfolding joined
    idle_told e =
        let p : other_test s ≡ true = and_right (idle_flags s) (other_test s) e in
        let c = clear (flags s) (four_masks idle_masks) fits idle_bytes (eqb-true _ _ (and_left (idle_flags s) (other_test s) e)) in
        let i : s.in_service ≤ 0 = (to0 _ last.0).told c.1.1.1.1.0 in
        let n : s.serving ≤ 0 = (to0 _ last.1.0).told c.1.1.1.1.1.0 in
        let f : s.latch_full ≤ 0 = (to0 _ last.1.1.0).told c.1.1.1.1.1.1.0 in
        let l : s.latch ≤ 0 = (to0 _ last.1.1.1.0).told c.1.1.1.1.1.1.1.0 in
        of_ranges s (record {
          mode = modes_of s m;
          fields = fields_told idle_masks c p (omega arith) (omega arith) (omega arith);
          rest = λ e. (omega arith, omega arith);
          latch = λ e. omega arith;
        })

    idle_holds : Ranges s → s.in_service ≡ 0 → idle_test s ≡ true
    unfolding joined
    idle_holds r i =
        let y = r.rest i in
        let c : Clear service idle_masks = ((to0 _ last.0).holds (omega arith), ((to0 _ last.1.0).holds (omega (arith, y.0)), ((to0 _ last.1.1.0).holds (omega (arith, y.1)), ((to0 _ last.1.1.1.0).holds (omega (arith, r.latch y.1)), tt)))) in
        simp (eq-eqb _ _ (cleared (flags s) (four_masks idle_masks) fits idle_bytes (fields_clear r.fields idle_masks c)), other_clear r.fields)

    -- a latch that is full, or empty and zero
    latch_told : (f l : ℕ) → eqb f 1 || eqb l 0 ≡ true → f ≡ 0 → l ≡ 0
    latch_told f l e z = eqb-true _ _ (rw z at e)

    open_told : open_test s ≡ true → valid s ≡ true
    unfolding joined
    open_told e =
        let a = and_left (open_fields s && eqb s.in_service 1) (latch_test s) e in
        let b = and_left (open_fields s) (eqb s.in_service 1) a in
        let i : s.in_service ≡ 1 = eqb-true _ _ (and_right (open_fields s) (eqb s.in_service 1) a) in
        let c = clear (flags s) (four_masks open_masks) fits open_bytes (eqb-true _ _ (and_left (open_flags s) (other_test s) b)) in
        of_ranges s (record {
          mode = modes_of s m;
          fields = fields_told open_masks c (and_right (open_flags s) (other_test s) b) (omega arith) ((to3 _ last.1.0).told c.1.1.1.1.1.0) ((to1 _ last.1.1.0).told c.1.1.1.1.1.1.0);
          rest = λ z. absurd (omega arith);
          latch = latch_told _ _ (and_right (open_fields s && eqb s.in_service 1) (latch_test s) e);
        })

    latch_holds : (f l : ℕ) → f ≤ 1 → (f ≡ 0 → l ≡ 0) → eqb f 1 || eqb l 0 ≡ true
    latch_holds zero l h g = eq-eqb _ _ (g refl)
    latch_holds (suc zero) l h g = refl
    latch_holds (suc (suc f)) l h g = absurd (omega arith)

    open_holds : Ranges s → s.in_service ≡ 1 → open_test s ≡ true
    unfolding joined
    open_holds r i =
        let f = r.fields in
        let c : Clear service open_masks = ((to1 _ last.0).holds f.in_service, ((to3 _ last.1.0).holds f.serving, ((to1 _ last.1.1.0).holds f.latch_full, (and_zero_r s.latch, tt)))) in
        simp (eq-eqb _ _ (cleared (flags s) (four_masks open_masks) fits open_bytes (fields_clear f open_masks c)), other_clear f, eq-eqb _ _ i) (latch_holds _ _ f.latch_full r.latch)

    -- a state that isn't idle and in its ranges is in them where it is in service so
    pub open_is : idle_test s ≡ false → open_test s ≡ valid s
    open_is e = go (open_test s) (valid s) refl refl
      where
        go : (t v : Bool) → open_test s ≡ t → valid s ≡ v → open_test s ≡ valid s
        go true v p q = p ∙ sym (open_told p)
        go false false p q = p ∙ sym q
        go false true p q = in_service_lem (eqb s.in_service 0) refl
          where
            in_service_lem : (z : Bool) → eqb s.in_service 0 ≡ z → open_test s ≡ valid s
            in_service_lem true z = never (sym (idle_holds (ranges s q) (eqb-true _ _ z)) ∙ e)
            in_service_lem false z = open_holds (ranges s q) (omega (arith, (ranges s q).fields.in_service, eqb-false s.in_service 0 z)) ∙ sym q

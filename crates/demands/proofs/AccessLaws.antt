-- What register accesses, pins, reset and wait states leave is in its ranges.
use Prim.Native.Nat.{ℕ, zero, suc, ◌-◌, ◌/◌, ◌%◌, ◌≤◌, ◌<◌}
use mathlib.Core.Path.{◌≡◌, refl, sym, ap, ◌∙◌}
use mathlib.Core.Bool.{true, false, not, ◌&&◌}
use mathlib.Core.List.{List, [], ◌∷◌}
use native.Mathlib.Omega.{arith}
use lib.Dec.{eqb, ltb}
use lib.ListN.{get_or, set}
use borrow.Author.Tests.{eq-eqb, ltb-false}
use Rattle.words.specs.Choice.{when}
use Rattle.words.specs.Grounds.{first}
use Rattle.words.specs.Bits.{bit}
use Rattle.am9517.specs.State.{cleared}
use Rattle.am9517.specs.Fields.{blank, channel, put, Pins, Waits}
use Rattle.am9517.specs.Modes.{mode_refused}
use Rattle.am9517.specs.Ranges.{mode_valid}
use Rattle.am9517.specs.Registers.{high, port_written, mode_written, after_write, after_read}
use Rattle.am9517.specs.Refusals.{refusal, write_grounds, pins_grounds}
use Rattle.am9517.specs.declared.Channel.{Channel}
use Rattle.am9517.specs.declared.Controller.{Controller}
use Rattle.words.proofs.BitLaws.{four_kept}
use Rattle.words.proofs.ChoiceLaws.{when_both, when_each, both_hold}
use Rattle.words.proofs.GroundLaws.{passed}
use Rattle.am9517.proofs.RangeLaws.{Fields, Ranges}
use Rattle.am9517.proofs.KeepLaws.{modes_kept}

-- what holds of a channel's new mode and of every mode before holds of every mode
modes_set : (P : ℕ → Type 0) (l : List Channel) (n k : ℕ) (x : Channel) → P x.mode → P (get_or l k blank).mode → P (get_or (set l n x) k blank).mode
modes_set P [] n k x h g = g
modes_set P (y ∷ ys) zero zero x h g = h
modes_set P (y ∷ ys) zero (suc k) x h g = g
modes_set P (y ∷ ys) (suc n) zero x h g = g
modes_set P (y ∷ ys) (suc n) (suc k) x h g = modes_set P ys n k x h g

-- a mode that isn't refused by 5 is in its range without its channel bits
mode_stored : (b : ℕ) → mode_refused b ≡ false → mode_valid (b - b % 4) ≡ true
unfolding mode_valid
mode_stored b h =
    let kind : (b - b % 4) / 4 ≡ b / 4 = omega arith in
    let sort : (b - b % 4) / 64 ≡ b / 64 = omega arith in
    let same : mode_refused (b - b % 4) ≡ mode_refused b = rw (kind, sort) in
    both_hold (eq-eqb ((b - b % 4) % 4) 0 (omega arith)) (ap not (same ∙ h))

module _ (s : Controller) (r : Ranges s) where
  abbrev f : Fields s
  f = r.fields

  -- a state with the same service
  same_service : (t : Controller) → ((n : ℕ) → n < 4 → mode_valid (channel t n).mode ≡ true)
      → t.tc ≤ 15 → t.request ≤ 15 → t.mask ≤ 15 → t.pins ≤ 15 → t.flip_flop ≤ 1 → t.lowest ≤ 3
      → t.in_service ≡ s.in_service → t.serving ≡ s.serving → t.latch_full ≡ s.latch_full → t.latch ≡ s.latch
      → t.edition ≡ s.edition → Ranges t
  same_service t modes tc request mask pins flip lowest i n lf l e =
      record {
        mode = modes;
        fields = record {
          tc = tc;
          request = request;
          mask = mask;
          pins = pins;
          flip_flop = flip;
          in_service = rw i f.in_service;
          latch_full = rw lf f.latch_full;
          lowest = lowest;
          serving = rw n f.serving;
          edition = rw e f.edition;
        };
        rest = λ e. let y = r.rest (sym i ∙ e) in (n ∙ y.0, lf ∙ y.1);
        latch = λ e. l ∙ r.latch (sym lf ∙ e);
      }

  flips : when (high s) 0 1 ≤ 1
  flips = when_both (λ (x : ℕ). x ≤ 1) (high s) (omega arith) (omega arith)

  port_ranges : (reg b : ℕ) → Ranges (port_written s reg b)
  unfolding port_written
  port_ranges reg b =
      let c = channel s (reg / 2) in
      same_service _
      (λ n h. ap mode_valid (modes_kept s.channels (reg / 2) n _ (when_both (λ (x : Channel). x.mode ≡ c.mode) (eqb (reg % 2) 0) refl refl)) ∙ r.mode n h)
      f.tc f.request f.mask f.pins flips f.lowest refl refl refl refl refl

  mode_ranges : (b : ℕ) → mode_refused b ≡ false → Ranges (mode_written s b)
  unfolding mode_written
  mode_ranges b h =
      same_service _ (λ n l. modes_set (λ (x : ℕ). mode_valid x ≡ true) s.channels (b % 4) n _ (mode_stored b h) (r.mode n l))
      f.tc f.request f.mask f.pins f.flip_flop f.lowest refl refl refl refl refl

  pub cleared_ranges : Ranges (cleared s)
  cleared_ranges =
      record {
        mode = r.mode;
        fields = record {
          tc = omega arith;
          request = omega arith;
          mask = omega arith;
          pins = f.pins;
          flip_flop = omega arith;
          in_service = omega arith;
          latch_full = omega arith;
          lowest = omega arith;
          serving = omega arith;
          edition = f.edition;
        };
        rest = λ e. (refl, refl);
        latch = λ e. refl;
      }

  pub write_ranges : (reg b : ℕ) → refusal (write_grounds s reg b) ≡ 0 → Ranges (after_write s reg b)
  unfolding after_write refusal first
  write_ranges reg b free =
      let p1 = passed _ _ _ (omega arith) free in
      let p2 = passed _ _ _ (omega arith) p1.next in
      let p3 = passed _ _ _ (omega arith) p2.next in
      let p4 = passed _ _ _ (omega arith) p3.next in
      let fit : eqb reg 0xB && mode_refused b ≡ false = (passed _ _ _ (omega arith) p4.next).test in
      when_both Ranges (ltb reg 8) (port_ranges reg b)
      (when_both Ranges (eqb reg 8) (same_service _ r.mode f.tc f.request f.mask f.pins f.flip_flop f.lowest refl refl refl refl refl)
      (when_both Ranges (eqb reg 9)
      (same_service _ r.mode f.tc (four_kept s.request (b % 4) (eqb (bit b 2) 1) f.request (omega arith)) f.mask f.pins f.flip_flop f.lowest refl refl refl refl refl)
      (when_both Ranges (eqb reg 0xA)
      (same_service _ r.mode f.tc f.request (four_kept s.mask (b % 4) (eqb (bit b 2) 1) f.mask (omega arith)) f.pins f.flip_flop f.lowest refl refl refl refl refl)
      (when_each Ranges (eqb reg 0xB) (λ e. mode_ranges b (rw e at fit))
      (λ e. when_both Ranges (eqb reg 0xC) (same_service _ r.mode f.tc f.request f.mask f.pins (omega arith) f.lowest refl refl refl refl refl)
      (when_both Ranges (eqb reg 0xD) cleared_ranges
      (when_both Ranges (eqb reg 0xE) (same_service _ r.mode f.tc f.request (omega arith) f.pins f.flip_flop f.lowest refl refl refl refl refl)
      (when_both Ranges (eqb reg 0xF) (same_service _ r.mode f.tc f.request (omega arith) f.pins f.flip_flop f.lowest refl refl refl refl refl) r))))))))

  pub read_ranges : (reg : ℕ) → Ranges (after_read s reg)
  unfolding after_read first
  read_ranges reg =
      when_both Ranges (ltb reg 8) (same_service _ r.mode f.tc f.request f.mask f.pins flips f.lowest refl refl refl refl refl)
      (when_both Ranges (eqb reg 8) (same_service _ r.mode (omega arith) f.request f.mask f.pins f.flip_flop f.lowest refl refl refl refl refl) r)

  pub pins_ranges : (p : ℕ) → refusal (pins_grounds s p) ≡ 0 → Ranges (put s Pins p)
  unfolding refusal first
  pins_ranges p free =
      let h : p ≤ 15 = ltb-false _ _ (passed _ _ _ (omega arith) (passed _ _ _ (omega arith) free).next).test in
      same_service _ r.mode f.tc f.request f.mask h f.flip_flop f.lowest refl refl refl refl refl

  pub waits_ranges : (n : ℕ) → Ranges (put s Waits n)
  waits_ranges n = same_service _ r.mode f.tc f.request f.mask f.pins f.flip_flop f.lowest refl refl refl refl refl

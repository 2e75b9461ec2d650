-- What keeps a state in its ranges.
use Prim.Native.Nat.{ℕ, zero, suc, ◌≤◌, ◌<◌}
use mathlib.Core.Path.{◌≡◌, refl, ap, ◌∙◌}
use mathlib.Core.List.{List, [], ◌∷◌}
use native.Mathlib.Omega.{arith}
use lib.ListN.{get_or, set}
use Rattle.am9517.specs.State.{ended}
use Rattle.am9517.specs.Fields.{blank, channel}
use Rattle.am9517.specs.Modes.{rotating}
use Rattle.am9517.specs.Ranges.{mode_valid}
use Rattle.am9517.specs.Serving.{granted}
use Rattle.am9517.specs.declared.Channel.{Channel}
use Rattle.am9517.specs.declared.Controller.{Controller}
use Rattle.words.proofs.ChoiceLaws.{when_both}
use Rattle.am9517.proofs.RangeLaws.{Fields, Ranges}

-- a channel put with its own mode leaves every mode
pub modes_kept : (l : List Channel) (n k : ℕ) (x : Channel) → x.mode ≡ (get_or l n blank).mode → (get_or (set l n x) k blank).mode ≡ (get_or l k blank).mode
modes_kept [] n k x e = refl
modes_kept (y ∷ ys) zero zero x e = e
modes_kept (y ∷ ys) zero (suc k) x e = refl
modes_kept (y ∷ ys) (suc n) zero x e = refl
modes_kept (y ∷ ys) (suc n) (suc k) x e = modes_kept ys n k x e

-- What a service leaves of a state: modes, pins, flip-flop, lowest channel and edition, and four bits of each set.
pub record Kept (s t : Controller) : Type 0 where
  pub mode : (n : ℕ) → (channel t n).mode ≡ (channel s n).mode
  pub pins : t.pins ≡ s.pins
  pub flip_flop : t.flip_flop ≡ s.flip_flop
  pub lowest : t.lowest ≡ s.lowest
  pub edition : t.edition ≡ s.edition
  pub tc : t.tc ≤ 15
  pub request : t.request ≤ 15
  pub mask : t.mask ≤ 15

module _ (s : Controller) (r : Ranges s) where
  pub kept_same : Kept s s
  kept_same = record { mode = λ n. refl; pins = refl; flip_flop = refl; lowest = refl; edition = refl; tc = r.fields.tc; request = r.fields.request; mask = r.fields.mask }

  kept_fields : (t : Controller) → Kept s t → t.in_service ≤ 1 → t.latch_full ≤ 1 → t.serving ≤ 3 → Fields t
  kept_fields t k i f n =
      record {
        tc = k.tc;
        request = k.request;
        mask = k.mask;
        pins = rw k.pins r.fields.pins;
        flip_flop = rw k.flip_flop r.fields.flip_flop;
        in_service = i;
        latch_full = f;
        lowest = rw k.lowest r.fields.lowest;
        serving = n;
        edition = rw k.edition r.fields.edition;
      }

  -- a service that stays open
  pub kept_open : (t : Controller) → Kept s t → t.in_service ≡ 1 → t.latch_full ≤ 1 → (t.latch_full ≡ 0 → t.latch ≡ 0) → t.serving ≤ 3 → Ranges t
  kept_open t k i f l n =
      record {
        mode = λ n h. ap mode_valid (k.mode n) ∙ r.mode n h;
        fields = kept_fields t k (omega arith) f n;
        rest = λ e. absurd (omega arith);
        latch = l;
      }

  -- a service that ended
  pub kept_ended : (t : Controller) → Kept s t → Ranges (ended t)
  kept_ended t k =
      record {
        mode = λ n h. ap mode_valid (k.mode n) ∙ r.mode n h;
        fields = kept_fields (ended t) (record { mode = k.mode; pins = k.pins; flip_flop = k.flip_flop; lowest = k.lowest; edition = k.edition; tc = k.tc; request = k.request; mask = k.mask }) (omega arith) (omega arith) (omega arith);
        rest = λ e. (refl, refl);
        latch = λ e. refl;
      }

  -- a grant
  pub granted_kept : (n : ℕ) → n < 4 → Ranges (granted s n)
  unfolding granted
  granted_kept n h =
      record {
        mode = r.mode;
        fields = record { tc = r.fields.tc; request = r.fields.request; mask = r.fields.mask; pins = r.fields.pins; flip_flop = r.fields.flip_flop; in_service = omega arith; latch_full = omega arith; lowest = when_both (λ (x : ℕ). x ≤ 3) (rotating s.command) (omega arith) r.fields.lowest; serving = omega arith; edition = r.fields.edition };
        rest = λ e. absurd (omega arith);
        latch = λ e. refl;
      }

-- A signed number as text: the sign of one below zero, and then its magnitude.
use mathlib.Core.Path.{◌≡◌, refl, ap, ◌∙◌}
use mathlib.Core.Bool.{true, false}
use mathlib.Core.List.{◌++◌}
use Prim.Native.Nat.{suc, ◌<◌}
use native.Mathlib.Omega.{arith}
use lib.Dec.{T}
use lib.IntN.{ℤ, pos, negsuc, nat_abs, ◌-ℤ◌, +ℤ_idl}
use lib.Signed.{lt_z, non_neg}
use borrow.Author.Tests.{ltb-true}
use mir.Syntax.{w32, w64}
use mir.Val.{to_z, of_z, Fits, SFits}
use mir.ValLaws.{to_z-of_z}
use Rattle.words.proofs.ChoiceLaws.{never}
use Rattle.console_text.specs.Text.{codes, Page, put}
use Rattle.console_text.specs.Numbers.{decimal_text, signed_text}
use Rattle.console_text.proofs.TextLaws.{put_append}

text_below : (z : ℤ) → lt_z z (pos 0) ≡ true → signed_text z ≡ codes "-" ++ decimal_text (nat_abs z)
unfolding signed_text
text_below (pos n) t = absurd (omega (arith, ltb-true n 0 t))
text_below (negsuc n) t = refl

text_above : (z : ℤ) → lt_z z (pos 0) ≡ false → signed_text z ≡ decimal_text (nat_abs z)
unfolding signed_text
text_above (pos n) t = refl
text_above (negsuc n) t = never t

-- The same of an i32, as it is read back from its bits.
module _ (p : Page) (z : ℤ) (f : SFits w32 z) where
  abbrev read : ℤ
  read = to_z w32 (of_z w32 z)

  pub signed_below : lt_z read (pos 0) ≡ true → put (put p (codes "-")) (decimal_text (nat_abs read)) ≡ put p (signed_text z)
  signed_below t = let e = to_z-of_z w32 z f in rw (e, text_below z (rw e at t), put_append p (codes "-") (decimal_text (nat_abs z))) refl

  pub signed_above : lt_z read (pos 0) ≡ false → put p (decimal_text (nat_abs read)) ≡ put p (signed_text z)
  signed_above t = let e = to_z-of_z w32 z f in rw (e, text_above z (rw e at t)) refl

-- a number below zero, taken from zero, is its magnitude
from_zero : (z : ℤ) → lt_z z (pos 0) ≡ true → pos 0 -ℤ z ≡ pos (nat_abs z)
from_zero (pos n) t = absurd (omega (arith, ltb-true n 0 t))
from_zero (negsuc n) t = +ℤ_idl (pos (suc n))

size : (z : ℤ) → SFits w32 z → nat_abs z < 2147483649
size (pos n) f = omega (arith, f.sfits)
size (negsuc n) f = omega (arith, f.sfits)

above : (z : ℤ) → lt_z z (pos 0) ≡ false → T (non_neg z)
above (pos n) t = tt
above (negsuc n) t = never t

-- Its magnitude as an i64 computes it: of one below zero, taken from zero there, and of another as it stands.
module _ (z : ℤ) (f : SFits w32 z) where
  abbrev narrow : ℤ
  narrow = to_z w32 (of_z w32 z)

  abbrev wide : ℤ
  wide = to_z w64 (of_z w64 narrow)

  same : narrow ≡ z
  same = to_z-of_z w32 z f

  pub wide_fits : SFits w64 narrow
  wide_fits = rw same (record { sfits = omega (arith, f.sfits) })

  wide_same : wide ≡ z
  wide_same = to_z-of_z w64 narrow wide_fits ∙ same

  module _ (t : lt_z narrow (pos 0) ≡ true) where
    minus : pos 0 -ℤ wide ≡ pos (nat_abs z)
    minus = ap (λ (y : ℤ). pos 0 -ℤ y) wide_same ∙ from_zero z (rw same at t)

    pub minus_fits : SFits w64 (pos 0 -ℤ wide)
    minus_fits = rw minus (record { sfits = omega (arith, size z f) })

    told : to_z w64 (of_z w64 (pos 0 -ℤ wide)) ≡ pos (nat_abs z)
    told = to_z-of_z w64 _ minus_fits ∙ minus

    pub magnitude_fits : T (non_neg (to_z w64 (of_z w64 (pos 0 -ℤ wide)))) × Fits w64 (nat_abs (to_z w64 (of_z w64 (pos 0 -ℤ wide))))
    magnitude_fits = rw told (tt, record { fits = omega (arith, size z f) })

  module _ (t : lt_z narrow (pos 0) ≡ false) where
    pub plain_fits : T (non_neg narrow) × Fits w64 (nat_abs narrow)
    plain_fits = rw same (above z (rw same at t), record { fits = omega (arith, size z f) })

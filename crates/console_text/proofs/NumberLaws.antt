-- Laws of digits and numbers, and that what is printed is read back.
use Prim.Native.Nat.{ℕ, zero, suc, ◌+◌, ◌-◌, ◌*◌, ◌/◌, ◌%◌, ◌≤◌, ◌<◌}
use mathlib.Core.Path.{◌≡◌, refl, sym, ap, ◌∙◌}
use mathlib.Core.Bool.{Bool, true, false, ◌&&◌}
use mathlib.Core.List.{List, [], ◌∷◌, ◌++◌}
use native.Mathlib.Omega.{arith}
use native.Mathlib.Nat.{mul-le-mul_left}
use lib.Dec.{ltb, leb, eqb}
use Rattle.std.specs.List.{list_all}
use lib.ListN.{length, get_or, take, drop}
use borrow.Author.Tests.{lt-ltb, le-ltb, le-leb, lt-leb, eq-eqb, ne_eqb, ltb-true, ltb-false, leb-true}
use Rattle.words.specs.Choice.{when, ◌and◌}
use Rattle.words.proofs.ChoiceLaws.{both, both_hold, when_each}
use Rattle.console_text.specs.Text.{codes}
use Rattle.console_text.specs.Numbers.{digit_of, digit_in, glyph, all_digits, value_from, number_from, number_in, prefixed, number_of, digits_in, decimal_text}
use Rattle.console_text.proofs.TextLaws.{drop_next, drop_end}
use Rattle.std.specs.Prelude.{Option, Some, None, is_some, nat_eq}
use Rattle.std.specs.Cmp.Lexicographic.{pointwise}

-- The value of a character, by where it stands among the others.
module _ (b : ℕ) where
  pub digit_decimal : 48 ≤ b → b ≤ 57 → digit_of b ≡ b - 48
  unfolding digit_of when
  digit_decimal h l = rw (le-ltb _ _ h, le-leb _ _ l)

  pub digit_upper : 65 ≤ b → b ≤ 70 → digit_of b ≡ b - 55
  unfolding digit_of when
  digit_upper h l = rw (le-ltb b 48 (omega arith), lt-leb b 57 (omega arith), le-ltb _ _ h, le-leb _ _ l)

  pub digit_lower : 97 ≤ b → b ≤ 102 → digit_of b ≡ b - 87
  unfolding digit_of when
  digit_lower h l = rw (le-ltb b 48 (omega arith), lt-leb b 57 (omega arith), le-ltb b 65 (omega arith), lt-leb b 70 (omega arith), le-ltb _ _ h, le-leb _ _ l)

  pub digit_below : b < 48 → digit_of b ≡ 16
  unfolding digit_of when
  digit_below h = rw (lt-ltb _ _ h)

  pub digit_between : 57 < b → b < 65 → digit_of b ≡ 16
  unfolding digit_of when
  digit_between h l = rw (le-ltb b 48 (omega arith), lt-leb _ _ h, lt-ltb _ _ l)

  pub digit_before : 70 < b → b < 97 → digit_of b ≡ 16
  unfolding digit_of when
  digit_before h l = rw (le-ltb b 48 (omega arith), lt-leb b 57 (omega arith), le-ltb b 65 (omega arith), lt-leb _ _ h, lt-ltb _ _ l)

  pub digit_behind : 102 < b → digit_of b ≡ 16
  unfolding digit_of when
  digit_behind h = rw (le-ltb b 48 (omega arith), lt-leb b 57 (omega arith), le-ltb b 65 (omega arith), lt-leb b 70 (omega arith), le-ltb b 97 (omega arith), lt-leb _ _ h)

  pub digit_most : digit_of b ≤ 16
  unfolding digit_of
  digit_most =
      let P : ℕ → Type 0 = λ d. d ≤ 16 in
      when_each P (ltb b 48) (λ e. omega arith) (λ e. when_each P (leb b 57) (λ e. omega (arith, leb-true b 57 e))
      (λ e. when_each P (ltb b 65) (λ e. omega arith) (λ e. when_each P (leb b 70) (λ e. omega (arith, leb-true b 70 e))
      (λ e. when_each P (ltb b 97) (λ e. omega arith) (λ e. when_each P (leb b 102) (λ e. omega (arith, leb-true b 102 e)) (λ e. omega arith))))))

  module _ (base : ℕ) where
    pub digit_some : digit_of b < base → digit_in base b ≡ Some (digit_of b)
    unfolding digit_in when
    digit_some h = rw (lt-ltb _ _ h)

    pub digit_none : base ≤ digit_of b → digit_in base b ≡ None
    unfolding digit_in when
    digit_none h = rw (le-ltb _ _ h)

    -- the code's other way round
    pub digit_said : is_some (digit_in base b) ≡ ltb (digit_of b) base
    unfolding digit_in when
    digit_said = elim (ltb (digit_of b) base) as (λ t. is_some (when t (Some (digit_of b)) None) ≡ t) [ true ↦ refl | false ↦ refl ]

-- no test that fails holds together with another
pub and_false : (a : Bool) → (a and false) ≡ false
unfolding ◌and◌
and_false true = refl
and_false false = refl

and_no : (a : Bool) → (a && false) ≡ false
and_no true = refl
and_no false = refl

and_yes : (a : Bool) → (a && true) ≡ a
and_yes true = refl
and_yes false = refl

-- A turn of the loops over digits.
module _ (base : ℕ) where
  pub digits_none : all_digits base [] ≡ true
  unfolding all_digits
  digits_none = refl

  pub digits_next : (x : ℕ) (xs : List ℕ) → digit_of x < base → all_digits base (x ∷ xs) ≡ all_digits base xs
  unfolding all_digits ◌and◌
  digits_next x xs h = rw (lt-ltb _ _ h)

  pub digits_stop : (x : ℕ) (xs : List ℕ) → base ≤ digit_of x → all_digits base (x ∷ xs) ≡ false
  unfolding all_digits ◌and◌
  digits_stop x xs h = rw (le-ltb _ _ h)

  module _ (most : ℕ) where
    pub number_end : (v : ℕ) → v ≤ most → number_from base most v [] ≡ Some v
    unfolding number_from all_digits value_from ◌and◌ when
    number_end v h = rw (le-leb _ _ h)

    pub number_next : (v x : ℕ) (xs : List ℕ) → digit_of x < base
        → number_from base most v (x ∷ xs) ≡ number_from base most (v * base + digit_of x) xs
    unfolding number_from value_from
    number_next v x xs h = rw (digits_next x xs h)

    pub number_stop : (v x : ℕ) (xs : List ℕ) → base ≤ digit_of x → number_from base most v (x ∷ xs) ≡ None
    unfolding number_from ◌and◌ when
    number_stop v x xs h = rw (digits_stop x xs h)

    -- digits make a number no smaller
    value_grows : (v : ℕ) (xs : List ℕ) → 1 ≤ base → v ≤ value_from base v xs
    unfolding value_from
    value_grows v [] h = omega arith
    value_grows v (x ∷ xs) h =
        let more : v * 1 ≤ v * base = mul-le-mul_left v h in
        let rest : v * base + digit_of x ≤ value_from base (v * base + digit_of x) xs = value_grows (v * base + digit_of x) xs h in
        omega arith

    pub number_over : (v : ℕ) (xs : List ℕ) → 1 ≤ base → most < v → number_from base most v xs ≡ None
    unfolding number_from when
    number_over v xs h l = rw (lt-leb _ _ (over (value_grows v xs h)), and_false (all_digits base xs))
      where
        over : v ≤ value_from base v xs → most < value_from base v xs
        over g = omega arith

-- every character is a digit where `all` says that each is
pub digits_said : (base : ℕ) (s : List ℕ) → list_all (λ x. is_some (digit_in base x)) s ≡ all_digits base s
unfolding all_digits ◌and◌
digits_said base [] = refl
digits_said base (x ∷ xs) = rw (digit_said x base) (ap (λ (t : Bool). ltb (digit_of x) base && t) (digits_said base xs))

-- A digit that a character says, and one that is none.
digit_is : (base b d : ℕ) → digit_in base b ≡ Some d → (digit_of b < base) × (d ≡ digit_of b)
unfolding digit_in when
digit_is base b d = when_each (λ o. o ≡ Some d → (digit_of b < base) × (d ≡ digit_of b)) (ltb (digit_of b) base) (λ e s. (ltb-true _ _ e, cc)) (λ e s. absurd cc)

digit_not : (base b : ℕ) → digit_in base b ≡ None → base ≤ digit_of b
unfolding digit_in when
digit_not base b = when_each (λ o. o ≡ None → base ≤ digit_of b) (ltb (digit_of b) base) (λ e s. absurd cc) (λ e s. ltb-false _ _ e)

-- The number of a slice is what its rest says behind the value so far: a turn of the loop, and its ends.
module _ (base most v : ℕ) (s : List ℕ) (i : ℕ) (so : number_from base most v (drop i s) ≡ number_in base most s) where
  pub number_turn : (d : ℕ) → i < length s → digit_in base (get_or s i 0) ≡ Some d → number_from base most (v * base + d) (drop (i + 1) s) ≡ number_in base most s
  number_turn d h e = let x = digit_is _ _ d e in rw x.1 (sym (number_next base most v (get_or s i 0) (drop (i + 1) s) x.0) ∙ rw (drop_next s i h) at so)

  pub number_bad : i < length s → digit_in base (get_or s i 0) ≡ None → None ≡ number_in base most s
  number_bad h e = sym (number_stop base most v (get_or s i 0) (drop (i + 1) s) (digit_not _ _ e)) ∙ rw (drop_next s i h) at so

  pub number_large : (d : ℕ) → 1 ≤ base → i < length s → digit_in base (get_or s i 0) ≡ Some d → most < v * base + d → None ≡ number_in base most s
  number_large d b h e m = sym (number_over base most (v * base + d) (drop (i + 1) s) b m) ∙ number_turn d h e

  pub number_all : length s ≤ i → v ≤ most → Some v ≡ number_in base most s
  number_all h m = sym (number_end base most v m) ∙ rw (drop_end s i h) at so

  pub number_more : 1 ≤ base → length s ≤ i → most < v → None ≡ number_in base most s
  number_more b h m = sym (number_over base most v [] b m) ∙ rw (drop_end s i h) at so

module _ (base most : ℕ) (s : List ℕ) where
  pub number_none : length s ≡ 0 → number_in base most s ≡ None
  unfolding number_in when
  number_none e = rw (eq-eqb _ _ e)

  pub number_some : (length s ≡ 0 → ⊥) → number_in base most s ≡ number_from base most 0 s
  unfolding number_in when
  number_some e = rw (ne_eqb _ _ e)

-- The digits of a number.

glyph_digit : (d : ℕ) → d < 16 → (t : Bool) → ltb d 10 ≡ t → digit_of (glyph d) ≡ d
unfolding digit_of glyph when
glyph_digit d h true e =
    let l = ltb-true d 10 e in
    rw (e, le-ltb (48 + d) 48 (omega arith), le-leb (48 + d) 57 (omega arith)) (omega arith)
glyph_digit d h false e =
    let l = ltb-false d 10 e in
    rw (
      e,
      le-ltb (87 + d) 48 (omega arith),
      lt-leb (87 + d) 57 (omega arith),
      le-ltb (87 + d) 65 (omega arith),
      lt-leb (87 + d) 70 (omega arith),
      le-ltb (87 + d) 97 (omega arith),
      le-leb (87 + d) 102 (omega arith),
    ) (omega arith)

pub digit_of_glyph : (d : ℕ) → d < 16 → digit_of (glyph d) ≡ d
digit_of_glyph d h = glyph_digit d h (ltb d 10) refl

-- a number below the base is one digit, any other its tenth's digits and one more
module _ (f n : ℕ) where
  digits_small : n < 10 → digits_in 10 (suc f) n ≡ glyph n ∷ []
  unfolding digits_in when
  digits_small h = rw (lt-ltb n 10 h)

  digits_more : 10 ≤ n → digits_in 10 (suc f) n ≡ digits_in 10 f (n / 10) ++ (glyph (n % 10) ∷ [])
  unfolding digits_in when
  digits_more h = rw (le-ltb n 10 h)

-- what holds of the small and, if it holds of the tenth, of the others
by_tenths : (P : ℕ → ℕ → Type 0) → ((f n : ℕ) → n < 10 → P (suc f) n) → ((f n : ℕ) → 10 ≤ n → P f (n / 10) → P (suc f) n)
    → (f n : ℕ) → n < f → P f n
by_tenths P small more zero n h = absurd (omega arith)
by_tenths P small more (suc f) n h = go (ltb n 10) refl (λ l. by_tenths P small more f (n / 10) l)
  where
    go : (t : Bool) → ltb n 10 ≡ t → (n / 10 < f → P f (n / 10)) → P (suc f) n
    go true e next = small f n (ltb-true n 10 e)
    go false e next = let l = ltb-false n 10 e in more f n l (next (omega arith))

-- that there are enough is all that the first number says
digits_enough : (f n : ℕ) → n < f → (g : ℕ) → n < g → digits_in 10 f n ≡ digits_in 10 g n
digits_enough = by_tenths (λ (f n : ℕ). (g : ℕ) → n < g → digits_in 10 f n ≡ digits_in 10 g n) small more
  where
    small : (f n : ℕ) → n < 10 → (g : ℕ) → n < g → digits_in 10 (suc f) n ≡ digits_in 10 g n
    small f n h zero l = absurd (omega arith)
    small f n h (suc g) l = digits_small f n h ∙ sym (digits_small g n h)

    more : (f n : ℕ) → 10 ≤ n → ((g : ℕ) → n / 10 < g → digits_in 10 f (n / 10) ≡ digits_in 10 g (n / 10)) → (g : ℕ) → n < g → digits_in 10 (suc f) n ≡ digits_in 10 g n
    more f n h next zero l = absurd (omega arith)
    more f n h next (suc g) l =
        digits_more f n h ∙ ap (λ (ds : List ℕ). ds ++ (glyph (n % 10) ∷ [])) (next g (omega arith)) ∙ sym (digits_more g n h)

pub decimal_small : (n : ℕ) → n < 10 → decimal_text n ≡ glyph (n % 10) ∷ []
unfolding decimal_text
decimal_small n h = let e : n % 10 ≡ n = omega arith in digits_small n n h ∙ ap (λ (d : ℕ). glyph d ∷ []) (sym e)

pub decimal_more : (n : ℕ) → 10 ≤ n → decimal_text n ≡ decimal_text (n / 10) ++ (glyph (n % 10) ∷ [])
unfolding decimal_text
decimal_more n h =
    digits_more n n h
    ∙ ap (λ (ds : List ℕ). ds ++ (glyph (n % 10) ∷ [])) (digits_enough n (n / 10) (omega arith) (suc (n / 10)) (omega arith))

-- What is printed is read back.

value_append : (base v : ℕ) (xs : List ℕ) (x : ℕ) → value_from base v (xs ++ (x ∷ [])) ≡ value_from base v xs * base + digit_of x
unfolding value_from
value_append base v [] x = refl
value_append base v (y ∷ ys) x = value_append base (v * base + digit_of y) ys x

digits_append : (base : ℕ) (xs : List ℕ) (x : ℕ) → all_digits base xs ≡ true → digit_of x < base → all_digits base (xs ++ (x ∷ [])) ≡ true
unfolding all_digits
digits_append base [] x e h = both_hold (lt-ltb _ _ h) refl
digits_append base (y ∷ ys) x e h = let b = both _ _ e in both_hold b.left (digits_append base ys x b.right h)

all_digits_lem : (f n : ℕ) → n < f → all_digits 10 (digits_in 10 f n) ≡ true
all_digits_lem = by_tenths (λ (f n : ℕ). all_digits 10 (digits_in 10 f n) ≡ true) small more
  where
    small : (f n : ℕ) → n < 10 → all_digits 10 (digits_in 10 (suc f) n) ≡ true
    small f n h = ap (all_digits 10) (digits_small f n h) ∙ digits_append 10 [] (glyph n) (digits_none 10) (omega (arith, digit_of_glyph n (omega arith)))

    more : (f n : ℕ) → 10 ≤ n → all_digits 10 (digits_in 10 f (n / 10)) ≡ true → all_digits 10 (digits_in 10 (suc f) n) ≡ true
    more f n h next =
        ap (all_digits 10) (digits_more f n h)
        ∙ digits_append 10 (digits_in 10 f (n / 10)) (glyph (n % 10)) next (omega (arith, digit_of_glyph (n % 10) (omega arith)))

-- no digit of base ten is an x
x_sixteen : digit_of 120 ≡ 16
unfolding digit_of when
x_sixteen = refl

x_no_digit : (xs : List ℕ) (i : ℕ) → all_digits 10 xs ≡ true → get_or xs i 0 ≡ 120 → ⊥
unfolding all_digits
x_no_digit [] i e z = omega arith
x_no_digit (y ∷ ys) zero e z = let l : digit_of y < 10 = ltb-true _ _ (both _ _ e).left in let d : digit_of y ≡ 16 = ap digit_of z ∙ x_sixteen in omega arith
x_no_digit (y ∷ ys) (suc i) e z = x_no_digit ys i (both _ _ e).right z

-- digits whose value fits say it
number_said : (base most v : ℕ) (ds : List ℕ) → 1 ≤ length ds → all_digits base ds ≡ true → value_from base 0 ds ≡ v → v ≤ most
    → number_in base most ds ≡ Some v
unfolding number_in number_from ◌and◌ when
number_said base most v ds s d e h = let some : length ds ≡ 0 → ⊥ = λ z. omega arith in rw (ne_eqb (length ds) 0 some, d, e, le-leb v most h)

-- The two ways of a number, by what the slice's `strip_prefix` finds.
prefix_said : (s : List ℕ) → pointwise nat_eq (take 2 s) (codes "0x") ≡ prefixed s
unfolding prefixed ◌and◌
prefix_said [] = refl
prefix_said (x ∷ []) = and_no (eqb x 48)
prefix_said (x ∷ y ∷ s) = rw (le-leb 2 (suc (suc (length s))) (omega arith)) (ap (λ (t : Bool). eqb x 48 && t) (and_yes (eqb y 120)))

module _ (most : ℕ) (s : List ℕ) where
  pub number_hex : pointwise nat_eq (take 2 s) (codes "0x") ≡ true → number_of most s ≡ number_in 16 most (drop 2 s)
  unfolding number_of when
  number_hex e = rw (← (prefix_said s), e) refl

  pub number_decimal : pointwise nat_eq (take 2 s) (codes "0x") ≡ false → number_of most s ≡ number_in 10 most s
  unfolding number_of when
  number_decimal e = rw (← (prefix_said s), e) refl

-- a number that a word says fits its place
fits_when : (t : Bool) (v n most : ℕ) → (t ≡ true → v ≤ most) → when t (Some v) None ≡ Some n → n ≤ most
unfolding when
fits_when true v n most h e = let s : v ≡ n = cc in omega (arith, h refl)
fits_when false v n most h e = let z : ◌≡◌ {A = ℕ} 0 1 = cc in absurd (omega arith)

fits_from : (base most v n : ℕ) (ds : List ℕ) → number_from base most v ds ≡ Some n → n ≤ most
unfolding number_from
fits_from base most v n ds e = fits_when _ _ n most (λ b. leb-true _ _ (both _ _ b).right) e

fits_in : (base most n : ℕ) (ds : List ℕ) (t : Bool) → when t None (number_from base most 0 ds) ≡ Some n → n ≤ most
unfolding when
fits_in base most n ds true e = let z : ◌≡◌ {A = ℕ} 0 1 = cc in absurd (omega arith)
fits_in base most n ds false e = fits_from base most 0 n ds e

fits_either : (most n : ℕ) (a b : Option ℕ) (t : Bool) → (a ≡ Some n → n ≤ most) → (b ≡ Some n → n ≤ most) → when t a b ≡ Some n → n ≤ most
unfolding when
fits_either most n a b true f g e = f e
fits_either most n a b false f g e = g e

pub number_fits : (most n : ℕ) (s : List ℕ) → number_of most s ≡ Some n → n ≤ most
unfolding number_of number_in
number_fits most n s e = fits_either most n _ _ _ (fits_in 16 most n _ _) (fits_in 10 most n _ _) e

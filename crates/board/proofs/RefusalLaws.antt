-- What a number that refuses gives, and grounds in front of others: of the controller's definitions, for the board sees no law of its crates.
use Prim.Native.Nat.{ℕ, zero, suc, ◌≤◌}
use mathlib.Core.Path.{◌≡◌, refl, sym, ap, ◌∙◌}
use mathlib.Core.Bool.{Bool, true, false, ◌&&◌}
use mathlib.Core.List.{List, [], ◌∷◌, ◌++◌}
use native.Mathlib.Omega.{arith}
use lib.Dec.{eqb, leb}
use borrow.Author.Tests.{eq-eqb, ne_eqb, leb-true, eqb-true, eqb-false}
use Rattle.words.specs.Choice.{when}
use Rattle.words.specs.Grounds.{Ground, first}
use Rattle.am9517.specs.Refusals.{number_of, numbered, unless, number_in, refused, refusal}
use Rattle.am9517.specs.declared.refusals.Refusal.{Refusal}
use Rattle.words.proofs.ChoiceLaws.{when_both, never}
use Rattle.words.proofs.GroundLaws.{Numbered, first_else, overs, first_over}
use Rattle.std.proofs.Common.{Option, Some, None, Ok, Err, is_some, unwrap_or}

-- the refusal of the first ground that holds
pub refused_is : (gs : List (Ground ℕ)) → refused (refusal gs) ≡ first (overs refused gs) None
unfolding refusal refused when
refused_is gs = sym (first_over refused gs 0 (first gs 0) refl)

-- what was taken of a refusal: its number isn't 0, and it is the one of that number
taken_by : (n : ℕ) (t : Bool) (r : Refusal) → eqb n 0 ≡ t → when t None (Some (numbered n)) ≡ Some r → (n ≡ 0 → ⊥) × (r ≡ numbered n)
unfolding when
taken_by n true r e h = never (sym (ap is_some h))
taken_by n false r e h = (eqb-false _ _ e, sym (ap (λ (o : Option Refusal). unwrap_or o r) h))

pub taken : (n : ℕ) (r : Refusal) → refused n ≡ Some r → (n ≡ 0 → ⊥) × (r ≡ numbered n)
unfolding refused
taken n r h = taken_by n (eqb n 0) r refl h

-- nothing refuses: the number is 0
free_by : (n : ℕ) (t : Bool) → eqb n 0 ≡ t → ((r : Refusal) → when t None (Some (numbered n)) ≡ Some r → ⊥) → n ≡ 0
unfolding when
free_by n true e h = eqb-true _ _ e
free_by n false e h = absurd (h (numbered n) refl)

pub free : (n : ℕ) (o : Option Refusal) → o ≡ refused n → ((r : Refusal) → o ≡ Some r → ⊥) → n ≡ 0
unfolding refused
free n o e h = free_by n (eqb n 0) refl (λ r k. h r (e ∙ k))

and_left : (a b : Bool) → a && b ≡ true → a ≡ true
and_left true b e = refl
and_left false b e = never (sym e)

and_right : (a b : Bool) → a && b ≡ true → b ≡ true
and_right true b e = e
and_right false b e = never (sym e)

-- No number of these grounds is over 15: so the number of the first that holds isn't, and its refusal has that number.
abbrev pub named : List (Ground ℕ) → Bool
named [] = true
named (g ∷ gs) = leb g.gives 15 && named gs

pub few : (gs : List (Ground ℕ)) → named gs ≡ true → refusal gs ≤ 15
unfolding refusal first
few [] e = omega arith
few (g ∷ gs) e = when_both (λ (n : ℕ). n ≤ 15) g.holds (leb-true _ _ (and_left (leb g.gives 15) (named gs) e)) (few gs (and_right (leb g.gives 15) (named gs) e))

pub number_back : (n : ℕ) → n ≤ 15 → (n ≡ 0 → ⊥) → number_of (numbered n) ≡ n
unfolding numbered when
number_back zero l z = absurd (z refl)
number_back (suc zero) l z = refl
number_back (suc (suc zero)) l z = refl
number_back (suc (suc (suc zero))) l z = refl
number_back (suc (suc (suc (suc zero)))) l z = refl
number_back (suc (suc (suc (suc (suc zero))))) l z = refl
number_back (suc (suc (suc (suc (suc (suc zero)))))) l z = refl
number_back (suc (suc (suc (suc (suc (suc (suc zero))))))) l z = refl
number_back (suc (suc (suc (suc (suc (suc (suc (suc zero)))))))) l z = refl
number_back (suc (suc (suc (suc (suc (suc (suc (suc (suc zero))))))))) l z = refl
number_back (suc (suc (suc (suc (suc (suc (suc (suc (suc (suc zero)))))))))) l z = refl
number_back (suc (suc (suc (suc (suc (suc (suc (suc (suc (suc (suc zero))))))))))) l z = refl
number_back (suc (suc (suc (suc (suc (suc (suc (suc (suc (suc (suc (suc zero)))))))))))) l z = refl
number_back (suc (suc (suc (suc (suc (suc (suc (suc (suc (suc (suc (suc (suc zero))))))))))))) l z = refl
number_back (suc (suc (suc (suc (suc (suc (suc (suc (suc (suc (suc (suc (suc (suc zero)))))))))))))) l z = refl
number_back (suc (suc (suc (suc (suc (suc (suc (suc (suc (suc (suc (suc (suc (suc (suc zero))))))))))))))) l z = refl
number_back (suc (suc (suc (suc (suc (suc (suc (suc (suc (suc (suc (suc (suc (suc (suc (suc n)))))))))))))))) l z = absurd (omega arith)

-- the number that an outcome's answer says is the refusal's own
pub told_by : {A : Type 0} (n : ℕ) (told : A) (t : Bool) → eqb n 0 ≡ t → n ≤ 15 → number_in (when t (Ok told) (Err (numbered n))) ≡ n
unfolding when
told_by n told true e l = sym (eqb-true _ _ e)
told_by n told false e l = number_back n l (eqb-false _ _ e)

-- the number that it says is the refusal's own
pub number_said : {A : Type 0} (gs : List (Ground ℕ)) (a : A) → named gs ≡ true → number_in (unless (refusal gs) a) ≡ refusal gs
number_said gs a h = told_by (refusal gs) a (eqb (refusal gs) 0) refl (few gs h)

-- Grounds in front that refuse, whatever stands behind them; or that don't, and what stands behind them decides.
joined : (front further : List (Ground ℕ)) → first (front ++ further) 0 ≡ first front (first further 0)
unfolding first
joined [] further = refl
joined (g ∷ front) further = ap (when g.holds g.gives) (joined front further)

module _ (front further : List (Ground ℕ)) (h : Numbered front) where
  pub front_refused : (refusal front ≡ 0 → ⊥) → refusal (front ++ further) ≡ refusal front
  unfolding refusal when
  front_refused z = joined front further ∙ first_else front h (first further 0) ∙ simp (ne_eqb (refusal front) 0 z)

  pub front_passed : refusal front ≡ 0 → refusal (front ++ further) ≡ refusal further
  unfolding refusal when
  front_passed z = joined front further ∙ first_else front h (first further 0) ∙ simp (eq-eqb (refusal front) 0 z)

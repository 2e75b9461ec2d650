-- What an accepted call tells, and what an outcome's answer says.
use Prim.Native.Nat.{ℕ, zero, suc, ◌%◌, ◌≤◌}
use mathlib.Core.Path.{◌≡◌, refl, sym, ap, ◌∙◌}
use mathlib.Core.Bool.{Bool, true, false, not, ◌&&◌}
use mathlib.Core.List.{List, [], ◌∷◌}
use native.Mathlib.Nat.{mod-eq_of_lt}
use native.Mathlib.Omega.{arith}
use lib.Dec.{eqb, leb}
use borrow.Author.Tests.{eq-eqb, ne_eqb, ltb-false, leb-true, eqb-true, eqb-false, not-false}
use Rattle.words.specs.Choice.{when}
use Rattle.words.specs.Grounds.{Ground, first}
use Rattle.am9517.specs.Ranges.{valid}
use Rattle.am9517.specs.Refusals.{number_of, numbered, number_in, refused, refusal, read_grounds, pins_grounds}
use Rattle.am9517.specs.Answers.{Answer, refusal_number, outcome}
use Rattle.am9517.specs.ClosedAnswers.{answered}
use Rattle.am9517.specs.declared.Controller.{Controller}
use Rattle.am9517.specs.declared.Outcome.{Outcome}
use Rattle.am9517.specs.declared.refusals.Refusal.{Refusal}
use Rattle.am9517.proofs.RangeLaws.{and_left, and_right}
use Rattle.words.proofs.ChoiceLaws.{when_both, never}
use Rattle.words.proofs.GroundLaws.{passed, overs, first_over}
use Rattle.std.proofs.Common.{Option, Some, None, Ok, Err, is_some, unwrap_or}

pub read_valid : (s : Controller) (r : ℕ) → refusal (read_grounds s r) ≡ 0 → valid s ≡ true
unfolding refusal first
read_valid s r e = not-false _ (passed _ _ _ (omega arith) e).test

-- accepted pins fit their byte
pub pins_fit : (s : Controller) (p : ℕ) → refusal (pins_grounds s p) ≡ 0 → p % 256 ≡ p
unfolding refusal first
pins_fit s p e =
    let h : p ≤ 15 = ltb-false _ _ (passed _ _ _ (omega arith) (passed _ _ _ (omega arith) e).next).test in
    mod-eq_of_lt {n = p} {m = 256} (omega arith)

-- the refusal of the first ground that holds
pub refused_is : (gs : List (Ground ℕ)) → refused (refusal gs) ≡ first (overs refused gs) None
unfolding refusal refused when
refused_is gs = sym (first_over refused gs 0 (first gs 0) refl)

-- accepted: the number is 0
accepted_by : (n : ℕ) (t b : Bool) → eqb n 0 ≡ t → is_some (when t None (Some (numbered n))) ≡ not b → b ≡ true → n ≡ 0
unfolding when
accepted_by n true b e h z = eqb-true _ _ e
accepted_by n false b e h z = never (h ∙ ap not z)

pub accepted : (n : ℕ) (r : Option Refusal) (b : Bool) → r ≡ refused n → is_some r ≡ not b → b ≡ true → n ≡ 0
unfolding refused
accepted n r b e h = accepted_by n (eqb n 0) b refl (ap is_some (sym e) ∙ h)

denied_by : (n : ℕ) (t b : Bool) → eqb n 0 ≡ t → is_some (when t None (Some (numbered n))) ≡ not b → b ≡ false → n ≡ 0 → ⊥
unfolding when
denied_by n true b e h z a = never (sym (h ∙ ap not z))
denied_by n false b e h z a = eqb-false _ _ e a

pub denied : (n : ℕ) (r : Option Refusal) (b : Bool) → r ≡ refused n → is_some r ≡ not b → b ≡ false → n ≡ 0 → ⊥
unfolding refused
denied n r b e h = denied_by n (eqb n 0) b refl (ap is_some (sym e) ∙ h)

-- what was taken of a refusal: its number isn't 0, and it is the one of that number
taken_by : (n : ℕ) (t : Bool) (r : Refusal) → eqb n 0 ≡ t → when t None (Some (numbered n)) ≡ Some r → (n ≡ 0 → ⊥) × (r ≡ numbered n)
unfolding when
taken_by n true r e h = never (sym (ap is_some h))
taken_by n false r e h = (eqb-false _ _ e, sym (ap (λ (o : Option Refusal). unwrap_or o r) h))

pub taken : (n : ℕ) (r : Refusal) → refused n ≡ Some r → (n ≡ 0 → ⊥) × (r ≡ numbered n)
unfolding refused
taken n r h = taken_by n (eqb n 0) r refl h

-- nothing refuses: the number is 0
free_by : (n : ℕ) (t : Bool) → eqb n 0 ≡ t → ((r : Refusal) → when t None (Some (numbered n)) ≡ Some r → ⊥) → n ≡ 0
unfolding when
free_by n true e h = eqb-true _ _ e
free_by n false e h = absurd (h (numbered n) refl)

pub free : (n : ℕ) (o : Option Refusal) → o ≡ refused n → ((r : Refusal) → o ≡ Some r → ⊥) → n ≡ 0
unfolding refused
free n o e h = free_by n (eqb n 0) refl (λ r k. h r (e ∙ k))

-- what is answered, by the number
answered_by : (t : Bool) (r : Refusal) (told : Option ℕ) → answered (when t None (Some r)) told ≡ when t (Ok told) (Err r)
unfolding when
answered_by true r told = refl
answered_by false r told = refl

pub answered_is : (n : ℕ) (r : Option Refusal) (told : Option ℕ) → r ≡ refused n → answered r told ≡ when (eqb n 0) (Ok told) (Err (numbered n))
unfolding refused
answered_is n r told e = ap (λ (x : Option Refusal). answered x told) e ∙ answered_by (eqb n 0) (numbered n) told

-- No number of these grounds is over 15: so the number of the first that holds isn't, and its refusal has that number.
abbrev pub named : List (Ground ℕ) → Bool
named [] = true
named (g ∷ gs) = leb g.gives 15 && named gs

pub few : (gs : List (Ground ℕ)) → named gs ≡ true → refusal gs ≤ 15
unfolding refusal first
few [] e = omega arith
few (g ∷ gs) e = when_both (λ (n : ℕ). n ≤ 15) g.holds (leb-true _ _ (and_left (leb g.gives 15) (named gs) e)) (few gs (and_right (leb g.gives 15) (named gs) e))

pub number_back : (n : ℕ) → n ≤ 15 → (n ≡ 0 → ⊥) → number_of (numbered n) ≡ n
unfolding numbered when
number_back zero l z = absurd (z refl)
number_back (suc zero) l z = refl
number_back (suc (suc zero)) l z = refl
number_back (suc (suc (suc zero))) l z = refl
number_back (suc (suc (suc (suc zero)))) l z = refl
number_back (suc (suc (suc (suc (suc zero))))) l z = refl
number_back (suc (suc (suc (suc (suc (suc zero)))))) l z = refl
number_back (suc (suc (suc (suc (suc (suc (suc zero))))))) l z = refl
number_back (suc (suc (suc (suc (suc (suc (suc (suc zero)))))))) l z = refl
number_back (suc (suc (suc (suc (suc (suc (suc (suc (suc zero))))))))) l z = refl
number_back (suc (suc (suc (suc (suc (suc (suc (suc (suc (suc zero)))))))))) l z = refl
number_back (suc (suc (suc (suc (suc (suc (suc (suc (suc (suc (suc zero))))))))))) l z = refl
number_back (suc (suc (suc (suc (suc (suc (suc (suc (suc (suc (suc (suc zero)))))))))))) l z = refl
number_back (suc (suc (suc (suc (suc (suc (suc (suc (suc (suc (suc (suc (suc zero))))))))))))) l z = refl
number_back (suc (suc (suc (suc (suc (suc (suc (suc (suc (suc (suc (suc (suc (suc zero)))))))))))))) l z = refl
number_back (suc (suc (suc (suc (suc (suc (suc (suc (suc (suc (suc (suc (suc (suc (suc zero))))))))))))))) l z = refl
number_back (suc (suc (suc (suc (suc (suc (suc (suc (suc (suc (suc (suc (suc (suc (suc (suc n)))))))))))))))) l z = absurd (omega arith)

-- the number that an outcome's answer says is the refusal's own
pub told_by : {A : Type 0} (n : ℕ) (told : A) (t : Bool) → eqb n 0 ≡ t → n ≤ 15 → number_in (when t (Ok told) (Err (numbered n))) ≡ n
unfolding when
told_by n told true e l = sym (eqb-true _ _ e)
told_by n told false e l = number_back n l (eqb-false _ _ e)

pub number_told : (n : ℕ) → n ≤ 15 → (was next : Controller) (told : Option ℕ) → refusal_number (outcome n was next told).answer ≡ n
unfolding outcome
number_told n l was next told = told_by n told (eqb n 0) refl l

-- so an outcome that is this one states this paper's number
pub stated : (r : Outcome) (n : ℕ) (was next : Controller) (told : Option ℕ) → n ≤ 15 → r ≡ outcome n was next told
    → (r ≡ outcome n was next told) × (refusal_number r.answer ≡ n)
stated r n was next told l e = (e, ap (λ (o : Outcome). refusal_number o.answer) e ∙ number_told n l was next told)

-- both of the number that these grounds give
pub grounds_told : (gs : List (Ground ℕ)) → named gs ≡ true → (was next : Controller) (told : Option ℕ) → refusal_number (outcome (refusal gs) was next told).answer ≡ refusal gs
grounds_told gs h was next told = number_told (refusal gs) (few gs h) was next told

pub grounds_stated : (r : Outcome) (gs : List (Ground ℕ)) (was next : Controller) (told : Option ℕ) → named gs ≡ true → r ≡ outcome (refusal gs) was next told
    → (r ≡ outcome (refusal gs) was next told) × (refusal_number r.answer ≡ refusal gs)
grounds_stated r gs was next told h e = stated r (refusal gs) was next told (few gs h) e

-- what an operation hands back, whose refusal is r: x is the state, a the answer
module _ (gs : List (Ground ℕ)) (h : named gs ≡ true) (was next : Controller) (told : Option ℕ) (r : Option Refusal) (is : r ≡ refused (refusal gs))
    (b : Bool) (test : is_some r ≡ not b) (a : Answer) (says : a ≡ answered r told) (x : Controller) where
  abbrev pub Told : Type 0
  Told = (◌≡◌ {A = Outcome} (record { controller = x; answer = a }) (outcome (refusal gs) was next told)) × (refusal_number a ≡ refusal gs)

  -- accepted: the next state
  pub done : b ≡ true → (refusal gs ≡ 0 → x ≡ next) → Told
  unfolding outcome when
  done t e = let z = accepted (refusal gs) r b is test t in
      grounds_stated _ gs was next told h (simp (says ∙ answered_is (refusal gs) r told is, eq-eqb (refusal gs) 0 z, e z))

  -- refused: the old one
  pub kept : b ≡ false → x ≡ was → Told
  unfolding outcome when
  kept t e = grounds_stated _ gs was next told h (simp (says ∙ answered_is (refusal gs) r told is, ne_eqb (refusal gs) 0 (denied (refusal gs) r b is test t), e))

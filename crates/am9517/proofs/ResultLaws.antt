-- Answers that a number refuses: the number that each says, what it tells of the number, and what grounds in front of others decide.
use Prim.Native.Nat.{ℕ}
use mathlib.Core.Path.{◌≡◌, refl, ap, ◌∙◌}
use mathlib.Core.Bool.{Bool, true, false}
use mathlib.Core.List.{List, [], ◌∷◌, ◌++◌}
use lib.Dec.{eqb}
use borrow.Author.Tests.{eq-eqb, ne_eqb, eqb-true, eqb-false}
use Rattle.words.specs.Choice.{when}
use Rattle.words.specs.Grounds.{Ground, first}
use Rattle.am9517.specs.Refusals.{numbered, unless, number_in, refusal}
use Rattle.am9517.specs.declared.refusals.Refusal.{Refusal}
use Rattle.words.proofs.GroundLaws.{Numbered, first_else}
use Rattle.am9517.proofs.RefusalLaws.{named, few, told_by}
use Rattle.std.proofs.Common.{Ok, Err}

-- the number that it says is the refusal's own
pub number_said : {A : Type 0} (gs : List (Ground ℕ)) (a : A) → named gs ≡ true → number_in (unless (refusal gs) a) ≡ refusal gs
number_said gs a h = told_by (refusal gs) a (eqb (refusal gs) 0) refl (few gs h)

module _ {A : Type 0} (n : ℕ) (a : A) where
  -- one that n refuses
  pub refused_by : (n ≡ 0 → ⊥) → unless n a ≡ Err (numbered n)
  unfolding when
  refused_by z = rw (ne_eqb n 0 z)

  given_by : (t : Bool) (x : A) → eqb n 0 ≡ t → Ok x ≡ when t (Ok a) (Err (numbered n)) → (n ≡ 0) × (x ≡ a)
  unfolding when
  given_by true x e h = (eqb-true n 0 e, cc)
  given_by false x e h = (cc, cc)

  -- one that is given: nothing refuses
  pub given : (x : A) → Ok x ≡ unless n a → (n ≡ 0) × (x ≡ a)
  given x h = given_by (eqb n 0) x refl h

  denied_by : (t : Bool) (r : Refusal) → eqb n 0 ≡ t → Err r ≡ when t (Ok a) (Err (numbered n)) → (n ≡ 0 → ⊥) × (r ≡ numbered n)
  unfolding when
  denied_by true r e h = (cc, cc)
  denied_by false r e h = (eqb-false n 0 e, cc)

  -- one that is refused: n does
  pub denied : (r : Refusal) → Err r ≡ unless n a → (n ≡ 0 → ⊥) × (r ≡ numbered n)
  denied r h = denied_by (eqb n 0) r refl h

-- Grounds in front that refuse, whatever stands behind them; or that don't, and what stands behind them decides.
joined : (front further : List (Ground ℕ)) → first (front ++ further) 0 ≡ first front (first further 0)
unfolding first
joined [] further = refl
joined (g ∷ front) further = ap (when g.holds g.gives) (joined front further)

module _ (front further : List (Ground ℕ)) (h : Numbered front) where
  pub front_refused : (refusal front ≡ 0 → ⊥) → refusal (front ++ further) ≡ refusal front
  unfolding refusal when
  front_refused z = joined front further ∙ first_else front h (first further 0) ∙ simp (ne_eqb (refusal front) 0 z)

  pub front_passed : refusal front ≡ 0 → refusal (front ++ further) ≡ refusal further
  unfolding refusal when
  front_passed z = joined front further ∙ first_else front h (first further 0) ∙ simp (eq-eqb (refusal front) 0 z)

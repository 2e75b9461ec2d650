-- What a verdict tells of what was found.
use Prim.Native.Nat.{ℕ, ◌/◌}
use mathlib.Core.Path.{◌≡◌, refl, sym, ap}
use mathlib.Core.Bool.{Bool, true, false}
use mathlib.Core.List.{List}
use native.Mathlib.Omega.{arith}
use lib.Dec.{eqb}
use lib.IntN.{ℤ, pos}
use lib.ListN.{length}
use borrow.Author.Tests.{eq-eqb, ne_eqb, eqb-true, eqb-false}
use Rattle.words.specs.Choice.{when}
use Rattle.words.proofs.ChoiceLaws.{when_hit, when_miss}
use Rattle.am9517.specs.Refusals.{refusal}
use Rattle.am9517.specs.declared.Controller.{Controller}
use Rattle.am9517_service.specs.Answers.{run_grounds}
use Rattle.logs.specs.declared.Verdict.{Verdict}
use Rattle.logs.specs.declared.Verdict.TheVariants.{Accepted, Wrong, Refused}
use Rattle.logs.specs.Judge.{Found, judged}
use Rattle.logs.specs.Answers.{JudgeGiven, verdict_of, told, judged_of}
use Rattle.logs.proofs.AnswerLaws.{refused_by}
use Rattle.demands.proofs.Refusals.{refused_some}
use Rattle.requests.specs.Logs.{verdict, says}

-- verdicts told apart, and taken apart

abbrev pub sort : Verdict → ℕ
sort Accepted = 0
sort (Wrong at error) = 1
sort (Refused r) = 2

abbrev place_in : Verdict → ℕ
place_in Accepted = 0
place_in (Wrong at error) = at
place_in (Refused r) = 0

abbrev error_in : Verdict → ℤ
error_in Accepted = pos 0
error_in (Wrong at error) = error
error_in (Refused r) = pos 0

module _ (size : ℕ) (f : Found) where
  pub all_right : verdict_of size f ≡ Accepted → f.place ≡ size
  unfolding verdict_of when
  all_right e = go (eqb f.place size) refl e
    where
      go : (t : Bool) → eqb f.place size ≡ t → when t Accepted (Wrong f.place f.error) ≡ Accepted → f.place ≡ size
      go true h v = eqb-true _ _ h
      go false h v = let z : ◌≡◌ {A = ℕ} 1 0 = ap sort v in absurd (omega arith)

  pub one_wrong : (at : ℕ) (error : ℤ) → verdict_of size f ≡ Wrong at error → (f.place ≡ at) × (f.error ≡ error) × (f.place ≡ size → ⊥)
  unfolding verdict_of when
  one_wrong at error e = go (eqb f.place size) refl e
    where
      go : (t : Bool) → eqb f.place size ≡ t → when t Accepted (Wrong f.place f.error) ≡ Wrong at error → (f.place ≡ at) × (f.error ≡ error) × (f.place ≡ size → ⊥)
      go true h v = let z : ◌≡◌ {A = ℕ} 0 1 = ap sort v in absurd (omega arith)
      go false h v = (ap place_in v, ap error_in v, eqb-false _ _ h)

  pub said_all : f.place ≡ size → verdict_of size f ≡ Accepted
  unfolding verdict_of
  said_all e = when_hit _ _ _ (eq-eqb _ _ e)

  pub said_wrong : (f.place ≡ size → ⊥) → verdict_of size f ≡ Wrong f.place f.error
  unfolding verdict_of
  said_wrong h = when_miss _ _ _ (ne_eqb _ _ h)

-- a log that is judged at all
module _ (c : Controller) (m log : List ℕ) where
  abbrev pub at_all : Found
  at_all = judged (length log / 8) c m log

  pub told_so : refusal (run_grounds c m) ≡ 0 → judged_of c m log ≡ told (length log) at_all
  unfolding judged_of
  told_so e = when_hit _ _ _ (ap (λ (n : ℕ). eqb n 0) e)

  pub unrefused : (sort (verdict (judged_of c m log)) ≡ 2 → ⊥) → refusal (run_grounds c m) ≡ 0
  unrefused h = go (eqb (refusal (run_grounds c m)) 0) refl
    where
      go : (t : Bool) → eqb (refusal (run_grounds c m)) 0 ≡ t → refusal (run_grounds c m) ≡ 0
      go true e = eqb-true _ _ e
      go false e = absurd (h (ap (λ (g : JudgeGiven). sort (verdict g)) (sym (refused_by c m log _ (refused_some _ (eqb-false _ _ e))))))

  module _ (free : refusal (run_grounds c m) ≡ 0) where
    pub verdict_is : verdict (judged_of c m log) ≡ verdict_of (length log) at_all
    unfolding told
    verdict_is = ap verdict (told_so free)

    pub given_is : judged_of c m log ≡ says at_all.controller (verdict_of (length log) at_all) at_all.memory
    unfolding told
    given_is = told_so free

-- An answer of a run or a round states this paper's number.
use Prim.Native.Nat.{ℕ, zero, suc, ◌≤◌}
use mathlib.Core.Path.{◌≡◌, refl, sym, ap, ◌∙◌}
use mathlib.Core.Bool.{Bool, true, false}
use mathlib.Core.List.{List}
use lib.Dec.{eqb}
use borrow.Author.Tests.{eqb-true, eqb-false}
use Rattle.words.specs.Choice.{when}
use Rattle.words.specs.Grounds.{first}
use Rattle.am9517.specs.Refusals.{numbered, refusal}
use Rattle.am9517.specs.declared.Controller.{Controller}
use Rattle.am9517_service.specs.declared.Ran.{Ran}
use Rattle.am9517_service.specs.declared.Rounded.{Rounded}
use Rattle.am9517_service.specs.World.{Stop}
use Rattle.am9517_service.specs.Answers.{Given, given, run_refusal_number, stopped, refused_of, ran_of, run_grounds}
use Rattle.am9517_service.specs.Round.{Course, Close, beginning, close, after_next, round_of}
use Rattle.am9517_service.specs.RoundAnswers.{RoundGiven, round_given, round_refusal_number, closed, round_grounds, rounded_of}
use Rattle.words.proofs.ChoiceLaws.{when_both}
use Rattle.am9517.proofs.RefusalLaws.{few, number_back}
use Rattle.std.proofs.Common.{Err}

-- a run
ran_by_lem : (n : ℕ) (t : Bool) (x : Stop) (s : Controller) (m r : List ℕ) → eqb n 0 ≡ t → n ≤ 15 → run_refusal_number (when t (stopped x) (given (refused_of s n) m r)).ran.answer ≡ n
unfolding when stopped
ran_by_lem n true x s m r e l = sym (eqb-true _ _ e)
ran_by_lem n false x s m r e l = number_back n l (eqb-false _ _ e)

pub ran_told : (s : Controller) (m d r : List ℕ) (limit eop : ℕ) → run_refusal_number (ran_of s m d r limit eop).ran.answer ≡ refusal (run_grounds s m)
unfolding ran_of
ran_told s m d r limit eop = ran_by_lem (refusal (run_grounds s m)) _ _ s m r refl (few (run_grounds s m) refl)

-- a round
round_number : (left : ℕ) (d : List ℕ) (w : Course) → round_refusal_number (round_of left d w).answer ≡ 0
unfolding round_of first
round_number zero d w = refl
round_number (suc left) d w =
    let P : Close → Type 0 = λ x. round_refusal_number x.answer ≡ 0 in
    when_both P _ refl (when_both P _ refl (round_number left d (after_next w d)))

round_by_lem : (n : ℕ) (t : Bool) (x : Close) (w : Course) → eqb n 0 ≡ t → n ≤ 15 → round_refusal_number x.answer ≡ 0 → round_refusal_number (when t (closed x) (closed (close w (Err (numbered n))))).rounded.answer ≡ n
unfolding when closed
round_by_lem n true x w e l h = h ∙ sym (eqb-true _ _ e)
round_by_lem n false x w e l h = number_back n l (eqb-false _ _ e)

pub round_told : (s : Controller) (m d r : List ℕ) (k : ℕ) → round_refusal_number (rounded_of s m d r k).rounded.answer ≡ refusal (round_grounds s m k)
unfolding rounded_of
round_told s m d r k = round_by_lem (refusal (round_grounds s m k)) _ _ _ refl (few (round_grounds s m k) refl) (round_number k d (beginning s m r))

-- so what a run gives states it, and what a round gives
pub run_stated : (x : Ran) (m' room : List ℕ) (s : Controller) (m d r : List ℕ) (limit eop : ℕ) → given x m' room ≡ ran_of s m d r limit eop
    → (given x m' room ≡ ran_of s m d r limit eop) × (run_refusal_number x.answer ≡ refusal (run_grounds s m))
run_stated x m' room s m d r limit eop e = (e, ap (λ (g : Given). run_refusal_number g.ran.answer) e ∙ ran_told s m d r limit eop)

pub round_stated : (x : Rounded) (m' room : List ℕ) (s : Controller) (m d r : List ℕ) (k : ℕ) → round_given x m' room ≡ rounded_of s m d r k
    → (round_given x m' room ≡ rounded_of s m d r k) × (round_refusal_number x.answer ≡ refusal (round_grounds s m k))
round_stated x m' room s m d r k e = (e, ap (λ (g : RoundGiven). round_refusal_number g.rounded.answer) e ∙ round_told s m d r k)

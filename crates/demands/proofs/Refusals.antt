-- Demand 1, for each operation from its own definition.
use Prim.Native.Nat.{ℕ}
use mathlib.Core.Path.{◌≡◌, refl, sym, ap, ◌∙◌}
use mathlib.Core.Bool.{Bool, true, false}
use mathlib.Core.List.{List, [], ◌∷◌}
use mathlib.Core.Logic.{◌↔◌}
use borrow.Author.Tests.{ne_eqb}
use Rattle.words.specs.Choice.{when}
use Rattle.words.specs.Grounds.{Ground, first}
use Rattle.am9517.specs.Refusals.{numbered, refused, refusal}
use Rattle.am9517.specs.Answers.{outcome}
use Rattle.am9517.specs.declared.Controller.{Controller}
use Rattle.am9517_service.specs.Round.{beginning, close}
use Rattle.am9517_service.specs.RoundAnswers.{closed, round_grounds, rounded_of}
use Rattle.demands.specs.Lists.{All, none, also}
use Rattle.demands.specs.Operations.{Op, Write, Read, Pins, Reset, Waits, Grant, Run, Round, SheetWriting, SheetReading, Converting, before, after, said, counts, ran_scene, round_scene}
use Rattle.demands.specs.Refusals.{First, here, later, grounds, Refuses, Demand1}
use Rattle.words.proofs.ChoiceLaws.{when_miss}
use Rattle.am9517.proofs.RefusalLaws.{grounds_told}
use Rattle.am9517_service.proofs.AnswerLaws.{run_refused}
use Rattle.am9517_service.proofs.StatedLaws.{ran_told, round_told}
use Rattle.am9517_sheet.proofs.SheetLaws.{grounds_said}
use Rattle.std.proofs.Common.{Option, Some, Err}

-- by whether the first ground holds, and what is known of those after it
first_by : (n : ℕ) (g : Ground ℕ) (gs : List (Ground ℕ)) (t : Bool) → g.holds ≡ t → (first gs 0 ≡ n → First n gs) → when t g.gives (first gs 0) ≡ n → First n (g ∷ gs)
unfolding when
first_by n g gs true e rest same = here e same
first_by n g gs false e rest same = later e (rest same)

first_of : (n : ℕ) → ¬ (n ≡ 0) → (gs : List (Ground ℕ)) → first gs 0 ≡ n → First n gs
unfolding first
first_of n h [] same = absurd (h (sym same))
first_of n h (g ∷ gs) same = first_by n g gs g.holds refl (first_of n h gs) same

first_is : (n : ℕ) (gs : List (Ground ℕ)) → First n gs → first gs 0 ≡ n
unfolding first when
first_is n gs (here e same) = rw e same
first_is n gs (later {gs = rest} e f) = rw e (first_is n rest f)

pub refusal_exactly : (gs : List (Ground ℕ)) (n : ℕ) → ¬ (n ≡ 0) → (refusal gs ≡ n) ↔ First n gs
unfolding refusal
refusal_exactly gs n h = (first_of n h gs, first_is n gs)

abbrev pub Zeros : List ℕ → Type 0
Zeros = All (λ (n : ℕ). n ≡ 0)

-- from an answer that says the number of the first ground, and a refusal by that number that changes nothing
refuses : (s : Controller) (op : Op) → said s op ≡ refusal (grounds s op)
    → (¬ (refusal (grounds s op) ≡ 0) → after s op ≡ before s op)
    → (¬ (refusal (grounds s op) ≡ 0) → Zeros (counts s op))
    → Refuses s op
refuses s op is stays zeros =
    let no : ¬ (said s op ≡ 0) → ¬ (refusal (grounds s op) ≡ 0) = λ h e. h (is ∙ e) in
    record {
      exactly = λ n h. (λ e. (refusal_exactly (grounds s op) n h).0 (sym is ∙ e), λ f. is ∙ (refusal_exactly (grounds s op) n h).1 f);
      stays = λ h. stays (no h);
      only = λ h. zeros (no h);
    }

-- a number that isn't 0 is a refusal's
pub refused_some : (n : ℕ) → ¬ (n ≡ 0) → refused n ≡ Some (numbered n)
unfolding refused when
refused_some n h = rw (ne_eqb n 0 h)

outcome_stays : (n : ℕ) (s t : Controller) (a : Option ℕ) → ¬ (n ≡ 0) → (outcome n s t a).controller ≡ s
unfolding outcome when
outcome_stays n s t a h = rw (ne_eqb n 0 h)

pub round_refused : (s : Controller) (m d r : List ℕ) (k : ℕ) → ¬ (refusal (round_grounds s m k) ≡ 0)
    → rounded_of s m d r k ≡ closed (close (beginning s m r) (Err (numbered (refusal (round_grounds s m k)))))
unfolding rounded_of when
round_refused s m d r k h = simp (ne_eqb _ 0 h)

round_stays : (s : Controller) (m d r : List ℕ) (k : ℕ) → ¬ (refusal (round_grounds s m k) ≡ 0) → after s (Round m d r k) ≡ before s (Round m d r k)
unfolding closed
round_stays s m d r k h = ap round_scene (round_refused s m d r k h)

round_zeros : (s : Controller) (m d r : List ℕ) (k : ℕ) → ¬ (refusal (round_grounds s m k) ≡ 0) → Zeros (counts s (Round m d r k))
unfolding closed
round_zeros s m d r k h =
    rw (round_refused s m d r k h) (also refl (also refl (also refl (also refl (also refl (also refl (also refl (also refl none))))))))

pub demand_1 : Demand1
demand_1 s (Write r b) = refuses s (Write r b) (grounds_told _ refl _ _ _) (λ h. ap (λ (c : Controller). before c Reset) (outcome_stays _ _ _ _ h)) (λ h. none)
demand_1 s (Read r) = refuses s (Read r) (grounds_told _ refl _ _ _) (λ h. ap (λ (c : Controller). before c Reset) (outcome_stays _ _ _ _ h)) (λ h. none)
demand_1 s (Pins p) = refuses s (Pins p) (grounds_told _ refl _ _ _) (λ h. ap (λ (c : Controller). before c Reset) (outcome_stays _ _ _ _ h)) (λ h. none)
demand_1 s (Waits n) = refuses s (Waits n) (grounds_told _ refl _ _ _) (λ h. ap (λ (c : Controller). before c Reset) (outcome_stays _ _ _ _ h)) (λ h. none)
demand_1 s Reset = refuses s Reset (grounds_told _ refl _ _ _) (λ h. ap (λ (c : Controller). before c Reset) (outcome_stays _ _ _ _ h)) (λ h. none)
demand_1 s Grant = refuses s Grant (grounds_told _ refl _ _ _) (λ h. ap (λ (c : Controller). before c Reset) (outcome_stays _ _ _ _ h)) (λ h. none)
demand_1 s (Run m d r limit eop) =
    refuses s (Run m d r limit eop) (ran_told s m d r limit eop) (λ h. ap ran_scene (run_refused s m d r limit eop _ (refused_some _ h)))
    (λ h. rw (run_refused s m d r limit eop _ (refused_some _ h)) (also refl (also refl (also refl (also refl none)))))
demand_1 s (Round m d r k) = refuses s (Round m d r k) (round_told s m d r k) (round_stays s m d r k) (round_zeros s m d r k)
demand_1 s (SheetWriting form out) = refuses s (SheetWriting form out) (grounds_said _ refl) (λ h. ap (λ (xs : List ℕ). before s (SheetWriting form xs)) (when_miss _ _ _ (ne_eqb _ 0 h))) (λ h. none)
demand_1 s (SheetReading form bytes) = refuses s (SheetReading form bytes) (grounds_said _ refl) (λ h. ap (λ (c : Controller). before c Reset) (when_miss _ _ _ (ne_eqb _ 0 h))) (λ h. none)
demand_1 s (Converting to source out) = refuses s (Converting to source out) (grounds_said _ refl) (λ h. ap (λ (xs : List ℕ). before s (SheetWriting to xs)) (when_miss _ _ _ (ne_eqb _ 0 h))) (λ h. none)

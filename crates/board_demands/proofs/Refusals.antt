-- Demand 1 for the pair, for each operation from its own definition.
use Prim.Native.Nat.{ℕ, zero, suc}
use mathlib.Core.Path.{◌≡◌, refl, sym, ap, ◌∙◌}
use mathlib.Core.Bool.{Bool, true, false}
use mathlib.Core.List.{List}
use mathlib.Core.Logic.{◌↔◌}
use lib.Dec.{eqb}
use borrow.Author.Tests.{eqb-true, eqb-false, ne_eqb}
use Rattle.words.specs.Grounds.{Ground, first}
use Rattle.am9517.specs.Refusals.{refusal}
use Rattle.am9517.specs.Answers.{refusal_number}
use Rattle.am9517.specs.declared.Controller.{Controller}
use Rattle.am9517_service.specs.Answers.{run_refusal_number, ran_of}
use Rattle.am9517_service.specs.RoundAnswers.{round_refusal_number}
use Rattle.board.specs.declared.Board.{Board}
use Rattle.board.specs.Chips.{chip, with_chip}
use Rattle.board.specs.Refusals.{board_run_grounds, board_round_grounds}
use Rattle.board.specs.Answers.{board_outcome}
use Rattle.board.specs.Runs.{server, BoardGiven, board_given, ran_on, refused_on, board_ran_of}
use Rattle.board.specs.Round.{BoardCourse, board_beginning, after_service, BoardClose, board_close, board_round_of}
use Rattle.board.specs.RoundAnswers.{BoardRoundGiven, board_closed, board_rounded_of}
use Rattle.demands.specs.Lists.{none, also}
use Rattle.demands.specs.Operations as own
use Rattle.demands.specs.Refusals as own-refusals
use Rattle.board_demands.specs.Operations.{BoardOp, Write, Read, Pins, Reset, Waits, Grant, Run, Round, SheetWriting, SheetReading, before, after, said, counts, ran_scene, round_scene}
use Rattle.board_demands.specs.Refusals.{grounds, BoardRefuses, BoardDemand1}
use Rattle.words.proofs.ChoiceLaws.{when_both, when_each, when_miss}
use Rattle.board.proofs.ChipLaws.{chip_back}
use Rattle.board.proofs.RefusalLaws.{named, few, number_back}
use Rattle.board.proofs.OutcomeLaws.{grounds_stated}
use Rattle.board.proofs.RunLaws.{ran_is}
use Rattle.demands.proofs.Refusals.{refusal_exactly, Zeros, demand_1}
use Rattle.std.proofs.Common.{Option, Err}
use Rattle.am9517.specs.Refusals.{numbered}

-- from an answer that says the number of the first ground, and a refusal by that number that changes nothing
refuses : (b : Board) (op : BoardOp) → said b op ≡ refusal (grounds b op)
    → (¬ (refusal (grounds b op) ≡ 0) → after b op ≡ before b op)
    → (¬ (refusal (grounds b op) ≡ 0) → Zeros (counts b op))
    → BoardRefuses b op
refuses b op is stays zeros =
    let no : ¬ (said b op ≡ 0) → ¬ (refusal (grounds b op) ≡ 0) = λ h e. h (is ∙ e) in
    record {
      exactly = λ n h. (λ e. (refusal_exactly (grounds b op) n h).0 (sym is ∙ e), λ f. is ∙ (refusal_exactly (grounds b op) n h).1 f);
      stays = λ h. stays (no h);
      only = λ h. zeros (no h);
    }

-- an operation by itself
outcome_stays : (n : ℕ) (b next : Board) (told : Option ℕ) → ¬ (n ≡ 0) → (board_outcome n b next told).board ≡ b
unfolding board_outcome
outcome_stays n b next told h = when_miss _ _ _ (ne_eqb n 0 h)

plain : (b : Board) (op : BoardOp) (next : Board) (told : Option ℕ) → named (grounds b op) ≡ true
    → said b op ≡ refusal_number (board_outcome (refusal (grounds b op)) b next told).answer
    → after b op ≡ before (board_outcome (refusal (grounds b op)) b next told).board Reset
    → before b op ≡ before b Reset
    → (¬ (refusal (grounds b op) ≡ 0) → Zeros (counts b op)) → BoardRefuses b op
plain b op next told h is to from zeros =
    refuses b op (is ∙ (grounds_stated _ (grounds b op) b next told h refl).1) (λ no. to ∙ ap (λ (x : Board). before x Reset) (outcome_stays _ b next told no) ∙ sym from) zeros

-- what is said exactly by the first ground is its number
exact_number : (n : ℕ) (gs : List (Ground ℕ)) → ((k : ℕ) → ¬ (k ≡ 0) → (n ≡ k) ↔ own-refusals.First k gs) → n ≡ refusal gs
exact_number n gs exactly = go (eqb n 0) (eqb (refusal gs) 0) refl refl
  where
    go : (t u : Bool) → eqb n 0 ≡ t → eqb (refusal gs) 0 ≡ u → n ≡ refusal gs
    go true true e f = eqb-true _ _ e ∙ sym (eqb-true _ _ f)
    go true false e f = (exactly _ (eqb-false _ _ f)).1 ((refusal_exactly _ _ (eqb-false _ _ f)).0 refl)
    go false u e f = sym ((refusal_exactly _ _ (eqb-false _ _ e)).1 ((exactly _ (eqb-false _ _ e)).0 refl))

-- a chip by itself says the number of its first ground: its own demand 1
chip_says : (c : Controller) (op : own.Op) → own.said c op ≡ refusal (own-refusals.grounds c op)
chip_says c op = exact_number _ _ (demand_1 c op).exactly

-- a run
pub run_refused : (b : Board) (m d r : List ℕ) (limit eop : ℕ) → ¬ (refusal (board_run_grounds b m) ≡ 0)
    → board_ran_of b m d r limit eop ≡ board_given (refused_on b (refusal (board_run_grounds b m))) m r
unfolding board_ran_of
run_refused b m d r limit eop h = when_miss _ _ _ (ne_eqb _ 0 h)

run_says : (b : Board) (m d r : List ℕ) (limit eop : ℕ) → said b (Run m d r limit eop) ≡ refusal (board_run_grounds b m)
run_says b m d r limit eop = go (eqb (refusal (board_run_grounds b m)) 0) refl
  where
    go : (t : Bool) → eqb (refusal (board_run_grounds b m)) 0 ≡ t → said b (Run m d r limit eop) ≡ refusal (board_run_grounds b m)
    go true e =
        let c = chip b (server b) in
        let g = ran_of c m d r limit eop in
        let is =
        ran_is b m d r limit eop _ refl (eqb-true _ _ e) (server b) refl c refl g.ran g.memory g.room refl (chip_says c (own.Run m d r limit eop))
        (ran_on b (server b) g.ran) refl in
        ap (λ (x : BoardGiven). run_refusal_number x.ran.answer) (sym is.0) ∙ is.1
    go false e = ap (λ (x : BoardGiven). run_refusal_number x.ran.answer) (run_refused b m d r limit eop (eqb-false _ _ e))
        ∙ number_back _ (few (board_run_grounds b m) refl) (eqb-false _ _ e)

-- a round
pub round_refused : (b : Board) (m d r : List ℕ) (k : ℕ) → ¬ (refusal (board_round_grounds b m k) ≡ 0)
    → board_rounded_of b m d r k ≡ board_closed (board_close (board_beginning b m r) (Err (numbered (refusal (board_round_grounds b m k)))))
unfolding board_rounded_of
round_refused b m d r k h = when_miss _ _ _ (ne_eqb _ 0 h)

round_number : (left : ℕ) (d : List ℕ) (w : BoardCourse) → round_refusal_number (board_round_of left d w).answer ≡ 0
unfolding board_round_of first
round_number zero d w = refl
round_number (suc left) d w =
    let P : BoardClose → Type 0 = λ x. round_refusal_number x.answer ≡ 0 in
    when_both P _ refl (when_both P _ refl (round_number left d (after_service w d)))

round_says : (b : Board) (m d r : List ℕ) (k : ℕ) → said b (Round m d r k) ≡ refusal (board_round_grounds b m k)
unfolding board_rounded_of board_closed
round_says b m d r k =
    when_each (λ (x : BoardRoundGiven). round_refusal_number x.rounded.answer ≡ refusal (board_round_grounds b m k)) _
    (λ e. round_number k d (board_beginning b m r) ∙ sym (eqb-true _ _ e)) (λ e. number_back _ (few (board_round_grounds b m k) refl) (eqb-false _ _ e))

round_stays : (b : Board) (m d r : List ℕ) (k : ℕ) → ¬ (refusal (board_round_grounds b m k) ≡ 0) → after b (Round m d r k) ≡ before b (Round m d r k)
unfolding board_closed
round_stays b m d r k h = ap round_scene (round_refused b m d r k h)

round_zeros : (b : Board) (m d r : List ℕ) (k : ℕ) → ¬ (refusal (board_round_grounds b m k) ≡ 0) → Zeros (counts b (Round m d r k))
unfolding board_closed
round_zeros b m d r k h =
    rw (round_refused b m d r k h)
    (also refl (also refl (also refl (also refl (also refl (also refl (also refl (also refl (also refl (also refl (also refl (also refl none))))))))))))

pub board_demand_1 : BoardDemand1
board_demand_1 b (Write r x) = plain b (Write r x) _ _ refl refl refl refl (λ h. none)
board_demand_1 b (Read r) = plain b (Read r) _ _ refl refl refl refl (λ h. none)
board_demand_1 b (Pins p) = plain b (Pins p) _ _ refl refl refl refl (λ h. none)
board_demand_1 b Reset = plain b Reset _ _ refl refl refl refl (λ h. none)
board_demand_1 b (Waits which n) = plain b (Waits which n) _ _ refl refl refl refl (λ h. none)
board_demand_1 b Grant = plain b Grant _ _ refl refl refl refl (λ h. none)
board_demand_1 b (Run m d r limit eop) =
    refuses b (Run m d r limit eop) (run_says b m d r limit eop) (λ h. ap ran_scene (run_refused b m d r limit eop h))
    (λ h. rw (run_refused b m d r limit eop h) (also refl (also refl (also refl (also refl none)))))
board_demand_1 b (Round m d r k) = refuses b (Round m d r k) (round_says b m d r k) (round_stays b m d r k) (round_zeros b m d r k)
board_demand_1 b (SheetWriting form which out) =
    refuses b (SheetWriting form which out) (chip_says (chip b which) (own.SheetWriting form out))
    (λ h. ap (λ (xs : List ℕ). before b (SheetWriting form which xs)) (when_miss _ _ _ (ne_eqb _ 0 h))) (λ h. none)
board_demand_1 b (SheetReading form which bytes) =
    refuses b (SheetReading form which bytes) (chip_says (chip b which) (own.SheetReading form bytes))
    (λ h. ap (λ (c : Controller). before (with_chip b which c) Reset) (when_miss _ _ _ (ne_eqb _ 0 h)) ∙ ap (λ (x : Board). before x Reset) (chip_back b which)) (λ h. none)

pub board_says : (b : Board) (op : BoardOp) → said b op ≡ refusal (grounds b op)
board_says b op = exact_number _ _ (board_demand_1 b op).exactly

-- Demand 1 of the board's calls for C, from the operations' own.
use Prim.Native.Nat.{ℕ}
use mathlib.Core.Path.{◌≡◌, refl, sym, ap, subst, ◌∙◌}
use mathlib.Core.Bool.{Bool, true, false, not}
use mathlib.Core.List.{List, [], ◌∷◌}
use lib.Dec.{eqb}
use borrow.Author.Tests.{eqb-true, ne_eqb}
use Rattle.words.specs.Choice.{when, ◌and◌}
use Rattle.words.specs.Grounds.{Ground, ◌if◌, first}
use Rattle.am9517.specs.Refusals.{refusal}
use Rattle.am9517.specs.Answers.{Answer}
use Rattle.std.proofs.Common.{Option}
use Rattle.am9517_sheet.specs.declared.forms.Form.{Form}
use Rattle.board.specs.declared.Board.{Board}
use Rattle.board.specs.declared.Chip.{Chip}
use Rattle.board.specs.Ranges.{pair_valid, serves}
use Rattle.board.specs.Refusals.{board_waits_grounds}
use Rattle.board.specs.Answers.{board_outcome}
use Rattle.board.specs.Runs.{BoardGiven}
use Rattle.board.specs.RoundAnswers.{BoardRoundGiven, board_closed}
use Rattle.c_told.specs.Numbers.{value_of, Saved}
use Rattle.c_board.specs.Host.{look_grounds, Left, names_none, chip_of, waits_call_of, save_call_of, load_call_of, run_call_of, round_call_of}
use Rattle.demands.specs.Lists.{none, also}
use Rattle.board_demands.specs.Operations.{BoardOp, Write, Read, Pins, Reset, Waits, Grant, Run, Round, SheetWriting, SheetReading, BoardScene, before, after, said}
use Rattle.board_demands.specs.Refusals.{grounds}
use Rattle.board_demands.specs.Calls.{CCheck, CReset, CGrant, CEntitled, CWrite, CRead, CPins, CWaits, CRun, CRound, CSave, CLoad, BoardSpoken, left_by, ran_by, round_by, saved_by, does, lent_to, call_grounds, BoardCallRefuses, BoardDemand1OfCalls}
use Rattle.words.proofs.ChoiceLaws.{when_each, when_hit, when_miss, both, never}
use Rattle.board.proofs.OutcomeLaws.{pair, each, each_idle}
use Rattle.demands.proofs.Refusals.{refusal_exactly, Zeros}
use Rattle.board_demands.proofs.Refusals.{run_refused, round_refused, board_demand_1, board_says}

-- from a call that says the number of the first ground, and a refusal by that number that changes nothing
refuses : (s : BoardSpoken) (gs : List (Ground ℕ)) (was : BoardScene) → s.refusal ≡ refusal gs → (¬ (refusal gs ≡ 0) → s.leaves ≡ was) → (¬ (refusal gs ≡ 0) → Zeros s.beside)
    → BoardCallRefuses s gs was
refuses s gs was is stays zeros =
    record {
      exactly = λ n h. (λ e. (refusal_exactly gs n h).0 (sym is ∙ e), λ f. is ∙ (refusal_exactly gs n h).1 f);
      stays = λ h. stays (λ e. h (is ∙ e));
      only = λ h. zeros (λ e. h (is ∙ e));
    }

-- a call that does an operation refuses as that does, if what it says beside is zero then
by_operation : (b : Board) (op : BoardOp) (beside : List ℕ) (gs : List (Ground ℕ)) → refusal (grounds b op) ≡ refusal gs → (¬ (refusal (grounds b op) ≡ 0) → Zeros beside)
    → BoardCallRefuses (record { refusal = said b op; beside = beside; leaves = after b op }) gs (before b op)
by_operation b op beside gs same zeros =
    refuses _ gs _ (board_says b op ∙ same) (λ h. (board_demand_1 b op).stays (λ e. h (sym same ∙ sym (board_says b op) ∙ e))) (λ h. zeros (λ e. h (sym same ∙ e)))

-- a refused operation has no value
no_value : (n : ℕ) (was next : Board) (a : Option ℕ) → ¬ (n ≡ 0) → Zeros (value_of (board_outcome n was next a).answer ∷ [])
unfolding board_outcome
no_value n was next a h = also (when_each (λ (x : Answer). value_of x ≡ 0) (eqb n 0) (λ e. absurd (h (eqb-true _ _ e))) (λ e. refl)) none

-- the first ground holds, or it fails and the others decide
ground_hit : (n : ℕ) (t : Bool) (gs : List (Ground ℕ)) → t ≡ true → refusal (n if t ∷ gs) ≡ n
unfolding refusal first
ground_hit n t gs e = when_hit t n _ e

ground_miss : (n : ℕ) (t : Bool) (gs : List (Ground ℕ)) → t ≡ false → refusal (n if t ∷ gs) ≡ refusal gs
unfolding refusal first
ground_miss n t gs e = when_miss t n _ e

-- wait states: of the grounds of a chip behind the board's none is left
waits_number : (b : Board) (which : Chip) (t : Bool) → (pair_valid b and t) ≡ false
    → refusal (board_waits_grounds b which) ≡ refusal (1 if not (pair_valid b) ∷ 2 if t ∷ 3 if serves b ∷ [])
unfolding refusal first when ◌and◌
waits_number b which t h = go (pair_valid b) (serves b) t refl refl h
  where
    go : (v s u : Bool) → pair_valid b ≡ v → serves b ≡ s → (v and u) ≡ false
        → refusal (board_waits_grounds b which) ≡ when (not v) 1 (when u 2 (when s 3 0))
    go false s u ev es e = rw ev refl
    go true s true ev es e = never e
    go true true false ev es e = rw (ev, es) refl
    go true false false ev es e = rw (ev, es, each b (pair b ev) which, each_idle b es which) refl

waits_refuse : (b : Board) (which n : ℕ) → BoardCallRefuses (does b (CWaits which n)) (call_grounds b (CWaits which n)) (lent_to b (CWaits which n))
unfolding waits_call_of
waits_refuse b which n =
    let gs = call_grounds b (CWaits which n) in
    when_each (λ (l : Left). BoardCallRefuses (left_by l) gs (lent_to b (CWaits which n))) (pair_valid b and names_none which)
    (λ e. let t = both _ _ e in
    let by_2 : refusal gs ≡ 2 = ground_miss 1 (not (pair_valid b)) (2 if names_none which ∷ 3 if serves b ∷ []) (ap not t.left) ∙ ground_hit 2 (names_none which) (3 if serves b ∷ []) t.right in
    refuses _ gs _ (sym by_2) (λ h. refl) (λ h. also refl none))
    (λ e. by_operation b (Waits (chip_of which) n) _ gs (waits_number b (chip_of which) (names_none which) e) (no_value _ _ _ _))

save_refuses : (b : Board) (form : Form) (which : ℕ) (bytes : List ℕ) → BoardCallRefuses (does b (CSave form which bytes)) (call_grounds b (CSave form which bytes)) (lent_to b (CSave form which bytes))
unfolding save_call_of
save_refuses b form which bytes =
    let gs = call_grounds b (CSave form which bytes) in
    when_each (λ (w : Saved). BoardCallRefuses (saved_by b w) gs (lent_to b (CSave form which bytes))) (names_none which)
    (λ e. refuses _ gs _ (sym (ground_hit 2 _ _ e)) (λ h. refl) (λ h. none))
    (λ e. by_operation b (SheetWriting form (chip_of which) bytes) _ gs (sym (ground_miss 2 _ _ e)) (λ h. none))

load_refuses : (b : Board) (form : Form) (which : ℕ) (bytes : List ℕ) → BoardCallRefuses (does b (CLoad form which bytes)) (call_grounds b (CLoad form which bytes)) (lent_to b (CLoad form which bytes))
unfolding load_call_of
load_refuses b form which bytes =
    let gs = call_grounds b (CLoad form which bytes) in
    when_each (λ (l : Left). BoardCallRefuses (left_by l) gs (lent_to b (CLoad form which bytes))) (names_none which)
    (λ e. refuses _ gs _ (sym (ground_hit 2 _ _ e)) (λ h. refl) (λ h. also refl none))
    (λ e. by_operation b (SheetReading form (chip_of which) bytes) _ gs (sym (ground_miss 2 _ _ e)) (λ h. also refl none))

run_refuses : (b : Board) (m d r : List ℕ) (limit eop : ℕ) → BoardCallRefuses (does b (CRun m d r limit eop)) (call_grounds b (CRun m d r limit eop)) (lent_to b (CRun m d r limit eop))
run_refuses b m d r limit eop =
    by_operation b (Run m d r limit eop) _ _ refl
    (λ h. subst (λ (g : BoardGiven). Zeros (ran_by (run_call_of g)).beside) (sym (run_refused b m d r limit eop h)) (also refl (also refl (also refl (also refl (also refl none))))))

round_refuses : (b : Board) (m d r : List ℕ) (k : ℕ) → BoardCallRefuses (does b (CRound m d r k)) (call_grounds b (CRound m d r k)) (lent_to b (CRound m d r k))
unfolding board_closed
round_refuses b m d r k =
    by_operation b (Round m d r k) _ _ refl
    (λ h. subst (λ (g : BoardRoundGiven). Zeros (round_by (round_call_of g)).beside) (sym (round_refused b m d r k h))
    (also refl (also refl (also refl (also refl (also refl (also refl (also refl (also refl (also refl (also refl (also refl (also refl (also refl none))))))))))))))

pub board_demand_1_of_calls : BoardDemand1OfCalls
board_demand_1_of_calls b CCheck = refuses _ (look_grounds b) _ refl (λ h. refl) (λ h. also refl none)
board_demand_1_of_calls b CEntitled = refuses _ (look_grounds b) _ refl (λ h. refl) (λ h. also (when_miss _ _ _ (ne_eqb _ 0 h)) none)
board_demand_1_of_calls b (CWrite r x) = by_operation b (Write r x) _ _ refl (no_value _ _ _ _)
board_demand_1_of_calls b (CRead r) = by_operation b (Read r) _ _ refl (no_value _ _ _ _)
board_demand_1_of_calls b (CPins p) = by_operation b (Pins p) _ _ refl (no_value _ _ _ _)
board_demand_1_of_calls b CReset = by_operation b Reset _ _ refl (no_value _ _ _ _)
board_demand_1_of_calls b (CWaits which n) = waits_refuse b which n
board_demand_1_of_calls b CGrant = by_operation b Grant _ _ refl (no_value _ _ _ _)
board_demand_1_of_calls b (CRun m d r limit eop) = run_refuses b m d r limit eop
board_demand_1_of_calls b (CRound m d r k) = round_refuses b m d r k
board_demand_1_of_calls b (CSave form which bytes) = save_refuses b form which bytes
board_demand_1_of_calls b (CLoad form which bytes) = load_refuses b form which bytes

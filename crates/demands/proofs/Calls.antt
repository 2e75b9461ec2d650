-- Demand 1 of the C library, from the operations' own; and a chip in its ranges stays in them.
use Prim.Native.Nat.{ℕ, suc, ◌≤◌}
use mathlib.Core.Path.{◌≡◌, refl, sym, ap, subst, ◌∙◌}
use mathlib.Core.Bool.{Bool, true, false, not}
use mathlib.Core.List.{List, [], ◌∷◌}
use mathlib.Core.Logic.{◌↔◌}
use native.Mathlib.Omega.{arith}
use lib.Dec.{eqb, ltb, leb}
use lib.ListN.{length}
use borrow.Author.Tests.{ne_eqb, eqb-true, ltb-true, lt-leb}
use Rattle.words.specs.Choice.{when, ◌and◌}
use Rattle.words.specs.Grounds.{Ground, first}
use Rattle.am9517.specs.Ranges.{mode_valid, modes_valid, fields_valid, service_valid, valid}
use Rattle.am9517.specs.State.{fresh}
use Rattle.am9517.specs.Refusals.{refusal}
use Rattle.am9517.specs.Answers.{outcome}
use Rattle.am9517.specs.declared.Controller.{Controller}
use Rattle.am9517.specs.declared.Edition.TheVariants.{Am9517A}
use Rattle.am9517.specs.Answers.{Answer}
use Rattle.am9517_service.specs.Answers.{Given, run_grounds}
use Rattle.am9517_service.specs.RoundAnswers.{RoundGiven, closed}
use Rattle.am9517_sheet.specs.declared.SheetRead.{SheetRead}
use Rattle.am9517_sheet.specs.declared.forms.Form.{Form}
use Rattle.am9517_sheet.specs.declared.forms.Form.TheVariants.{One}
use Rattle.am9517_sheet.specs.Sheet.{sheet_refusal_number, Stored}
use Rattle.logs.specs.declared.Verdict.{Verdict}
use Rattle.logs.specs.declared.Verdict.TheVariants.{Accepted, Wrong, Refused}
use Rattle.logs.specs.Answers.{JudgeGiven, judge_given, judge_refusal_number, judged_of}
use Rattle.logs.proofs.AnswerLaws.{stated, refused_by}
use Rattle.logs.proofs.KeepLaws.{judged_keeps}
use Rattle.c_told.specs.Numbers.{edition_byte, value_of}
use Rattle.c_am9517.specs.Numbers.{judge_told_of}
use Rattle.c_am9517.specs.Host.{look_grounds, look_of, load_of, run_call_of, round_call_of, judge_call_of}
use Rattle.demands.specs.Lists.{All, none, also}
use Rattle.demands.specs.Operations.{Op, Write, Read, Pins, Reset, Waits, Grant, Run, Round, SheetWriting, SheetReading, Converting, Scene, scene, before, after, said}
use Rattle.demands.specs.Refusals.{First, here, grounds}
use Rattle.demands.specs.Calls.{Call, CCheck, CReset, CGrant, CEntitled, CStatus, CWrite, CRead, CPins, CWaits, CRun, CRound, CJudge, CSave, CLoad, looked, left_by, ran_by, round_by, judged_by, does, lent_to, call_grounds, CallRefuses, Demand1OfCalls, ChipsStayGood}
use Rattle.words.proofs.ChoiceLaws.{when_both, when_each, when_miss}
use Rattle.am9517.proofs.RefusalLaws.{grounds_told}
use Rattle.am9517_service.proofs.AnswerLaws.{run_refused}
use Rattle.am9517_service.proofs.StatedLaws.{ran_told, round_told}
use Rattle.am9517_sheet.proofs.SheetLaws.{grounds_said, write_done, write_free}
use Rattle.am9517_sheet.proofs.BodyLaws.{zero_within}
use Rattle.am9517_sheet.proofs.TripLaws.{written_read_lem}
use Rattle.demands.proofs.Refusals.{refusal_exactly, Zeros, demand_1, round_refused}
use Rattle.std.proofs.Common.{Option}
use Rattle.am9517.specs.Refusals.{numbered}
use Rattle.demands.proofs.Refusals.{refused_some}
use Rattle.demands.proofs.Sheets.{full_written, other_refused}
use Rattle.demands.proofs.Ranges.{kept, read, fresh_valid, not_by_1}

-- a refused operation has no value
no_value : (n : ℕ) (was next : Controller) (a : Option ℕ) → ¬ (n ≡ 0) → value_of (outcome n was next a).answer ≡ 0
unfolding outcome
no_value n was next a h = when_each (λ (x : Answer). value_of x ≡ 0) (eqb n 0) (λ e. absurd (h (eqb-true _ _ e))) (λ e. refl)

-- a call that does an operation refuses as that does, if what it says beside is zero then
by_operation : (s : Controller) (op : Op) (beside : List ℕ) → (¬ (refusal (grounds s op) ≡ 0) → Zeros beside)
    → said s op ≡ refusal (grounds s op)
    → CallRefuses (record { refusal = said s op; beside = beside; leaves = after s op }) (grounds s op) (before s op)
by_operation s op beside zeros is =
    record {
      exactly = (demand_1 s op).exactly;
      stays = (demand_1 s op).stays;
      only = λ h. zeros (λ z. h (is ∙ z));
    }

-- a look says 1 or shows something
look_refuses : (s : Controller) (shown : ℕ) → CallRefuses (looked s (look_of s shown)) (look_grounds s) (scene s [] [] [])
look_refuses s shown =
    record {
      exactly = refusal_exactly (look_grounds s);
      stays = λ h. refl;
      only = λ h. also (when_miss _ _ _ (ne_eqb _ 0 h)) none;
    }

run_refuses : (s : Controller) (m d r : List ℕ) (limit eop : ℕ) → CallRefuses (does s (CRun m d r limit eop)) (call_grounds s (CRun m d r limit eop)) (lent_to s (CRun m d r limit eop))
run_refuses s m d r limit eop =
    by_operation s (Run m d r limit eop) _
    (λ h. subst (λ (g : Given). Zeros (ran_by (run_call_of g)).beside) (sym (run_refused s m d r limit eop _ (refused_some _ h))) (also refl (also refl (also refl (also refl (also refl none))))))
    (ran_told s m d r limit eop)

round_refuses : (s : Controller) (m d r : List ℕ) (k : ℕ) → CallRefuses (does s (CRound m d r k)) (call_grounds s (CRound m d r k)) (lent_to s (CRound m d r k))
unfolding closed
round_refuses s m d r k =
    by_operation s (Round m d r k) _
    (λ h. subst (λ (g : RoundGiven). Zeros (round_by (round_call_of g)).beside) (sym (round_refused s m d r k h)) (also refl (also refl (also refl (also refl (also refl (also refl (also refl (also refl (also refl none))))))))))
    (round_told s m d r k)

judge_number : (n : ℕ) (v : Verdict) → (judge_told_of n v).refusal ≡ judge_refusal_number v
judge_number n Accepted = refl
judge_number n (Wrong at error) = refl
judge_number n (Refused r) = refl

judge_told : (s : Controller) (m log : List ℕ) → (does s (CJudge m log)).refusal ≡ refusal (run_grounds s m)
judge_told s m log = judge_number _ (judged_of s m log).judged.verdict ∙ (stated s m log _ _ refl).1

judge_refuses : (s : Controller) (m log : List ℕ) → CallRefuses (does s (CJudge m log)) (call_grounds s (CJudge m log)) (lent_to s (CJudge m log))
judge_refuses s m log =
    let g = judged_of s m log in
    let number = judge_told s m log in
    let refused : ¬ ((judge_told_of (length log) g.judged.verdict).refusal ≡ 0) → g ≡ judge_given (record { controller = s; verdict = Refused (numbered (refusal (run_grounds s m))) }) m = λ h. sym (refused_by s m log _ (refused_some _ (λ z. h (number ∙ z)))) in
    record {
      exactly = λ n h. subst (λ (k : ℕ). (k ≡ n) ↔ First n (run_grounds s m)) (sym number) (refusal_exactly (run_grounds s m) n h);
      stays = λ h. ap (λ (x : JudgeGiven). (judged_by (judge_call_of (length log) x)).leaves) (refused h);
      only = λ h. subst (λ (x : JudgeGiven). Zeros (judged_by (judge_call_of (length log) x)).beside) (sym (refused h)) (also refl (also refl none));
    }

calls_refuse : (s : Controller) (c : Call) → CallRefuses (does s c) (call_grounds s c) (lent_to s c)
calls_refuse s CCheck = record { exactly = refusal_exactly (look_grounds s); stays = λ h. refl; only = λ h. also refl none }
calls_refuse s CEntitled = look_refuses s _
calls_refuse s CStatus = look_refuses s _
calls_refuse s (CWrite r x) = by_operation s (Write r x) _ (λ h. also (no_value _ _ _ _ h) none) (grounds_told _ refl _ _ _)
calls_refuse s (CRead r) = by_operation s (Read r) _ (λ h. also (no_value _ _ _ _ h) none) (grounds_told _ refl _ _ _)
calls_refuse s (CPins p) = by_operation s (Pins p) _ (λ h. also (no_value _ _ _ _ h) none) (grounds_told _ refl _ _ _)
calls_refuse s (CWaits n) = by_operation s (Waits n) _ (λ h. also (no_value _ _ _ _ h) none) (grounds_told _ refl _ _ _)
calls_refuse s CReset = by_operation s Reset _ (λ h. also (no_value _ _ _ _ h) none) (grounds_told _ refl _ _ _)
calls_refuse s CGrant = by_operation s Grant _ (λ h. also (no_value _ _ _ _ h) none) (grounds_told _ refl _ _ _)
calls_refuse s (CRun m d r limit eop) = run_refuses s m d r limit eop
calls_refuse s (CRound m d r k) = round_refuses s m d r k
calls_refuse s (CJudge m log) = judge_refuses s m log
calls_refuse s (CSave form bytes) = by_operation s (SheetWriting form bytes) [] (λ h. none) (grounds_said _ refl)
calls_refuse s (CLoad form bytes) = by_operation s (SheetReading form bytes) _ (λ h. also refl none) (grounds_said _ refl)

pub demand_1_of_calls : Demand1OfCalls
demand_1_of_calls = record { calls = calls_refuse; conversions = λ s to source target. by_operation s (Converting to source target) [] (λ h. none) (grounds_said _ refl) }

number : (n : ℕ) → ¬ (suc n ≡ 0)
number n e = omega arith

-- A chip in its ranges: no look is refused, and every call keeps it there.
look_free : (s : Controller) → valid s ≡ true → refusal (look_grounds s) ≡ 0
unfolding refusal first when
look_free s v = simp v

look_not_1 : (s : Controller) → valid s ≡ true → ¬ (refusal (look_grounds s) ≡ 1)
look_not_1 s v e = number 0 (sym e ∙ look_free s v)

call_not_1 : (s : Controller) (c : Call) → valid s ≡ true → ¬ ((does s c).refusal ≡ 1)
call_not_1 s CCheck v = look_not_1 s v
call_not_1 s CEntitled v = look_not_1 s v
call_not_1 s CStatus v = look_not_1 s v
call_not_1 s (CWrite r x) v = not_by_1 s (Write r x) v
call_not_1 s (CRead r) v = not_by_1 s (Read r) v
call_not_1 s (CPins p) v = not_by_1 s (Pins p) v
call_not_1 s (CWaits n) v = not_by_1 s (Waits n) v
call_not_1 s CReset v = not_by_1 s Reset v
call_not_1 s CGrant v = not_by_1 s Grant v
call_not_1 s (CRun m d r limit eop) v = not_by_1 s (Run m d r limit eop) v
call_not_1 s (CRound m d r k) v = not_by_1 s (Round m d r k) v
call_not_1 s (CJudge m log) v = λ e. not_by_1 s (Run m [] [] 0 0) v (ran_told s m [] [] 0 0 ∙ sym (judge_told s m log) ∙ e)
call_not_1 s (CSave form bytes) v = not_by_1 s (SheetWriting form bytes) v
call_not_1 s (CLoad form bytes) v = not_by_1 s (SheetReading form bytes) v

stays_good : (s : Controller) (c : Call) → valid s ≡ true → valid (does s c).leaves.controller ≡ true
stays_good s CCheck v = v
stays_good s CEntitled v = v
stays_good s CStatus v = v
stays_good s (CWrite r x) v = kept s (Write r x) v
stays_good s (CRead r) v = kept s (Read r) v
stays_good s (CPins p) v = kept s (Pins p) v
stays_good s (CWaits n) v = kept s (Waits n) v
stays_good s CReset v = kept s Reset v
stays_good s CGrant v = kept s Grant v
stays_good s (CRun m d r limit eop) v = kept s (Run m d r limit eop) v
stays_good s (CRound m d r k) v = kept s (Round m d r k) v
stays_good s (CJudge m log) v = (judged_keeps s m log v).0
stays_good s (CSave form bytes) v = v
stays_good s (CLoad form bytes) v = kept s (SheetReading form bytes) v

-- A chip out of its ranges is refused by 1, by each call that asks them first.
abbrev Asks : Controller → Call → Type 0
Asks s c = valid s ≡ false → First 1 (call_grounds s c)

by_1 : (s : Controller) (c : Call) → Asks s c → valid s ≡ false → (does s c).refusal ≡ 1
by_1 s c asks v = ((calls_refuse s c).exactly 1 (number 0)).1 (asks v)

out_of_ranges : (s : Controller) (c : Call) → valid s ≡ false → ((form : Form) (bytes : List ℕ) → ¬ (c ≡ CLoad form bytes)) → (does s c).refusal ≡ 1
out_of_ranges s CCheck v h = by_1 s CCheck (λ e. here (ap not e) refl) v
out_of_ranges s CEntitled v h = by_1 s CEntitled (λ e. here (ap not e) refl) v
out_of_ranges s CStatus v h = by_1 s CStatus (λ e. here (ap not e) refl) v
out_of_ranges s (CWrite r x) v h = by_1 s (CWrite r x) (λ e. here (ap not e) refl) v
out_of_ranges s (CRead r) v h = by_1 s (CRead r) (λ e. here (ap not e) refl) v
out_of_ranges s (CPins p) v h = by_1 s (CPins p) (λ e. here (ap not e) refl) v
out_of_ranges s (CWaits n) v h = by_1 s (CWaits n) (λ e. here (ap not e) refl) v
out_of_ranges s CReset v h = by_1 s CReset (λ e. here (ap not e) refl) v
out_of_ranges s CGrant v h = by_1 s CGrant (λ e. here (ap not e) refl) v
out_of_ranges s (CRun m d r limit eop) v h = by_1 s (CRun m d r limit eop) (λ e. here (ap not e) refl) v
out_of_ranges s (CRound m d r k) v h = by_1 s (CRound m d r k) (λ e. here (ap not e) refl) v
out_of_ranges s (CJudge m log) v h = by_1 s (CJudge m log) (λ e. here (ap not e) refl) v
out_of_ranges s (CSave form bytes) v h = by_1 s (CSave form bytes) (λ e. here (ap not e) refl) v
out_of_ranges s (CLoad form bytes) v h = absurd (h form bytes refl)

-- so what it accepted was in them
accepted_by : (s : Controller) (c : Call) → Asks s c → (does s c).refusal ≡ 0 → valid (does s c).leaves.controller ≡ true
accepted_by s c asks free = go (valid s) refl
  where
    go : (t : Bool) → valid s ≡ t → valid (does s c).leaves.controller ≡ true
    go true v = stays_good s c v
    go false v = absurd (number 0 (sym (by_1 s c asks v) ∙ free))

accepted_good : (s : Controller) (c : Call) → (does s c).refusal ≡ 0 → valid (does s c).leaves.controller ≡ true
accepted_good s CCheck h = accepted_by s CCheck (λ e. here (ap not e) refl) h
accepted_good s CEntitled h = accepted_by s CEntitled (λ e. here (ap not e) refl) h
accepted_good s CStatus h = accepted_by s CStatus (λ e. here (ap not e) refl) h
accepted_good s (CWrite r x) h = accepted_by s (CWrite r x) (λ e. here (ap not e) refl) h
accepted_good s (CRead r) h = accepted_by s (CRead r) (λ e. here (ap not e) refl) h
accepted_good s (CPins p) h = accepted_by s (CPins p) (λ e. here (ap not e) refl) h
accepted_good s (CWaits n) h = accepted_by s (CWaits n) (λ e. here (ap not e) refl) h
accepted_good s CReset h = accepted_by s CReset (λ e. here (ap not e) refl) h
accepted_good s CGrant h = accepted_by s CGrant (λ e. here (ap not e) refl) h
accepted_good s (CRun m d r limit eop) h = accepted_by s (CRun m d r limit eop) (λ e. here (ap not e) refl) h
accepted_good s (CRound m d r k) h = accepted_by s (CRound m d r k) (λ e. here (ap not e) refl) h
accepted_good s (CJudge m log) h = accepted_by s (CJudge m log) (λ e. here (ap not e) refl) h
accepted_good s (CSave form bytes) h = accepted_by s (CSave form bytes) (λ e. here (ap not e) refl) h
accepted_good s (CLoad form bytes) h = read s form bytes h

refused_stays : (s : Controller) (c : Call) → (lent_to s c).controller ≡ s → ¬ ((does s c).refusal ≡ 0) → (does s c).leaves.controller ≡ s
refused_stays s c lent h = ap (λ (x : Scene). x.controller) ((calls_refuse s c).stays h) ∙ lent

lent_chip : (s : Controller) (c : Call) → (lent_to s c).controller ≡ s
lent_chip s CCheck = refl
lent_chip s CEntitled = refl
lent_chip s CStatus = refl
lent_chip s (CWrite r x) = refl
lent_chip s (CRead r) = refl
lent_chip s (CPins p) = refl
lent_chip s (CWaits n) = refl
lent_chip s CReset = refl
lent_chip s CGrant = refl
lent_chip s (CRun m d r limit eop) = refl
lent_chip s (CRound m d r k) = refl
lent_chip s (CJudge m log) = refl
lent_chip s (CSave form bytes) = refl
lent_chip s (CLoad form bytes) = refl

-- Operations refuse by 8 at most.
abbrev Small : Ground ℕ → Type 0
Small g = g.gives ≤ 8

first_small : (gs : List (Ground ℕ)) → All Small gs → first gs 0 ≤ 8
unfolding first
first_small gs none = omega arith
first_small gs (also {x = g} h hs) = when_both (λ (n : ℕ). n ≤ 8) g.holds h (first_small _ hs)

refusal_small : (n : ℕ) (gs : List (Ground ℕ)) → n ≡ refusal gs → All Small gs → n ≤ 8
unfolding refusal
refusal_small n gs is h = subst (λ (x : ℕ). x ≤ 8) (sym is) (first_small gs h)

at_most : (n : ℕ) → n ≤ 8 → n ≤ 8
at_most n h = h

run_small : (s : Controller) (m : List ℕ) → All Small (run_grounds s m)
run_small s m = also (at_most 1 (omega arith)) (also (at_most 7 (omega arith)) (also (at_most 8 (omega arith)) none))

call_small : (s : Controller) (c : Call) → ((form : Form) (bytes : List ℕ) → ¬ (c ≡ CSave form bytes)) → ((form : Form) (bytes : List ℕ) → ¬ (c ≡ CLoad form bytes)) → (does s c).refusal ≤ 8
call_small s CCheck f g = refusal_small _ (look_grounds s) refl (also (at_most 1 (omega arith)) none)
call_small s CEntitled f g = refusal_small _ (look_grounds s) refl (also (at_most 1 (omega arith)) none)
call_small s CStatus f g = refusal_small _ (look_grounds s) refl (also (at_most 1 (omega arith)) none)
call_small s (CWrite r x) f g = refusal_small _ (call_grounds s (CWrite r x)) (grounds_told _ refl _ _ _) (also (at_most 1 (omega arith)) (also (at_most 2 (omega arith)) (also (at_most 3 (omega arith)) (also (at_most 4 (omega arith)) (also (at_most 5 (omega arith)) none)))))
call_small s (CRead r) f g = refusal_small _ (call_grounds s (CRead r)) (grounds_told _ refl _ _ _) (also (at_most 1 (omega arith)) (also (at_most 2 (omega arith)) (also (at_most 3 (omega arith)) (also (at_most 4 (omega arith)) none))))
call_small s (CPins p) f g = refusal_small _ (call_grounds s (CPins p)) (grounds_told _ refl _ _ _) (also (at_most 1 (omega arith)) (also (at_most 2 (omega arith)) none))
call_small s (CWaits n) f g = refusal_small _ (call_grounds s (CWaits n)) (grounds_told _ refl _ _ _) (also (at_most 1 (omega arith)) (also (at_most 3 (omega arith)) none))
call_small s CReset f g = refusal_small _ (call_grounds s CReset) (grounds_told _ refl _ _ _) (also (at_most 1 (omega arith)) none)
call_small s CGrant f g = refusal_small _ (call_grounds s CGrant) (grounds_told _ refl _ _ _) (also (at_most 1 (omega arith)) (also (at_most 3 (omega arith)) (also (at_most 6 (omega arith)) none)))
call_small s (CRun m d r limit eop) f g = refusal_small _ (call_grounds s (CRun m d r limit eop)) (ran_told s m d r limit eop) (run_small s m)
call_small s (CJudge m log) f g = refusal_small _ (run_grounds s m) (judge_told s m log) (run_small s m)
call_small s (CRound m d r k) f g = refusal_small _ (call_grounds s (CRound m d r k)) (round_told s m d r k) (also (at_most 1 (omega arith)) (also (at_most 2 (omega arith)) (also (at_most 7 (omega arith)) (also (at_most 3 (omega arith)) none))))
call_small s (CSave form bytes) f g = absurd (f form bytes refl)
call_small s (CLoad form bytes) f g = absurd (g form bytes refl)

load_never_1 : (s : Controller) (form : Form) (bytes : List ℕ) → ¬ ((does s (CLoad form bytes)).refusal ≡ 1)
load_never_1 s form bytes = not_by_1 _ (SheetReading form bytes) (fresh_valid Am9517A)

saved_and_loaded : (form : Form) (s t : Controller) (bytes : List ℕ) → length s.channels ≡ 4 → (does s (CSave form bytes)).refusal ≡ 0
    → does t (CLoad form (does s (CSave form bytes)).leaves.slice) ≡ record { refusal = 0; beside = 0 ∷ []; leaves = scene s [] [] [] }
saved_and_loaded form s t bytes four free =
    ap (λ (x : SheetRead). left_by (load_of x)) (written_read_lem form s t bytes four (ap (λ (w : Stored). w.answer) (write_done form s bytes (sym (grounds_said _ refl) ∙ free))))

fresh_in : (byte : ℕ) → valid (fresh byte) ≡ leb byte 1
unfolding ◌and◌ mode_valid modes_valid fields_valid service_valid valid
fresh_in byte = go (leb byte 1) refl
  where
    go : (t : Bool) → leb byte 1 ≡ t → valid (fresh byte) ≡ t
    go true e = simp e
    go false e = simp e

fresh_by_edition : (edition : ℕ) → valid (fresh (edition_byte edition)) ≡ leb edition 1
unfolding edition_byte
fresh_by_edition edition =
    fresh_in _ ∙ when_each (λ (n : ℕ). leb n 1 ≡ leb edition 1) (ltb 255 edition) (λ e. sym (lt-leb edition 1 (omega (arith, ltb-true 255 edition e)))) (λ e. refl)

pub chips_stay_good : ChipsStayGood
unfolding numbered when
chips_stay_good =
    record {
      begins = fresh_by_edition;
      accepted = accepted_good;
      refused = λ s c h. refused_stays s c (lent_chip s c) h;
      good = stays_good;
      next = λ s c then v. call_not_1 (does s c).leaves.controller then (stays_good s c v);
      small = call_small;
      by_one = out_of_ranges;
      load_never_by1 = load_never_1;
      saved2 = λ s bytes v room. ap sheet_refusal_number (full_written s bytes v room);
      saved = λ s bytes v e w room. grounds_said _ refl ∙ write_free One s (length bytes) v room (zero_within s e w);
      unsaved = λ s bytes v e room. ap (λ (w : Stored). sheet_refusal_number w.answer) (other_refused s bytes v e room);
      loaded = saved_and_loaded;
    }

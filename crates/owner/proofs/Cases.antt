-- The worked cases hold of the rules: past the tests of lengths each is computed, the two whole ones by the closed form of a service.
use Prim.Native.Nat.{ℕ, suc, ◌-◌, ◌<◌}
use mathlib.Core.Path.{◌≡◌, refl, sym, ap, subst, ◌∙◌}
use mathlib.Core.Bool.{Bool, true, false, not}
use mathlib.Core.List.{List, [], ◌∷◌, ◌++◌}
use native.Mathlib.Omega.{arith}
use lib.Dec.{eqb, ltb}
use lib.ListN.{length, replicate}
use borrow.Author.Tests.{eq-eqb, ne_eqb, lt-ltb}
use Rattle.words.specs.Choice.{when, ◌and◌}
use Rattle.words.specs.Grounds.{first}
use Rattle.words.specs.Bits.{with_bit}
use Rattle.words.specs.Bytes.{byte_of, with_byte}
use Rattle.words.specs.Steps.{stride, step, steps}
use Rattle.am9517.specs.Fields.{make, put, but, blank, Field, Command, Pins, Lowest, Edition}
use Rattle.am9517.specs.declared.Channel.{Channel}
use Rattle.am9517.specs.Answers.{Answer}
use Rattle.am9517.specs.State.{fresh}
use Rattle.am9517.specs.Ranges.{mode_valid, modes_valid, fields_valid, service_valid, valid}
use Rattle.am9517.specs.Registers.{port_written, port_read, mode_written, after_write, value, after_read}
use Rattle.am9517.specs.Serving.{active, request_counts, requests, entitled, set_of, status, picked_from, picked, granted}
use Rattle.am9517.specs.Refusals.{numbered, refusal, idle, busy}
use Rattle.am9517.specs.Answers.{outcome, grant_of}
use Rattle.am9517.specs.declared.Controller.{Controller}
use Rattle.am9517_service.specs.World.{Stop, stop, start_of, with_controller, memory_to_memory}
use Rattle.am9517_service.specs.Stops.{dropped, short, stops}
use Rattle.am9517_service.specs.States.{pace, copy_pace, needs_s1, cost}
use Rattle.am9517_service.specs.Transfer.{moved}
use Rattle.am9517_service.specs.Copy.{copied}
use Rattle.am9517_service.specs.Ends.{counting, finished, after_tc_or_eop, single}
use Rattle.am9517_service.specs.Run.{transferred, run_of}
use Rattle.am9517_service.specs.Answers.{given, stopped, refused_of, wrong_size, run_grounds, ran_of}
use Rattle.am9517_service.specs.ClosedLegs.{address_after, current_after, entered, states_of, travelled, reached}
use Rattle.am9517_service.specs.ClosedSpans.{until_end, stock_of}
use Rattle.am9517_service.specs.declared.Reason.TheVariants.{Ended}
use Rattle.am9517_sheet.specs.Bytes.{total}
use Rattle.am9517_sheet.specs.declared.forms.Form.TheVariants.{One, Two}
use Rattle.am9517_sheet.specs.Body.{body_of, exceeds, state_of}
use Rattle.am9517_sheet.specs.declared.forms.Form.{Form}
use Rattle.am9517_sheet.specs.Form.{other, sheet_size}
use Rattle.am9517_sheet.specs.Sheet.{answer_of, sheet_of, sheet_write_grounds, sheet_read_grounds, sheet_faults}
use Rattle.am9517_sheet.specs.Convert.{convert_grounds}
use Rattle.demands.specs.Lists.{All, none, also}
use Rattle.demands.specs.Operations.{Grant, Run, Round, SheetWriting, SheetReading, Converting, next, after_all, said}
use Rattle.demands.specs.Grants.{Granted, told, grants, channels}
use Rattle.demands.specs.Fairness.{Contends}
use Rattle.owner.specs.Cases.{Holds, services, set_up, idle_with, ch, proved, requested, whole, limits, edition_limits, slowed, wait_limits, slow_intel, form_limits, WorkedCases, Tight, p5, p6}
use Rattle.words.proofs.ChoiceLaws.{when_hit, never}
use Rattle.am9517_service.proofs.AnswerLaws.{run_accepted}
use Rattle.am9517_service.proofs.LegRunLaws.{run_ends}
use Rattle.am9517_sheet.proofs.SheetLaws.{grounds_said}
use Rattle.am9517_service.proofs.StatedLaws.{ran_told, round_told}
use Rattle.std.proofs.Common.{Some, Ok}

run_free : (s : Controller) (m : List ℕ) → valid s ≡ true → eqb s.in_service 0 ≡ false → length m ≡ 65536 → refusal (run_grounds s m) ≡ 0
unfolding refusal first when
run_free s m v i h = simp (v, i, eq-eqb _ _ h)

-- a run of an open service over a whole memory
ran_whole : (s : Controller) (m d : List ℕ) (eop : ℕ) → valid s ≡ true → eqb s.in_service 0 ≡ false → length m ≡ 65536
    → ran_of s m d [] 65536 eop ≡ stopped (run_of 65536 eop d (start_of s m []))
ran_whole s m d eop v i h = run_accepted s m d [] 65536 eop (run_free s m v i h)

-- the state after a run over a whole memory
abbrev ran_on : Controller → List ℕ → Controller
ran_on s m = when (valid s and not (eqb s.in_service 0)) (run_of 65536 0 [] (start_of s m [])).world.controller s

ran_by_lem : (s : Controller) (m r : List ℕ) (x : Stop) (v w i : Bool) → w ≡ false
    → (when (eqb (when (not v) 1 (when w 7 (when i 8 0))) 0) (stopped x) (given (refused_of s (when (not v) 1 (when w 7 (when i 8 0)))) m r)).ran.controller
    ≡ when (v and not i) x.world.controller s
unfolding when ◌and◌ stopped
ran_by_lem s m r x v true i e = never e
ran_by_lem s m r x false false i e = refl
ran_by_lem s m r x true false false e = refl
ran_by_lem s m r x true false true e = refl

next_whole : (s : Controller) (m : List ℕ) → length m ≡ 65536 → next s (Run m [] [] 65536 0) ≡ ran_on s m
unfolding ran_of refusal first
next_whole s m h = ran_by_lem s m [] (run_of 65536 0 [] (start_of s m [])) (valid s) (wrong_size m) (eqb s.in_service 0) (ap not (eq-eqb _ _ h))

-- a grant that goes to channel n, its run, and then more services
abbrev to : Controller → ℕ → Granted
to s n = record { before = s; channel = n }

served : (m : List ℕ) → length m ≡ 65536 → (s t : Controller) (n k : ℕ) (gs : List Granted) → (grant_of s).answer ≡ Ok (Some n) → ran_on (next s Grant) m ≡ t
    → grants t (services m k) ≡ gs → grants s (services m (suc k)) ≡ to s n ∷ gs
served m h s t n k gs a e rest =
    ap (λ (x : Answer). told s x ++ grants (next (next s Grant) (Run m [] [] 65536 0)) (services m k)) a
    ∙ ap (λ (y : Controller). to s n ∷ grants y (services m k)) (next_whole (next s Grant) m h ∙ e)
    ∙ ap (λ (xs : List Granted). to s n ∷ xs) rest

-- set up, with these lines held, this lowest channel, and so many transfers made by each channel
abbrev at : ℕ → ℕ → ℕ → ℕ → ℕ → ℕ → Controller
at lines lowest a b c d =
    let one : ℕ → Channel = λ n. ch 0 n 9 (9 - n) 0x40 in
    make (one a ∷ one b ∷ one c ∷ one d ∷ []) (but (but (but (λ (f : Field). 0) Command 0x10) Pins lines) Lowest lowest)

p5_grants : (m : List ℕ) → length m ≡ 65536
    → grants (at 15 3 0 0 0 0) (services m 5)
    ≡ to (at 15 3 0 0 0 0) 0 ∷ to (at 15 0 1 0 0 0) 1 ∷ to (at 15 1 1 1 0 0) 2 ∷ to (at 15 2 1 1 1 0) 3 ∷ to (at 15 3 1 1 1 1) 0 ∷ []
unfolding
    when ◌and◌ first with_bit stride step mode_valid modes_valid fields_valid service_valid valid active request_counts entitled set_of picked_from picked granted refusal outcome memory_to_memory dropped short stops
    pace needs_s1 cost moved counting finished after_tc_or_eop single transferred run_of
p5_grants m h =
    served m h (at 15 3 0 0 0 0) (at 15 0 1 0 0 0) 0 4 _ refl refl
    (served m h (at 15 0 1 0 0 0) (at 15 1 1 1 0 0) 1 3 _ refl refl
    (served m h (at 15 1 1 1 0 0) (at 15 2 1 1 1 0) 2 2 _ refl refl
    (served m h (at 15 2 1 1 1 0) (at 15 3 1 1 1 1) 3 1 _ refl refl
    (served m h (at 15 3 1 1 1 1) (at 15 0 2 1 1 1) 0 0 [] refl refl refl))))

p6_grants : (m : List ℕ) → length m ≡ 65536
    → grants (at 10 1 0 0 0 0) (services m 3) ≡ to (at 10 1 0 0 0 0) 3 ∷ to (at 10 3 0 0 0 1) 1 ∷ to (at 10 1 0 1 0 1) 3 ∷ []
unfolding
    when ◌and◌ first with_bit stride step mode_valid modes_valid fields_valid service_valid valid active request_counts entitled set_of picked_from picked granted refusal outcome memory_to_memory dropped short stops
    pace needs_s1 cost moved counting finished after_tc_or_eop single transferred run_of
p6_grants m h =
    served m h (at 10 1 0 0 0 0) (at 10 3 0 0 0 1) 3 2 _ refl refl
    (served m h (at 10 3 0 0 0 1) (at 10 1 0 1 0 1) 1 1 _ refl refl (served m h (at 10 1 0 1 0 1) (at 10 3 0 1 0 2) 3 0 [] refl refl refl))

-- where the set_up_lem leads
set_up_lem : (after_all p5.start (set_up 15) ≡ at 15 3 0 0 0 0) × (after_all p6.start (set_up 10) ≡ at 10 1 0 0 0 0)
unfolding
    when ◌and◌ first with_byte mode_valid modes_valid fields_valid service_valid valid port_written mode_written after_write refusal outcome
set_up_lem = (refl, refl)

p5_calls : (m : List ℕ) → length m ≡ 65536 → grants p5.start (p5.calls m)
    ≡ to (at 15 3 0 0 0 0) 0 ∷ to (at 15 0 1 0 0 0) 1 ∷ to (at 15 1 1 1 0 0) 2 ∷ to (at 15 2 1 1 1 0) 3 ∷ to (at 15 3 1 1 1 1) 0 ∷ []
p5_calls m h = ap (λ (s : Controller). grants s (services m 5)) set_up_lem.0 ∙ p5_grants m h

p6_calls : (m : List ℕ) → length m ≡ 65536 → grants p6.start (p6.calls m) ≡ to (at 10 1 0 0 0 0) 3 ∷ to (at 10 3 0 0 0 1) 1 ∷ to (at 10 1 0 1 0 1) 3 ∷ []
p6_calls m h = ap (λ (s : Controller). grants s (services m 3)) set_up_lem.1 ∙ p6_grants m h

-- memories of the right and of another size
sized : (m : List ℕ) → length m ≡ 65536 → wrong_size m ≡ false
sized m h = ap not (eq-eqb _ _ h)

missized : (m : List ℕ) (n : ℕ) → length m ≡ n → ¬ (n ≡ 65536) → wrong_size m ≡ true
missized m n h o = ap not (ne_eqb _ _ (λ e. o (sym h ∙ e)))

-- the number that a run and a round say, by whether the memory has another size
run_says : (s : Controller) (m d r : List ℕ) (limit eop : ℕ) (w : Bool) → wrong_size m ≡ w
    → said s (Run m d r limit eop) ≡ when (not (valid s)) 1 (when w 7 (when (idle s) 8 0))
unfolding refusal first
run_says s m d r limit eop w e = ran_told s m d r limit eop ∙ ap (λ (t : Bool). when (not (valid s)) 1 (when t 7 (when (idle s) 8 0))) e

round_says : (s : Controller) (m d r : List ℕ) (k : ℕ) (w : Bool) → wrong_size m ≡ w
    → said s (Round m d r k) ≡ when (not (valid s)) 1 (when (ltb 4096 k) 2 (when w 7 (when (busy s) 3 0)))
unfolding refusal first
round_says s m d r k w e = round_told s m d r k ∙ ap (λ (t : Bool). when (not (valid s)) 1 (when (ltb 4096 k) 2 (when t 7 (when (busy s) 3 0)))) e

-- the numbers that sheets say, by the size of the slice
sheet_writing_says : (form : Form) (s : Controller) (out : List ℕ) (n : ℕ) → length out ≡ n
    → said s (SheetWriting form out) ≡ when (not (valid s)) 1 (when (ltb n (sheet_size form)) 9 (when (exceeds form s) 15 0))
unfolding refusal first
sheet_writing_says form s out n h = grounds_said (sheet_write_grounds form s (length out)) refl ∙ ap (λ (k : ℕ). when (not (valid s)) 1 (when (ltb k (sheet_size form)) 9 (when (exceeds form s) 15 0))) h

sheet_reading_says : (form : Form) (s : Controller) (bytes : List ℕ) (n : ℕ) → length bytes ≡ n → n < sheet_size form → said s (SheetReading form bytes) ≡ 9
unfolding refusal first
sheet_reading_says form s bytes n h l = grounds_said (sheet_read_grounds form bytes) refl ∙ when_hit (ltb (length bytes) (sheet_size form)) 9 (first (sheet_faults form bytes) 0) (lt-ltb (length bytes) (sheet_size form) (omega arith))

converting_says : (to : Form) (s : Controller) (source out : List ℕ) (n : ℕ) → length out ≡ n → said s (Converting to source out) ≡ refusal (convert_grounds (other to) to source n)
converting_says to s source out n h = grounds_said _ refl ∙ ap (λ (k : ℕ). refusal (convert_grounds (other to) to source k)) h

-- 65,536 transfers, by the law of a service that ends with its n-th transfer
module _ (a : ℕ) (below : a < 65536) (m : List ℕ) where
  abbrev start : Controller
  start = after_all (idle_with (ch a a 0xFFFF 0xFFFF 0x80) blank 0 0 14 0) (Grant ∷ [])

  whole_run : run_of 65536 0 [] (start_of start m [])
      ≡ stop (with_controller (reached start m [] [] 65536) (finished (reached start m [] [] 65536).controller (reached start m [] [] 65536).controller.serving true false)) Ended
  unfolding
      when ◌and◌ first mode_valid modes_valid fields_valid service_valid valid active request_counts entitled set_of picked_from picked granted refusal outcome memory_to_memory dropped until_end stock_of
  whole_run = run_ends start m [] [] 65536 0 refl refl refl below (omega arith) 65536 refl (omega arith)

whole_cases : All Holds whole
unfolding
    when ◌and◌ first with_bit stride steps mode_valid modes_valid fields_valid service_valid valid active request_counts entitled set_of picked_from picked granted refusal outcome
    pace needs_s1 finished address_after current_after entered states_of travelled reached stopped
whole_cases =
    also (λ m h. ran_whole _ m [] 0 refl refl h ∙ ap stopped (whole_run 0 (omega arith) m) ∙ refl)
    (also (λ m h. ran_whole _ m [] 0 refl refl h ∙ ap stopped (whole_run 1 (omega arith) m) ∙ refl) none)

proved_cases : All Holds proved
unfolding
    when ◌and◌ first with_bit byte_of with_byte stride step mode_valid modes_valid fields_valid service_valid valid port_written port_read mode_written after_write value after_read
    active request_counts requests entitled set_of status picked_from picked granted refusal outcome memory_to_memory dropped short stops pace copy_pace needs_s1 cost moved copied counting finished after_tc_or_eop single
    transferred run_of stopped
proved_cases =
    also (λ m h. ran_whole _ m _ _ refl refl h ∙ refl)
    (also (λ m h. ran_whole _ m _ _ refl refl h ∙ refl)
    (also (λ m h. ran_whole _ m _ _ refl refl h ∙ refl)
    (also (λ m h. ran_whole _ m _ _ refl refl h ∙ refl)
    (also (λ m h. ran_whole _ m _ _ refl refl h ∙ refl)
    (also (λ m h. ap channels (p5_calls m h))
    (also (λ m h. ap channels (p6_calls m h))
    (also (λ m h. ran_whole _ m _ _ refl refl h ∙ refl)
    (also (λ m h. ran_whole _ m _ _ refl refl h ∙ refl)
    (also (λ m h. refl) none)))))))))

requested_cases : All Holds requested
unfolding
    when ◌and◌ first with_bit stride step mode_valid modes_valid fields_valid service_valid valid active request_counts entitled set_of picked_from picked granted refusal outcome memory_to_memory
    dropped short stops pace copy_pace needs_s1 cost moved copied counting finished after_tc_or_eop single transferred run_of stopped after_write
requested_cases =
    also (λ m h. ran_whole _ m _ _ refl refl h ∙ refl)
    (also (λ m h. ran_whole _ m _ _ refl refl h ∙ refl)
    (also (λ m h. ran_whole _ m _ _ refl refl h ∙ refl)
    (also (λ m h. ran_whole _ m _ _ refl refl h ∙ refl)
    (also (λ m h. ran_whole _ m _ _ refl refl h ∙ refl)
    (also (λ m h. ran_whole _ m _ _ refl refl h ∙ refl)
    (also (λ m h. refl)
    (also (λ m h. ran_whole _ m _ _ refl refl h ∙ refl)
    (also (λ m h. ran_whole _ m _ _ refl refl h ∙ refl)
    (also (λ m h. ran_whole _ m _ _ refl refl h ∙ refl)
    (also (λ m h. ran_whole _ m _ _ refl refl h ∙ refl)
    (also (λ m h. ran_whole _ m _ _ refl refl h ∙ refl) none)))))))))))

limit_cases : All Holds limits
unfolding
    when ◌and◌ first mode_valid modes_valid fields_valid service_valid valid active request_counts entitled set_of picked_from picked granted numbered refusal outcome answer_of total body_of state_of exceeds
limit_cases =
    also (λ m h. refl)
    (also (λ m h. refl)
    (also (λ m h. refl)
    (also (λ m h. round_says (fresh 0) m [] [] 4096 false (sized m h))
    (also (λ m h. round_says (fresh 0) m [] [] 4097 false (sized m h))
    (also (λ m h. sheet_writing_says One (fresh 0) m 55 h)
    (also (λ m h. sheet_writing_says One (fresh 0) m 56 h)
    (also (λ m h. sheet_reading_says One (fresh 0) m 55 h (omega arith))
    (also (λ m h. refl)
    (also (λ m h. run_says _ m [] [] 65536 0 true (missized m 65535 h (λ e. omega arith)))
    (also (λ m h. run_says _ m [] [] 65536 0 false (sized m h))
    (also (λ m h. run_says _ m [] [] 65536 0 true (missized m 65537 h (λ e. omega arith)))
    (also (λ m h. round_says (fresh 0) m [] [] 4096 true (missized m 65535 h (λ e. omega arith)))
    (also (λ m h. round_says (fresh 0) m [] [] 4096 true (missized m 65537 h (λ e. omega arith))) none)))))))))))))

edition_cases : All Holds edition_limits
unfolding
    when ◌and◌ first mode_valid modes_valid fields_valid service_valid valid numbered refusal outcome exceeds
edition_cases =
    also (λ m h. refl)
    (also (λ m h. refl)
    (also (λ m h. refl)
    (also (λ m h. sheet_writing_says One (fresh 1) m 55 h)
    (also (λ m h. sheet_writing_says One (fresh 1) m 56 h)
    (also (λ m h. sheet_writing_says One (fresh 2) m 55 h)
    (also (λ m h. refl) none))))))

wait_cases : All Holds wait_limits
unfolding
    when ◌and◌ first mode_valid modes_valid fields_valid service_valid valid active request_counts entitled set_of picked_from picked granted numbered refusal outcome exceeds
wait_cases =
    also (λ m h. refl)
    (also (λ m h. refl)
    (also (λ m h. refl)
    (also (λ m h. sheet_writing_says One slowed m 55 h)
    (also (λ m h. sheet_writing_says One slowed m 56 h)
    (also (λ m h. sheet_writing_says One slow_intel m 56 h) none)))))

form_cases : All Holds form_limits
unfolding
    when ◌and◌ first mode_valid modes_valid fields_valid service_valid valid numbered refusal answer_of total body_of state_of exceeds
form_cases =
    also (λ m h. sheet_writing_says Two slow_intel m 57 h)
    (also (λ m h. sheet_writing_says Two slow_intel m 58 h)
    (also (λ m h. sheet_writing_says Two (fresh 2) m 57 h)
    (also (λ m h. sheet_reading_says Two (fresh 0) m 57 h (omega arith))
    (also (λ m h. refl)
    (also (λ m h. refl)
    (also (λ m h. converting_says Two (fresh 0) (sheet_of One (fresh 0)) m 57 h)
    (also (λ m h. converting_says Two (fresh 0) (sheet_of One (fresh 0)) m 58 h)
    (also (λ m h. converting_says Two (fresh 0) (replicate 55 0) m 58 h)
    (also (λ m h. converting_says Two (fresh 0) (sheet_of Two slowed) m 58 h)
    (also (λ m h. converting_says One (fresh 0) (sheet_of Two slowed) m 55 h)
    (also (λ m h. converting_says One (fresh 0) (replicate 57 0) m 56 h)
    (also (λ m h. converting_says One (fresh 0) (sheet_of Two (put slowed Edition 2)) m 56 h)
    (also (λ m h. converting_says One (fresh 0) (sheet_of Two slowed) m 56 h)
    (also (λ m h. converting_says One (fresh 0) (sheet_of Two (fresh 0)) m 56 h) none))))))))))))))

all_both : {A : Type 0} {P : A → Type 0} {xs ys : List A} → All P xs → All P ys → All P (xs ++ ys)
all_both none h = h
all_both (also p g) h = also p (all_both g h)

pub worked_cases : WorkedCases
worked_cases = all_both proved_cases (all_both requested_cases (all_both whole_cases (all_both limit_cases (all_both edition_cases (all_both wait_cases form_cases)))))

pub tight : Tight
unfolding active request_counts entitled
tight m h = (
  subst (All (Contends 3)) (sym (p5_calls m h))
      (also (record { rotation = refl; entitled = refl })
      (also (record { rotation = refl; entitled = refl })
      (also (record { rotation = refl; entitled = refl })
      (also (record { rotation = refl; entitled = refl }) (also (record { rotation = refl; entitled = refl }) none))))),
  ap channels (p5_calls m h),
)

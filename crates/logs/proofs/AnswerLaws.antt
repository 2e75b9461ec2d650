-- What judging answers: refused, or what is found of the log.
use Prim.Native.Nat.{ℕ, ◌/◌, ◌%◌, ◌≤◌}
use mathlib.Core.Path.{◌≡◌, refl, sym, ap, ◌∙◌}
use mathlib.Core.Bool.{Bool, true, false, not}
use mathlib.Core.List.{List, []}
use native.Mathlib.Omega.{arith}
use lib.Dec.{eqb}
use lib.IntN.{pos}
use lib.ListN.{length, get_or}
use borrow.Author.Tests.{eqb-true, eqb-false, ne_eqb, not-false}
use Rattle.words.specs.Choice.{when}
use Rattle.words.specs.Grounds.{first}
use Rattle.am9517.specs.Refusals.{numbered, refused, refusal}
use Rattle.am9517.specs.declared.Controller.{Controller}
use Rattle.am9517.specs.declared.refusals.Refusal.{Refusal}
use Rattle.am9517_service.specs.Answers.{run_grounds}
use Rattle.words.proofs.ChoiceLaws.{when_hit, when_miss, when_both}
use Rattle.words.proofs.GroundLaws.{passed}
use Rattle.am9517.proofs.RangeLaws.{fields}
use Rattle.am9517.proofs.RefusalLaws.{taken, few, number_back}
use Rattle.std.proofs.Common.{Some}
use Rattle.logs.specs.declared.Verdict.{Verdict}
use Rattle.logs.specs.declared.Verdict.TheVariants.{Refused}
use Rattle.logs.specs.declared.Judged.{Judged}
use Rattle.logs.specs.declared.Record.{Record}
use Rattle.logs.specs.declared.registers.Service.{Service}
use Rattle.logs.specs.declared.registers.Registers.{Registers}
use Rattle.logs.specs.Record.{record_in}
use Rattle.logs.specs.Judge.{found, judged}
use Rattle.logs.specs.Answers.{judge_refusal_number, JudgeGiven, judge_given, verdict_of, told, judged_of, next_record_of}
use Rattle.logs.specs.ClosedRegisters.{service_of, registers_of, record_by, flows, Flowing}
use Rattle.am9517_service.proofs.AnswerLaws.{run_open, serving_is}
use Rattle.logs.proofs.RegisterLaws.{record_here}
use Rattle.logs.proofs.NextLaws.{transfers_is}
use Rattle.logs.proofs.JudgeLaws.{judged_still}

-- the record of the next transfer, and of none
module _ (c : Controller) (m : List ℕ) (device : ℕ) (eop : Bool) where
  pub none_told : (refusal (run_grounds c m) ≡ 0 → ⊥) → (r : Record) → r ≡ record_in [] → r ≡ next_record_of c m device eop
  unfolding next_record_of
  none_told h r e = e ∙ sym (when_miss _ _ _ (ne_eqb _ _ h))

  module _ (free : refusal (run_grounds c m) ≡ 0) (four : length c.channels ≡ 4) where
    pub next_told : (s : Service) (g : Registers) (r : Record) → s ≡ service_of c → g ≡ registers_of c → r ≡ record_by s g (get_or m g.address 0) device eop → r ≡ next_record_of c m device eop
    unfolding next_record_of
    next_told s g r es eg er =
        er
        ∙ ap (λ (t : Service). record_by t g (get_or m g.address 0) device eop) es
        ∙ ap (λ (h : Registers). record_by (service_of c) h (get_or m h.address 0) device eop) eg
        ∙ record_here c four (run_open c m free).serving m device eop
        ∙ sym (when_hit _ _ _ (ap (λ (n : ℕ). eqb n 0) free))

module _ (c : Controller) (m log : List ℕ) where
  -- an answer states this paper's number
  given_number : (n : ℕ) (t : Bool) → eqb n 0 ≡ t → n ≤ 15
      → judge_refusal_number (when t (told (length log) (judged (length log / 8) c m log)) (judge_given (record { controller = c; verdict = Refused (numbered n) }) m)).judged.verdict ≡ n
  unfolding told verdict_of when
  given_number n true e l = when_both (λ (v : Verdict). judge_refusal_number v ≡ 0) (eqb (judged (length log / 8) c m log).place (length log)) refl refl ∙ sym (eqb-true _ _ e)
  given_number n false e l = number_back n l (eqb-false _ _ e)

  pub stated : (j : Judged) (l : List ℕ) → judge_given j l ≡ judged_of c m log
      → (judge_given j l ≡ judged_of c m log) × (judge_refusal_number j.verdict ≡ refusal (run_grounds c m))
  unfolding judged_of
  stated j l e = (e, ap (λ (g : JudgeGiven). judge_refusal_number g.judged.verdict) e ∙ given_number (refusal (run_grounds c m)) _ refl (few (run_grounds c m) refl))

  pub refused_by : (why : Refusal) → refused (refusal (run_grounds c m)) ≡ Some why → judge_given (record { controller = c; verdict = Refused why }) m ≡ judged_of c m log
  unfolding judged_of
  refused_by why h =
      let t = taken (refusal (run_grounds c m)) why h in
      ap (λ (r : Refusal). judge_given (record { controller = c; verdict = Refused r }) m) t.1
      ∙ sym (when_miss (eqb (refusal (run_grounds c m)) 0) _ _ (ne_eqb _ _ t.0))

  module _ (free : refusal (run_grounds c m) ≡ 0) where
    pub found_by : told (length log) (judged (length log / 8) c m log) ≡ judged_of c m log
    unfolding judged_of
    found_by = sym (when_hit (eqb (refusal (run_grounds c m)) 0) _ _ (ap (λ (n : ℕ). eqb n 0) free))

    pub flowing_in : flows c ≡ true → Flowing c m
    unfolding refusal first
    flowing_in f =
        let good = passed _ _ _ (omega arith) free in
        let size = passed _ _ _ (omega arith) good.next in
        let busy = passed _ _ _ (omega arith) size.next in
        let v = not-false _ good.test in
        let some : c.in_service ≡ 0 → ⊥ = eqb-false _ _ busy.test in
        record { valid = v; busy = omega (arith, (fields c v).in_service, some); memory = eqb-true _ _ (not-false _ size.test); flows = f }

    pub here : c.serving % 4 ≡ c.serving
    here = serving_is c (run_open c m free).serving

    pub still_by : flows c ≡ false → found c m 0 (pos 0) ≡ judged (length log / 8) c m log
    unfolding refusal first
    still_by f =
        let good = passed _ _ _ (omega arith) free in
        let size = passed _ _ _ (omega arith) good.next in
        let busy = passed _ _ _ (omega arith) size.next in
        sym (judged_still (length log / 8) c m log (λ b e. transfers_is c m b e (ap not busy.test) ∙ f))

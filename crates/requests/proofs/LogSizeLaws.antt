-- How long a log is: a record for each transfer; none, or of a service that makes none.
use Prim.Native.Nat.{ℕ, zero, suc, ◌+◌, ◌*◌}
use mathlib.Core.Path.{◌≡◌, refl, sym, ap, ◌∙◌, subst}
use mathlib.Core.Bool.{true, false, ◌||◌}
use mathlib.Core.List.{List, [], ◌++◌}
use native.Mathlib.Omega.{arith}
use lib.Dec.{eqb}
use lib.IntN.{pos}
use lib.ListN.{length, get_or}
use Rattle.words.specs.Grounds.{first}
use Rattle.am9517.specs.Modes.{is_cascade}
use Rattle.am9517.specs.Refusals.{refusal}
use Rattle.am9517.specs.declared.Controller.{Controller}
use Rattle.am9517_service.specs.declared.Reason.TheVariants.{Limit}
use Rattle.am9517_service.specs.World.{World, Stop, stop, memory_to_memory, serving_channel, start_of}
use Rattle.am9517_service.specs.Stops.{dropped, stops}
use Rattle.am9517_service.specs.Run.{transferred, run_of}
use Rattle.am9517_service.specs.Answers.{run_grounds}
use Rattle.logs.specs.declared.Verdict.{Verdict}
use Rattle.logs.specs.declared.Verdict.TheVariants.{Accepted, Wrong}
use Rattle.logs.specs.declared.Record.{Record}
use Rattle.logs.specs.Record.{bytes_of, record_of}
use Rattle.logs.specs.Judge.{Found, found}
use Rattle.logs.specs.Log.{log_of}
use Rattle.logs.specs.Answers.{verdict_of, judged_of}
use Rattle.logs.specs.ClosedRegisters.{flows}
use Rattle.logs.proofs.AnswerLaws.{still_by}
use Rattle.logs.proofs.KeepLaws.{judged_none}
use Rattle.requests.specs.Logs.{says}
use Rattle.requests.proofs.VerdictLaws.{said_all, said_wrong, at_all, given_is}
use Rattle.requests.proofs.LogStepLaws.{one_more}
use Rattle.requests.proofs.HonestLaws.{stops_both, ends_both, nothing_unless}

-- so many bytes for the transfers made from a world to a stop
abbrev Counted : World → Stop → List ℕ → Type 0
Counted w s log = length log + 8 * w.counts.transfers ≡ 8 * s.world.counts.transfers

run_counted : (limit eop : ℕ) (d : List ℕ) (w : World) → Counted w (run_of limit eop d w) (log_of limit eop d w)
unfolding run_of log_of
run_counted zero eop d w =
    subst (Counted w (first (stops w d 0) (stop w Limit))) (nothing_unless (stops w d 0))
    (stops_both (Counted w) w d 0 (stop w Limit) [] (λ nc e. omega arith) (λ e z. omega arith) (λ f. omega arith))
run_counted (suc limit) eop d w =
    let next = transferred w d in
    let r : Record = record_of w.controller w.memory (get_or d w.counts.used 0) (eqb next.counts.transfers eop) in
    let one : next.counts.transfers ≡ w.counts.transfers + 1 = one_more w d true in
    let rest : Counted next (run_of limit eop d next) (log_of limit eop d next) = run_counted limit eop d next in
    stops_both (Counted w) w d (suc limit) _ _ (λ nc e. omega arith) (λ e z. omega arith)
    (λ f. ends_both (λ (s : Stop) (l : List ℕ). Counted w s (bytes_of r ++ l)) w.controller next eop _ _ (λ e. omega (arith, one)) (λ e g. omega (arith, one)) (λ e g. omega (arith, one, rest)))

pub log_counted : (c : Controller) (m d r : List ℕ) (limit eop : ℕ)
    → length (log_of limit eop d (start_of c m r)) ≡ 8 * (run_of limit eop d (start_of c m r)).world.counts.transfers
log_counted c m d r limit eop = let h = run_counted limit eop d (start_of c m r) in omega (arith, h)

-- what is found, as the judge says it
module _ (c : Controller) (m log : List ℕ) (free : refusal (run_grounds c m) ≡ 0) (f : Found) (e : at_all c m log ≡ f) where
  as_said : judged_of c m log ≡ says f.controller (verdict_of (length log) f) f.memory
  as_said = given_is c m log free ∙ ap (λ (g : Found). says g.controller (verdict_of (length log) g) g.memory) e

pub none_judged : (c : Controller) (m : List ℕ) → refusal (run_grounds c m) ≡ 0 → judged_of c m [] ≡ says c Accepted m
none_judged c m free =
    as_said c m [] free (found c m 0 (pos 0)) (judged_none c m []) ∙ ap (λ (v : Verdict). says c v m) (said_all 0 (found c m 0 (pos 0)) refl)

pub silent_judged : (c : Controller) (m log : List ℕ) → refusal (run_grounds c m) ≡ 0 → memory_to_memory c ≡ false
    → dropped c || is_cascade (serving_channel c).mode ≡ true → (length log ≡ 0 → ⊥) → judged_of c m log ≡ says c (Wrong 0 (pos 0)) m
unfolding flows
silent_judged c m log free nc s some =
    let still : flows c ≡ false = simp (nc, s) in
    as_said c m log free (found c m 0 (pos 0)) (sym (still_by c m log free still))
    ∙ ap (λ (v : Verdict). says c v m) (said_wrong (length log) (found c m 0 (pos 0)) (λ z. some (sym z)))

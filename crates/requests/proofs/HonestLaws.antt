-- The log of any run is accepted, and leaves what the run left.
use Prim.Native.Nat.{ℕ, zero, suc, ◌+◌, ◌*◌, ◌/◌}
use mathlib.Core.Path.{◌≡◌, refl, ap, ◌∙◌, subst}
use mathlib.Core.Bool.{Bool, true, false, ◌||◌}
use mathlib.Core.List.{List, [], ◌∷◌, ◌++◌}
use native.Mathlib.Omega.{arith}
use lib.Dec.{eqb}
use lib.IntN.{pos}
use lib.ListN.{length, get_or}
use Rattle.words.specs.Choice.{when}
use Rattle.words.specs.Grounds.{Ground, first}
use Rattle.am9517.specs.State.{ended}
use Rattle.am9517.specs.Modes.{is_cascade}
use Rattle.am9517.specs.Refusals.{refusal}
use Rattle.am9517.specs.declared.Controller.{Controller}
use Rattle.am9517_service.specs.declared.Reason.{Reason}
use Rattle.am9517_service.specs.declared.Reason.TheVariants.{Ended, Dropped, Cascade, Limit, Short}
use Rattle.am9517_service.specs.World.{World, Stop, stop, with_controller, memory_to_memory, serving_channel, start_of}
use Rattle.am9517_service.specs.Stops.{dropped, short, stops}
use Rattle.am9517_service.specs.Ends.{reaches_tc, after_tc_or_eop, single, ends}
use Rattle.am9517_service.specs.Run.{transferred, run_of}
use Rattle.am9517_service.specs.Answers.{run_grounds}
use Rattle.words.proofs.ChoiceLaws.{when_hit, when_miss, when_both, when_each}
use Rattle.logs.specs.declared.Verdict.{Verdict}
use Rattle.logs.specs.declared.Record.{Record}
use Rattle.logs.specs.Record.{bytes_of, record_of}
use Rattle.logs.specs.Judge.{next_run, tells_eop, is_right, Found, found, behind, judged}
use Rattle.logs.specs.Log.{unless, log_of}
use Rattle.logs.specs.Answers.{verdict_of}
use Rattle.logs.specs.ClosedRegisters.{flows}
use Rattle.logs.proofs.JudgeLaws.{busy_is}
use Rattle.requests.specs.Logs.{says, Honest}
use Rattle.logs.proofs.KeepLaws.{judged_right, judged_none}
use Rattle.requests.proofs.VerdictLaws.{said_all, at_all, given_is}
use Rattle.logs.proofs.KeepLaws.{opened}
use Rattle.requests.proofs.LogStepLaws.{read_back, tells, right, still_busy, left_controller, left_memory}

-- reasons told apart
abbrev order : Reason → ℕ
order Ended = 0
order Dropped = 1
order Cascade = 2
order Limit = 3
order Short = 4

pub ended_not : Ended ≡ Dropped → ⊥
ended_not e = let z : ◌≡◌ {A = ℕ} 0 1 = ap order e in omega arith

pub limit_not : Limit ≡ Dropped → ⊥
limit_not e = let z : ◌≡◌ {A = ℕ} 3 1 = ap order e in omega arith

cascade_not : Cascade ≡ Dropped → ⊥
cascade_not e = let z : ◌≡◌ {A = ℕ} 2 1 = ap order e in omega arith

short_not : Short ≡ Dropped → ⊥
short_not e = let z : ◌≡◌ {A = ℕ} 4 1 = ap order e in omega arith

-- A run and its log, taken apart together: by what stops a transfer, and by what ends it.
module _ (Q : Stop → List ℕ → Type 0) where
  pair : (t : Bool) {s x : Stop} {l : List ℕ} → (t ≡ true → Q s []) → (t ≡ false → Q x l) → Q (when t s x) (when t [] l)
  unfolding when
  pair true h g = h refl
  pair false h g = g refl

  pub stops_both : (w : World) (d : List ℕ) (left : ℕ) (x : Stop) (l : List ℕ)
      → (memory_to_memory w.controller ≡ false → dropped w.controller ≡ true → Q (stop (with_controller w (ended w.controller)) Dropped) [])
      → ((e : Reason) → (e ≡ Dropped → ⊥) → Q (stop w e) []) → (flows w.controller ≡ true → Q x l) → Q (first (stops w d left) x) (unless (stops w d left) l)
  unfolding stops first unless flows
  stops_both w d left x l drops halts goes =
      when_each (λ (gs : List (Ground Stop)). Q (first gs x) (unless gs l)) (memory_to_memory w.controller)
      (λ ic. pair (eqb left 0) (λ e. halts Limit limit_not) (λ e. goes (simp ic)))
      (λ nc. pair (dropped w.controller) (drops nc)
      (λ nd. pair (is_cascade (serving_channel w.controller).mode) (λ e. halts Cascade cascade_not)
      (λ ns. pair (eqb left 0) (λ e. halts Limit limit_not) (λ e. pair (short w d) (λ h. halts Short short_not) (λ h. goes (simp (nc, nd, ns)))))))

  pub ends_both : (c : Controller) (w : World) (eop : ℕ) (x : Stop) (l : List ℕ)
      → (reaches_tc c || eqb w.counts.transfers eop ≡ true → Q (stop (with_controller w (after_tc_or_eop w.controller (reaches_tc c) (eqb w.counts.transfers eop))) Ended) [])
      → (reaches_tc c || eqb w.counts.transfers eop ≡ false → single c ≡ true → Q (stop (with_controller w (ended w.controller)) Ended) [])
      → (reaches_tc c || eqb w.counts.transfers eop ≡ false → single c ≡ false → Q x l) → Q (first (ends c w eop) x) (unless (ends c w eop) l)
  unfolding first unless
  ends_both c w eop x l met alone goes = pair (reaches_tc c || eqb w.counts.transfers eop) met (λ e. pair (single c) (alone e) (goes e))

-- a log of so many whole records that is right and leaves this
pub record Logged (c : Controller) (m log : List ℕ) (s : Stop) : Type 0 where
  pub records : ℕ
  pub size : length log ≡ 8 * records
  pub right : judged records c m log ≡ found s.world.controller s.world.memory (length log) (pos 0)

abbrev HonestTo : World → Stop → List ℕ → Type 0
HonestTo w s log = (s.reason ≡ Dropped → ⊥) → Logged w.controller w.memory log s

-- no transfer
unmoved : (w : World) (e : Reason) → HonestTo w (stop w e) []
unmoved w e h = record { records = 0; size = refl; right = judged_none w.controller w.memory [] }

-- one, and what comes behind it
module _ (w : World) (d : List ℕ) (eop : ℕ) (b : w.controller.in_service ≡ 1) (f : flows w.controller ≡ true) where
  abbrev c : Controller
  c = w.controller

  abbrev m : List ℕ
  m = w.memory

  abbrev next : World
  next = transferred w d

  abbrev met : Bool
  met = eqb next.counts.transfers eop

  abbrev r : Record
  r = record_of c m (get_or d w.counts.used 0) met

  one_on : (n : ℕ) (l : List ℕ) → judged (suc n) c m (bytes_of r ++ l) ≡ behind 8 (judged n (next_run c m r.byte met).world.controller (next_run c m r.byte met).world.memory l)
  one_on n l =
      let is = read_back r l in
      judged_right n c m (bytes_of r ++ l) (ap (is_right c m) is ∙ right c m (get_or d w.counts.used 0) met (busy_is c b) f)
      ∙ ap (λ (q : Record). behind 8 (judged n (next_run c m q.byte (tells_eop q)).world.controller (next_run c m q.byte (tells_eop q)).world.memory l)) is
      ∙ ap (λ (t : Bool). behind 8 (judged n (next_run c m r.byte t).world.controller (next_run c m r.byte t).world.memory l)) (tells c m (get_or d w.counts.used 0) met)

  -- it ends the service
  last_one : (x : Controller) → (next_run c m r.byte met).world.controller ≡ x → HonestTo w (stop (with_controller next x) Ended) (bytes_of r ++ [])
  last_one x e h =
      record {
        records = 1;
        size = refl;
        right =
            one_on 0 [] ∙ ap (behind 8) (judged_none _ _ [])
            ∙ ap (λ (y : Controller). found y (next_run c m r.byte met).world.memory 8 (pos 0)) e
            ∙ ap (λ (l : List ℕ). found x l 8 (pos 0)) (left_memory w d met f);
      }

  -- it doesn't
  more_on : (next_run c m r.byte met).world.controller ≡ next.controller → (s : Stop) (l : List ℕ) → HonestTo next s l → HonestTo w s (bytes_of r ++ l)
  more_on e s l H h =
      let rest = H h in
      let eight : 8 + length l ≡ length (bytes_of r ++ l) = omega arith in
      record {
        records = suc rest.records;
        size = omega (arith, rest.size);
        right =
            one_on rest.records l
            ∙ ap (λ (y : Controller). behind 8 (judged rest.records y (next_run c m r.byte met).world.memory l)) e
            ∙ ap (λ (k : List ℕ). behind 8 (judged rest.records next.controller k l)) (left_memory w d met f)
            ∙ ap (behind 8) rest.right
            ∙ ap (λ (n : ℕ). found s.world.controller s.world.memory n (pos 0)) eight;
      }

  pub one_logged : (x : Stop) (l : List ℕ) → HonestTo next x l → HonestTo w (first (ends c next eop) x) (bytes_of r ++ unless (ends c next eop) l)
  one_logged x l H =
      ends_both (λ (s : Stop) (k : List ℕ). HonestTo w s (bytes_of r ++ k)) c next eop x l
      (λ e. last_one _ (left_controller w d met f ∙ when_hit _ _ _ e))
      (λ e g. last_one _ (left_controller w d met f ∙ when_miss _ _ _ e ∙ when_hit _ _ _ g))
      (λ e g. more_on (left_controller w d met f ∙ when_miss _ _ _ e ∙ when_miss _ _ _ g) x l H)

pub nothing_unless : (gs : List (Ground Stop)) → unless gs [] ≡ []
unfolding unless
nothing_unless [] = refl
nothing_unless (g ∷ gs) = when_both (λ (l : List ℕ). l ≡ []) g.holds refl (nothing_unless gs)

pub run_honest : (limit eop : ℕ) (d : List ℕ) (w : World) → w.controller.in_service ≡ 1 → HonestTo w (run_of limit eop d w) (log_of limit eop d w)
unfolding run_of log_of
run_honest zero eop d w b =
    subst (HonestTo w (first (stops w d 0) (stop w Limit))) (nothing_unless (stops w d 0))
    (stops_both (HonestTo w) w d 0 (stop w Limit) [] (λ nc e h. absurd (h refl)) (λ e z. unmoved w e) (λ f. unmoved w Limit))
run_honest (suc limit) eop d w b =
    stops_both (HonestTo w) w d (suc limit) _ _ (λ nc e h. absurd (h refl)) (λ e z. unmoved w e)
    (λ f. one_logged w d eop b f _ _ (run_honest limit eop d (transferred w d) (still_busy w d (eqb (transferred w d).counts.transfers eop) ∙ b)))

-- as the judge says it
pub honest : (c : Controller) (m d r : List ℕ) (limit eop : ℕ) → refusal (run_grounds c m) ≡ 0 → Honest c m (run_of limit eop d (start_of c m r)) (log_of limit eop d (start_of c m r))
honest c m d r limit eop free h =
    let log = log_of limit eop d (start_of c m r) in
    let s = run_of limit eop d (start_of c m r) in
    let L = run_honest limit eop d (start_of c m r) (opened c m free) h in
    let records : length log / 8 ≡ L.records = omega (arith, L.size) in
    let all : at_all c m log ≡ found s.world.controller s.world.memory (length log) (pos 0) = ap (λ (n : ℕ). judged n c m log) records ∙ L.right in
    given_is c m log free
    ∙ ap (λ (f : Found). says f.controller (verdict_of (length log) f) f.memory) all
    ∙ ap (λ (v : Verdict). says s.world.controller v s.world.memory) (said_all (length log) _ refl)

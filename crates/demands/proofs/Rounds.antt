-- A round is its calls, and operations with rounds among them lead where their calls lead.
use Prim.Native.Nat.{ℕ, zero, suc, ◌+◌, ◌<◌}
use mathlib.Core.Path.{◌≡◌, refl, sym, ◌∙◌, ap, subst}
use mathlib.Core.Bool.{Bool, true, false, not}
use mathlib.Core.List.{List, [], ◌∷◌, ◌++◌}
use native.Mathlib.Omega.{arith}
use lib.Dec.{eqb, eqb-zero-suc, eqb-suc-suc}
use lib.ListN.{length, get_or, set, drop, length-set}
use lib.Seq.{get_or-set_same, get_or-set_other, drop-drop}
use borrow.Author.Tests.{eqb-true, eqb-false, not-true, not-false}
use Rattle.words.specs.Choice.{when}
use Rattle.words.specs.Grounds.{◌if◌, first}
use Rattle.am9517.specs.Ranges.{valid}
use Rattle.am9517.specs.Serving.{picked, granted}
use Rattle.am9517.specs.Refusals.{refusal}
use Rattle.am9517.specs.Answers.{refusal_number, grant_of}
use Rattle.am9517.specs.declared.Controller.{Controller}
use Rattle.am9517.specs.declared.Outcome.{Outcome}
use Rattle.am9517_service.specs.declared.Reason.{Reason}
use Rattle.am9517_service.specs.declared.Reason.TheVariants.{Ended, Dropped, Limit}
use Rattle.am9517_service.specs.Round.{RoundAnswer}
use Rattle.am9517_service.specs.World.{Stop, start_of}
use Rattle.am9517_service.specs.Answers.{Given, run_refusal_number, stopped, ran_of}
use Rattle.am9517_service.specs.Round.{Course, Close, close, beginning, nobody, run_next, with_run, after_next, is_ended, round_of}
use Rattle.am9517_service.specs.RoundAnswers.{RoundGiven, round_given, closed, round_grounds, rounded_of}
use Rattle.demands.specs.Lists.{count}
use Rattle.demands.specs.Operations.{Op, Write, Read, Pins, Reset, Waits, Grant, Run, Round, SheetWriting, SheetReading, Converting, next, after_all, said}
use Rattle.demands.specs.Grants.{Granted, told, grants, channels}
use Rattle.demands.specs.Rounds.{Words, RoundStops, has_ended, calls_from, calls, runs, sums, closing, Accepted, IsCalls, RoundIsCalls, calls_of, spelled, SpelledLeads}
use Rattle.words.proofs.ChoiceLaws.{when_both, when_each, when_hit, when_miss, never}
use Rattle.am9517.proofs.RangeLaws.{ranges, of_ranges}
use Rattle.am9517.proofs.KeepLaws.{granted_kept}
use Rattle.am9517_service.proofs.AnswerLaws.{run_accepted}
use Rattle.am9517_service.proofs.KeepLaws.{Counted, run_counted, Left, run_left_lem}
use Rattle.am9517_service.proofs.GrantLaws.{granted_open, granted_runs, grant_some, picked_below}
use Rattle.am9517_service.proofs.RoundLaws.{round_accepted, round_open, ended_is}
use Rattle.demands.proofs.RunLists.{none_plus, drop_more, Come, come_nowhere, come_on}
use Rattle.demands.proofs.StopLaws.{never_dropped, granted_undropped, never_limit, run_words, granted_words}
use Rattle.am9517_service.proofs.StatedLaws.{round_told}
use Rattle.demands.proofs.Refusals.{round_refused}
use Rattle.std.proofs.Common.{Some, Ok, Err}
use Rattle.am9517_service.specs.declared.RoundEnd.TheVariants.{Done, Quiet, Stopped}

-- one service more of channel n, and of the others as many as before
one_more : (l : List ℕ) (n i : ℕ) → n < length l → get_or (set l n (get_or l n 0 + 1)) i 0 ≡ get_or l i 0 + when (eqb n i) 1 0
one_more l n i h = go (eqb n i) refl
  where
    go : (t : Bool) → eqb n i ≡ t → get_or (set l n (get_or l n 0 + 1)) i 0 ≡ get_or l i 0 + when (eqb n i) 1 0
    go true e =
        let q = eqb-true n i e in
        omega (arith, when_hit {A = ℕ} (eqb n i) 1 0 e, get_or-set_same l n (get_or l n 0 + 1) 0 h, ap (λ (k : ℕ). get_or (set l n (get_or l n 0 + 1)) k 0) q, ap (λ (k : ℕ). get_or l k 0) q)
    go false e = omega (arith, when_miss {A = ℕ} (eqb n i) 1 0 e, get_or-set_other l n i (get_or l n 0 + 1) 0 (λ p. eqb-false n i e (sym p)))

-- two choices by one test
pub when_two : {A B : Type 0} (P : A → B → Type 0) (t : Bool) {a b : A} {x y : B} → (t ≡ true → P a x) → (t ≡ false → P b y) → P (when t a b) (when t x y)
unfolding when
when_two P true h g = h refl
when_two P false h g = g refl

-- where a round stands between two services
pub record Stands (w : Course) : Type 0 where
  pub range : valid w.controller ≡ true
  pub idle : w.controller.in_service ≡ 0
  pub memory : length w.memory ≡ 65536
  pub four : length w.services ≡ 4

-- the device bytes not yet used, and the room behind the last byte written
abbrev bytes_left : List ℕ → Course → List ℕ
bytes_left d w = drop w.totals.used d

abbrev room_left_lem : Course → List ℕ
room_left_lem w = drop w.totals.written w.room

-- The calls that are left, of so many services, lead to where the round closes; the last run's reason was e.
pub record Leads (w : Course) (e : Reason) (left : ℕ) (x : Close) (ops : List Op) : Type 0 where
  pub accepted : Accepted w.controller ops
  pub leaves : x.course.controller ≡ after_all w.controller ops
  pub reports : (n : ℕ) → get_or x.course.services n 0 ≡ get_or w.services n 0 + count n (channels (grants w.controller ops))
  pub come : Come w.memory w.room w.totals e x.course.memory x.course.room x.course.totals x.answer (eqb (length (grants w.controller ops)) left) (runs w.controller ops)

-- no calls are left
leads_nowhere : (w : Course) (e : Reason) (left : ℕ) (a : RoundAnswer) → a ≡ closing (Ok e) (eqb 0 left) → Leads w e left (close w a) []
unfolding count
leads_nowhere w e left a is =
    record { accepted = tt; leaves = refl; reports = λ n. omega arith; come = come_nowhere w.memory w.room w.totals e a (eqb 0 left) is }

module _ (d : List ℕ) (w : Course) (at : Stands w) (some : nobody w.controller ≡ false) where
  abbrev c : Controller
  c = w.controller

  abbrev n : ℕ
  n = picked c

  abbrev g : Controller
  g = granted c n

  abbrev run : Op
  run = Run w.memory (bytes_left d w) (room_left_lem w) 65536 0

  abbrev x : Stop
  x = run_next w d

  o : grant_of c ≡ record { controller = g; answer = Ok (Some n) }
  o = grant_some c at.range at.idle some

  -- what the run gives
  given : ran_of (next c Grant) w.memory (bytes_left d w) (room_left_lem w) 65536 0 ≡ stopped x
  unfolding run_next
  given =
      ap (λ (y : Outcome). ran_of y.controller w.memory (bytes_left d w) (room_left_lem w) 65536 0) o
      ∙ run_accepted g w.memory (bytes_left d w) (room_left_lem w) 65536 0 (granted_runs c at.range at.idle some w.memory at.memory)

  there : next (next c Grant) run ≡ (after_next w d).controller
  unfolding stopped with_run
  there = ap (λ (y : Given). y.ran.controller) given

  says : said (next c Grant) run ≡ 0
  unfolding stopped
  says = ap (λ (z : Given). run_refusal_number z.ran.answer) given

  runs_two : (ops : List Op) → runs c (Grant ∷ run ∷ ops) ≡ stopped x ∷ runs (after_next w d).controller ops
  runs_two ops =
      ap (λ (y : Given). y ∷ runs (next (next c Grant) run) ops) given ∙ ap (λ (y : Controller). stopped x ∷ runs y ops) there

  grants_two : (ops : List Op) → grants c (Grant ∷ run ∷ ops) ≡ record { before = c; channel = n } ∷ grants (after_next w d).controller ops
  grants_two ops =
      ap (λ (y : Outcome). told c y.answer ++ grants (next (next c Grant) run) ops) o
      ∙ ap (λ (y : Controller). record { before = c; channel = n } ∷ grants y ops) there

  left_by_lem : Left g.lowest x
  unfolding run_next
  left_by_lem =
      run_left_lem 65536 0 (bytes_left d w) (start_of g w.memory (room_left_lem w)) (granted_kept c (ranges c at.range) n (picked_below c some)) (granted_open c n)

  counted_by : Counted 65536 (length (room_left_lem w)) (length (bytes_left d w)) 65536 g.waits x.world
  unfolding run_next
  counted_by =
      run_counted 65536 (length (room_left_lem w)) g.waits (bytes_left d w) 65536 0 (start_of g w.memory (room_left_lem w))
      (record { memory_length = at.memory; room_length = refl; used = omega arith; written = omega arith; transfers = omega arith; slow = refl; states = λ h. omega arith })

  stands_on : is_ended x.reason ≡ true → Stands (after_next w d)
  unfolding with_run
  stands_on e =
      record {
        range = of_ranges _ left_by_lem.ranges;
        idle = left_by_lem.idle (ended_is _ e);
        memory = counted_by.memory_length;
        four = simp length-set at.four;
      }

  -- the room is handed on behind what was written, and so are the bytes not used
  behind : drop x.world.counts.written x.world.room ≡ room_left_lem (after_next w d)
  unfolding with_run
  behind = drop_more w.totals.written x.world.counts.written w.room x.world.room counted_by.room_length

  unused : drop x.world.counts.used (bytes_left d w) ≡ bytes_left d (after_next w d)
  unfolding with_run
  unused = drop-drop x.world.counts.used w.totals.used d

  -- the grant and the run, and then these calls
  first_two : (e : Reason) (left : ℕ) (y : Close) (ops : List Op) → Leads (after_next w d) x.reason left y ops → Leads w e (suc left) y (Grant ∷ run ∷ ops)
  unfolding with_run count
  first_two e left y ops l =
      let gs = grants_two ops in
      let to : Bool → List Given → Type 0 = Come w.memory w.room w.totals e y.course.memory y.course.room y.course.totals y.answer in
      let done : eqb (length (grants (after_next w d).controller ops)) left ≡ eqb (length (grants c (Grant ∷ run ∷ ops))) (suc left) =
      sym (eqb-suc-suc (length (grants (after_next w d).controller ops)) left) ∙ ap (λ (z : List Granted). eqb (length z) (suc left)) (sym gs) in
      record {
        accepted = (ap (λ (z : Outcome). refusal_number z.answer) o, (says, subst (λ (z : Controller). Accepted z ops) (sym there) l.accepted));
        leaves = l.leaves ∙ ap (λ (z : Controller). after_all z ops) (sym there);
        reports = λ i.
            omega (arith, l.reports i, ap (λ (z : List Granted). count i (channels z)) gs, one_more w.services n i (omega (arith, picked_below c some, at.four)));
        come =
            subst (λ (t : Bool). to t (runs c (Grant ∷ run ∷ ops))) done
            (subst (to (eqb (length (grants (after_next w d).controller ops)) left)) (sym (runs_two ops))
            (come_on w.memory w.room w.totals e x _ _ _ _ _ _ counted_by.room_length l.come));
      }

-- the calls behind a run that gave this
abbrev calls_after : ℕ → List ℕ → Given → List Op
calls_after left d y =
    first ([] if not (has_ended y.ran.answer) ∷ [])
    (calls_from left y.ran.controller y.memory (drop y.ran.counts.used d) (drop y.ran.counts.written y.room))

-- the round stops behind this service, or goes on
abbrev stop_or_on : ℕ → List ℕ → Course → Close
stop_or_on left d w =
    first (close (after_next w d) (Ok (Stopped (run_next w d).reason)) if not (is_ended (run_next w d).reason) ∷ []) (round_of left d (after_next w d))

module _ (left : ℕ) (d : List ℕ) (w : Course) (at : Stands w) (some : nobody w.controller ≡ false) where
  abbrev why : Reason
  why = (run_next w d).reason

  abbrev on : Course
  on = after_next w d

  -- behind a run that ended the round goes on; behind any other it stops
  leads_behind : (is_ended why ≡ true → Leads on why left (round_of left d on) (calls_from left on.controller on.memory (bytes_left d on) (room_left_lem on)))
      → Leads on why left (stop_or_on left d w) (calls_after left (bytes_left d w) (stopped (run_next w d)))
  unfolding stopped first with_run
  leads_behind further =
      when_two (Leads on why left) (not (is_ended why)) (λ u. leads_nowhere _ _ left _ (sym (when_miss (is_ended why) _ _ (not-true _ u))))
      (λ u. rw (unused d w at some, behind d w at some) (further (not-false _ u)))

leads : (left : ℕ) (d : List ℕ) (w : Course) (e : Reason) → is_ended e ≡ true → Stands w
    → Leads w e left (round_of left d w) (calls_from left w.controller w.memory (bytes_left d w) (room_left_lem w))
unfolding round_of calls_from first
leads zero d w e h at = leads_nowhere w e 0 (Ok Done) (sym (when_hit (is_ended e) _ _ h ∙ when_hit (eqb 0 0) _ _ refl))
leads (suc left) d w e h at =
    when_two (Leads w e (suc left)) (nobody w.controller)
    (λ none. leads_nowhere w e (suc left) (Ok Quiet) (sym (when_hit (is_ended e) _ _ h ∙ when_miss (eqb 0 (suc left)) _ _ (eqb-zero-suc left))))
    (λ some. first_two d w at some e left _ _
    (subst (λ (y : Given). Leads (after_next w d) (run_next w d).reason left (stop_or_on left d w) (calls_after left (bytes_left d w) y)) (sym (given d w at some))
    (leads_behind left d w at some (λ u. leads left d (after_next w d) (run_next w d).reason u (stands_on d w at some u)))))

zeros : (i : ℕ) → get_or {A = ℕ} (0 ∷ 0 ∷ 0 ∷ 0 ∷ []) i 0 ≡ 0
zeros zero = refl
zeros (suc zero) = refl
zeros (suc (suc zero)) = refl
zeros (suc (suc (suc zero))) = refl
zeros (suc (suc (suc (suc i)))) = refl

-- what a round gives that stopped in a course with an answer
abbrev gives : Course → RoundAnswer → RoundGiven
gives w a = round_given (record { controller = w.controller; answer = a; services = w.services; totals = w.totals }) w.memory w.room

closed_gives : (w : Course) (a : RoundAnswer) → closed (close w a) ≡ gives w a
unfolding closed
closed_gives w a = refl

module _ (s : Controller) (m d r : List ℕ) (k : ℕ) where
  is_calls : (y : Close) (a : RoundAnswer) (ops : List Op) → rounded_of s m d r k ≡ closed (close y.course a) → (said s (Round m d r k) ≡ 0 → a ≡ y.answer)
      → Leads (beginning s m r) Ended k y ops → IsCalls s m d r k ops
  is_calls y a ops gave same l =
      let is : rounded_of s m d r k ≡ gives y.course a = gave ∙ closed_gives y.course a in
      record {
        accepted = l.accepted;
        leaves = ap (λ (g : RoundGiven). g.rounded.controller) is ∙ l.leaves;
        memory = ap (λ (g : RoundGiven). g.memory) is ∙ l.come.memory;
        room = ap (λ (g : RoundGiven). g.room) is ∙ l.come.room;
        reports = λ i. ap (λ (g : RoundGiven). get_or g.rounded.services i 0) is ∙ omega (arith, l.reports i, zeros i);
        totals = ap (λ (g : RoundGiven). g.rounded.totals) is ∙ l.come.totals ∙ none_plus (sums (runs s ops));
        answers = λ free. ap (λ (g : RoundGiven). g.rounded.answer) is ∙ same free ∙ l.come.answers;
      }

pub round_is_calls_lem : RoundIsCalls
round_is_calls_lem s m d r k = go (eqb (refusal (round_grounds s m k)) 0) refl
  where
    go : (t : Bool) → eqb (refusal (round_grounds s m k)) 0 ≡ t → IsCalls s m d r k (calls s m d r k)
    go true e =
        let free = eqb-true _ _ e in
        let o = round_open s m k free in
        let there = round_of k d (beginning s m r) in
        let at : Stands (beginning s m r) = record { range = o.0; idle = o.1; memory = o.2; four = refl } in
        subst (IsCalls s m d r k) (sym (when_hit _ _ _ e))
        (is_calls s m d r k there there.answer _ (round_accepted s m d r k free) (λ z. refl) (leads k d (beginning s m r) Ended refl at))
    go false e =
        let bad = eqb-false _ _ e in
        let a = closing (Ok Ended) (eqb 0 k) in
        subst (IsCalls s m d r k) (sym (when_miss _ _ _ e))
        (is_calls s m d r k (close (beginning s m r) a) _ [] (round_refused s m d r k bad) (λ z. absurd (bad (sym (round_told s m d r k) ∙ z))) (leads_nowhere (beginning s m r) Ended k a refl))

-- Why a round stops: an answer that doesn't give this reason.
abbrev pub Other : Reason → RoundAnswer → Type 0
Other e (Ok Done) = Unit
Other e (Ok Quiet) = Unit
Other e (Ok (Stopped why)) = ¬ (why ≡ e)
Other e (Err r) = Unit

-- what no run of a round says that isn't "ended", the round doesn't say
module _ (e : Reason) (Keeps : Controller → Type 0)
    (other : (d : List ℕ) (w : Course) → Keeps w.controller → nobody w.controller ≡ false → is_ended (run_next w d).reason ≡ false → ¬ ((run_next w d).reason ≡ e))
    (keeps : (d : List ℕ) (w : Course) → Keeps w.controller → Keeps (after_next w d).controller) where
  round_other : (left : ℕ) (d : List ℕ) (w : Course) → Keeps w.controller → Other e (round_of left d w).answer
  unfolding round_of first
  round_other zero d w k = tt
  round_other (suc left) d w k =
      let P : Close → Type 0 = λ x. Other e x.answer in
      when_each P (nobody w.controller) (λ z. tt)
      (λ some. when_each P (not (is_ended (run_next w d).reason)) (λ u. other d w k some (not-true _ u)) (λ u. round_other left d (after_next w d) (keeps d w k)))

  rounded_other : (s : Controller) (m d r : List ℕ) (k : ℕ) → Keeps s → Other e (rounded_of s m d r k).rounded.answer
  unfolding rounded_of closed
  rounded_other s m d r k h =
      when_both (λ (g : RoundGiven). Other e g.rounded.answer) _ (round_other k d (beginning s m r) h) tt

  never_said : (s : Controller) (m d r : List ℕ) (k : ℕ) → Keeps s → ¬ ((rounded_of s m d r k).rounded.answer ≡ Ok (Stopped e))
  never_said s m d r k h is = subst (Other e) is (rounded_other s m d r k h) refl

pub next_undropped : (d : List ℕ) (w : Course) → nobody w.controller ≡ false → ¬ ((run_next w d).reason ≡ Dropped)
unfolding run_next
next_undropped d w some = never_dropped 65536 0 _ _ (granted_undropped w.controller (eqb-false _ _ some))

pub next_unlimited : (d : List ℕ) (w : Course) → Words w.controller → ¬ ((run_next w d).reason ≡ Limit)
unfolding run_next
next_unlimited d w h = never_limit 65536 0 _ _ (granted_words w.controller (picked w.controller) h _).0 (omega arith)

pub next_words : (d : List ℕ) (w : Course) → Words w.controller → Words (after_next w d).controller
unfolding run_next with_run
next_words d w h = run_words 65536 0 _ _ (granted_words w.controller (picked w.controller) h)

pub round_stops_lem : RoundStops
round_stops_lem s m d r k =
    record {
      dropped = never_said Dropped (λ c. Unit) (λ d w h some u. next_undropped d w some) (λ d w h. tt) s m d r k tt;
      limit = λ h. never_said Limit Words (λ d w h some u. next_unlimited d w h) next_words s m d r k h;
      ended = never_said Ended (λ c. Unit) (λ d w h some u e. never (sym (ap is_ended e) ∙ u)) (λ d w h. tt) s m d r k tt;
    }

after_both : (s : Controller) (xs ys : List Op) → after_all s (xs ++ ys) ≡ after_all (after_all s xs) ys
after_both s [] ys = refl
after_both s (x ∷ xs) ys = after_both (next s x) xs ys

pub calls_leave : (s : Controller) (op : Op) → after_all s (calls_of s op) ≡ next s op
calls_leave s (Write r b) = refl
calls_leave s (Read r) = refl
calls_leave s (Pins p) = refl
calls_leave s (Waits n) = refl
calls_leave s Reset = refl
calls_leave s Grant = refl
calls_leave s (Run m d r limit eop) = refl
calls_leave s (Round m d r k) = sym (round_is_calls_lem s m d r k).leaves
calls_leave s (SheetWriting form out) = refl
calls_leave s (SheetReading form bytes) = refl
calls_leave s (Converting to source out) = refl

pub spelled_leads : SpelledLeads
spelled_leads s [] = refl
spelled_leads s (op ∷ ops) =
    spelled_leads (next s op) ops
    ∙ ap (λ (t : Controller). after_all t (spelled (next s op) ops)) (sym (calls_leave s op))
    ∙ sym (after_both s (calls_of s op) (spelled (next s op) ops))

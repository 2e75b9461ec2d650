-- Ranges are kept, operation by operation; so no ground of 1 holds.
use Prim.Native.Nat.{ℕ, zero, suc}
use mathlib.Core.Path.{◌≡◌, refl, sym, ap, subst, ◌∙◌}
use mathlib.Core.Bool.{Bool, true, false, not}
use mathlib.Core.List.{List, [], ◌∷◌}
use native.Mathlib.Omega.{arith}
use lib.Dec.{eqb}
use borrow.Author.Tests.{eqb-true, eqb-false}
use Rattle.words.specs.Choice.{◌and◌}
use Rattle.words.specs.Grounds.{Ground, first}
use Rattle.am9517.specs.Editions.{number_of}
use Rattle.am9517.specs.State.{fresh}
use Rattle.am9517.specs.Ranges.{mode_valid, modes_valid, fields_valid, service_valid, valid}
use Rattle.am9517.specs.Serving.{picked}
use Rattle.am9517.specs.Refusals.{refusal, grant_grounds}
use Rattle.am9517.specs.Answers.{outcome}
use Rattle.am9517.specs.declared.Controller.{Controller}
use Rattle.am9517.specs.declared.Edition.{Edition}
use Rattle.am9517.specs.declared.Edition.TheVariants.{Am9517A, Intel8237A}
use Rattle.std.proofs.Common.{Option}
use Rattle.am9517_service.specs.World.{Stop, start_of}
use Rattle.am9517_service.specs.Answers.{Given, stopped, run_grounds}
use Rattle.am9517_sheet.specs.declared.forms.Form.{Form}
use Rattle.demands.specs.Lists.{All, none, also}
use Rattle.demands.specs.Operations.{Op, Write, Read, Pins, Reset, Waits, Grant, Run, Round, SheetWriting, SheetReading, Converting, next, after_all, said}
use Rattle.demands.specs.Refusals.{First, here, later, grounds}
use Rattle.demands.specs.Rounds.{calls_from}
use Rattle.demands.specs.Ranges.{RangesKept}
use Rattle.words.proofs.ChoiceLaws.{when_both, when_each, never}
use Rattle.words.proofs.GroundLaws.{passed}
use Rattle.am9517.proofs.RangeLaws.{Ranges, ranges, of_ranges, fields}
use Rattle.am9517.proofs.KeepLaws.{granted_kept}
use Rattle.am9517_service.proofs.AnswerLaws.{run_refused, run_accepted}
use Rattle.am9517_service.proofs.KeepLaws.{run_left_lem}
use Rattle.am9517_service.proofs.GrantLaws.{picked_below}
use Rattle.am9517_sheet.proofs.SheetLaws.{grounds_said, read_valid}
use Rattle.demands.proofs.AccessLaws.{cleared_ranges, write_ranges, read_ranges, pins_ranges, waits_ranges}
use Rattle.demands.proofs.Refusals.{refused_some, demand_1}
use Rattle.demands.proofs.Fairness.{open_run}
use Rattle.demands.proofs.Rounds.{round_is_calls_lem}

abbrev Valid : Controller → Type 0
Valid t = valid t ≡ true

module _ (s : Controller) (v : valid s ≡ true) where
  outcome_valid : (n : ℕ) (t : Controller) (a : Option ℕ) → (n ≡ 0 → Ranges t) → Valid (outcome n s t a).controller
  unfolding outcome
  outcome_valid n t a h = when_each Valid (eqb n 0) (λ e. of_ranges t (h (eqb-true _ _ e))) (λ e. v)

  somebody : refusal (grant_grounds s) ≡ 0 → eqb (picked s) 4 ≡ false
  unfolding refusal first
  somebody free = (passed _ _ _ (omega arith) (passed _ _ _ (omega arith) (passed _ _ _ (omega arith) free).next).next).test

  grant_valid : Valid (next s Grant)
  grant_valid = outcome_valid _ _ _ (λ free. granted_kept s (ranges s v) (picked s) (picked_below s (somebody free)))

  stopped_valid : (x : Stop) → Ranges x.world.controller → Valid (stopped x).ran.controller
  unfolding stopped
  stopped_valid x r = of_ranges _ r

  run_valid : (m d r : List ℕ) (limit eop : ℕ) → Valid (next s (Run m d r limit eop))
  run_valid m d r limit eop = go (eqb (refusal (run_grounds s m)) 0) refl
    where
      go : (t : Bool) → eqb (refusal (run_grounds s m)) 0 ≡ t → Valid (next s (Run m d r limit eop))
      go true e =
          let free = eqb-true _ _ e in
          let busy : s.in_service ≡ 1 = omega (arith, (fields s v).in_service, (open_run s m free).1) in
          subst (λ (g : Given). Valid g.ran.controller) (sym (run_accepted s m d r limit eop free)) (stopped_valid _ (run_left_lem limit eop d (start_of s m r) (ranges s v) busy).ranges)
      go false e = subst (λ (g : Given). Valid g.ran.controller) (sym (run_refused s m d r limit eop _ (refused_some _ (eqb-false _ _ e)))) v

-- a round's calls
calls_valid : (left : ℕ) (s t : Controller) (m d r : List ℕ) → s ≡ t → valid s ≡ true → Valid (after_all s (calls_from left t m d r))
unfolding calls_from first
calls_valid zero s t m d r e v = v
calls_valid (suc left) s t m d r e v =
    let ran : Controller → Controller = λ x. next (next x Grant) (Run m d r 65536 0) in
    let w : Valid (ran s) = run_valid (next s Grant) (grant_valid s v) m d r 65536 0 in
    when_both (λ (ops : List Op). Valid (after_all s ops)) _ v
    (when_both (λ (ops : List Op). Valid (after_all (ran s) ops)) _ w (calls_valid left (ran s) (ran t) _ _ _ (ap ran e) w))

pub kept : (s : Controller) (op : Op) → valid s ≡ true → valid (next s op) ≡ true
kept s (Write r b) v = outcome_valid s v _ _ _ (λ free. write_ranges s (ranges s v) r b free)
kept s (Read r) v = outcome_valid s v _ _ _ (λ free. read_ranges s (ranges s v) r)
kept s (Pins p) v = outcome_valid s v _ _ _ (λ free. pins_ranges s (ranges s v) p free)
kept s (Waits n) v = outcome_valid s v _ _ _ (λ free. waits_ranges s (ranges s v) n)
kept s Reset v = outcome_valid s v _ _ _ (λ free. cleared_ranges s (ranges s v))
kept s Grant v = grant_valid s v
kept s (Run m d r limit eop) v = run_valid s v m d r limit eop
kept s (Round m d r k) v =
    subst Valid (sym (round_is_calls_lem s m d r k).leaves) (when_both (λ (ops : List Op). Valid (after_all s ops)) _ (calls_valid k s s m d r refl v) v)
kept s (SheetWriting form out) v = v
kept s (SheetReading form bytes) v = when_each Valid _ (λ e. read_valid form bytes (eqb-true _ _ e)) (λ e. v)
kept s (Converting to source out) v = v

pub read : (s : Controller) (form : Form) (bytes : List ℕ) → said s (SheetReading form bytes) ≡ 0 → valid (next s (SheetReading form bytes)) ≡ true
read s form bytes free =
    let e = sym (grounds_said _ refl) ∙ free in
    when_each Valid _ (λ z. read_valid form bytes e) (λ z. absurd (eqb-false _ _ z e))

kept_all : (s : Controller) (ops : List Op) → valid s ≡ true → valid (after_all s ops) ≡ true
kept_all s [] v = v
kept_all s (op ∷ ops) v = kept_all (next s op) ops (kept s op v)

-- no ground of 1 holds
abbrev NotOne : Ground ℕ → Type 0
NotOne g = g.gives ≡ 1 → g.holds ≡ false

none_first : (gs : List (Ground ℕ)) → All NotOne gs → ¬ First 1 gs
none_first gs (also p ps) (here e q) = never (sym e ∙ p q)
none_first _ none x = elim x [ ]
none_first gs (also p ps) (later e f) = none_first _ ps f

-- a ground of another number
other : (n : ℕ) (t : Bool) → ¬ (n ≡ 1) → n ≡ 1 → t ≡ false
other n t h e = absurd (h e)

never_1 : (s : Controller) (op : Op) → valid s ≡ true → All NotOne (grounds s op)
never_1 s (Write r b) v = also (λ q. ap not v) (also (other 2 _ (λ e. omega arith)) (also (other 3 _ (λ e. omega arith)) (also (other 4 _ (λ e. omega arith)) (also (other 5 _ (λ e. omega arith)) none))))
never_1 s (Read r) v = also (λ q. ap not v) (also (other 2 _ (λ e. omega arith)) (also (other 3 _ (λ e. omega arith)) (also (other 4 _ (λ e. omega arith)) none)))
never_1 s (Pins p) v = also (λ q. ap not v) (also (other 2 _ (λ e. omega arith)) none)
never_1 s (Waits n) v = also (λ q. ap not v) (also (other 3 _ (λ e. omega arith)) none)
never_1 s Reset v = also (λ q. ap not v) none
never_1 s Grant v = also (λ q. ap not v) (also (other 3 _ (λ e. omega arith)) (also (other 6 _ (λ e. omega arith)) none))
never_1 s (Run m d r limit eop) v = also (λ q. ap not v) (also (other 7 _ (λ e. omega arith)) (also (other 8 _ (λ e. omega arith)) none))
never_1 s (Round m d r k) v = also (λ q. ap not v) (also (other 2 _ (λ e. omega arith)) (also (other 7 _ (λ e. omega arith)) (also (other 3 _ (λ e. omega arith)) none)))
never_1 s (SheetWriting form out) v = also (λ q. ap not v) (also (other 9 _ (λ e. omega arith)) (also (other 15 _ (λ e. omega arith)) none))
never_1 s (SheetReading form bytes) v =
    also (other 9 _ (λ e. omega arith)) (also (other 10 _ (λ e. omega arith)) (also (other 11 _ (λ e. omega arith)) (also (other 12 _ (λ e. omega arith)) (also (other 13 _ (λ e. omega arith)) (also (other 14 _ (λ e. omega arith)) none)))))
never_1 s (Converting to source out) v =
    also (other 9 _ (λ e. omega arith)) (also (other 10 _ (λ e. omega arith)) (also (other 11 _ (λ e. omega arith)) (also (other 12 _ (λ e. omega arith)) (also (other 13 _ (λ e. omega arith)) (also (other 14 _ (λ e. omega arith)) (also (other 15 _ (λ e. omega arith)) none))))))

pub not_by_1 : (s : Controller) (op : Op) → valid s ≡ true → ¬ (said s op ≡ 1)
not_by_1 s op v e = none_first (grounds s op) (never_1 s op v) (((demand_1 s op).exactly 1 (λ z. omega arith)).0 e)

pub fresh_valid : (e : Edition) → valid (fresh (number_of e)) ≡ true
unfolding ◌and◌ mode_valid modes_valid fields_valid service_valid valid
fresh_valid Am9517A = refl
fresh_valid Intel8237A = refl

pub ranges_kept : RangesKept
ranges_kept =
    record {
      kept = kept;
      read = read;
      from_fresh = λ e ops op. not_by_1 _ op (kept_all _ ops (fresh_valid e));
      from_sheet = λ s form bytes ops op free. not_by_1 _ op (kept_all _ ops (read s form bytes free));
    }

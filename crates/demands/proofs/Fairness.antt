-- Demand 3: the pick takes nobody who stands behind an entitled channel, and nothing of a trace but a grant moves the lowest.
use Prim.Native.Nat.{ℕ, zero, suc, ◌+◌, ◌%◌, ◌≤◌, ◌<◌}
use mathlib.Core.Path.{◌≡◌, refl, sym, ◌∙◌, ap, subst}
use mathlib.Core.Bool.{Bool, true, false}
use mathlib.Core.List.{List, [], ◌∷◌, ◌++◌, append-nil}
use native.Mathlib.Omega.{arith}
use lib.Dec.{eqb}
use lib.ListN.{length}
use borrow.Author.Tests.{eqb-true, eqb-false, ne_eqb, not-false}
use Rattle.words.specs.Choice.{when}
use Rattle.words.specs.Grounds.{◌if◌, first}
use Rattle.am9517.specs.Modes.{rotating}
use Rattle.am9517.specs.Ranges.{valid}
use Rattle.am9517.specs.Registers.{port_written, mode_written, after_write, after_read}
use Rattle.am9517.specs.Serving.{entitled, picked, granted}
use Rattle.am9517.specs.Refusals.{refusal, grant_grounds}
use Rattle.am9517.specs.Answers.{outcome}
use Rattle.am9517.specs.declared.Controller.{Controller}
use Rattle.am9517_service.specs.World.{Stop, start_of}
use Rattle.am9517_service.specs.Answers.{Given, stopped, ran_of, run_grounds}
use Rattle.demands.specs.Lists.{All, also, count}
use Rattle.demands.specs.Operations.{Op, Write, Read, Pins, Reset, Waits, Grant, Run, Round, SheetWriting, SheetReading, Converting, next, after_all}
use Rattle.demands.specs.Grants.{Granted, told, grants, channels}
use Rattle.demands.specs.Rounds.{calls_from, calls, calls_of, spelled}
use Rattle.demands.specs.Fairness.{Traced, Trace, Contends, Fair, Demand3, Demand3Reported, LowestKept}
use Rattle.words.proofs.ChoiceLaws.{when_both, when_each, when_hit, when_miss}
use Rattle.words.proofs.GroundLaws.{passed}
use Rattle.am9517.proofs.RangeLaws.{ranges, fields, below4}
use Rattle.am9517.proofs.RefusalLaws.{grounds_told}
use Rattle.am9517.proofs.ServingLaws.{picked_asked}
use Rattle.am9517_service.proofs.AnswerLaws.{run_refused, run_accepted}
use Rattle.am9517_service.proofs.KeepLaws.{run_left_lem}
use Rattle.am9517_sheet.specs.declared.forms.Form.{Form}
use Rattle.am9517_sheet.proofs.SheetLaws.{grounds_said}
use Rattle.demands.proofs.Refusals.{refused_some}
use Rattle.demands.proofs.Turns.{place, Turns, over, then, turns_fair}
use Rattle.demands.proofs.Rounds.{round_is_calls_lem, calls_leave}
use Rattle.std.proofs.Common.{Option, Some, Ok, Err}
use Rattle.am9517.specs.Refusals.{numbered}

-- what an accepted run has found
pub open_run : (s : Controller) (m : List ℕ) → refusal (run_grounds s m) ≡ 0 → (valid s ≡ true) × ¬ (s.in_service ≡ 0)
unfolding refusal first
open_run s m e =
    let good = passed _ _ _ (omega arith) e in
    let size = passed _ _ _ (omega arith) good.next in
    let idle = passed _ _ _ (omega arith) size.next in
    (not-false _ good.test, eqb-false _ _ idle.test)

stopped_lowest : (x : Stop) → (stopped x).ran.controller.lowest ≡ x.world.controller.lowest
unfolding stopped
stopped_lowest x = refl

-- Nothing but a grant, a reset and a master clear moves the lowest.
module _ (s : Controller) where
  abbrev pub Kept : Controller → Type 0
  Kept t = t.lowest ≡ s.lowest

  pub after_write_kept : (r b : ℕ) → ¬ (r ≡ 13) → Kept (after_write s r b)
  unfolding after_write port_written mode_written first
  after_write_kept r b n =
      when_both Kept _ refl
      (when_both Kept _ refl
      (when_both Kept _ refl
      (when_both Kept _ refl
      (when_both Kept _ refl
      (when_both Kept _ refl
      (rw (when_miss (eqb r 13) _ _ (ne_eqb r 13 n)) (when_both Kept _ refl (when_both Kept _ refl refl))))))))

  pub after_read_kept : (r : ℕ) → Kept (after_read s r)
  unfolding after_read first
  after_read_kept r = when_both Kept _ refl (when_both Kept _ refl refl)

  -- what the next state keeps where the operation is accepted
  outcome_kept : (n : ℕ) (t : Controller) (a : Option ℕ) → (n ≡ 0 → Kept t) → Kept (outcome n s t a).controller
  unfolding outcome
  outcome_kept n t a h = when_each Kept (eqb n 0) (λ e. h (eqb-true _ _ e)) (λ e. refl)

  -- a run, whatever it is lent and however it stops
  pub run_kept : (m d r : List ℕ) (limit eop : ℕ) → Kept (ran_of s m d r limit eop).ran.controller
  run_kept m d r limit eop = go (eqb (refusal (run_grounds s m)) 0) refl
    where
      go : (t : Bool) → eqb (refusal (run_grounds s m)) 0 ≡ t → Kept (ran_of s m d r limit eop).ran.controller
      go true e =
          let free = eqb-true _ _ e in
          let o = open_run s m free in
          let busy : s.in_service ≡ 1 = omega (arith, (fields s o.0).in_service, o.1) in
          ap (λ (g : Given). g.ran.controller.lowest) (run_accepted s m d r limit eop free)
          ∙ stopped_lowest _ ∙ (run_left_lem limit eop d (start_of s m r) (ranges s o.0) busy).lowest
      go false e = ap (λ (g : Given). g.ran.controller.lowest) (run_refused s m d r limit eop _ (refused_some _ (eqb-false _ _ e)))

-- a call: no round
abbrev Call : Op → Type 0
Call (Write r b) = Unit
Call (Read r) = Unit
Call (Pins p) = Unit
Call Reset = Unit
Call (Waits n) = Unit
Call Grant = Unit
Call (Run m d r limit eop) = Unit
Call (Round m d r k) = ⊥
Call (SheetWriting form out) = Unit
Call (SheetReading form bytes) = Unit
Call (Converting to source out) = Unit

-- calls of a trace
abbrev pub Path : Controller → List Op → Type 0
Path s [] = Unit
Path s (op ∷ ops) = Call op × Traced s op × Path (next s op) ops

write_kept : (s : Controller) (r b : ℕ) → Traced s (Write r b) → (next s (Write r b)).lowest ≡ s.lowest
write_kept s r b t =
    outcome_kept s _ _ _ (λ free. after_write_kept s r b (λ e. t e (grounds_told _ refl _ _ _ ∙ free)))

read_kept : (s : Controller) (r : ℕ) → (next s (Read r)).lowest ≡ s.lowest
read_kept s r = outcome_kept s _ _ _ (λ free. after_read_kept s r)

pins_kept : (s : Controller) (p : ℕ) → (next s (Pins p)).lowest ≡ s.lowest
pins_kept s p = outcome_kept s _ _ _ (λ free. refl)

waits_kept : (s : Controller) (n : ℕ) → (next s (Waits n)).lowest ≡ s.lowest
waits_kept s n = outcome_kept s _ _ _ (λ free. refl)

reset_kept : (s : Controller) → Traced s Reset → (next s Reset).lowest ≡ s.lowest
reset_kept s t = outcome_kept s _ _ _ (λ free. absurd (t tt (grounds_told _ refl _ _ _ ∙ free)))

reading_kept : (s : Controller) (form : Form) (bytes : List ℕ) → Traced s (SheetReading form bytes) → (next s (SheetReading form bytes)).lowest ≡ s.lowest
reading_kept s form bytes t =
    when_each (λ (x : Controller). x.lowest ≡ s.lowest) _ (λ e. absurd (t tt (grounds_said _ refl ∙ eqb-true _ _ e))) (λ e. refl)

-- In the order from the lowest the picked channel stands no later than place k, where an entitled one stands.
pub record Early (low k n : ℕ) : Type 0 where
  pub channel : n < 4
  pub place : place low n ≤ k

early : (low j k : ℕ) → j ≤ k → k < 4 → Early low k ((low + 1 + j) % 4)
early low j k h b = record { channel = omega arith; place = omega arith }

-- the first of four in this order for which E holds
abbrev first_of : (ℕ → Bool) → (ℕ → ℕ) → ℕ
first_of E t = first (t 0 if E (t 0) ∷ t 1 if E (t 1) ∷ t 2 if E (t 2) ∷ t 3 if E (t 3) ∷ []) 4

module _ (low : ℕ) (E : ℕ → Bool) where
  abbrev at : ℕ → ℕ
  at k = (low + 1 + k) % 4

  first_early : (k : ℕ) → k < 4 → E (at k) ≡ true → Early low k (first_of E at)
  unfolding first
  first_early zero b e = rw (when_hit (E (at 0)) _ _ e) (early low 0 0 (omega arith) b)
  first_early (suc zero) b e =
      when_both (Early low 1) _ (early low 0 1 (omega arith) b) (rw (when_hit (E (at 1)) _ _ e) (early low 1 1 (omega arith) b))
  first_early (suc (suc zero)) b e =
      when_both (Early low 2) _ (early low 0 2 (omega arith) b)
      (when_both (Early low 2) _ (early low 1 2 (omega arith) b) (rw (when_hit (E (at 2)) _ _ e) (early low 2 2 (omega arith) b)))
  first_early (suc (suc (suc zero))) b e =
      when_both (Early low 3) _ (early low 0 3 (omega arith) b)
      (when_both (Early low 3) _ (early low 1 3 (omega arith) b)
      (when_both (Early low 3) _ (early low 2 3 (omega arith) b) (rw (when_hit (E (at 3)) _ _ e) (early low 3 3 (omega arith) b))))
  first_early (suc (suc (suc (suc k)))) b e = absurd (omega arith)

place_at : (low c : ℕ) → c < 4 → (low + 1 + place low c) % 4 ≡ c
place_at low c h = omega arith

pub picked_early : (s : Controller) (c : ℕ) → c < 4 → rotating s.command ≡ true → entitled s c ≡ true → Early s.lowest (place s.lowest c) (picked s)
picked_early s c h rot e =
    rw (picked_asked s, when_hit (rotating s.command) s.lowest 3 rot)
    (first_early s.lowest (entitled s) (place s.lowest c) (omega arith) (rw (place_at s.lowest c h) e))

pub grant_valid : (s : Controller) → refusal (grant_grounds s) ≡ 0 → valid s ≡ true
unfolding refusal first
grant_valid s e = not-false _ (passed _ _ _ (omega arith) e).test

pub lowest_granted : (s : Controller) (n : ℕ) → rotating s.command ≡ true → (granted s n).lowest ≡ n
unfolding granted
lowest_granted s n rot = when_hit (rotating s.command) _ _ rot

-- Grants that follow one another: each goes to the channel picked in its state, whose lowest is what the one before left.
data Linked : ℕ → List Granted → Type 0 where
  last : {low : ℕ} → Linked low []
  link : {low : ℕ} {g : Granted} {gs : List Granted}
      → g.before.lowest ≡ low → low < 4 → g.channel ≡ picked g.before
      → Linked (granted g.before g.channel).lowest gs
      → Linked low (g ∷ gs)

linked_from : {low low' : ℕ} {gs : List Granted} → low' ≡ low → Linked low' gs → Linked low gs
linked_from e l = rw e at l

-- a call of grant, by whether it is accepted, before what came after it
grant_linked : (s : Controller) (t : Bool) (later : List Granted) → eqb (refusal (grant_grounds s)) 0 ≡ t
    → Linked (when t (granted s (picked s)) s).lowest later
    → Linked s.lowest (told s (when t (Ok (Some (picked s))) (Err (numbered (refusal (grant_grounds s))))) ++ later)
unfolding when
grant_linked s true later e l =
    let f = fields s (grant_valid s (eqb-true _ _ e)) in
    link {low = s.lowest} refl (omega (arith, f.lowest)) refl l
grant_linked s false later e l = l

linked_of : (s : Controller) (ops : List Op) → Path s ops → Linked s.lowest (grants s ops)
unfolding outcome
linked_of s [] u = last
linked_of s (Write r b ∷ ops) u = linked_from (write_kept s r b u.1) (linked_of (next s (Write r b)) ops u.2)
linked_of s (Read r ∷ ops) u = linked_from (read_kept s r) (linked_of (next s (Read r)) ops u.2)
linked_of s (Pins p ∷ ops) u = linked_from (pins_kept s p) (linked_of (next s (Pins p)) ops u.2)
linked_of s (Waits n ∷ ops) u = linked_from (waits_kept s n) (linked_of (next s (Waits n)) ops u.2)
linked_of s (Reset ∷ ops) u = linked_from (reset_kept s u.1) (linked_of (next s Reset) ops u.2)
linked_of s (Grant ∷ ops) u = grant_linked s _ _ refl (linked_of (next s Grant) ops u.2)
linked_of s (Run m d r limit eop ∷ ops) u = linked_from (run_kept s m d r limit eop) (linked_of (next s (Run m d r limit eop)) ops u.2)
linked_of s (Round m d r k ∷ ops) u = absurd u.0
linked_of s (SheetWriting form out ∷ ops) u = linked_of s ops u.2
linked_of s (SheetReading form bytes ∷ ops) u = linked_from (reading_kept s form bytes u.1) (linked_of (next s (SheetReading form bytes)) ops u.2)
linked_of s (Converting to source out ∷ ops) u = linked_of s ops u.2

-- a round's calls, and operations with rounds among them, are calls of a trace
path_both : (s : Controller) (xs ys : List Op) → Path s xs → Path (after_all s xs) ys → Path s (xs ++ ys)
path_both s [] ys u v = v
path_both s (x ∷ xs) ys u v = (u.0, u.1, path_both (next s x) xs ys u.2 v)

path_from : (left : ℕ) (s t : Controller) (m d r : List ℕ) → s ≡ t → Path s (calls_from left t m d r)
unfolding calls_from first
path_from zero s t m d r e = tt
path_from (suc left) s t m d r e =
    when_both (Path s) _ tt
    (tt, λ z. absurd z, (tt, λ z. absurd z, when_both (Path _) _ tt (path_from left _ _ _ _ _ (ap (λ (x : Controller). next (next x Grant) (Run m d r 65536 0)) e))))

calls_path : (s : Controller) (m d r : List ℕ) (k : ℕ) → Path s (calls s m d r k)
calls_path s m d r k = when_both (Path s) _ (path_from k s s m d r refl) tt

path_of : (s : Controller) (op : Op) → Traced s op → Path s (calls_of s op)
path_of s (Write r b) t = (tt, t, tt)
path_of s (Read r) t = (tt, t, tt)
path_of s (Pins p) t = (tt, t, tt)
path_of s Reset t = (tt, t, tt)
path_of s (Waits n) t = (tt, t, tt)
path_of s Grant t = (tt, t, tt)
path_of s (Run m d r limit eop) t = (tt, t, tt)
path_of s (Round m d r k) t = calls_path s m d r k
path_of s (SheetWriting form out) t = (tt, t, tt)
path_of s (SheetReading form bytes) t = (tt, t, tt)
path_of s (Converting to source out) t = (tt, t, tt)

spelled_path : (s : Controller) (ops : List Op) → Trace s ops → Path s (spelled s ops)
spelled_path s [] u = tt
spelled_path s (op ∷ ops) u =
    path_both s (calls_of s op) (spelled (next s op) ops) (path_of s op u.0)
    (subst (λ (t : Controller). Path t (spelled (next s op) ops)) (sym (calls_leave s op)) (spelled_path (next s op) ops u.1))

-- where no grant is made the lowest stays
grant_stays : (s : Controller) (t : Bool) (later : List Granted) (low : ℕ) → eqb (refusal (grant_grounds s)) 0 ≡ t
    → told s (when t (Ok (Some (picked s))) (Err (numbered (refusal (grant_grounds s))))) ++ later ≡ []
    → (later ≡ [] → low ≡ (when t (granted s (picked s)) s).lowest) → low ≡ s.lowest
unfolding when
grant_stays s true later low e none h = let z : suc (length later) ≡ 0 = ap length none in absurd (omega arith)
grant_stays s false later low e none h = h none

lowest_stays : (s : Controller) (ops : List Op) → Path s ops → grants s ops ≡ [] → (after_all s ops).lowest ≡ s.lowest
unfolding outcome
lowest_stays s [] u e = refl
lowest_stays s (Write r b ∷ ops) u e = lowest_stays (next s (Write r b)) ops u.2 e ∙ write_kept s r b u.1
lowest_stays s (Read r ∷ ops) u e = lowest_stays (next s (Read r)) ops u.2 e ∙ read_kept s r
lowest_stays s (Pins p ∷ ops) u e = lowest_stays (next s (Pins p)) ops u.2 e ∙ pins_kept s p
lowest_stays s (Waits n ∷ ops) u e = lowest_stays (next s (Waits n)) ops u.2 e ∙ waits_kept s n
lowest_stays s (Reset ∷ ops) u e = lowest_stays (next s Reset) ops u.2 e ∙ reset_kept s u.1
lowest_stays s (Grant ∷ ops) u e = grant_stays s _ _ _ refl e (lowest_stays (next s Grant) ops u.2)
lowest_stays s (Run m d r limit eop ∷ ops) u e = lowest_stays (next s (Run m d r limit eop)) ops u.2 e ∙ run_kept s m d r limit eop
lowest_stays s (Round m d r k ∷ ops) u e = absurd u.0
lowest_stays s (SheetWriting form out ∷ ops) u e = lowest_stays s ops u.2 e
lowest_stays s (SheetReading form bytes ∷ ops) u e = lowest_stays (next s (SheetReading form bytes)) ops u.2 e ∙ reading_kept s form bytes u.1
lowest_stays s (Converting to source out ∷ ops) u e = lowest_stays s ops u.2 e

pub lowest_kept : LowestKept
lowest_kept s op t e = ap (λ (x : Controller). x.lowest) (sym (calls_leave s op)) ∙ lowest_stays s (calls_of s op) (path_of s op t) e

module _ (c : ℕ) (small : c < 4) where
  turns_from : {low low' : ℕ} {es : List ℕ} → low' ≡ low → Turns c low' es → Turns c low es
  turns_from e ts = rw e at ts

  turns_linked : {low : ℕ} (window rest : List Granted) → Linked low (window ++ rest) → All (Contends c) window → Turns c low (channels window)
  turns_linked [] rest l h = over
  turns_linked {low = low} (g ∷ window) rest (link at below is l) (also h hs) =
      let p : Early g.before.lowest (place g.before.lowest c) g.channel = rw is (picked_early g.before c small h.rotation h.entitled) in
      turns_from at
      (then (omega (arith, at, below)) p.channel p.place (turns_from (lowest_granted g.before g.channel h.rotation) (turns_linked {low = (granted g.before g.channel).lowest} window rest l hs)))

  fair_window : {low : ℕ} (past window rest : List Granted) → Linked low (past ++ (window ++ rest)) → All (Contends c) window → Fair c (channels window)
  fair_window [] window rest l h = turns_fair c small (channels window) (turns_linked window rest l h)
  fair_window {low = low} (g ∷ past) window rest (link at below is l) h = fair_window {low = (granted g.before g.channel).lowest} past window rest l h

pub demand_3 : Demand3
demand_3 s ops c past window rest small u same h =
    fair_window c small past window rest (subst (Linked s.lowest) same (linked_of s (spelled s ops) (spelled_path s ops u))) h

-- each grant goes to one of the four
one_of_four : (e : ℕ) → e < 4 → when (eqb e 0) 1 0 + when (eqb e 1) 1 0 + when (eqb e 2) 1 0 + when (eqb e 3) 1 0 ≡ 1
unfolding when
one_of_four = below4 (λ (e : ℕ). when (eqb e 0) 1 0 + when (eqb e 1) 1 0 + when (eqb e 2) 1 0 + when (eqb e 3) 1 0 ≡ 1) refl refl refl refl

length_counts : {c low : ℕ} (es : List ℕ) → Turns c low es → count 0 es + count 1 es + count 2 es + count 3 es ≡ length es
unfolding count
length_counts [] over = refl
length_counts (e ∷ es) (then hl he h ts) = omega (arith, one_of_four e he, length_counts es ts)

pub demand_3_reported : Demand3Reported
demand_3_reported s m d r k c small h =
    let gs = grants s (calls s m d r k) in
    let linked : Linked s.lowest (gs ++ []) = rw (append-nil gs) (linked_of s (calls s m d r k) (calls_path s m d r k)) in
    let fair : Fair c (channels gs) = fair_window c small [] gs [] linked h in
    let all = length_counts (channels gs) (turns_linked c small gs [] linked h) in
    let is = (round_is_calls_lem s m d r k).reports in
    record {
      share = omega (arith, fair.share, all, is 0, is 1, is 2, is 3, is c);
      lead = λ e n. omega (arith, fair.lead e n, is e, is c);
    }

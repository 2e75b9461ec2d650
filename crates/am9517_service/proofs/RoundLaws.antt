-- A round goes on service by service.
use Prim.Native.Nat.{ℕ, zero, suc, ◌+◌, ◌-◌, ◌*◌, ◌≤◌, ◌<◌}
use mathlib.Core.Path.{◌≡◌, refl, sym, ap, ◌∙◌}
use mathlib.Core.Bool.{true, false, not}
use mathlib.Core.List.{List, [], ◌∷◌, ◌++◌}
use native.Mathlib.Omega.{arith}
use lib.ListN.{length, get_or, set, take, drop, length-drop, length-append, take-append-drop}
use borrow.Author.Tests.{ne_eqb, eqb-true, not-false, ltb-false}
use Rattle.words.specs.Choice.{when}
use Rattle.words.specs.Grounds.{first}
use Rattle.am9517.specs.Ranges.{valid}
use Rattle.am9517.specs.Refusals.{refused, refusal}
use Rattle.am9517.specs.Serving.{picked, granted}
use Rattle.am9517.specs.declared.Controller.{Controller}
use Rattle.am9517.specs.declared.refusals.Refusal.{Refusal}
use Rattle.am9517_service.specs.declared.Reason.{Reason}
use Rattle.am9517_service.specs.declared.Reason.TheVariants.{Ended, Dropped, Cascade, Limit, Short}
use Rattle.am9517_service.specs.declared.RoundEnd.TheVariants.{Done, Quiet, Stopped}
use Rattle.am9517_service.specs.World.{Stop, start_of}
use Rattle.am9517_service.specs.Bounds.{most_waits, most_transfers, most_states}
use Rattle.am9517_service.specs.Round.{after_next, Course, Close, close, beginning, nobody, run_next, with_run, is_ended, round_of}
use Rattle.am9517_service.specs.RoundAnswers.{closed, round_grounds, rounded_of}
use Rattle.words.proofs.ChoiceLaws.{when_hit, when_miss, never}
use Rattle.words.proofs.GroundLaws.{passed}
use Rattle.am9517.proofs.RangeLaws.{ranges, of_ranges}
use Rattle.am9517.proofs.KeepLaws.{granted_kept}
use Rattle.am9517_service.proofs.KeepLaws.{Counted, run_counted, Left, run_left_lem}
use Rattle.am9517_service.proofs.GrantLaws.{granted_open, granted_waits, picked_below}
use Rattle.am9517.proofs.RefusalLaws.{taken}
use Rattle.std.proofs.Common.{Some, Ok, Err}

-- What a round answers: refused, or the round.
pub round_refused : (c : Controller) (m d r : List ℕ) (k : ℕ) (why : Refusal) → refused (refusal (round_grounds c m k)) ≡ Some why → closed (close (beginning c m r) (Err why)) ≡ rounded_of c m d r k
unfolding rounded_of when
round_refused c m d r k why h = let t = taken (refusal (round_grounds c m k)) why h in simp (ne_eqb _ 0 t.0, t.1)

pub round_accepted : (c : Controller) (m d r : List ℕ) (k : ℕ) → refusal (round_grounds c m k) ≡ 0 → rounded_of c m d r k ≡ closed (round_of k d (beginning c m r))
unfolding rounded_of when
round_accepted c m d r k e = simp e

pub round_open : (c : Controller) (m : List ℕ) (k : ℕ) → refusal (round_grounds c m k) ≡ 0 → (valid c ≡ true) × (c.in_service ≡ 0) × (length m ≡ 65536) × (k ≤ 4096)
unfolding refusal first
round_open c m k e =
    let good = passed _ _ _ (omega arith) e in
    let most = passed _ _ _ (omega arith) good.next in
    let size = passed _ _ _ (omega arith) most.next in
    let idle = passed _ _ _ (omega arith) size.next in
    (not-false _ good.test, eqb-true _ _ (not-false _ idle.test), eqb-true _ _ (not-false _ size.test), ltb-false _ _ most.test)

-- a reason that is "ended"
pub ended_is : (e : Reason) → is_ended e ≡ true → e ≡ Ended
ended_is Ended h = refl
ended_is Dropped h = never (sym h)
ended_is Cascade h = never (sym h)
ended_is Limit h = never (sym h)
ended_is Short h = never (sym h)

-- one service more of a channel
one_more : (l : List ℕ) (n b : ℕ) → ((i : ℕ) → get_or l i 0 ≤ b) → (i : ℕ) → get_or (set l n (get_or l n 0 + 1)) i 0 ≤ b + 1
one_more [] n b h i = omega (arith, h i)
one_more (x ∷ xs) zero b h zero = omega (arith, h 0)
one_more (x ∷ xs) zero b h (suc i) = omega (arith, h (suc i))
one_more (x ∷ xs) (suc n) b h zero = omega (arith, h 0)
one_more (x ∷ xs) (suc n) b h (suc i) = one_more xs n b (λ k. h (suc k)) i

-- a tail come back in its length leaves the length
pub tail_length : (a : ℕ) (xs ys : List ℕ) → length ys ≡ length (drop a xs) → length (take a xs ++ ys) ≡ length xs
tail_length a xs ys e = length-append (take a xs) ys ∙ ap (λ (k : ℕ). length (take a xs) + k) e ∙ sym (length-append (take a xs) (drop a xs)) ∙ ap length (take-append-drop a xs)

-- What a round has counted, bounded by the services begun.
pub record Tally (d : List ℕ) (size begun : ℕ) (w : Course) : Type 0 where
  pub room : length w.room ≡ size
  pub used : w.totals.used ≤ length d
  pub written : w.totals.written ≤ size
  pub services : (i : ℕ) → get_or w.services i 0 ≤ begun
  pub transfers : w.totals.transfers ≤ begun * most_transfers
  pub states : w.totals.states ≤ begun * most_states
  pub waits : w.controller.waits ≤ most_waits

pub tally_start : (c : Controller) (m d r : List ℕ) → c.waits ≤ most_waits → Tally d (length r) 0 (beginning c m r)
tally_start c m d r h = record { room = refl; used = omega arith; written = omega arith; services = none; transfers = omega arith; states = omega arith; waits = h }
  where
    none : (j : ℕ) → get_or (0 ∷ 0 ∷ 0 ∷ 0 ∷ []) j 0 ≤ 0
    none zero = omega arith
    none (suc zero) = omega arith
    none (suc (suc zero)) = omega arith
    none (suc (suc (suc zero))) = omega arith
    none (suc (suc (suc (suc j)))) = omega arith

-- what the next service counts, and what it leaves
pub next_counted : (w : Course) (d : List ℕ) → Counted (length w.memory) (length (drop w.totals.written w.room)) (length (drop w.totals.used d)) 65536 w.controller.waits (run_next w d).world
unfolding run_next
next_counted w d =
    let n = picked w.controller in
    run_counted (length w.memory) (length (drop w.totals.written w.room)) w.controller.waits (drop w.totals.used d) 65536 0 (start_of (granted w.controller n) w.memory (drop w.totals.written w.room))
    (record { memory_length = refl; room_length = refl; used = omega arith; written = omega arith; transfers = omega arith; slow = granted_waits w.controller n; states = λ h. omega arith })

pub next_left : (w : Course) (d : List ℕ) → valid w.controller ≡ true → nobody w.controller ≡ false → Left (granted w.controller (picked w.controller)).lowest (run_next w d)
unfolding run_next
next_left w d v some =
    let n = picked w.controller in
    run_left_lem 65536 0 (drop w.totals.used d) (start_of (granted w.controller n) w.memory (drop w.totals.written w.room))
    (granted_kept w.controller (ranges w.controller v) n (picked_below w.controller some)) (granted_open w.controller n)

module _ (d : List ℕ) (size begun : ℕ) (w : Course) (t : Tally d size begun w) where
  abbrev counted : Counted (length w.memory) (length (drop w.totals.written w.room)) (length (drop w.totals.used d)) 65536 w.controller.waits (run_next w d).world
  counted = next_counted w d

  -- one service more
  pub tally_on : Tally d size (begun + 1) (after_next w d)
  unfolding with_run
  tally_on =
      let bytes = length-drop w.totals.used d in
      let space = length-drop w.totals.written w.room in
      record {
        room = tail_length w.totals.written w.room (run_next w d).world.room counted.room_length ∙ t.room;
        used = omega (arith, counted.used, bytes, t.used);
        written = omega (arith, counted.written, space, t.written, t.room);
        services = one_more w.services (picked w.controller) begun t.services;
        transfers = omega (arith, counted.transfers, t.transfers);
        states = omega (arith, counted.states t.waits, counted.transfers, t.states);
        waits = rw counted.slow t.waits;
      }

  memory_on : length (after_next w d).memory ≡ length w.memory
  unfolding with_run
  memory_on = counted.memory_length

-- Where a round stands: idle and in range, and what is left of it comes to o.
pub record Rolling (d : List ℕ) (size : ℕ) (o : Close) (left begun : ℕ) (w : Course) : Type 0 where
  pub range : valid w.controller ≡ true
  pub idle : w.controller.in_service ≡ 0
  pub memory : length w.memory ≡ 65536
  pub tally : Tally d size begun w
  pub same : round_of left d w ≡ o

module _ (d : List ℕ) (size : ℕ) (o : Close) (left begun : ℕ) (w : Course) (g : Rolling d size o left begun w) where
  pub rolling_done : left ≡ 0 → close w (Ok Done) ≡ o
  unfolding round_of
  rolling_done e = ap (λ (j : ℕ). round_of j d w) (sym e) ∙ g.same

  module _ (more : 0 < left) where
    goes : round_of (suc (left - 1)) d w ≡ o
    goes = let e : suc (left - 1) ≡ left = omega arith in ap (λ (j : ℕ). round_of j d w) e ∙ g.same

    pub rolling_quiet : nobody w.controller ≡ true → close w (Ok Quiet) ≡ o
    unfolding round_of first
    rolling_quiet h = sym (when_hit _ _ _ h) ∙ goes

    module _ (some : nobody w.controller ≡ false) (s : Stop) (is : run_next w d ≡ s) where
      abbrev n : ℕ
      n = picked w.controller

      -- how it goes on behind the run
      on : when (not (is_ended s.reason)) (close (with_run w n s) (Ok (Stopped s.reason))) (round_of (left - 1) d (with_run w n s)) ≡ o
      unfolding round_of first
      on =
          ap (λ (x : Stop). when (not (is_ended x.reason)) (close (with_run w n x) (Ok (Stopped x.reason))) (round_of (left - 1) d (with_run w n x))) (sym is)
          ∙ sym (when_miss _ _ _ some) ∙ goes

      pub rolling_stops : is_ended s.reason ≡ false → close (with_run w n s) (Ok (Stopped s.reason)) ≡ o
      rolling_stops h = sym (when_hit _ _ _ (ap not h)) ∙ on

      leaves : Left (granted w.controller n).lowest s
      leaves = rw is at (next_left w d g.range some)

      pub rolling_on : is_ended s.reason ≡ true → Rolling d size o (left - 1) (begun + 1) (with_run w n s)
      unfolding with_run
      rolling_on h =
          record {
            range = of_ranges _ leaves.ranges;
            idle = leaves.idle (ended_is s.reason h);
            memory = (rw is at (memory_on d size begun w g.tally)) ∙ g.memory;
            tally = rw is at (tally_on d size begun w g.tally);
            same = sym (when_miss _ _ _ (ap not h)) ∙ on;
          }

-- where a round begins
pub rolling_start : (k : ℕ) (c : Controller) (m d r : List ℕ) → valid c ≡ true → c.in_service ≡ 0 → c.waits ≤ most_waits → length m ≡ 65536 → Rolling d (length r) (round_of k d (beginning c m r)) k 0 (beginning c m r)
rolling_start k c m d r v i h size = record { range = v; idle = i; memory = size; tally = tally_start c m d r h; same = refl }

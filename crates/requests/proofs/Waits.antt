-- What wait states change, and that nothing else is changed by them.
use Prim.Native.Nat.{ℕ, ◌+◌, ◌*◌}
use mathlib.Core.Path.{◌≡◌, refl, sym, ap, ◌∙◌}
use mathlib.Core.Bool.{Bool, true, false, not}
use mathlib.Core.List.{List, [], ◌∷◌}
use native.Mathlib.Omega.{arith}
use lib.Dec.{eqb, ltb}
use borrow.Author.Tests.{eq-eqb}
use Rattle.words.specs.Choice.{when, ◌and◌}
use Rattle.words.specs.Grounds.{◌if◌, first}
use Rattle.am9517.specs.Ranges.{mode_valid, modes_valid, fields_valid, service_valid, valid}
use Rattle.am9517.specs.Refusals.{refusal, idle, busy}
use Rattle.am9517.specs.Answers.{outcome, waits_of}
use Rattle.am9517.specs.declared.Controller.{Controller}
use Rattle.am9517_service.specs.Counts.{counts}
use Rattle.am9517_service.specs.World.{start_of, Stop}
use Rattle.am9517_service.specs.Run.{run_of}
use Rattle.am9517_service.specs.Answers.{given, stopped, refused_of, wrong_size, run_grounds, ran_of}
use Rattle.am9517_service.specs.Round.{beginning, Close, close, round_of}
use Rattle.am9517_service.specs.RoundAnswers.{closed, round_grounds, rounded_of}
use Rattle.requests.specs.Waits.{waiting, more, ran_slower, unhurried, SlowCards}
use Rattle.words.proofs.ChoiceLaws.{when_over}
use Rattle.requests.proofs.LastLaws.{waits_kept}
use Rattle.requests.proofs.SlowRunLaws.{slow_stop}
use Rattle.requests.proofs.SlowRoundLaws.{started_slow, bare_close, round_bare}
use Rattle.std.proofs.Common.{None, Ok, Err}
use Rattle.am9517.specs.Refusals.{numbered}

-- no range speaks of wait states
valid_waiting : (n : ℕ) (s : Controller) → valid (waiting n s) ≡ valid s
unfolding ◌and◌ mode_valid modes_valid fields_valid service_valid valid
valid_waiting n s = refl

taken_when_idle : (s : Controller) (n : ℕ) → valid s ≡ true → s.in_service ≡ 0 → waits_of s n ≡ record { controller = waiting n s; answer = Ok None }
unfolding outcome refusal first when
taken_when_idle s n v i = simp (v, eq-eqb _ _ i)

module _ (s : Controller) (m d r : List ℕ) (limit eop : ℕ) where
  run_number : refusal (run_grounds s m) ≡ refusal (run_grounds (waiting 0 s) m)
  run_number = ap (λ (v : Bool). refusal (1 if not v ∷ 7 if wrong_size m ∷ 8 if idle s ∷ [])) (sym (valid_waiting 0 s))

  none_spent : 0 ≡ 0 + 0 * more s
  none_spent = omega arith

  stopped_slow : (x : Stop) → stopped (slow_stop s.waits (more s) d x) ≡ ran_slower s.waits (more s) (stopped x)
  unfolding stopped
  stopped_slow x = refl

  ran_slow : ran_of s m d r limit eop ≡ ran_slower s.waits (more s) (ran_of (waiting 0 s) m d r limit eop)
  unfolding ran_of
  ran_slow =
      rw run_number
      (when_over (ran_slower s.waits (more s)) (eqb (refusal (run_grounds (waiting 0 s) m)) 0)
      (λ e. ap stopped (started_slow s m d r limit eop) ∙ stopped_slow (run_of limit eop d (start_of (waiting 0 s) m r)))
      (λ e. ap (λ (k : ℕ). given (record { controller = s; answer = (refused_of s (refusal (run_grounds (waiting 0 s) m))).answer; counts = counts 0 0 0 k }) m r) none_spent))

module _ (s : Controller) (m d r : List ℕ) (k : ℕ) where
  round_number : refusal (round_grounds s m k) ≡ refusal (round_grounds (waiting 0 s) m k)
  round_number = ap (λ (v : Bool). refusal (1 if not v ∷ 2 if ltb 4096 k ∷ 7 if wrong_size m ∷ 3 if busy s ∷ [])) (sym (valid_waiting 0 s))

  closed_bare : (x : Close) → unhurried (closed x) ≡ closed (bare_close x)
  unfolding closed
  closed_bare x = refl

  rounded_slow : unhurried (rounded_of s m d r k) ≡ unhurried (rounded_of (waiting 0 s) m d r k)
  unfolding rounded_of when
  rounded_slow = rw round_number (go (eqb (refusal (round_grounds (waiting 0 s) m k)) 0))
    where
      n : ℕ
      n = refusal (round_grounds (waiting 0 s) m k)

      both : (x y : Close) → bare_close x ≡ bare_close y → unhurried (closed x) ≡ unhurried (closed y)
      both x y e = closed_bare x ∙ ap closed e ∙ sym (closed_bare y)

      go : (t : Bool) → unhurried (when t (closed (round_of k d (beginning s m r))) (closed (close (beginning s m r) (Err (numbered n))))) ≡ unhurried (when t (closed (round_of k d (beginning (waiting 0 s) m r))) (closed (close (beginning (waiting 0 s) m r) (Err (numbered n)))))
      go true = both _ _ (round_bare d k (beginning s m r))
      go false = both (close (beginning s m r) (Err (numbered n))) (close (beginning (waiting 0 s) m r) (Err (numbered n))) refl

pub slow_cards_lem : SlowCards
slow_cards_lem = record { fresh = λ e. refl; taken = taken_when_idle; kept = waits_kept; run = ran_slow; round = rounded_slow }

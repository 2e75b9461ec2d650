-- One round with wait states and without: its services do the same, and what they count differs in the states.
use Prim.Native.Nat.{ℕ, zero, suc, ◌+◌, ◌*◌}
use mathlib.Core.Path.{◌≡◌, refl, sym, ap, ◌∙◌}
use mathlib.Core.Bool.{not}
use mathlib.Core.List.{List}
use native.Mathlib.Omega.{arith}
use lib.Dec.{eqb}
use lib.ListN.{drop}
use Rattle.words.specs.Grounds.{first}
use Rattle.am9517.specs.Serving.{active, request_counts, entitled, set_of, picked, granted}
use Rattle.am9517.specs.declared.Controller.{Controller}
use Rattle.am9517_service.specs.Counts.{counts}
use Rattle.am9517_service.specs.World.{start_of, memory_to_memory, Stop}
use Rattle.am9517_service.specs.Run.{run_of}
use Rattle.am9517_service.specs.Round.{Course, course, run_next, with_run, after_next, is_ended, Close, close, round_of}
use Rattle.requests.specs.Waits.{waiting, more}
use Rattle.words.proofs.ChoiceLaws.{when_over, when_hit, when_miss}
use Rattle.requests.proofs.EditionRoundLaws.{turn, round_over, round_turns}
use Rattle.requests.proofs.SlowRunLaws.{slow_stop, run_slow}

-- a run from its beginning
pub started_slow : (s : Controller) (m d r : List ℕ) (limit eop : ℕ)
    → run_of limit eop d (start_of s m r) ≡ slow_stop s.waits (more s) d (run_of limit eop d (start_of (waiting 0 s) m r))
unfolding memory_to_memory
started_slow s m d r limit eop =
    let none : 0 ≡ 0 + 0 * more s = omega arith in
    ap (λ (k : ℕ). run_of limit eop d (record { controller = s; memory = m; room = r; counts = counts 0 0 0 k })) none
    ∙ run_slow s.waits (more s) d eop limit (start_of (waiting 0 s) m r) (record { none = refl; copy = λ e. when_hit _ _ _ e; other = λ e. when_miss _ _ _ e })

-- a course, and a close, but for the wait states and the states
abbrev pub bare : Course → Course
bare w =
    let n = w.totals in
    course (waiting 0 w.controller) w.memory w.room w.services (counts n.transfers n.used n.written 0)

abbrev pub bare_close : Close → Close
bare_close k = close (bare k.course) k.answer

picked_bare : (s : Controller) → picked (waiting 0 s) ≡ picked s
unfolding picked set_of entitled active request_counts
picked_bare s = refl

granted_bare : (s : Controller) (n : ℕ) → granted (waiting 0 s) n ≡ waiting 0 (granted s n)
unfolding granted
granted_bare s n = refl

module _ (d : List ℕ) where
  -- a turn of the round asks of its run the reason alone
  turn_bare : (x v : Course) (next : ℕ) (s : Stop) (rest : Close) → bare_close (turn d x v next s rest) ≡ turn d (bare x) (bare v) next s (bare_close rest)
  unfolding turn first
  turn_bare x v next s rest =
      sym (when_over bare_close (eqb next 4) (λ t. refl) (λ t. when_over bare_close (not (is_ended s.reason)) (λ u. refl) (λ u. refl)))

  turn_slow : (n each : ℕ) (b : List ℕ) (x v : Course) (next : ℕ) (s : Stop) (rest : Close) → turn d x v next (slow_stop n each b s) rest ≡ turn d x v next s rest
  unfolding turn
  turn_slow n each b x v next s rest = refl

  module _ (w : Course) where
    abbrev c : Controller
    c = w.controller

    abbrev g : Controller
    g = granted c (picked c)

    abbrev bytes : List ℕ
    bytes = drop w.totals.used d

    next_slow : run_next w d ≡ slow_stop g.waits (more g) bytes (run_next (bare w) d)
    unfolding run_next
    next_slow =
        let space = drop w.totals.written w.room in
        started_slow g w.memory bytes space 65536 0
        ∙ ap (λ (x : Controller). slow_stop g.waits (more g) bytes (run_of 65536 0 bytes (start_of x w.memory space))) (sym (ap (granted (waiting 0 c)) (picked_bare c) ∙ granted_bare c (picked c)))

    after_bare : bare (after_next w d) ≡ bare (after_next (bare w) d)
    unfolding with_run
    after_bare =
        ap (λ (s : Stop). bare (with_run w (picked c) s)) next_slow
        ∙ ap (λ (k : ℕ). bare (with_run w k (slow_stop g.waits (more g) bytes (run_next (bare w) d)))) (sym (picked_bare c))

  pub round_bare : (left : ℕ) (w : Course) → bare_close (round_of left d w) ≡ bare_close (round_of left d (bare w))
  round_bare zero w = ap bare_close (round_over d w) ∙ sym (ap bare_close (round_over d (bare w)))
  round_bare (suc left) w =
      let v = after_next w d in
      let u = after_next (bare w) d in
      let rest : bare_close (round_of left d v) ≡ bare_close (round_of left d u) =
      round_bare left v ∙ ap (λ (x : Course). bare_close (round_of left d x)) (after_bare w) ∙ sym (round_bare left u) in
      ap bare_close (round_turns d left w)
      ∙ turn_bare w v (picked w.controller) (run_next w d) (round_of left d v)
      ∙ ap (λ (s : Stop). turn d (bare w) (bare v) (picked w.controller) s (bare_close (round_of left d v))) (next_slow w)
      ∙ turn_slow (g w).waits (more (g w)) (bytes w) (bare w) (bare v) (picked w.controller) (run_next (bare w) d) (bare_close (round_of left d v))
      ∙ ap (λ (x : Course). turn d (bare w) x (picked w.controller) (run_next (bare w) d) (bare_close (round_of left d v))) (after_bare w)
      ∙ ap (λ (k : ℕ). turn d (bare w) (bare u) k (run_next (bare w) d) (bare_close (round_of left d v))) (sym (picked_bare w.controller))
      ∙ ap (turn d (bare w) (bare u) (picked (waiting 0 w.controller)) (run_next (bare w) d)) rest
      ∙ sym (turn_bare (bare w) u (picked (waiting 0 w.controller)) (run_next (bare w) d) (round_of left d u))
      ∙ sym (ap bare_close (round_turns d left (bare w)))

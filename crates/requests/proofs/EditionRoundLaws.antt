-- One round in both editions: it has no EOP, so they differ in nothing.
use Prim.Native.Nat.{ℕ, zero, suc}
use mathlib.Core.Path.{◌≡◌, refl, sym, ap, ◌∙◌}
use mathlib.Core.Bool.{not}
use mathlib.Core.List.{List, [], ◌∷◌}
use lib.Dec.{eqb}
use lib.ListN.{drop}
use Rattle.words.specs.Choice.{when}
use Rattle.words.specs.Grounds.{◌if◌, first}
use Rattle.am9517.specs.Fields.{put, Edition}
use Rattle.am9517.specs.Serving.{active, request_counts, entitled, set_of, picked, granted}
use Rattle.am9517.specs.declared.Controller.{Controller}
use Rattle.am9517_service.specs.World.{start_of, with_controller, Stop, stop}
use Rattle.am9517_service.specs.Ends.{counting}
use Rattle.am9517_service.specs.Run.{run_of}
use Rattle.am9517_service.specs.Round.{Course, course, run_next, with_run, after_next, is_ended, Close, close, round_of}
use Rattle.demands.specs.Operations.{next}
use Rattle.words.proofs.ChoiceLaws.{when_over}
use Rattle.requests.proofs.LastLaws.{next_lasts}
use Rattle.requests.proofs.EditionRunLaws.{in_world, in_stop, run_in}
use Rattle.std.proofs.Common.{Ok}
use Rattle.am9517_service.specs.declared.RoundEnd.TheVariants.{Done, Quiet, Stopped}

-- A round: its course in this edition.
abbrev pub in_course : ℕ → Course → Course
in_course e w = course (put w.controller Edition e) w.memory w.room w.services w.totals

abbrev pub in_close : Close → Close
in_close k = close (in_course 1 k.course) k.answer

pub picked_in : (e : ℕ) (s : Controller) → picked (put s Edition e) ≡ picked s
unfolding picked set_of entitled active request_counts
picked_in e s = refl

pub granted_in : (e : ℕ) (s : Controller) (n : ℕ) → granted (put s Edition e) n ≡ put (granted s n) Edition e
unfolding granted
granted_in e s n = refl

-- a run without EOP: the edition alone differs
abbrev plain : Stop → Stop
plain s = stop (with_controller s.world (put s.world.controller Edition 1)) s.reason

without_eop : (n : ℕ) (s : Stop) → in_stop 0 n s ≡ plain s
unfolding when
without_eop n s = refl

module _ (d : List ℕ) where
  next_in : (w : Course) → run_next (in_course 1 w) d ≡ plain (run_next (in_course 0 w) d)
  unfolding run_next
  next_in w =
      let c = w.controller in
      let start = start_of (granted c (picked c)) w.memory (drop w.totals.written w.room) in
      let rest = drop w.totals.used d in
      rw (picked_in 1 c, picked_in 0 c, granted_in 1 c (picked c), granted_in 0 c (picked c))
      (run_in 0 (counting start.controller) rest 65536 start refl (λ z. absurd (z refl)) ∙ without_eop (counting start.controller) (run_of 65536 0 rest (in_world 0 start)))

  with_run_in : (w : Course) (n : ℕ) (s : Stop) → with_run (in_course 1 w) n (plain s) ≡ in_course 1 (with_run (in_course 0 w) n s)
  unfolding with_run
  with_run_in w n s = refl

  after_in : (w : Course) → after_next (in_course 1 w) d ≡ in_course 1 (after_next (in_course 0 w) d)
  after_in w = rw (picked_in 1 w.controller, picked_in 0 w.controller, next_in w) (with_run_in w (picked w.controller) (run_next (in_course 0 w) d))

  -- one service of a round, and the rest of it
  unfoldable pub turn : Course → Course → ℕ → Stop → Close → Close
  turn x v next s rest = first (close x (Ok Quiet) if eqb next 4 ∷ []) (first (close v (Ok (Stopped s.reason)) if not (is_ended s.reason) ∷ []) rest)

  pub round_over : (w : Course) → round_of 0 d w ≡ close w (Ok Done)
  unfolding round_of
  round_over w = refl

  pub round_turns : (left : ℕ) (w : Course) → round_of (suc left) d w ≡ turn w (after_next w d) (picked w.controller) (run_next w d) (round_of left d (after_next w d))
  unfolding round_of turn
  round_turns left w = refl

  turn_in : (x v : Course) (next : ℕ) (s : Stop) (rest rest' : Close) → rest' ≡ in_close rest
      → turn (in_course 1 x) (in_course 1 v) next (plain s) rest' ≡ in_close (turn x v next s rest)
  unfolding turn first
  turn_in x v next s rest rest' same = when_over in_close (eqb next 4) (λ t. refl) (λ t. when_over in_close (not (is_ended s.reason)) (λ u. refl) (λ u. same))

  pub round_in : (left : ℕ) (w : Course) → round_of left d (in_course 1 w) ≡ in_close (round_of left d (in_course 0 w))
  round_in zero w = round_over (in_course 1 w) ∙ sym (ap in_close (round_over (in_course 0 w)))
  round_in (suc left) w =
      let one = in_course 1 w in
      let none = in_course 0 w in
      let c = w.controller in
      let v = after_next none d in
      let here : in_course 0 v ≡ v = ap (λ (e : ℕ). in_course e v) (sym (next_lasts d none).0) in
      let rest : round_of left d (in_course 1 v) ≡ in_close (round_of left d v) = round_in left v ∙ ap (λ (x : Course). in_close (round_of left d x)) here in
      round_turns left one
      ∙ ap (λ (x : Course). turn one x (picked one.controller) (run_next one d) (round_of left d x)) (after_in w)
      ∙ ap (λ (x : Stop). turn one (in_course 1 v) (picked one.controller) x (round_of left d (in_course 1 v))) (next_in w)
      ∙ ap (λ (x : ℕ). turn one (in_course 1 v) x (plain (run_next none d)) (round_of left d (in_course 1 v))) (picked_in 1 c ∙ sym (picked_in 0 c))
      ∙ turn_in none v (picked none.controller) (run_next none d) (round_of left d v) _ rest
      ∙ sym (ap in_close (round_turns left none))

-- A round on the board is its calls: each service is a grant and the run behind it, of the chip that gets the bus.
use Prim.Native.Nat.{ℕ, zero, suc}
use mathlib.Core.Path.{◌≡◌, refl, sym, ◌∙◌, ap, subst}
use mathlib.Core.Bool.{Bool, true, false, not}
use mathlib.Core.List.{List, [], ◌∷◌, ◌++◌}
use lib.Dec.{eqb, eqb-zero-suc, eqb-suc-suc}
use lib.ListN.{length, drop}
use lib.Seq.{drop-drop}
use borrow.Author.Tests.{eqb-true, eqb-false, eq-eqb, not-true, not-false}
use Rattle.words.specs.Choice.{when}
use Rattle.words.specs.Grounds.{◌if◌, first}
use Rattle.am9517.specs.Refusals.{refusal, busy}
use Rattle.am9517.specs.Serving.{picked}
use Rattle.am9517.specs.Answers.{refusal_number}
use Rattle.am9517.specs.declared.Controller.{Controller}
use Rattle.am9517_service.specs.declared.Reason.{Reason}
use Rattle.am9517_service.specs.declared.Reason.TheVariants.{Ended, Dropped, Limit}
use Rattle.am9517_service.specs.Round.{RoundAnswer}
use Rattle.am9517_service.specs.World.{Stop}
use Rattle.am9517_service.specs.Answers.{Given, given, run_refusal_number, wrong_size, stopped, ran_of}
use Rattle.am9517_service.specs.Round.{Course, course, nobody, run_next, with_run, after_next, is_ended}
use Rattle.board.specs.declared.Board.{Board}
use Rattle.board.specs.declared.Chip.{Chip}
use Rattle.board.specs.declared.Chip.TheVariants.{First, Second}
use Rattle.board.specs.declared.BoardOutcome.{BoardOutcome}
use Rattle.board.specs.Chips.{other, chip, with_chip}
use Rattle.board.specs.Bus.{winner, winning, winning_channel, quiet, turned_to, granted_to}
use Rattle.board.specs.Ranges.{pair_valid, serves}
use Rattle.board.specs.Refusals.{board_run_grounds, board_round_grounds}
use Rattle.board.specs.Answers.{board_grant_of}
use Rattle.board.specs.Runs.{server, BoardGiven, served_by, board_ran_of}
use Rattle.board.specs.Round.{BoardCourse, board_beginning, service_next, with_service, after_service, BoardClose, board_close, board_round_of}
use Rattle.board.specs.RoundAnswers.{BoardRoundGiven, board_round_given, board_closed, board_rounded_of}
use Rattle.demands.specs.Lists.{count}
use Rattle.demands.specs.Rounds.{has_ended, sums, closing, Words}
use Rattle.board_demands.specs.Operations.{BoardOp, Grant, Run, Round, next, after_all, said}
use Rattle.board_demands.specs.Grants.{BoardGranted, granted, told, round_grants, made, grants, channels}
use Rattle.board_demands.specs.Rounds.{board_calls_from, board_calls, served, runs, BoardAccepted, IsBoardCalls, BoardRoundIsCalls, BoardRoundStops}
use Rattle.words.proofs.ChoiceLaws.{when_both, when_each, when_hit, when_miss, never}
use Rattle.board.proofs.ChipLaws.{chip_put}
use Rattle.board.proofs.OutcomeLaws.{winner_wants}
use Rattle.demands.proofs.RunLists.{none_plus, drop_more, Come, come_nowhere, come_on}
use Rattle.demands.proofs.Rounds.{Other, next_undropped, next_unlimited, next_words}
use Rattle.board_demands.proofs.Refusals.{round_refused, board_says}
use Rattle.board_demands.proofs.Ranges.{Valid, board_ranges_kept, Stands, round_stands, stands_on, granted_open, who, g, ran, still, left_room}
use Rattle.board_demands.proofs.Fairness.{turned_chip, grant_made}
use Rattle.board_demands.proofs.Reports.{board_reports}
use Rattle.std.proofs.Common.{Some, Ok}
use Rattle.am9517_service.specs.declared.RoundEnd.TheVariants.{Done, Quiet, Stopped}

-- three choices by one test
when_three : {A B C : Type 0} (P : A → B → C → Type 0) (t : Bool) {a a' : A} {b b' : B} {c c' : C} → (t ≡ true → P a b c) → (t ≡ false → P a' b' c') → P (when t a a') (when t b b') (when t c c')
unfolding when
when_three P true h g = h refl
when_three P false h g = g refl

-- a chip that was granted, on a board whose other is idle, is the one that serves; its run leaves it granted last
turned_server : (b : Board) (which : Chip) (c : Controller) → busy c ≡ true → busy (chip b (other which)) ≡ false → server (turned_to b which c) ≡ which
unfolding server when
turned_server b First c h i = rw h refl
turned_server b Second c h i = rw i refl

turned_serves : (b : Board) (which : Chip) (c : Controller) → busy c ≡ true → busy (chip b (other which)) ≡ false → serves (turned_to b which c) ≡ true
turned_serves b First c h i = rw h refl
turned_serves b Second c h i = rw (i, h) refl

turned_again : (b : Board) (which : Chip) (c c' : Controller) → with_chip (turned_to b which c) which c' ≡ turned_to b which c'
turned_again b First c c' = refl
turned_again b Second c c' = refl

run_free : (b : Board) (m : List ℕ) → pair_valid b ≡ true → length m ≡ 65536 → serves b ≡ true → refusal (board_run_grounds b m) ≡ 0
unfolding refusal first when
run_free b m v h s = let size : wrong_size m ≡ false = ap not (eq-eqb _ _ h) in simp (v, size, s)

-- the device bytes not yet used, and the room behind the last byte written
abbrev bytes_left : List ℕ → BoardCourse → List ℕ
bytes_left d w = drop w.totals.used d

abbrev room_left_lem : BoardCourse → List ℕ
room_left_lem w = drop w.totals.written w.room

-- The calls that are left, of so many services, lead to where the round closes, by its grants; the last run's reason was e.
record Leads (w : BoardCourse) (e : Reason) (left : ℕ) (x : BoardClose) (gs : List BoardGranted) (ops : List BoardOp) : Type 0 where
  accepted : BoardAccepted w.board ops
  leaves : x.course.board ≡ after_all w.board ops
  makes : gs ≡ grants w.board ops
  come : Come w.memory w.room w.totals e x.course.memory x.course.room x.course.totals x.answer (eqb (length (grants w.board ops)) left) (runs w.board ops)

-- no calls are left
leads_nowhere : (w : BoardCourse) (e : Reason) (left : ℕ) (a : RoundAnswer) → a ≡ closing (Ok e) (eqb 0 left) → Leads w e left (board_close w a) [] []
leads_nowhere w e left a is =
    record { accepted = tt; leaves = refl; makes = refl; come = come_nowhere w.memory w.room w.totals e a (eqb 0 left) is }

module _ (d : List ℕ) (w : BoardCourse) (at : Stands w) (some : quiet w.board ≡ false) where
  abbrev b : Board
  b = w.board

  abbrev run : BoardOp
  run = Run w.memory (bytes_left d w) (room_left_lem w) 65536 0

  abbrev x : Stop
  x = service_next w d

  o : board_grant_of b ≡ record { board = granted_to b; answer = Ok (Some (winning_channel b)) }
  o = grant_made b at.range at.idle some

  g_busy : busy (g d w at some) ≡ true
  g_busy = ap not (granted_open (winning b) (picked (winning b)))

  is_server : server (granted_to b) ≡ who d w at some
  unfolding granted_to
  is_server = turned_server b (who d w at some) (g d w at some) g_busy (still d w at some)

  free : refusal (board_run_grounds (granted_to b) w.memory) ≡ 0
  unfolding granted_to
  free =
      run_free (granted_to b) w.memory (subst Valid (ap (λ (y : BoardOutcome). y.board) o) (board_ranges_kept.kept b Grant at.range (λ z. absurd z))) at.memory
      (turned_serves b (who d w at some) (g d w at some) g_busy (still d w at some))

  -- what the run gives: what the chip's own does, on the board
  ran_on_lem : board_ran_of (next b Grant) w.memory (bytes_left d w) (room_left_lem w) 65536 0 ≡ served_by (granted_to b) (who d w at some) (stopped x)
  unfolding board_ran_of granted_to
  ran_on_lem =
      ap (λ (y : BoardOutcome). board_ran_of y.board w.memory (bytes_left d w) (room_left_lem w) 65536 0) o
      ∙ when_hit _ _ _ (eq-eqb _ _ free)
      ∙ ap (λ (k : Chip). served_by (granted_to b) k (ran_of (chip (granted_to b) k) w.memory (bytes_left d w) (room_left_lem w) 65536 0)) is_server
      ∙ ap (λ (c : Controller). served_by (granted_to b) (who d w at some) (ran_of c w.memory (bytes_left d w) (room_left_lem w) 65536 0)) (turned_chip b (who d w at some) (g d w at some))
      ∙ ap (served_by (granted_to b) (who d w at some)) (ran d w at some)

  there : next (next b Grant) run ≡ (after_service w d).board
  unfolding stopped with_service granted_to
  there = ap (λ (y : BoardGiven). y.ran.board) ran_on_lem ∙ turned_again b (who d w at some) (g d w at some) x.world.controller

  seen : served (next b Grant) (board_ran_of (next b Grant) w.memory (bytes_left d w) (room_left_lem w) 65536 0) ≡ stopped x
  unfolding stopped
  seen =
      let c = x.world.controller in
      let with_it : Controller → Given = λ k. given (record { controller = k; answer = Ok x.reason; counts = x.world.counts }) x.world.memory x.world.room in
      ap (served (next b Grant)) ran_on_lem
      ∙ ap (λ (k : Chip). with_it (chip (with_chip (granted_to b) (who d w at some) c) k)) (ap (λ (y : BoardOutcome). server y.board) o ∙ is_server)
      ∙ ap with_it (chip_put (granted_to b) (who d w at some) c)

  says : said (next b Grant) run ≡ 0
  unfolding stopped
  says = ap (λ (z : BoardGiven). run_refusal_number z.ran.answer) ran_on_lem

  runs_two : (ops : List BoardOp) → runs b (Grant ∷ run ∷ ops) ≡ stopped x ∷ runs (after_service w d).board ops
  runs_two ops = ap (λ (y : Given). y ∷ runs (next (next b Grant) run) ops) seen ∙ ap (λ (y : Board). stopped x ∷ runs y ops) there

  grants_two : (ops : List BoardOp) → grants b (Grant ∷ run ∷ ops) ≡ granted b (winning_channel b) ∷ grants (after_service w d).board ops
  grants_two ops =
      ap (λ (y : BoardOutcome). told b y.answer ++ grants (next (next b Grant) run) ops) o ∙ ap (λ (y : Board). granted b (winning_channel b) ∷ grants y ops) there

  -- the room is handed on behind what was written, and so are the bytes not used
  behind : drop x.world.counts.written x.world.room ≡ room_left_lem (after_service w d)
  unfolding with_service
  behind = drop_more w.totals.written x.world.counts.written w.room x.world.room (left_room d w at some)

  unused : drop x.world.counts.used (bytes_left d w) ≡ bytes_left d (after_service w d)
  unfolding with_service
  unused = drop-drop x.world.counts.used w.totals.used d

  -- the grant and the run, and then these calls
  first_two : (e : Reason) (left : ℕ) (y : BoardClose) (gs : List BoardGranted) (ops : List BoardOp) → Leads (after_service w d) x.reason left y gs ops
      → Leads w e (suc left) y (granted b (winning_channel b) ∷ gs) (Grant ∷ run ∷ ops)
  unfolding with_service
  first_two e left y gs ops l =
      let all = grants_two ops in
      let to : Bool → List Given → Type 0 = Come w.memory w.room w.totals e y.course.memory y.course.room y.course.totals y.answer in
      let done : eqb (length (grants (after_service w d).board ops)) left ≡ eqb (length (grants b (Grant ∷ run ∷ ops))) (suc left) =
      sym (eqb-suc-suc (length (grants (after_service w d).board ops)) left) ∙ ap (λ (z : List BoardGranted). eqb (length z) (suc left)) (sym all) in
      record {
        accepted = (ap (λ (z : BoardOutcome). refusal_number z.answer) o, (says, subst (λ (z : Board). BoardAccepted z ops) (sym there) l.accepted));
        leaves = l.leaves ∙ ap (λ (z : Board). after_all z ops) (sym there);
        makes = ap (λ (z : List BoardGranted). granted b (winning_channel b) ∷ z) l.makes ∙ sym all;
        come =
            subst (λ (t : Bool). to t (runs b (Grant ∷ run ∷ ops))) done
            (subst (to (eqb (length (grants (after_service w d).board ops)) left)) (sym (runs_two ops))
            (come_on w.memory w.room w.totals e x _ _ _ _ _ _ (left_room d w at some) l.come));
      }

-- the calls behind a run that gave this
abbrev calls_after : ℕ → List ℕ → BoardGiven → List BoardOp
calls_after left d y =
    first ([] if not (has_ended y.ran.answer) ∷ [])
    (board_calls_from left y.ran.board y.memory (drop y.ran.counts.used d) (drop y.ran.counts.written y.room))

-- the round stops behind this service, or goes on; and so do its grants
abbrev stop_or_on : ℕ → List ℕ → BoardCourse → BoardClose
stop_or_on left d w =
    first (board_close (after_service w d) (Ok (Stopped (service_next w d).reason)) if not (is_ended (service_next w d).reason) ∷ []) (board_round_of left d (after_service w d))

abbrev grants_after : ℕ → List ℕ → BoardCourse → List BoardGranted
grants_after left d w = first ([] if not (is_ended (service_next w d).reason) ∷ []) (round_grants left d (after_service w d))

module _ (left : ℕ) (d : List ℕ) (w : BoardCourse) (at : Stands w) (some : quiet w.board ≡ false) where
  abbrev why : Reason
  why = (service_next w d).reason

  abbrev on : BoardCourse
  on = after_service w d

  -- behind a run that ended the round goes on; behind any other it stops
  leads_behind : (is_ended why ≡ true → Leads on why left (board_round_of left d on) (round_grants left d on) (board_calls_from left on.board on.memory (bytes_left d on) (room_left_lem on)))
      → Leads on why left (stop_or_on left d w) (grants_after left d w) (calls_after left (bytes_left d w) (served_by (granted_to w.board) (who d w at some) (stopped (service_next w d))))
  unfolding stopped first with_service granted_to
  leads_behind further =
      when_three (Leads on why left) (not (is_ended why)) (λ u. leads_nowhere _ _ left _ (sym (when_miss (is_ended why) _ _ (not-true _ u))))
      (λ u. rw (turned_again w.board (who d w at some) (g d w at some) (service_next w d).world.controller, unused d w at some, behind d w at some) (further (not-false _ u)))

leads : (left : ℕ) (d : List ℕ) (w : BoardCourse) (e : Reason) → is_ended e ≡ true → Stands w
    → Leads w e left (board_round_of left d w) (round_grants left d w) (board_calls_from left w.board w.memory (bytes_left d w) (room_left_lem w))
unfolding board_round_of round_grants board_calls_from first
leads zero d w e h at = leads_nowhere w e 0 (Ok Done) (sym (when_hit (is_ended e) _ _ h ∙ when_hit (eqb 0 0) _ _ refl))
leads (suc left) d w e h at =
    when_three (Leads w e (suc left)) (quiet w.board)
    (λ none. leads_nowhere w e (suc left) (Ok Quiet) (sym (when_hit (is_ended e) _ _ h ∙ when_miss (eqb 0 (suc left)) _ _ (eqb-zero-suc left))))
    (λ some. first_two d w at some e left _ _ _
    (subst (λ (y : BoardGiven). Leads (after_service w d) (service_next w d).reason left (stop_or_on left d w) (grants_after left d w) (calls_after left (bytes_left d w) y)) (sym (ran_on_lem d w at some))
    (leads_behind left d w at some (λ u. leads left d (after_service w d) (service_next w d).reason u (stands_on d w at some u)))))

-- what a round gives that stopped in a course with an answer
abbrev gives : BoardCourse → RoundAnswer → BoardRoundGiven
gives w a = board_round_given (record { board = w.board; answer = a; services = w.services; totals = w.totals }) w.memory w.room

closed_gives : (w : BoardCourse) (a : RoundAnswer) → board_closed (board_close w a) ≡ gives w a
unfolding board_closed
closed_gives w a = refl

round_accepted : (b : Board) (m d r : List ℕ) (k : ℕ) → refusal (board_round_grounds b m k) ≡ 0 → board_rounded_of b m d r k ≡ board_closed (board_round_of k d (board_beginning b m r))
unfolding board_rounded_of
round_accepted b m d r k e = when_hit _ _ _ (eq-eqb _ _ e)

module _ (b : Board) (m d r : List ℕ) (k : ℕ) where
  is_calls : (y : BoardClose) (a : RoundAnswer) (gs : List BoardGranted) (ops : List BoardOp) → board_rounded_of b m d r k ≡ board_closed (board_close y.course a) → made b (Round m d r k) ≡ gs
      → (said b (Round m d r k) ≡ 0 → a ≡ y.answer) → Leads (board_beginning b m r) Ended k y gs ops → IsBoardCalls b m d r k ops
  is_calls y a gs ops gave mine same l =
      let is : board_rounded_of b m d r k ≡ gives y.course a = gave ∙ closed_gives y.course a in
      let makes : made b (Round m d r k) ≡ grants b ops = mine ∙ l.makes in
      record {
        accepted = l.accepted;
        leaves = ap (λ (z : BoardRoundGiven). z.rounded.board) is ∙ l.leaves;
        memory = ap (λ (z : BoardRoundGiven). z.memory) is ∙ l.come.memory;
        room = ap (λ (z : BoardRoundGiven). z.room) is ∙ l.come.room;
        makes = makes;
        reports = λ n. board_reports b m d r k n ∙ ap (λ (z : List BoardGranted). count n (channels z)) makes;
        totals = ap (λ (z : BoardRoundGiven). z.rounded.totals) is ∙ l.come.totals ∙ none_plus (sums (runs b ops));
        answers = λ free. ap (λ (z : BoardRoundGiven). z.rounded.answer) is ∙ same free ∙ l.come.answers;
      }

pub board_round_is_calls : BoardRoundIsCalls
board_round_is_calls b m d r k = go (eqb (refusal (board_round_grounds b m k)) 0) refl
  where
    go : (t : Bool) → eqb (refusal (board_round_grounds b m k)) 0 ≡ t → IsBoardCalls b m d r k (board_calls b m d r k)
    go true e =
        let free = eqb-true _ _ e in
        let there = board_round_of k d (board_beginning b m r) in
        subst (IsBoardCalls b m d r k) (sym (when_hit _ _ _ e))
        (is_calls b m d r k there there.answer _ _ (round_accepted b m d r k free) (when_hit _ _ _ e) (λ z. refl) (leads k d (board_beginning b m r) Ended refl (round_stands b m r k free)))
    go false e =
        let bad = eqb-false _ _ e in
        let a = closing (Ok Ended) (eqb 0 k) in
        subst (IsBoardCalls b m d r k) (sym (when_miss _ _ _ e))
        (is_calls b m d r k (board_close (board_beginning b m r) a) _ [] [] (round_refused b m d r k bad) (when_miss _ _ _ e) (λ z. absurd (bad (sym (board_says b (Round m d r k)) ∙ z))) (leads_nowhere (board_beginning b m r) Ended k a refl))

-- What no run of a round says that isn't "ended", the round doesn't say.
put_keeps : (Keeps : Controller → Type 0) (b : Board) (which : Chip) (c : Controller) → ((w : Chip) → Keeps (chip b w)) → Keeps c → (w : Chip) → Keeps (chip (turned_to b which c) w)
put_keeps Keeps b First c h k First = k
put_keeps Keeps b First c h k Second = h Second
put_keeps Keeps b Second c h k First = h First
put_keeps Keeps b Second c h k Second = k

module _ (e : Reason) (Keeps : Controller → Type 0)
    (other : (d : List ℕ) (w : Course) → Keeps w.controller → nobody w.controller ≡ false → is_ended (run_next w d).reason ≡ false → ¬ ((run_next w d).reason ≡ e))
    (keeps : (d : List ℕ) (w : Course) → Keeps w.controller → Keeps (after_next w d).controller) where
  -- the round of the chip that gets the bus, in which the next service is the next run
  abbrev winners : BoardCourse → Course
  winners w = course (winning w.board) w.memory w.room [] w.totals

  next_keeps : (d : List ℕ) (w : BoardCourse) → ((which : Chip) → Keeps (chip w.board which)) → (which : Chip) → Keeps (chip (after_service w d).board which)
  unfolding with_service with_run
  next_keeps d w k = put_keeps Keeps w.board (winner w.board) _ k (keeps d (winners w) (k (winner w.board)))

  round_other : (left : ℕ) (d : List ℕ) (w : BoardCourse) → ((which : Chip) → Keeps (chip w.board which)) → Other e (board_round_of left d w).answer
  unfolding board_round_of first
  round_other zero d w k = tt
  round_other (suc left) d w k =
      let P : BoardClose → Type 0 = λ x. Other e x.answer in
      when_each P (quiet w.board) (λ z. tt)
      (λ some. when_each P (not (is_ended (service_next w d).reason))
      (λ u. other d (winners w) (k (winner w.board)) (winner_wants w.board some) (not-true _ u)) (λ u. round_other left d (after_service w d) (next_keeps d w k)))

  never_said : (b : Board) (m d r : List ℕ) (k : ℕ) → ((which : Chip) → Keeps (chip b which)) → ¬ ((board_rounded_of b m d r k).rounded.answer ≡ Ok (Stopped e))
  unfolding board_rounded_of board_closed
  never_said b m d r k h is =
      subst (Other e) is (when_both (λ (y : BoardRoundGiven). Other e y.rounded.answer) _ (round_other k d (board_beginning b m r) h) tt) refl

each_words : (b : Board) → Words b.first → Words b.second → (which : Chip) → Words (chip b which)
each_words b one two First = one
each_words b one two Second = two

pub board_round_stops : BoardRoundStops
board_round_stops b m d r k =
    record {
      dropped = never_said Dropped (λ c. Unit) (λ d w h some u. next_undropped d w some) (λ d w h. tt) b m d r k (λ which. tt);
      limit = λ one two. never_said Limit Words (λ d w h some u. next_unlimited d w h) next_words b m d r k (each_words b one two);
      ended = never_said Ended (λ c. Unit) (λ d w h some u e. never (sym (ap is_ended e) ∙ u)) (λ d w h. tt) b m d r k (λ which. tt);
    }

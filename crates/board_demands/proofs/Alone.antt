-- A controller alone on the board does what it does without the board: what the board asks is what the chip asks, and then it is that chip's turn.
use Prim.Native.Nat.{ℕ, zero, suc, ◌+◌, ◌*◌, ◌/◌, ◌%◌, ◌≤◌, ◌<◌}
use mathlib.Core.Path.{◌≡◌, refl, sym, ap, subst, ◌∙◌}
use mathlib.Core.Bool.{Bool, true, false, not, ◌&&◌, ◌||◌}
use mathlib.Core.List.{List, [], ◌∷◌, ◌++◌}
use native.Mathlib.Omega.{arith}
use lib.Dec.{eqb, ltb}
use lib.ListN.{length, get_or, set, take, length-set, get_or-append}
use lib.Seq.{set-append_left}
use borrow.Author.Tests.{eqb-true, eqb-false, ne_eqb, eq-eqb, le-ltb, lt-ltb, ltb-true, ltb-false, leb-true, le-leb}
use Rattle.words.specs.Choice.{when, ◌and◌}
use Rattle.words.specs.Grounds.{Ground, ◌if◌, first}
use Rattle.am9517.specs.Fields.{put, Pins, Waits}
use Rattle.am9517.specs.State.{cleared}
use Rattle.am9517.specs.Modes.{mode_refused}
use Rattle.am9517.specs.Ranges.{fields_valid, valid}
use Rattle.am9517.specs.Refusals.{refusal, idle, busy, unreadable, unwritable, pins_grounds, waits_grounds, grant_grounds, reset_grounds}
use Rattle.am9517.specs.Registers.{after_write, value, after_read}
use Rattle.am9517.specs.Serving.{active, request_counts, entitled, set_of, entitled_set, picked_from, picked, granted}
use Rattle.am9517.specs.Answers.{outcome, pins_of, reset_of, grant_of}
use Rattle.am9517.specs.declared.Controller.{Controller}
use Rattle.am9517_service.specs.declared.Reason.{Reason}
use Rattle.am9517_service.specs.Counts.{plus}
use Rattle.am9517_service.specs.World.{Stop}
use Rattle.am9517_service.specs.Answers.{given, refused_of, run_grounds, ran_of}
use Rattle.am9517_service.specs.Round.{Course, course, beginning, nobody, run_next, with_run, after_next, is_ended, Close, close, round_of}
use Rattle.am9517_service.specs.RoundAnswers.{RoundGiven, closed, round_grounds, rounded_of}
use Rattle.board.specs.declared.Board.{Board}
use Rattle.board.specs.declared.Chip.{Chip}
use Rattle.board.specs.declared.Chip.TheVariants.{First, Second}
use Rattle.board.specs.declared.BoardOutcome.{BoardOutcome}
use Rattle.board.specs.Chips.{number_of, other, chip, with_chip, addressed, own, channel_of}
use Rattle.board.specs.Bus.{winner_of, winner, quiet, turned_to, granted_to, winning_channel}
use Rattle.board.specs.Ranges.{pair_valid, serves}
use Rattle.board.specs.Refusals.{access_grounds, board_pins_grounds, board_reset_grounds, board_waits_grounds, board_grant_grounds, board_run_grounds, board_round_grounds}
use Rattle.board.specs.Answers.{board_outcome, pinned, board_cleared, board_pins_of, board_reset_of, board_grant_of}
use Rattle.board.specs.Runs.{server, BoardGiven, board_given, refused_on, served_by, board_ran_of}
use Rattle.board.specs.Round.{BoardCourse, board_course, board_beginning, service_next, with_service, after_service, BoardClose, board_close, board_round_of}
use Rattle.board.specs.RoundAnswers.{BoardRoundGiven, board_closed, board_rounded_of}
use Rattle.board_demands.specs.Alone.{Aside, register_of, levels_of, outcome_on, grant_on, services_on, Alone}
use Rattle.board_demands.specs.Throughout.{reset_on, begun, RoundOnBus, AloneAndArbiter, next_on, behind, AloneThroughout}
use Rattle.words.proofs.ChoiceLaws.{when_both, when_hit, when_miss, both}
use Rattle.board.proofs.ChipLaws.{chip_back}
use Rattle.board.proofs.OutcomeLaws.{Pair, carried_is, picked_few, reset_passed, chip_reset, grant_passed}
use Rattle.board.proofs.RunLaws.{run_passed}
use Rattle.demands.specs.Operations as without
use Rattle.demands.proofs.Rounds.{when_two}
use Rattle.board_demands.proofs.Ranges.{cleared_valid}
use Rattle.std.proofs.Common.{Option, Some, None, Ok, Err}
use Rattle.am9517.specs.Refusals.{numbered}
use Rattle.am9517_service.specs.declared.RoundEnd.TheVariants.{Quiet, Stopped}

-- What the board asks is what the chip asks.
and_rest : (v k : Bool) → (v && (true && (true && not (k && false)))) ≡ v
and_rest true true = refl
and_rest true false = refl
and_rest false k = refl

or_idle : (k : Bool) → (k || false) ≡ k
or_idle true = refl
or_idle false = refl

and_quiet : (k : Bool) → (k && true) ≡ k
and_quiet true = refl
and_quiet false = refl

pair_own : (b : Board) (which : Chip) → Aside b which → pair_valid b ≡ valid (chip b which)
unfolding pair_valid ◌and◌
pair_own b First a = rw (a.range, a.idle, le-leb _ _ a.last) (and_rest (valid b.first) (busy b.first))
pair_own b Second a = rw (a.range, a.idle, le-leb _ _ a.last) (and_quiet (valid b.second))

serves_own : (b : Board) (which : Chip) → Aside b which → serves b ≡ busy (chip b which)
serves_own b First a = rw a.idle (or_idle (busy b.first))
serves_own b Second a = rw a.idle refl

quiet_own : (b : Board) (which : Chip) → nobody (chip b (other which)) ≡ true → quiet b ≡ nobody (chip b which)
unfolding quiet ◌and◌
quiet_own b First none = rw none (and_quiet (nobody b.first))
quiet_own b Second none = rw none refl

twice : (t : Bool) → not (not t) ≡ t
twice true = refl
twice false = refl

-- the register of a chip, on the board
register_over : (which : Chip) (r : ℕ) → ltb 15 r ≡ true → register_of which r ≡ 16 + r
unfolding register_of
register_over which r e = when_hit _ _ _ e

register_in : (which : Chip) (r : ℕ) → ltb 15 r ≡ false → register_of which r ≡ 16 * number_of which + r
unfolding register_of
register_in which r e = when_miss _ _ _ e

register_chip : (which : Chip) (r : ℕ) → r ≤ 15 → addressed (16 * number_of which + r) ≡ which
unfolding addressed when
register_chip First r h = let e : (16 * 0 + r) / 16 % 2 ≡ 0 = omega arith in simp (eq-eqb _ _ e)
register_chip Second r h = simp (ne_eqb ((16 * 1 + r) / 16 % 2) 0 (λ z. omega arith))

register_own : (which : Chip) (r : ℕ) → r ≤ 15 → own (16 * number_of which + r) ≡ r
register_own First r h = omega arith
register_own Second r h = omega arith

register_few : (which : Chip) (r : ℕ) → r ≤ 15 → ltb 31 (16 * number_of which + r) ≡ false
register_few First r h = le-ltb 31 (16 * 0 + r) (omega arith)
register_few Second r h = le-ltb 31 (16 * 1 + r) (omega arith)

-- refused, whatever would have come of it
refused_same : (n : ℕ) (b next next' : Board) (told told' : Option ℕ) → ¬ (n ≡ 0) → board_outcome n b next told ≡ board_outcome n b next' told'
unfolding board_outcome when
refused_same n b next next' told told' h = simp (ne_eqb n 0 h)

-- a ground that has failed does not hold behind
asked_once : (v s : Bool) (rest : ℕ) → when (not v) 1 (when false 2 (when s 3 (when (not v) 1 (when false 2 (when s 3 rest))))) ≡ when (not v) 1 (when false 2 (when s 3 rest))
unfolding when
asked_once true true rest = refl
asked_once true false rest = refl
asked_once false s rest = refl

asked_once_idle : (v s : Bool) (rest : ℕ) → when (not v) 1 (when s 3 (when (not v) 1 (when s 3 rest))) ≡ when (not v) 1 (when s 3 rest)
unfolding when
asked_once_idle true true rest = refl
asked_once_idle true false rest = refl
asked_once_idle false s rest = refl

over_refused : (v : Bool) (rest : ℕ) → ¬ (when (not v) 1 (when true 2 rest) ≡ 0)
unfolding when
over_refused true rest e = omega arith
over_refused false rest e = omega arith

over_same : (v : Bool) (rest rest' : ℕ) → when (not v) 1 (when true 2 rest) ≡ when (not v) 1 (when true 2 rest')
unfolding when
over_same true rest rest' = refl
over_same false rest rest' = refl

-- a register access, by what a chip asks behind 1, 2 and 3, leaves and tells
module _ (b : Board) (which : Chip) (a : Aside b which)
    (further : Controller → ℕ → List (Ground ℕ)) (next : Controller → ℕ → Controller) (told : Controller → ℕ → Option ℕ) where
  abbrev G : Controller → ℕ → List (Ground ℕ)
  G k r = 1 if not (valid k) ∷ 2 if ltb 15 r ∷ 3 if busy k ∷ further k r

  abbrev c : Controller
  c = chip b which

  abbrev on : ℕ → Chip → ℕ → BoardOutcome
  on R w o = board_outcome (refusal (access_grounds b R (G (chip b w) o))) b (with_chip b w (next (chip b w) o)) (told (chip b w) o)

  access_number : (R : ℕ) (w : Chip) (o : ℕ) → refusal (access_grounds b R (G (chip b w) o)) ≡ when (not (valid c)) 1 (when (ltb 31 R) 2 (when (busy c) 3 (refusal (G (chip b w) o))))
  unfolding refusal first
  access_number R w o = rw (pair_own b which a, serves_own b which a) refl

  own_number : (r : ℕ) → refusal (G c r) ≡ when (not (valid c)) 1 (when (ltb 15 r) 2 (when (busy c) 3 (first (further c r) 0)))
  unfolding refusal first
  own_number r = refl

  access_own : (r : ℕ) → on (register_of which r) (addressed (register_of which r)) (own (register_of which r)) ≡ outcome_on b which (outcome (refusal (G c r)) c (next c r) (told c r))
  access_own r = go (ltb 15 r) refl
    where
      there : outcome_on b which (outcome (refusal (G c r)) c (next c r) (told c r)) ≡ board_outcome (refusal (G c r)) b (with_chip b which (next c r)) (told c r)
      there = carried_is _ b which (next c r) (told c r) _ refl

      go : (t : Bool) → ltb 15 r ≡ t → on (register_of which r) (addressed (register_of which r)) (own (register_of which r)) ≡ outcome_on b which (outcome (refusal (G c r)) c (next c r) (told c r))
      go true e =
          let R = 16 + r in
          let over : ltb 31 R ≡ true = lt-ltb 31 (16 + r) (omega (arith, ltb-true 15 r e)) in
          let mine : refusal (G c r) ≡ when (not (valid c)) 1 (when true 2 (when (busy c) 3 (first (further c r) 0))) = own_number r ∙ rw e refl in
          let here : refusal (access_grounds b R (G (chip b (addressed R)) (own R))) ≡ refusal (G c r) =
          access_number R (addressed R) (own R) ∙ rw over (over_same (valid c) _ _) ∙ sym mine in
          ap (λ (x : ℕ). on x (addressed x) (own x)) (register_over which r e)
          ∙ ap (λ (n : ℕ). board_outcome n b (with_chip b (addressed R) (next (chip b (addressed R)) (own R))) (told (chip b (addressed R)) (own R))) here
          ∙ refused_same _ b _ _ _ _ (λ z. over_refused (valid c) _ (sym mine ∙ z))
          ∙ sym there
      go false e =
          let R = 16 * number_of which + r in
          let h : r ≤ 15 = ltb-false _ _ e in
          let here : refusal (access_grounds b R (G c r)) ≡ refusal (G c r) =
          access_number R which r ∙ rw (register_few which r h, own_number r, e) (asked_once (valid c) (busy c) (first (further c r) 0)) in
          ap (λ (x : ℕ). on x (addressed x) (own x)) (register_in which r e)
          ∙ ap (λ (w : Chip). on R w (own R)) (register_chip which r h)
          ∙ ap (λ (o : ℕ). on R which o) (register_own which r h)
          ∙ ap (λ (n : ℕ). board_outcome n b (with_chip b which (next c r)) (told c r)) here
          ∙ sym there

-- wait states
waits_own : (b : Board) (which : Chip) → Aside b which → refusal (board_waits_grounds b which) ≡ refusal (waits_grounds (chip b which))
unfolding refusal first
waits_own b which a = rw (pair_own b which a, serves_own b which a) (asked_once_idle (valid (chip b which)) (busy (chip b which)) 0)

-- the levels of a chip in its ranges
pins_few : (c : Controller) → valid c ≡ true → c.pins ≤ 15
unfolding valid fields_valid
pins_few c v =
    let fields = (both _ _ (both _ _ v).right).left in
    leb-true _ _ (both _ _ (both _ _ (both _ _ (both _ _ fields).right).right).right).left

-- levels of a chip, on the board: as many as its own, and with the other's as they were
abbrev levels : Board → Chip → ℕ → ℕ
levels b First p = 16 * b.second.pins + p
levels b Second p = 16 * p + b.first.pins

levels_over : (b : Board) (which : Chip) (p : ℕ) → ltb 15 p ≡ true → levels_of b which p ≡ 256 + p
unfolding levels_of
levels_over b First p e = when_hit _ _ _ e
levels_over b Second p e = when_hit _ _ _ e

levels_in : (b : Board) (which : Chip) (p : ℕ) → ltb 15 p ≡ false → levels_of b which p ≡ levels b which p
unfolding levels_of
levels_in b First p e = when_miss _ _ _ e
levels_in b Second p e = when_miss _ _ _ e

levels_few : (b : Board) (which : Chip) (p : ℕ) → Aside b which → p ≤ 15 → levels b which p ≤ 255
levels_few b First p a h = omega (arith, pins_few b.second a.range)
levels_few b Second p a h = omega (arith, pins_few b.first a.range)

levels_pinned : (b : Board) (which : Chip) (p : ℕ) → Aside b which → p ≤ 15 → pinned b (levels b which p) ≡ with_chip b which (put (chip b which) Pins p)
levels_pinned b First p a h =
    let mine : (16 * b.second.pins + p) % 16 ≡ p = omega arith in
    let others : (16 * b.second.pins + p) / 16 ≡ b.second.pins = omega arith in
    ap (λ (x : ℕ). record { first = put b.first Pins x; second = put b.second Pins ((16 * b.second.pins + p) / 16); granted_last = b.granted_last }) mine
    ∙ ap (λ (x : ℕ). record { first = put b.first Pins p; second = put b.second Pins x; granted_last = b.granted_last }) others
levels_pinned b Second p a h =
    let few = pins_few b.first a.range in
    let mine : (16 * p + b.first.pins) / 16 ≡ p = omega arith in
    let others : (16 * p + b.first.pins) % 16 ≡ b.first.pins = omega arith in
    ap (λ (x : ℕ). record { first = put b.first Pins ((16 * p + b.first.pins) % 16); second = put b.second Pins x; granted_last = b.granted_last }) mine
    ∙ ap (λ (x : ℕ). record { first = put b.first Pins x; second = put b.second Pins p; granted_last = b.granted_last }) others

pins_number : (b : Board) (which : Chip) (P p : ℕ) → Aside b which → ltb 255 P ≡ ltb 15 p → refusal (board_pins_grounds b P) ≡ refusal (pins_grounds (chip b which) p)
unfolding refusal first
pins_number b which P p a e = rw (pair_own b which a, e) refl

pins_over : (c : Controller) (p : ℕ) → ltb 15 p ≡ true → ¬ (refusal (pins_grounds c p) ≡ 0)
unfolding refusal first
pins_over c p e = rw e (over_refused (valid c) 0)

pins_own : (b : Board) (which : Chip) → Aside b which → (p : ℕ) → board_pins_of b (levels_of b which p) ≡ outcome_on b which (pins_of (chip b which) p)
pins_own b which a p = go (ltb 15 p) refl
  where
    there : outcome_on b which (pins_of (chip b which) p) ≡ board_outcome (refusal (pins_grounds (chip b which) p)) b (with_chip b which (put (chip b which) Pins p)) None
    there = carried_is _ b which (put (chip b which) Pins p) None _ refl

    go : (t : Bool) → ltb 15 p ≡ t → board_pins_of b (levels_of b which p) ≡ outcome_on b which (pins_of (chip b which) p)
    go true e =
        let over : ltb 255 (256 + p) ≡ true = lt-ltb 255 (256 + p) (omega arith) in
        ap (board_pins_of b) (levels_over b which p e)
        ∙ ap (λ (n : ℕ). board_outcome n b (pinned b (256 + p)) None) (pins_number b which (256 + p) p a (over ∙ sym e))
        ∙ refused_same _ b _ _ _ _ (pins_over (chip b which) p e) ∙ sym there
    go false e =
        let h : p ≤ 15 = ltb-false _ _ e in
        let few : ltb 255 (levels b which p) ≡ false = le-ltb _ _ (levels_few b which p a h) in
        ap (board_pins_of b) (levels_in b which p e)
        ∙ ap (λ (n : ℕ). board_outcome n b (pinned b (levels b which p)) None) (pins_number b which (levels b which p) p a (few ∙ sym e))
        ∙ ap (λ (x : Board). board_outcome (refusal (pins_grounds (chip b which) p)) b x None) (levels_pinned b which p a h) ∙ sym there

-- a reset
reset_number : (b : Board) (which : Chip) → Aside b which → refusal (board_reset_grounds b) ≡ refusal (reset_grounds (chip b which))
unfolding refusal first
reset_number b which a = rw (pair_own b which a) refl

-- both chips took it
reset_both : (b : Board) → Pair b → board_cleared b ≡ record { first = (reset_of b.first).controller; second = (reset_of b.second).controller; granted_last = number_of Second }
reset_both b p =
    ap (λ (c : Controller). record { first = c; second = cleared b.second; granted_last = 1 }) (sym (chip_reset b.first p.first))
    ∙ ap (λ (c : Controller). record { first = (reset_of b.first).controller; second = c; granted_last = 1 }) (sym (chip_reset b.second p.second))

reset_said : (b : Board) (n : ℕ) (c to : Controller) (next : Board) → (n ≡ 0 → board_outcome 0 b next None ≡ reset_on b (Ok None))
    → board_outcome n b next None ≡ reset_on b (outcome n c to None).answer
unfolding outcome board_outcome when
reset_said b n c to next h = go (eqb n 0) refl
  where
    go : (t : Bool) → eqb n 0 ≡ t → record { board = when t next b; answer = when t (Ok None) (Err (numbered n)) } ≡ reset_on b (when t (Ok None) (Err (numbered n)))
    go true e = h (eqb-true _ _ e)
    go false e = refl

reset_own : (b : Board) (which : Chip) → Aside b which → board_reset_of b ≡ reset_on b (reset_of (chip b which)).answer
unfolding board_outcome when
reset_own b which a =
    let same = reset_number b which a in
    ap (λ (n : ℕ). board_outcome n b (board_cleared b) None) same
    ∙ reset_said b _ (chip b which) _ (board_cleared b) (λ e. ap (λ (x : Board). record { board = x; answer = Ok None }) (reset_both b (reset_passed b _ (sym same) e)))

-- the bus is that chip's, where it wants it
winner_own : (b : Board) (which : Chip) → nobody (chip b (other which)) ≡ true → nobody (chip b which) ≡ false → winner b ≡ which
unfolding winner_of when
winner_own b First none h = rw (h, none) refl
winner_own b Second none h = rw none refl

-- a grant
grant_number : (b : Board) (which : Chip) → Aside b which → refusal (board_grant_grounds b) ≡ refusal (grant_grounds (chip b which))
unfolding refusal first
grant_number b which a = rw (pair_own b which a, serves_own b which a, quiet_own b which a.quiet) refl

granted_own : (b : Board) (which : Chip) → winner b ≡ which → (n : ℕ) → n ≡ 0
    → board_outcome n b (granted_to b) (Some (winning_channel b)) ≡ grant_on b which (outcome n (chip b which) (granted (chip b which) (picked (chip b which))) (Some (picked (chip b which))))
unfolding board_outcome outcome granted_to when
granted_own b which w n e = rw (e, w) refl

ungranted_own : (b : Board) (which : Chip) (n : ℕ) → ¬ (n ≡ 0)
    → board_outcome n b (granted_to b) (Some (winning_channel b)) ≡ grant_on b which (outcome n (chip b which) (granted (chip b which) (picked (chip b which))) (Some (picked (chip b which))))
unfolding board_outcome outcome when
ungranted_own b which n e = simp (ne_eqb n 0 e)

grant_own : (b : Board) (which : Chip) → Aside b which → board_grant_of b ≡ grant_on b which (grant_of (chip b which))
grant_own b which a =
    let n = refusal (grant_grounds (chip b which)) in
    ap (λ (k : ℕ). board_outcome k b (granted_to b) (Some (winning_channel b))) (grant_number b which a) ∙ go (eqb n 0) refl
  where
    go : (t : Bool) → eqb (refusal (grant_grounds (chip b which))) 0 ≡ t
        → board_outcome (refusal (grant_grounds (chip b which))) b (granted_to b) (Some (winning_channel b)) ≡ grant_on b which (grant_of (chip b which))
    go true e =
        let free = eqb-true _ _ e in
        let some : nobody (chip b which) ≡ false = sym (quiet_own b which a.quiet) ∙ (grant_passed b _ (sym (grant_number b which a)) free).some in
        granted_own b which (winner_own b which a.quiet some) _ free
    go false e = ungranted_own b which _ (eqb-false _ _ e)

-- a run
server_own : (b : Board) (which : Chip) → Aside b which → busy (chip b which) ≡ true → server b ≡ which
unfolding server when
server_own b First a h = rw h refl
server_own b Second a h = rw a.idle refl

run_number : (b : Board) (which : Chip) (m : List ℕ) → Aside b which → refusal (board_run_grounds b m) ≡ refusal (run_grounds (chip b which) m)
unfolding refusal first
run_number b which m a = let s : not (serves b) ≡ idle (chip b which) = ap not (serves_own b which a) ∙ twice (idle (chip b which)) in rw (pair_own b which a, s) refl

ran_refused : (b : Board) (which : Chip) (n : ℕ) (m r : List ℕ) → board_given (refused_on b n) m r ≡ served_by b which (given (refused_of (chip b which) n) m r)
ran_refused b which n m r = ap (λ (x : Board). board_given (refused_on x n) m r) (sym (chip_back b which))

run_own : (b : Board) (which : Chip) → Aside b which → (m d r : List ℕ) (limit eop : ℕ) → board_ran_of b m d r limit eop ≡ served_by b which (ran_of (chip b which) m d r limit eop)
unfolding board_ran_of ran_of
run_own b which a m d r limit eop = go (eqb (refusal (board_run_grounds b m)) 0) refl
  where
    go : (t : Bool) → eqb (refusal (board_run_grounds b m)) 0 ≡ t → board_ran_of b m d r limit eop ≡ served_by b which (ran_of (chip b which) m d r limit eop)
    go true e =
        let busy = sym (serves_own b which a) ∙ (run_passed b m _ refl (eqb-true _ _ e)).serving in
        when_hit _ _ _ e ∙ ap (λ (w : Chip). served_by b w (ran_of (chip b w) m d r limit eop)) (server_own b which a busy)
    go false e =
        let same = run_number b which m a in
        when_miss _ _ _ e ∙ ran_refused b which (refusal (board_run_grounds b m)) m r
        ∙ ap (λ (n : ℕ). served_by b which (given (refused_of (chip b which) n) m r)) same
        ∙ ap (served_by b which) (sym (when_miss _ _ _ (ap (λ (n : ℕ). eqb n 0) (sym same) ∙ e)))

-- A round: the course of the chip by itself, on a board where the other stays.
abbrev placed : Chip → Controller → Controller → ℕ → Board
placed First c o last = record { first = c; second = o; granted_last = last }
placed Second c o last = record { first = o; second = c; granted_last = last }

abbrev on_board : Chip → Controller → ℕ → Course → BoardCourse
on_board which o last v = board_course (placed which v.controller o last) v.memory v.room (services_on which v.services) v.totals

-- one service more of the chip's channel n
service_counted : (which : Chip) (l : List ℕ) (n : ℕ) → n < length l
    → set (services_on which l) (channel_of which n) (get_or (services_on which l) (channel_of which n) 0 + 1) ≡ services_on which (set l n (get_or l n 0 + 1))
service_counted First l n h =
    let same : 4 * 0 + n ≡ n = omega arith in
    ap (λ (i : ℕ). set (services_on First l) i (get_or (services_on First l) i 0 + 1)) same
    ∙ ap (λ (x : ℕ). set (services_on First l) n (x + 1)) (get_or-append l _ 0 n h) ∙ set-append_left l _ n _ h
service_counted Second l n h =
    let same : 4 * 1 + n ≡ suc (suc (suc (suc n))) = omega arith in
    ap (λ (i : ℕ). set (services_on Second l) i (get_or (services_on Second l) i 0 + 1)) same

-- and one more in all
begun_more : (l : List ℕ) (n : ℕ) → n < length l → begun (set l n (get_or l n 0 + 1)) ≡ begun l + 1
begun_more [] n h = absurd (omega (arith, h))
begun_more (x ∷ l) zero h = omega arith
begun_more (x ∷ l) (suc n) h = omega (arith, begun_more l n (omega (arith, h)))

module _ (which : Chip) (o : Controller) (none : nobody o ≡ true) (d : List ℕ) where
  quiet_on : (c : Controller) (last : ℕ) → quiet (placed which c o last) ≡ nobody c
  quiet_on c last = go which
    where
      go : (w : Chip) → quiet (placed w c o last) ≡ nobody c
      go First = quiet_own (placed First c o last) First none
      go Second = quiet_own (placed Second c o last) Second none

  winner_on : (c : Controller) (last : ℕ) → nobody c ≡ false → winner (placed which c o last) ≡ which
  winner_on c last h = go which
    where
      go : (w : Chip) → winner (placed w c o last) ≡ w
      go First = winner_own (placed First c o last) First none h
      go Second = winner_own (placed Second c o last) Second none h

  -- the next service is the chip's own: it doesn't look at what was counted
  service_on : (last : ℕ) (v : Course) → nobody v.controller ≡ false → service_next (on_board which o last v) d ≡ run_next v d
  unfolding run_next
  service_on last v some =
      ap (λ (w : Chip). run_next (course (chip (placed which v.controller o last) w) v.memory v.room [] v.totals) d) (winner_on v.controller last some) ∙ go which
    where
      go : (w : Chip) → run_next (course (chip (placed w v.controller o last) w) v.memory v.room [] v.totals) d ≡ run_next v d
      go First = refl
      go Second = refl

  few : (v : Course) → nobody v.controller ≡ false → length v.services ≡ 4 → picked v.controller < length v.services
  few v some four = let ne = eqb-false (picked v.controller) 4 some in omega (arith, picked_few v.controller, four)

  -- and what it leaves
  with_on : (last : ℕ) (v : Course) (s : Stop) → nobody v.controller ≡ false → length v.services ≡ 4
      → with_service (on_board which o last v) s ≡ on_board which o (number_of which) (with_run v (picked v.controller) s)
  unfolding with_service with_run
  with_on last v s some four = there which (winner_on v.controller last some)
    where
      with_counts : Chip → List ℕ → BoardCourse
      with_counts w l = board_course (placed w s.world.controller o (number_of w)) s.world.memory (take v.totals.written v.room ++ s.world.room) l (plus v.totals s.world.counts)

      there : (w : Chip) → winner (placed w v.controller o last) ≡ w
          → with_service (on_board w o last v) s ≡ on_board w o (number_of w) (with_run v (picked v.controller) s)
      there First e = rw e (ap (with_counts First) (service_counted First v.services (picked v.controller) (few v some four)))
      there Second e = rw e (ap (with_counts Second) (service_counted Second v.services (picked v.controller) (few v some four)))

  -- who is granted last then: who was, until a service was begun
  abbrev last_by : ℕ → Course → ℕ
  last_by was v = when (eqb (begun v.services) 0) was (number_of which)

  abbrev stood : ℕ → Course → BoardCourse
  stood was v = on_board which o (last_by was v) v

  after_last : (was : ℕ) (v : Course) → nobody v.controller ≡ false → length v.services ≡ 4 → last_by was (after_next v d) ≡ number_of which
  unfolding with_run
  after_last was v some four =
      let more : begun (after_next v d).services ≡ begun v.services + 1 = begun_more v.services (picked v.controller) (few v some four) in
      when_miss (eqb (begun (after_next v d).services) 0) was (number_of which) (ne_eqb (begun (after_next v d).services) 0 (λ e. omega (arith, e, more)))

  after_on : (was : ℕ) (v : Course) → nobody v.controller ≡ false → length v.services ≡ 4 → after_service (stood was v) d ≡ stood was (after_next v d)
  after_on was v some four =
      let last = last_by was v in
      ap (with_service (stood was v)) (service_on last v some) ∙ with_on last v (run_next v d) some four
      ∙ ap (λ (n : ℕ). on_board which o n (after_next v d)) (sym (after_last was v some four))

  four_on : (v : Course) → length v.services ≡ 4 → length (after_next v d).services ≡ 4
  unfolding with_run
  four_on v four = length-set v.services _ _ ∙ four

  -- the round on the board closes where the chip's own does
  abbrev AsOwn : ℕ → BoardClose → Close → Type 0
  AsOwn was x y = x ≡ board_close (stood was y.course) y.answer

  round_on : (left was : ℕ) (v : Course) → length v.services ≡ 4 → AsOwn was (board_round_of left d (stood was v)) (round_of left d v)
  unfolding board_round_of round_of first
  round_on zero was v four = refl
  round_on (suc left) was v four =
      let w = stood was v in
      let behind : Reason → BoardCourse → BoardClose = λ e x. when (not (is_ended e)) (board_close x (Ok (Stopped e))) (board_round_of left d x) in
      let own_behind : Close = when (not (is_ended (run_next v d).reason)) (close (after_next v d) (Ok (Stopped (run_next v d).reason))) (round_of left d (after_next v d)) in
      subst (λ (t : Bool). AsOwn was (when t (board_close w (Ok Quiet)) (behind (service_next w d).reason (after_service w d))) (when (nobody v.controller) (close v (Ok Quiet)) own_behind)) (sym (quiet_on v.controller (last_by was v)))
      (when_two (AsOwn was) (nobody v.controller) (λ e. refl)
      (λ some. subst (λ (e : Reason). AsOwn was (behind e (after_service w d)) own_behind) (sym (ap (λ (s : Stop). s.reason) (service_on (last_by was v) v some)))
      (subst (λ (x : BoardCourse). AsOwn was (behind (run_next v d).reason x) own_behind) (sym (after_on was v some four))
      (when_two (AsOwn was) (not (is_ended (run_next v d).reason)) (λ e. refl) (λ e. round_on left was (after_next v d) (four_on v four))))))

round_number : (b : Board) (which : Chip) (m : List ℕ) (k : ℕ) → Aside b which → refusal (board_round_grounds b m k) ≡ refusal (round_grounds (chip b which) m k)
unfolding refusal first
round_number b which m k a = rw (pair_own b which a, serves_own b which a) refl

-- what a close gives
closed_own : (b : Board) (which : Chip) (y : Close)
    → RoundOnBus b which (board_closed (board_close (on_board which (chip b (other which)) (when (eqb (begun y.course.services) 0) b.granted_last (number_of which)) y.course) y.answer)) (closed y)
unfolding board_closed closed
closed_own b First y = record { round = record { leaves = refl; stays = refl; answer = refl; services = refl; totals = refl; memory = refl; room = refl }; last = refl }
closed_own b Second y = record { round = record { leaves = refl; stays = refl; answer = refl; services = refl; totals = refl; memory = refl; room = refl }; last = refl }

began_own : (b : Board) (which : Chip) (m r : List ℕ) → board_beginning b m r ≡ on_board which (chip b (other which)) b.granted_last (beginning (chip b which) m r)
began_own b First m r = refl
began_own b Second m r = refl

round_own : (b : Board) (which : Chip) → Aside b which → (m d r : List ℕ) (k : ℕ) → RoundOnBus b which (board_rounded_of b m d r k) (rounded_of (chip b which) m d r k)
unfolding board_rounded_of rounded_of when
round_own b which a m d r k =
    let o = chip b (other which) in
    let c = chip b which in
    let v = beginning c m r in
    let n = refusal (round_grounds c m k) in
    let on : ℕ → BoardCourse → BoardRoundGiven = λ i w. when (eqb i 0) (board_closed (board_round_of k d w)) (board_closed (board_close w (Err (numbered i)))) in
    subst (λ (i : ℕ). RoundOnBus b which (on i (board_beginning b m r)) (rounded_of c m d r k)) (sym (round_number b which m k a))
    (subst (λ (w : BoardCourse). RoundOnBus b which (on n w) (rounded_of c m d r k)) (sym (began_own b which m r))
    (when_two (RoundOnBus b which) (eqb n 0)
    (λ e. subst (λ (x : BoardClose). RoundOnBus b which (board_closed x) (closed (round_of k d v))) (sym (round_on which o a.quiet d k b.granted_last v refl)) (closed_own b which (round_of k d v)))
    (λ e. closed_own b which (close v (Err (numbered n))))))

reset_by : (b : Board) (which : Chip) (n : ℕ) (t : Bool) → chip (when t (board_cleared b) b) which ≡ when t (cleared (chip b which)) (chip b which)
unfolding when
reset_by b First n true = refl
reset_by b First n false = refl
reset_by b Second n true = refl
reset_by b Second n false = refl

reset_chip : (b : Board) (which : Chip) → Aside b which
    → (chip (board_reset_of b).board which ≡ (reset_of (chip b which)).controller) × ((board_reset_of b).answer ≡ (reset_of (chip b which)).answer)
unfolding outcome board_outcome
reset_chip b which a = rw (reset_number b which a) (reset_by b which 0 _, refl)

pub alone : Alone
alone b which a =
    record {
      write = λ r x. access_own b which a (λ c r. 4 if unwritable c.edition r ∷ 5 if (eqb r 0xB && mode_refused x) ∷ []) (λ c r. after_write c r x) (λ c r. None) r;
      read = access_own b which a (λ c r. 4 if unreadable r ∷ []) after_read (λ c r. Some (value c r));
      pins = pins_own b which a;
      waits = λ n.
          ap (λ (k : ℕ). board_outcome k b (with_chip b which (put (chip b which) Waits n)) None) (waits_own b which a)
          ∙ sym (carried_is _ b which (put (chip b which) Waits n) None _ refl);
      grant = grant_own b which a;
      run = run_own b which a;
      round = λ m d r k. (round_own b which a m d r k).round;
      reset = reset_chip b which a;
    }

pub alone_and_arbiter : AloneAndArbiter
alone_and_arbiter b which a = record { round = round_own b which a; reset = reset_own b which a }

-- Behind an operation of the chip the other is still aside, and the chip is its own.
record Kept (x : Board) (which : Chip) (c : Controller) : Type 0 where
  leaves : chip x which ≡ c
  aside : Aside x which

put_kept : (b : Board) (which : Chip) → Aside b which → (c : Controller) → Kept (with_chip b which c) which c
put_kept b First a c = record { leaves = refl; aside = record { range = a.range; idle = a.idle; quiet = a.quiet; last = a.last } }
put_kept b Second a c = record { leaves = refl; aside = record { range = a.range; idle = a.idle; quiet = a.quiet; last = a.last } }

turned_kept : (b : Board) (which : Chip) → Aside b which → (c : Controller) → Kept (turned_to b which c) which c
turned_kept b First a c = record { leaves = refl; aside = record { range = a.range; idle = a.idle; quiet = a.quiet; last = omega arith } }
turned_kept b Second a c = record { leaves = refl; aside = record { range = a.range; idle = a.idle; quiet = a.quiet; last = omega arith } }

so_kept : (b : Board) (which : Chip) → Aside b which → Kept b which (chip b which)
so_kept b which a = record { leaves = refl; aside = a }

grant_kept : (b : Board) (which : Chip) → Aside b which → Kept (grant_on b which (grant_of (chip b which))).board which (grant_of (chip b which)).controller
unfolding outcome when
grant_kept b which a = go (eqb (refusal (grant_grounds (chip b which))) 0) (granted (chip b which) (picked (chip b which))) (picked (chip b which)) (refusal (grant_grounds (chip b which)))
  where
    go : (t : Bool) (to : Controller) (n by : ℕ)
        → Kept (grant_on b which (record { controller = when t to (chip b which); answer = when t (Ok (Some n)) (Err (numbered by)) })).board which (when t to (chip b which))
    go true to n by = turned_kept b which a to
    go false to n by = so_kept b which a

-- a chip that was reset has all mask bits set and no request: nobody is entitled
masked : (t : Bool) → (t && false || false) ≡ false
masked true = refl
masked false = refl

nobody_set : (c : Controller) → entitled_set (cleared c) ≡ 0
unfolding set_of entitled request_counts when
nobody_set c = rw (masked (active (cleared c) 0), masked (active (cleared c) 1), masked (active (cleared c) 2), masked (active (cleared c) 3)) refl

nobody_cleared : (c : Controller) → nobody (cleared c) ≡ true
unfolding picked picked_from first when
nobody_cleared c = ap (λ (s : ℕ). eqb (picked_from 3 s) 4) (nobody_set c)

cleared_kept : (b : Board) (which : Chip) → Aside b which → Kept (board_cleared b) which (cleared (chip b which))
cleared_kept b First a =
    record { leaves = refl; aside = record { range = cleared_valid b.second a.range; idle = refl; quiet = nobody_cleared b.second; last = omega arith } }
cleared_kept b Second a =
    record { leaves = refl; aside = record { range = cleared_valid b.first a.range; idle = refl; quiet = nobody_cleared b.first; last = omega arith } }

reset_kept : (b : Board) (which : Chip) → Aside b which → Kept (board_reset_of b).board which (reset_of (chip b which)).controller
unfolding outcome board_outcome
reset_kept b which a =
    subst (λ (n : ℕ). Kept (board_outcome n b (board_cleared b) None).board which (reset_of (chip b which)).controller) (sym (reset_number b which a))
    (when_two (λ (x : Board) (c : Controller). Kept x which c) _ (λ e. cleared_kept b which a) (λ e. so_kept b which a))

number_few : (which : Chip) → number_of which ≤ 1
number_few First = omega arith
number_few Second = omega arith

-- a round leaves the other, and the arbiter in its range
round_kept : (b : Board) (which : Chip) (x : BoardRoundGiven) (y : RoundGiven) → Aside b which → RoundOnBus b which x y → Kept x.rounded.board which y.rounded.controller
round_kept b which x y a r =
    record {
      leaves = r.round.leaves;
      aside = record {
        range = ap valid r.round.stays ∙ a.range;
        idle = ap busy r.round.stays ∙ a.idle;
        quiet = ap nobody r.round.stays ∙ a.quiet;
        last = subst (λ (n : ℕ). n ≤ 1) (sym r.last) (when_both (λ (n : ℕ). n ≤ 1) _ a.last (number_few which));
      };
    }

next_kept : (b : Board) (which : Chip) → Aside b which → (op : without.Op) → Kept (next_on b which op) which (without.next (chip b which) op)
next_kept b which a (without.Write r x) =
    subst (λ (o : BoardOutcome). Kept o.board which (without.next (chip b which) (without.Write r x))) (sym ((alone b which a).write r x)) (put_kept b which a _)
next_kept b which a (without.Read r) =
    subst (λ (o : BoardOutcome). Kept o.board which (without.next (chip b which) (without.Read r))) (sym ((alone b which a).read r)) (put_kept b which a _)
next_kept b which a (without.Pins p) =
    subst (λ (o : BoardOutcome). Kept o.board which (without.next (chip b which) (without.Pins p))) (sym ((alone b which a).pins p)) (put_kept b which a _)
next_kept b which a (without.Waits n) =
    subst (λ (o : BoardOutcome). Kept o.board which (without.next (chip b which) (without.Waits n))) (sym ((alone b which a).waits n)) (put_kept b which a _)
next_kept b which a without.Reset = reset_kept b which a
next_kept b which a without.Grant =
    subst (λ (o : BoardOutcome). Kept o.board which (without.next (chip b which) without.Grant)) (sym (alone b which a).grant) (grant_kept b which a)
next_kept b which a (without.Run m d r limit eop) =
    subst (λ (g : BoardGiven). Kept g.ran.board which (without.next (chip b which) (without.Run m d r limit eop))) (sym ((alone b which a).run m d r limit eop)) (put_kept b which a _)
next_kept b which a (without.Round m d r k) = round_kept b which _ _ a ((alone_and_arbiter b which a).round m d r k)
next_kept b which a (without.SheetWriting form out) = so_kept b which a
next_kept b which a (without.SheetReading form bytes) = put_kept b which a _
next_kept b which a (without.Converting to source out) = so_kept b which a

all_kept : (b : Board) (which : Chip) → Aside b which → (ops : List without.Op) → Kept (behind b which ops) which (without.after_all (chip b which) ops)
all_kept b which a [] = so_kept b which a
all_kept b which a (op ∷ ops) =
    let k = next_kept b which a op in
    subst (λ (c : Controller). Kept (behind b which (op ∷ ops)) which (without.after_all c ops)) k.leaves (all_kept (next_on b which op) which k.aside ops)

pub alone_throughout_lem : AloneThroughout
alone_throughout_lem b which a ops =
    let k = all_kept b which a ops in
    record { leaves = k.leaves; aside = k.aside; next = alone (behind b which ops) which k.aside }

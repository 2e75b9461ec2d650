-- Ranges of a pair are kept, operation by operation: a chip's by its own theorem, and only one serves because the other is idle then.
use Prim.Native.Nat.{ℕ, zero, suc, ◌≤◌}
use mathlib.Core.Path.{◌≡◌, refl, sym, ap, subst, ◌∙◌}
use mathlib.Core.Bool.{Bool, true, false, not, ◌&&◌}
use mathlib.Core.List.{List, [], ◌∷◌}
use native.Mathlib.Omega.{arith}
use lib.Dec.{eqb}
use lib.ListN.{length, drop}
use borrow.Author.Tests.{eqb-true, eq-eqb, le-leb, not-false}
use Rattle.words.specs.Choice.{when}
use Rattle.words.specs.Grounds.{Ground, first}
use Rattle.am9517.specs.Editions.{number_of}
use Rattle.am9517.specs.Fields.{put, Pins}
use Rattle.am9517.specs.State.{cleared}
use Rattle.am9517.specs.Ranges.{valid}
use Rattle.am9517.specs.Refusals.{refusal, idle, busy}
use Rattle.am9517.specs.Serving.{picked, granted}
use Rattle.am9517.specs.Answers.{outcome}
use Rattle.am9517.specs.declared.Controller.{Controller}
use Rattle.am9517.specs.declared.Edition.{Edition}
use Rattle.am9517_service.specs.declared.Reason.{Reason}
use Rattle.am9517_service.specs.declared.Reason.TheVariants.{Ended, Dropped, Cascade, Limit, Short}
use Rattle.am9517_service.specs.Answers.{RunAnswer}
use Rattle.am9517_service.specs.Answers.{Given, run_refusal_number, wrong_size, run_grounds, stopped, ran_of}
use Rattle.am9517_service.specs.Round.{nobody, run_next, is_ended}
use Rattle.am9517_sheet.specs.declared.forms.Form.{Form}
use Rattle.board.specs.declared.Board.{Board}
use Rattle.board.specs.declared.Chip.{Chip}
use Rattle.board.specs.declared.Chip.TheVariants.{First, Second}
use Rattle.board.specs.Chips.{chip, with_chip, other, addressed, own, fresh_board}
use Rattle.board.specs.Bus.{winner, winning, quiet, turned_to, granted_to}
use Rattle.board.specs.Ranges.{both_serve, pair_valid, serves}
use Rattle.board.specs.Refusals.{access_grounds, idle_grounds, board_round_grounds}
use Rattle.board.specs.Answers.{board_outcome, pinned, board_cleared}
use Rattle.board.specs.Runs.{server, BoardGiven, board_ran_of}
use Rattle.board.specs.Round.{BoardCourse, board_beginning, service_next, with_service, after_service, BoardClose, board_round_of}
use Rattle.board.specs.RoundAnswers.{BoardRoundGiven, board_closed, board_rounded_of}
use Rattle.demands.specs.Lists.{All, none, also}
use Rattle.demands.specs.Operations as alone
use Rattle.demands.specs.Refusals.{here, later}
use Rattle.demands.specs.Refusals as alone-refusals
use Rattle.demands.specs.Services.{open_behind}
use Rattle.board_demands.specs.Operations.{BoardOp, Write, Read, Pins, Reset, Waits, Grant, Run, Round, SheetWriting, SheetReading, BoardScene, before, after, next, after_all, said}
use Rattle.board_demands.specs.Refusals.{grounds}
use Rattle.board_demands.specs.Ranges.{ReadsSheet, BoardRangesKept}
use Rattle.words.proofs.ChoiceLaws.{when_each, when_hit, both_hold, never, not-true, not-false as always}
use Rattle.words.proofs.GroundLaws.{passed}
use Rattle.board.proofs.ChipLaws.{chip_put, chip_other}
use Rattle.board.proofs.OutcomeLaws.{Pair, pair, each, pins_passed, chip_pins, chip_reset, each_idle, grant_passed, chip_granted, winner_wants}
use Rattle.board.proofs.RunLaws.{server_busy, run_passed}
use Rattle.demands.proofs.Ranges.{ranges_kept, not_by_1, fresh_valid}
use Rattle.demands.proofs.Services.{stops_as_said}
use Rattle.board_demands.proofs.Refusals.{board_demand_1}
use Rattle.std.proofs.Common.{Option, Ok, Err}

abbrev pub Valid : Board → Type 0
Valid b = pair_valid b ≡ true

of_pair : (b : Board) → Pair b → Valid b
unfolding pair_valid
of_pair b p = both_hold p.first (both_hold p.second (both_hold (le-leb _ _ p.last) (ap not p.one)))

-- One of the two is idle, so not both serve.
and_idle : (x : Bool) → (x && false) ≡ false
and_idle true = refl
and_idle false = refl

other_idle : (b : Board) (which : Chip) (c : Controller) → busy (chip b (other which)) ≡ false → both_serve (with_chip b which c) ≡ false
other_idle b First c h = rw h (and_idle (busy c))
other_idle b Second c h = rw h refl

other_of : (b : Board) (which : Chip) → both_serve b ≡ false → busy (chip b which) ≡ true → busy (chip b (other which)) ≡ false
other_of b First e h = rw h at e
other_of b Second e h = go (busy b.first) (rw h at e)
  where
    go : (x : Bool) → (x && true) ≡ false → x ≡ false
    go true z = never z
    go false z = refl

-- a board with another chip in its place
put_valid : (b : Board) (which : Chip) (c : Controller) → Pair b → valid c ≡ true → both_serve (with_chip b which c) ≡ false → Valid (with_chip b which c)
put_valid b First c p v h = of_pair (with_chip b First c) (record { first = v; second = p.second; last = p.last; one = h })
put_valid b Second c p v h = of_pair (with_chip b Second c) (record { first = p.first; second = v; last = p.last; one = h })

-- the same, granted last
turned_valid : (b : Board) (which : Chip) (c : Controller) → Pair b → valid c ≡ true → busy (chip b (other which)) ≡ false → Valid (turned_to b which c)
turned_valid b First c p v h = of_pair (turned_to b First c) (record { first = v; second = p.second; last = omega arith; one = other_idle b First c h })
turned_valid b Second c p v h = of_pair (turned_to b Second c) (record { first = p.first; second = v; last = omega arith; one = other_idle b Second c h })

-- what is left where an operation is accepted, or refused
outcome_valid : (b : Board) → Valid b → (n : ℕ) (to : Board) (told : Option ℕ) → (n ≡ 0 → Valid to) → Valid (board_outcome n b to told).board
unfolding board_outcome
outcome_valid b v n to told h = when_each Valid (eqb n 0) (λ e. h (eqb-true _ _ e)) (λ e. v)

-- what an accepted operation of a chip leaves is in its ranges
outcome_next : (n : ℕ) (c to : Controller) (a : Option ℕ) → n ≡ 0 → (outcome n c to a).controller ≡ to
unfolding outcome when
outcome_next n c to a e = rw e refl

access_free : (b : Board) (r : ℕ) (further : List (Ground ℕ)) → refusal (access_grounds b r further) ≡ 0 → (serves b ≡ false) × (refusal further ≡ 0)
unfolding refusal first
access_free b r further e =
    let idle = passed _ _ _ (omega arith) (passed _ _ _ (omega arith) (passed _ _ _ (omega arith) e).next).next in
    (idle.test, idle.next)

idle_free : (b : Board) (further : List (Ground ℕ)) → refusal (idle_grounds b further) ≡ 0 → (serves b ≡ false) × (refusal further ≡ 0)
unfolding refusal first
idle_free b further e = let idle = passed _ _ _ (omega arith) (passed _ _ _ (omega arith) e).next in (idle.test, idle.next)

-- an operation of one chip, on an idle board
chip_valid : (b : Board) → Valid b → (which : Chip) (op : alone.Op) (n : ℕ) (to : Controller) (told : Option ℕ) → serves b ≡ false → n ≡ 0
    → alone.next (chip b which) op ≡ (outcome n (chip b which) to told).controller → Valid (with_chip b which to)
chip_valid b v which op n to told idle free is =
    let own : valid to ≡ true = subst (λ (c : Controller). valid c ≡ true) (is ∙ outcome_next n (chip b which) to told free) (ranges_kept.kept (chip b which) op (each b (pair b v) which)) in
    put_valid b which to (pair b v) own (other_idle b which to (each_idle b idle (other which)))

write_valid : (b : Board) → Valid b → (r x : ℕ) → Valid (next b (Write r x))
write_valid b v r x =
    outcome_valid b v _ _ _ (λ e.
    let free = access_free b r _ e in
    chip_valid b v (addressed r) (alone.Write (own r) x) _ _ _ free.0 free.1 refl)

read_valid : (b : Board) → Valid b → (r : ℕ) → Valid (next b (Read r))
read_valid b v r =
    outcome_valid b v _ _ _ (λ e.
    let free = access_free b r _ e in
    chip_valid b v (addressed r) (alone.Read (own r)) _ _ _ free.0 free.1 refl)

waits_valid : (b : Board) → Valid b → (which : Chip) (n : ℕ) → Valid (next b (Waits which n))
waits_valid b v which n =
    outcome_valid b v _ _ _ (λ e.
    let free = idle_free b _ e in
    chip_valid b v which (alone.Waits n) _ _ _ free.0 free.1 refl)

pins_valid : (b : Board) → Valid b → (p : ℕ) → Valid (next b (Pins p))
pins_valid b v p =
    outcome_valid b v _ _ _ (λ e.
    let few : p ≤ 255 = (pins_passed b p _ refl e).1 in
    let q = pair b v in
    let levels : (c : Controller) (x : ℕ) → valid c ≡ true → x ≤ 15 → valid (put c Pins x) ≡ true =
    λ c x h l. subst (λ (k : Controller). valid k ≡ true) (chip_pins c x h l) (ranges_kept.kept c (alone.Pins x) h) in
    of_pair (pinned b p) (record { first = levels b.first _ q.first (omega arith); second = levels b.second _ q.second (omega arith); last = q.last; one = q.one }))

pub cleared_valid : (c : Controller) → valid c ≡ true → valid (cleared c) ≡ true
cleared_valid c h = subst (λ (k : Controller). valid k ≡ true) (chip_reset c h) (ranges_kept.kept c alone.Reset h)

reset_valid : (b : Board) → Valid b → Valid (next b Reset)
reset_valid b v =
    outcome_valid b v _ _ _ (λ e.
    let q = pair b v in
    of_pair (board_cleared b) (record { first = cleared_valid b.first q.first; second = cleared_valid b.second q.second; last = omega arith; one = refl }))

-- the chip that gets the bus is granted in its ranges
granted_valid : (c : Controller) → valid c ≡ true → busy c ≡ false → nobody c ≡ false → valid (granted c (picked c)) ≡ true
granted_valid c v i s = subst (λ (k : Controller). valid k ≡ true) (chip_granted c v i s) (ranges_kept.kept c alone.Grant v)

grant_valid : (b : Board) → Valid b → Valid (next b Grant)
unfolding granted_to
grant_valid b v =
    outcome_valid b v _ _ _ (λ e.
    let g = grant_passed b _ refl e in
    let w = winner b in
    turned_valid b w _ (pair b v) (granted_valid (chip b w) (each b (pair b v) w) (each_idle b g.idle w) (winner_wants b g.some)) (each_idle b g.idle (other w)))

run_valid : (b : Board) → Valid b → (m d r : List ℕ) (limit eop : ℕ) → Valid (next b (Run m d r limit eop))
unfolding board_ran_of
run_valid b v m d r limit eop =
    when_each (λ (g : BoardGiven). Valid g.ran.board) _
    (λ e.
    let w = server b in
    let serving = server_busy b (run_passed b m _ refl (eqb-true _ _ e)).serving in
    put_valid b w _ (pair b v) (ranges_kept.kept (chip b w) (alone.Run m d r limit eop) (each b (pair b v) w)) (other_idle b w _ (other_of b w (pair b v).one serving)))
    (λ e. v)

reading_valid : (b : Board) → Valid b → (form : Form) (which : Chip) (bytes : List ℕ) → both_serve (next b (SheetReading form which bytes)) ≡ false → Valid (next b (SheetReading form which bytes))
reading_valid b v form which bytes h =
    put_valid b which _ (pair b v) (ranges_kept.kept (chip b which) (alone.SheetReading form bytes) (each b (pair b v) which)) h

-- A round: where it stands between two services.
pub record Stands (w : BoardCourse) : Type 0 where
  pub range : Valid w.board
  pub idle : serves w.board ≡ false
  pub memory : length w.memory ≡ 65536

chip_runs : (c : Controller) (m : List ℕ) → valid c ≡ true → length m ≡ 65536 → idle c ≡ false → refusal (run_grounds c m) ≡ 0
unfolding refusal first when
chip_runs c m v h o = let size : wrong_size m ≡ false = ap not (eq-eqb _ _ h) in simp (v, size, o)

pub granted_open : (c : Controller) (n : ℕ) → idle (granted c n) ≡ false
unfolding granted
granted_open c n = refl

-- whether a service is open behind this answer
abbrev open_after : RunAnswer → ℕ
open_after (Ok e) = open_behind e
open_after (Err r) = 0

ended_over : (e : Reason) → is_ended e ≡ true → open_behind e ≡ 0
ended_over Ended h = refl
ended_over Dropped h = never (sym h)
ended_over Cascade h = never (sym h)
ended_over Limit h = never (sym h)
ended_over Short h = never (sym h)

either_idle : (b : Board) (which : Chip) (c : Controller) → busy c ≡ false → busy (chip b (other which)) ≡ false → serves (turned_to b which c) ≡ false
either_idle b First c e h = rw (e, h) refl
either_idle b Second c e h = rw (e, h) refl

module _ (d : List ℕ) (w : BoardCourse) (at : Stands w) (some : quiet w.board ≡ false) where
  abbrev pub who : Chip
  who = winner w.board

  abbrev pub g : Controller
  g = granted (winning w.board) (picked (winning w.board))

  abbrev pub bytes : List ℕ
  bytes = drop w.totals.used d

  abbrev pub room : List ℕ
  room = drop w.totals.written w.room

  pub still : busy (chip w.board (other who)) ≡ false
  still = each_idle w.board at.idle (other who)

  g_valid : valid g ≡ true
  g_valid =
      granted_valid (winning w.board) (each w.board (pair w.board at.range) who) (each_idle w.board at.idle who) (winner_wants w.board some)

  free : refusal (run_grounds g w.memory) ≡ 0
  free = chip_runs g w.memory g_valid at.memory (granted_open (winning w.board) (picked (winning w.board)))

  -- the next service is a run of the chip by itself
  pub ran : ran_of g w.memory bytes room 65536 0 ≡ stopped (service_next w d)
  unfolding ran_of run_next
  ran = when_hit _ _ _ (eq-eqb _ _ free)

  left_valid : valid (service_next w d).world.controller ≡ true
  unfolding stopped
  left_valid = subst (λ (x : Given). valid x.ran.controller ≡ true) ran (ranges_kept.kept g (alone.Run w.memory bytes room 65536 0) g_valid)

  left_memory : length (service_next w d).world.memory ≡ 65536
  unfolding stopped
  left_memory = subst (λ (x : Given). length x.memory ≡ length w.memory) ran (stops_as_said.memory g w.memory bytes room 65536 0) ∙ at.memory

  pub left_room : length (service_next w d).world.room ≡ length room
  unfolding stopped
  left_room = subst (λ (x : Given). length x.room ≡ length room) ran (stops_as_said.room g w.memory bytes room 65536 0)

  left_idle : is_ended (service_next w d).reason ≡ true → busy (service_next w d).world.controller ≡ false
  unfolding stopped
  left_idle e =
      let said : alone.said g (alone.Run w.memory bytes room 65536 0) ≡ 0 = ap (λ (x : Given). run_refusal_number x.ran.answer) ran in
      let stop = stops_as_said.stops g w.memory bytes room 65536 0 said in
      let over : (ran_of g w.memory bytes room 65536 0).ran.controller.in_service ≡ open_after (ran_of g w.memory bytes room 65536 0).ran.answer =
      stop.service ∙ ap open_after (sym stop.answer) in
      let here : (service_next w d).world.controller.in_service ≡ open_behind (service_next w d).reason =
      subst (λ (x : Given). x.ran.controller.in_service ≡ open_after x.ran.answer) ran over in
      ap not (eq-eqb (service_next w d).world.controller.in_service 0 (here ∙ ended_over (service_next w d).reason e))

  after_valid : Valid (after_service w d).board
  unfolding with_service
  after_valid = turned_valid w.board who _ (pair w.board at.range) left_valid still

  pub stands_on : is_ended (service_next w d).reason ≡ true → Stands (after_service w d)
  unfolding with_service
  stands_on e = record { range = after_valid; idle = either_idle w.board who _ (left_idle e) still; memory = left_memory }

round_valid : (left : ℕ) (d : List ℕ) (w : BoardCourse) → Stands w → Valid (board_round_of left d w).course.board
unfolding board_round_of first
round_valid zero d w at = at.range
round_valid (suc left) d w at =
    let P : BoardClose → Type 0 = λ x. Valid x.course.board in
    when_each P (quiet w.board) (λ e. at.range)
    (λ some. when_each P (not (is_ended (service_next w d).reason)) (λ e. after_valid d w at some) (λ e. round_valid left d (after_service w d) (stands_on d w at some (not-false _ e))))

-- an accepted round begins so
pub round_stands : (b : Board) (m r : List ℕ) (k : ℕ) → refusal (board_round_grounds b m k) ≡ 0 → Stands (board_beginning b m r)
unfolding refusal first
round_stands b m r k e =
    let good = passed _ _ _ (omega arith) e in
    let size = passed _ _ _ (omega arith) (passed _ _ _ (omega arith) good.next).next in
    record { range = not-false _ good.test; idle = (passed _ _ _ (omega arith) size.next).test; memory = eqb-true _ _ (not-false _ size.test) }

rounded_valid : (b : Board) → Valid b → (m d r : List ℕ) (k : ℕ) → Valid (next b (Round m d r k))
unfolding board_rounded_of board_closed
rounded_valid b v m d r k =
    when_each (λ (x : BoardRoundGiven). Valid x.rounded.board) _
    (λ e. round_valid k d (board_beginning b m r) (round_stands b m r k (eqb-true _ _ e))) (λ e. v)

kept : (b : Board) (op : BoardOp) → Valid b → (ReadsSheet op → both_serve (next b op) ≡ false) → Valid (next b op)
kept b (Write r x) v h = write_valid b v r x
kept b (Read r) v h = read_valid b v r
kept b (Pins p) v h = pins_valid b v p
kept b Reset v h = reset_valid b v
kept b (Waits which n) v h = waits_valid b v which n
kept b Grant v h = grant_valid b v
kept b (Run m d r limit eop) v h = run_valid b v m d r limit eop
kept b (Round m d r k) v h = rounded_valid b v m d r k
kept b (SheetWriting form which out) v h = v
kept b (SheetReading form which bytes) v h = reading_valid b v form which bytes (h tt)

-- no ground of 1 holds
abbrev NotOne : Ground ℕ → Type 0
NotOne x = x.gives ≡ 1 → x.holds ≡ false

none_first : (gs : List (Ground ℕ)) → All NotOne gs → ¬ alone-refusals.First 1 gs
none_first gs (also p ps) (here e q) = never (sym e ∙ p q)
none_first _ none x = elim x [ ]
none_first gs (also p ps) (later e f) = none_first _ ps f

-- a ground of another number
another : (n : ℕ) (t : Bool) → ¬ (n ≡ 1) → n ≡ 1 → t ≡ false
another n t h e = absurd (h e)

not_by_one : (b : Board) (op : BoardOp) → All NotOne (grounds b op) → ¬ (said b op ≡ 1)
not_by_one b op h e = none_first (grounds b op) h (((board_demand_1 b op).exactly 1 (λ z. omega arith)).0 e)

never_1 : (b : Board) (op : BoardOp) → Valid b → ¬ (said b op ≡ 1)
never_1 b (Write r x) v =
    not_by_one b (Write r x)
    (also (λ q. ap not v) (also (another 2 _ (λ e. omega arith)) (also (another 3 _ (λ e. omega arith))
    (also (λ q. ap not (each b (pair b v) (addressed r))) (also (another 2 _ (λ e. omega arith)) (also (another 3 _ (λ e. omega arith)) (also (another 4 _ (λ e. omega arith)) (also (another 5 _ (λ e. omega arith)) none))))))))
never_1 b (Read r) v =
    not_by_one b (Read r)
    (also (λ q. ap not v) (also (another 2 _ (λ e. omega arith)) (also (another 3 _ (λ e. omega arith))
    (also (λ q. ap not (each b (pair b v) (addressed r))) (also (another 2 _ (λ e. omega arith)) (also (another 3 _ (λ e. omega arith)) (also (another 4 _ (λ e. omega arith)) none)))))))
never_1 b (Pins p) v = not_by_one b (Pins p) (also (λ q. ap not v) (also (another 2 _ (λ e. omega arith)) none))
never_1 b Reset v = not_by_one b Reset (also (λ q. ap not v) none)
never_1 b (Waits which n) v =
    not_by_one b (Waits which n) (also (λ q. ap not v) (also (another 3 _ (λ e. omega arith)) (also (λ q. ap not (each b (pair b v) which)) (also (another 3 _ (λ e. omega arith)) none))))
never_1 b Grant v = not_by_one b Grant (also (λ q. ap not v) (also (another 3 _ (λ e. omega arith)) (also (another 6 _ (λ e. omega arith)) none)))
never_1 b (Run m d r limit eop) v =
    not_by_one b (Run m d r limit eop) (also (λ q. ap not v) (also (another 7 _ (λ e. omega arith)) (also (another 8 _ (λ e. omega arith)) none)))
never_1 b (Round m d r k) v =
    not_by_one b (Round m d r k) (also (λ q. ap not v) (also (another 2 _ (λ e. omega arith)) (also (another 7 _ (λ e. omega arith)) (also (another 3 _ (λ e. omega arith)) none))))
never_1 b (SheetWriting form which out) v = not_by_1 (chip b which) (alone.SheetWriting form out) (each b (pair b v) which)
never_1 b (SheetReading form which bytes) v = not_by_1 (chip b which) (alone.SheetReading form bytes) (each b (pair b v) which)

fresh_board_lem : (e f : Edition) → Valid (fresh_board (number_of e) (number_of f))
fresh_board_lem e f = of_pair (fresh_board (number_of e) (number_of f)) (record { first = fresh_valid e; second = fresh_valid f; last = omega arith; one = refl })

-- Each chip in its ranges and the arbiter in its own, both in service or not: every operation keeps this.
record Sound (b : Board) : Type 0 where
  first : valid b.first ≡ true
  second : valid b.second ≡ true
  last : b.granted_last ≤ 1

sound_of : (b : Board) → Valid b → Sound b
sound_of b v = let p = pair b v in record { first = p.first; second = p.second; last = p.last }

sound_pair : (b : Board) → Sound b → both_serve b ≡ false → Valid b
sound_pair b s h = of_pair b (record { first = s.first; second = s.second; last = s.last; one = h })

-- while both serve, all is refused by 1 but what asks one chip alone
both_refused : (b : Board) → both_serve b ≡ true → not (pair_valid b) ≡ true
both_refused b h = ap not (not-true (pair_valid b) (λ v. never (sym h ∙ (pair b v).one)))

stays : (b : Board) (op : BoardOp) → alone-refusals.First 1 (grounds b op) → after b op ≡ before b op
stays b op f =
    let r = board_demand_1 b op in
    let one : said b op ≡ 1 = (r.exactly 1 (λ z. omega arith)).1 f in
    r.stays (λ z. let q : ◌≡◌ {A = ℕ} 0 1 = sym z ∙ one in absurd (omega arith))

sound_put : (b : Board) (which : Chip) (c : Controller) → Sound b → valid c ≡ true → Sound (with_chip b which c)
sound_put b First c s v = record { first = v; second = s.second; last = s.last }
sound_put b Second c s v = record { first = s.first; second = v; last = s.last }

each_sound : (b : Board) → Sound b → (which : Chip) → valid (chip b which) ≡ true
each_sound b s First = s.first
each_sound b s Second = s.second

-- what refuses by 1 first leaves the board
left_so : (b : Board) (op : BoardOp) → Sound b → (next b op ≡ b) → Sound (next b op)
left_so b op s e = rw e s

module _ (b : Board) (s : Sound b) where
  one_serves : (op : BoardOp) → both_serve b ≡ false → (ReadsSheet op → ⊥) → Sound (next b op)
  one_serves op h n = sound_of (next b op) (kept b op (sound_pair b s h) (λ z. absurd (n z)))

  sound_kept : (op : BoardOp) (t : Bool) → both_serve b ≡ t → Sound (next b op)
  sound_kept (SheetWriting form which out) t e = s
  sound_kept (SheetReading form which bytes) t e = sound_put b which _ s (ranges_kept.kept (chip b which) (alone.SheetReading form bytes) (each_sound b s which))
  sound_kept (Write r x) false e = one_serves (Write r x) e (λ z. z)
  sound_kept (Write r x) true e = left_so b (Write r x) s (ap (λ (k : BoardScene). k.board) (stays b (Write r x) (here (both_refused b e) refl)))
  sound_kept (Read r) false e = one_serves (Read r) e (λ z. z)
  sound_kept (Read r) true e = left_so b (Read r) s (ap (λ (k : BoardScene). k.board) (stays b (Read r) (here (both_refused b e) refl)))
  sound_kept (Pins p) false e = one_serves (Pins p) e (λ z. z)
  sound_kept (Pins p) true e = left_so b (Pins p) s (ap (λ (k : BoardScene). k.board) (stays b (Pins p) (here (both_refused b e) refl)))
  sound_kept Reset false e = one_serves Reset e (λ z. z)
  sound_kept Reset true e = left_so b Reset s (ap (λ (k : BoardScene). k.board) (stays b Reset (here (both_refused b e) refl)))
  sound_kept (Waits which n) false e = one_serves (Waits which n) e (λ z. z)
  sound_kept (Waits which n) true e = left_so b (Waits which n) s (ap (λ (k : BoardScene). k.board) (stays b (Waits which n) (here (both_refused b e) refl)))
  sound_kept Grant false e = one_serves Grant e (λ z. z)
  sound_kept Grant true e = left_so b Grant s (ap (λ (k : BoardScene). k.board) (stays b Grant (here (both_refused b e) refl)))
  sound_kept (Run m d r limit eop) false e = one_serves (Run m d r limit eop) e (λ z. z)
  sound_kept (Run m d r limit eop) true e = left_so b (Run m d r limit eop) s (ap (λ (k : BoardScene). k.board) (stays b (Run m d r limit eop) (here (both_refused b e) refl)))
  sound_kept (Round m d r k) false e = one_serves (Round m d r k) e (λ z. z)
  sound_kept (Round m d r k) true e = left_so b (Round m d r k) s (ap (λ (x : BoardScene). x.board) (stays b (Round m d r k) (here (both_refused b e) refl)))

sound_all : (b : Board) (ops : List BoardOp) → Sound b → Sound (after_all b ops)
sound_all b [] s = s
sound_all b (op ∷ ops) s = sound_all (next b op) ops (sound_kept b s op (both_serve b) refl)

reads_last : (b : Board) (which : Chip) (c : Controller) → (with_chip b which c).granted_last ≡ b.granted_last
reads_last b First c = refl
reads_last b Second c = refl

from_fresh_lem : (e f : Edition) (ops : List BoardOp) (op : BoardOp) → said (after_all (fresh_board (number_of e) (number_of f)) ops) op ≡ 1
    → both_serve (after_all (fresh_board (number_of e) (number_of f)) ops) ≡ true
from_fresh_lem e f ops op h =
    let b = after_all (fresh_board (number_of e) (number_of f)) ops in
    let s : Sound b = sound_all (fresh_board (number_of e) (number_of f)) ops (sound_of _ (fresh_board_lem e f)) in
    always (both_serve b) (λ z. never_1 b op (sound_pair b s z) h)

pub board_ranges_kept : BoardRangesKept
board_ranges_kept =
    record {
      kept = kept;
      read = λ b form which bytes free.
          (rw (chip_put b which (alone.next (chip b which) (alone.SheetReading form bytes))) (ranges_kept.read (chip b which) form bytes free), chip_other b which _, reads_last b which _);
      fresh = fresh_board_lem;
      from_fresh = from_fresh_lem;
    }

-- Demand 3 on the board: who gets the bus, and that nothing of a trace but a grant moves a lowest channel or the arbiter.
use Prim.Native.Nat.{ℕ, zero, suc, ◌+◌, ◌*◌, ◌≤◌, ◌<◌}
use mathlib.Core.Path.{◌≡◌, refl, sym, ◌∙◌, ap, subst}
use mathlib.Core.Bool.{Bool, true, false, not}
use mathlib.Core.List.{List, [], ◌∷◌, ◌++◌}
use native.Mathlib.Omega.{arith}
use lib.Dec.{eqb}
use borrow.Author.Tests.{eqb-true, eqb-false, ne_eqb, leb-true, not-false}
use Rattle.words.specs.Choice.{when}
use Rattle.words.specs.Grounds.{◌if◌, first}
use Rattle.am9517.specs.Ranges.{valid, fields_valid}
use Rattle.am9517.specs.Refusals.{refusal}
use Rattle.am9517.specs.Serving.{picked, granted}
use Rattle.am9517.specs.declared.Controller.{Controller}
use Rattle.am9517_service.specs.Answers.{Given, stopped}
use Rattle.am9517_service.specs.Round.{nobody, is_ended}
use Rattle.am9517_sheet.specs.declared.forms.Form.{Form}
use Rattle.am9517_sheet.specs.Sheet.{sheet_read_grounds, answer_of}
use Rattle.board.specs.declared.Board.{Board}
use Rattle.board.specs.declared.Chip.{Chip}
use Rattle.board.specs.declared.Chip.TheVariants.{First, Second}
use Rattle.board.specs.declared.BoardOutcome.{BoardOutcome}
use Rattle.board.specs.Chips.{number_of, other, chip, with_chip, addressed, own, channel_of}
use Rattle.board.specs.Bus.{winner_of, winner, winning, winning_channel, quiet, turned_to, granted_to}
use Rattle.board.specs.Ranges.{pair_valid, serves}
use Rattle.board.specs.Refusals.{board_grant_grounds, board_round_grounds}
use Rattle.board.specs.Answers.{board_outcome, pinned, board_grant_of}
use Rattle.board.specs.Runs.{server, BoardGiven, board_ran_of}
use Rattle.board.specs.Round.{BoardCourse, board_beginning, service_next, with_service, after_service, board_close, board_round_of}
use Rattle.board.specs.RoundAnswers.{board_closed, board_rounded_of}
use Rattle.demands.specs.Lists.{All, none, also}
use Rattle.demands.proofs.Turns.{place}
use Rattle.demands.proofs.Fairness.{Early, picked_early, lowest_granted, after_write_kept, after_read_kept, run_kept}
use Rattle.words.proofs.ChoiceLaws.{when_both, when_each, both}
use Rattle.board.proofs.RefusalLaws.{number_said}
use Rattle.board.proofs.OutcomeLaws.{grounds_stated, pair, each, grant_passed, picked_few}
use Rattle.board_demands.specs.Operations.{BoardOp, Write, Read, Pins, Reset, Waits, Grant, Run, Round, SheetWriting, SheetReading, next}
use Rattle.board_demands.specs.Grants.{BoardGranted, granted as granted-on, told, round_grants, made, grants, channels}
use Rattle.board_demands.specs.Fairness.{Traced, Trace, Contends, BoardFair, BoardDemand3, RoundGrantsAreGrants}
use Rattle.board_demands.proofs.Ranges.{Stands, round_stands, stands_on, g, bytes, room, ran}
use Rattle.board_demands.proofs.Turns.{BoardTurns, over, own_turn, other_turn, turns_share, turns_turn, turns_lead}
use Rattle.std.proofs.Common.{Option, Some, None, Ok, Err}
use Rattle.am9517.specs.Refusals.{numbered}
use Rattle.am9517_service.specs.declared.RoundEnd.TheVariants.{Quiet, Stopped}

-- the lowest channel of a chip in its ranges is one of four
lowest_few : (c : Controller) → valid c ≡ true → c.lowest < 4
unfolding valid fields_valid
lowest_few c v =
    let f = (both _ _ (both _ _ v).right).left in
    let g = (both _ _ (both _ _ (both _ _ (both _ _ (both _ _ (both _ _ (both _ _ f).right).right).right).right).right).right).right in
    let h : c.lowest ≤ 3 = leb-true _ _ (both _ _ g).left in
    omega (arith, h)

-- A chip that wants the bus gets it, or the other does, which wants it too and waited.
data Won (b : Board) (which : Chip) : Type 0 where
  mine : winner b ≡ which → Won b which
  yours : winner b ≡ other which → b.granted_last ≡ number_of which → nobody (chip b (other which)) ≡ false → Won b which

won : (b : Board) (which : Chip) → b.granted_last ≤ 1 → nobody (chip b which) ≡ false → Won b which
unfolding winner_of when
won b First h w = go (nobody b.second) (eqb b.granted_last 0) refl refl
  where
    go : (y t : Bool) → nobody b.second ≡ y → eqb b.granted_last 0 ≡ t → Won b First
    go true t ey et = mine (rw (w, ey) refl)
    go false true ey et = yours (rw (w, ey, et) refl) (eqb-true _ _ et) ey
    go false false ey et = mine (rw (w, ey, et) refl)
won b Second h w = go (nobody b.first) (eqb b.granted_last 0) refl refl
  where
    go : (x t : Bool) → nobody b.first ≡ x → eqb b.granted_last 0 ≡ t → Won b Second
    go true t ex et = mine (rw ex refl)
    go false true ex et = mine (rw (ex, w, et) refl)
    go false false ex et = let nz = eqb-false b.granted_last 0 et in yours (rw (ex, w, et) refl) (omega (arith, nz)) ex

-- a chip that wants the bus picks one of its four
picked_some : (c : Controller) → nobody c ≡ false → picked c < 4
picked_some c h = let nz = eqb-false (picked c) 4 h in omega (arith, picked_few c, nz)

-- numbers of the two chips differ, and so do their channels
other_number : (which : Chip) → ¬ (number_of (other which) ≡ number_of which)
other_number First e = omega (arith, e)
other_number Second e = omega (arith, e)

other_channel : (which : Chip) (p n : ℕ) → p < 4 → n < 4 → ¬ (channel_of (other which) p ≡ channel_of which n)
other_channel First p n hp hn e = omega (arith, e)
other_channel Second p n hp hn e = omega (arith, e)

-- Grants that follow one another: each goes to the channel that wins on its board, whose lowest channels and arbiter are what the one before left.
pub data Linked (which : Chip) : ℕ → ℕ → List BoardGranted → Type 0 where
  last : {low l : ℕ} → Linked which low l []
  link : {low l : ℕ} {g : BoardGranted} {gs : List BoardGranted}
      → (chip g.before which).lowest ≡ low → low < 4 → g.before.granted_last ≡ l → l ≤ 1 → g.channel ≡ winning_channel g.before
      → Linked which (chip (granted_to g.before) which).lowest (granted_to g.before).granted_last gs
      → Linked which low l (g ∷ gs)

pub linked_from : {which : Chip} {low low' l l' : ℕ} {gs : List BoardGranted} → low' ≡ low → l' ≡ l → Linked which low' l' gs → Linked which low l gs
linked_from e f x = rw f at (rw e at x)

pub turned_chip : (b : Board) (which : Chip) (c : Controller) → chip (turned_to b which c) which ≡ c
turned_chip b First c = refl
turned_chip b Second c = refl

turned_other : (b : Board) (which w : Chip) (c : Controller) → which ≡ other w → chip (turned_to b which c) w ≡ chip b w
turned_other b First First c e = let z : number_of First ≡ number_of Second = ap number_of e in absurd (omega (arith, z))
turned_other b First Second c e = refl
turned_other b Second First c e = refl
turned_other b Second Second c e = let z : number_of Second ≡ number_of First = ap number_of e in absurd (omega (arith, z))

turned_last : (b : Board) (which : Chip) (c : Controller) → (turned_to b which c).granted_last ≡ number_of which
turned_last b First c = refl
turned_last b Second c = refl

module _ (which : Chip) (n : ℕ) (small : n < 4) where
  abbrev w : ℕ
  w = number_of which

  turns_from : {low low' l l' : ℕ} {es : List ℕ} → low' ≡ low → l' ≡ l → BoardTurns w n low' l' es → BoardTurns w n low l es
  turns_from e f ts = rw f at (rw e at ts)

  -- one grant at which the channel contends
  module _ (g : BoardGranted) (h : Contends which n g) (below : (chip g.before which).lowest < 4) (in-range : g.before.granted_last ≤ 1) (is : g.channel ≡ winning_channel g.before) where
    abbrev b : Board
    b = g.before

    abbrev c : Controller
    c = chip b which

    early : Early c.lowest (place c.lowest n) (picked c)
    early = picked_early c n small h.rotation h.entitled

    some : nobody c ≡ false
    some = ne_eqb _ _ (λ (e : picked c ≡ 4). let z = early.channel in omega (arith, e, z))

    own_next : winner b ≡ which → ((chip (granted_to b) which).lowest ≡ picked c) × ((granted_to b).granted_last ≡ w)
    unfolding granted_to
    own_next e =
        (rw e (ap (λ (x : Controller). x.lowest) (turned_chip b which (granted c (picked c))) ∙ lowest_granted c (picked c) h.rotation), rw e (turned_last b which (granted c (picked c))))

    other_next : winner b ≡ other which → ((chip (granted_to b) which).lowest ≡ c.lowest) × ((granted_to b).granted_last ≡ number_of (other which))
    unfolding granted_to
    other_next e =
        (ap (λ (x : Controller). x.lowest) (turned_other b (winner b) which (granted (winning b) (picked (winning b))) e), turned_last b (winner b) (granted (winning b) (picked (winning b))) ∙ ap number_of e)

    step : {es : List ℕ} → Won b which → BoardTurns w n (chip (granted_to b) which).lowest (granted_to b).granted_last es
        → BoardTurns w n c.lowest b.granted_last (g.channel ∷ es)
    step {es = es} (mine e) ts =
        let x = own_next e in
        let there : 4 * w + picked c ≡ g.channel = sym (is ∙ ap (λ (k : Chip). channel_of k (picked (chip b k))) e) in
        subst (λ (k : ℕ). BoardTurns w n c.lowest b.granted_last (k ∷ es)) there
        (own_turn {low = c.lowest} {last = b.granted_last} {e = picked c} below early.channel early.place (turns_from x.0 x.1 ts))
    step {es = es} (yours e l s) ts =
        let x = other_next e in
        let q : picked (chip b (other which)) < 4 = picked_some (chip b (other which)) s in
        let there : g.channel ≡ channel_of (other which) (picked (chip b (other which))) = is ∙ ap (λ (k : Chip). channel_of k (picked (chip b k))) e in
        other_turn {low = c.lowest} {last = b.granted_last} {v = number_of (other which)} l (other_number which) (λ e hd z. other_channel which (picked (chip b (other which))) e q hd (sym there ∙ z)) (turns_from x.0 x.1 ts)

  turns_linked : {low l : ℕ} (window rest : List BoardGranted) → Linked which low l (window ++ rest) → All (Contends which n) window → BoardTurns w n low l (channels window)
  turns_linked [] rest k h = over
  turns_linked {low = low} {l = l} (g ∷ window) rest (link at below is_last most is k) (also h hs) =
      turns_from at is_last (step g h (omega (arith, at, below)) (omega (arith, is_last, most)) is (won g.before which (omega (arith, is_last, most)) (some g h (omega (arith, at, below)) (omega (arith, is_last, most)) is)) (turns_linked {low = (chip (granted_to g.before) which).lowest} {l = (granted_to g.before).granted_last} window rest k hs))

  fair_window : {low l : ℕ} (past window rest : List BoardGranted) → Linked which low l (past ++ (window ++ rest)) → All (Contends which n) window → BoardFair which n (channels window)
  fair_window [] window rest k h =
      let ts = turns_linked window rest k h in
      record { share = turns_share w n small (channels window) ts; turn = turns_turn w n small (channels window) ts; lead = turns_lead w n small (channels window) ts }
  fair_window {low = low} {l = l} (g ∷ past) window rest (link at below is_last most is k) h = fair_window {low = (chip (granted_to g.before) which).lowest} {l = (granted_to g.before).granted_last} past window rest k h

-- Nothing moves: each lowest channel, and the arbiter.
pub record Unmoved (b x : Board) : Type 0 where
  pub lowest : (which : Chip) → (chip x which).lowest ≡ (chip b which).lowest
  pub arbiter : x.granted_last ≡ b.granted_last

unmoved : (b : Board) → Unmoved b b
unmoved b = record { lowest = λ which. refl; arbiter = refl }

-- a chip with another state of the same lowest channel
with_unmoved : (b : Board) (which : Chip) (c : Controller) → c.lowest ≡ (chip b which).lowest → Unmoved b (with_chip b which c)
with_unmoved b First c e = record { lowest = go; arbiter = refl }
  where
    go : (w : Chip) → (chip (with_chip b First c) w).lowest ≡ (chip b w).lowest
    go First = e
    go Second = refl
with_unmoved b Second c e = record { lowest = go; arbiter = refl }
  where
    go : (w : Chip) → (chip (with_chip b Second c) w).lowest ≡ (chip b w).lowest
    go First = refl
    go Second = e

-- what stays where the operation is accepted
outcome_unmoved : (n : ℕ) (b x : Board) (a : Option ℕ) → (n ≡ 0 → Unmoved b x) → Unmoved b (board_outcome n b x a).board
unfolding board_outcome
outcome_unmoved n b x a h = when_each (Unmoved b) (eqb n 0) (λ e. h (eqb-true _ _ e)) (λ e. unmoved b)

write_unmoved : (b : Board) (r x : ℕ) → Traced b (Write r x) → Unmoved b (next b (Write r x))
write_unmoved b r x t =
    outcome_unmoved _ b _ None (λ free. with_unmoved b (addressed r) _ (after_write_kept (chip b (addressed r)) (own r) x (λ e. t e ((grounds_stated _ _ _ _ None refl refl).1 ∙ free))))

read_unmoved : (b : Board) (r : ℕ) → Unmoved b (next b (Read r))
read_unmoved b r = outcome_unmoved _ b _ (Some _) (λ free. with_unmoved b (addressed r) _ (after_read_kept (chip b (addressed r)) (own r)))

pins_unmoved : (b : Board) (p : ℕ) → Unmoved b (next b (Pins p))
pins_unmoved b p = outcome_unmoved _ b _ None (λ free. record { lowest = go; arbiter = refl })
  where
    go : (w : Chip) → (chip (pinned b p) w).lowest ≡ (chip b w).lowest
    go First = refl
    go Second = refl

waits_unmoved : (b : Board) (which : Chip) (n : ℕ) → Unmoved b (next b (Waits which n))
waits_unmoved b which n = outcome_unmoved _ b _ None (λ free. with_unmoved b which _ refl)

reset_unmoved : (b : Board) → Traced b Reset → Unmoved b (next b Reset)
reset_unmoved b t = outcome_unmoved _ b _ None (λ free. absurd (t tt ((grounds_stated _ _ _ _ None refl refl).1 ∙ free)))

run_unmoved : (b : Board) (m d r : List ℕ) (limit eop : ℕ) → Unmoved b (next b (Run m d r limit eop))
unfolding board_ran_of
run_unmoved b m d r limit eop =
    when_both (λ (g : BoardGiven). Unmoved b g.ran.board) _ (with_unmoved b (server b) _ (run_kept (chip b (server b)) m d r limit eop)) (unmoved b)

reading_unmoved : (b : Board) (form : Form) (which : Chip) (bytes : List ℕ) → Traced b (SheetReading form which bytes) → Unmoved b (next b (SheetReading form which bytes))
unfolding answer_of
reading_unmoved b form which bytes t =
    with_unmoved b which _ (when_each (λ (x : Controller). x.lowest ≡ (chip b which).lowest) _ (λ e. absurd (t tt (number_said (sheet_read_grounds form bytes) tt refl ∙ eqb-true _ _ e))) (λ e. refl))

-- a call of grant, by whether it is accepted, before what came after it
grant_linked : (which : Chip) (b : Board) (t : Bool) (later : List BoardGranted) → eqb (refusal (board_grant_grounds b)) 0 ≡ t
    → Linked which (chip (when t (granted_to b) b) which).lowest (when t (granted_to b) b).granted_last later
    → Linked which (chip b which).lowest b.granted_last (told b (when t (Ok (Some (winning_channel b))) (Err (numbered (refusal (board_grant_grounds b))))) ++ later)
unfolding when
grant_linked which b true later e l =
    let p = (grant_passed b (refusal (board_grant_grounds b)) refl (eqb-true _ _ e)).pair in
    link refl (lowest_few (chip b which) (each b p which)) refl p.last refl l
grant_linked which b false later e l = l

-- A round: one grant before each service, and behind it the lowest channels and the arbiter as that grant left them.
turned_low : (b : Board) (who : Chip) (x y : Controller) → x.lowest ≡ y.lowest → (which : Chip) → (chip (turned_to b who x) which).lowest ≡ (chip (turned_to b who y) which).lowest
turned_low b First x y e First = e
turned_low b First x y e Second = refl
turned_low b Second x y e First = refl
turned_low b Second x y e Second = e

module _ (d : List ℕ) (w : BoardCourse) (at : Stands w) (some : quiet w.board ≡ false) where
  left_lowest : (service_next w d).world.controller.lowest ≡ (granted (winning w.board) (picked (winning w.board))).lowest
  unfolding stopped
  left_lowest = subst (λ (x : Given). x.ran.controller.lowest ≡ (g d w at some).lowest) (ran d w at some) (run_kept (g d w at some) w.memory (bytes d w at some) (room d w at some) 65536 0)

  after_low : (which : Chip) → (chip (after_service w d).board which).lowest ≡ (chip (granted_to w.board) which).lowest
  unfolding with_service granted_to
  after_low which = turned_low w.board (winner w.board) _ _ left_lowest which

  after_last : (after_service w d).board.granted_last ≡ (granted_to w.board).granted_last
  unfolding with_service granted_to
  after_last = turned_last w.board (winner w.board) _ ∙ sym (turned_last w.board (winner w.board) _)

linked_round : (which : Chip) (left : ℕ) (d : List ℕ) (w : BoardCourse) → Stands w → (later : List BoardGranted)
    → Linked which (chip (board_round_of left d w).course.board which).lowest (board_round_of left d w).course.board.granted_last later
    → Linked which (chip w.board which).lowest w.board.granted_last (round_grants left d w ++ later)
unfolding board_round_of round_grants first when
linked_round which zero d w at later l = l
linked_round which (suc left) d w at later l =
    go (quiet w.board) (not (is_ended (service_next w d).reason)) refl refl (λ s. linked_round which left d (after_service w d) s later) l
  where
    go : (q t : Bool) → quiet w.board ≡ q → not (is_ended (service_next w d).reason) ≡ t
        → (Stands (after_service w d) → Linked which (chip (board_round_of left d (after_service w d)).course.board which).lowest (board_round_of left d (after_service w d)).course.board.granted_last later
        → Linked which (chip (after_service w d).board which).lowest (after_service w d).board.granted_last (round_grants left d (after_service w d) ++ later))
        → Linked which (chip (first (board_close w (Ok Quiet) if q ∷ []) (first (board_close (after_service w d) (Ok (Stopped (service_next w d).reason)) if t ∷ []) (board_round_of left d (after_service w d)))).course.board which).lowest
        (first (board_close w (Ok Quiet) if q ∷ []) (first (board_close (after_service w d) (Ok (Stopped (service_next w d).reason)) if t ∷ []) (board_round_of left d (after_service w d)))).course.board.granted_last later
        → Linked which (chip w.board which).lowest w.board.granted_last (first ([] if q ∷ []) (granted-on w.board (winning_channel w.board) ∷ first ([] if t ∷ []) (round_grants left d (after_service w d))) ++ later)
    go true t eq et ih l = l
    go false true eq et ih l =
        let p = pair w.board at.range in
        link refl (lowest_few (chip w.board which) (each w.board p which)) refl p.last refl (linked_from (after_low d w at eq which) (after_last d w at eq) l)
    go false false eq et ih l =
        let p = pair w.board at.range in
        link refl (lowest_few (chip w.board which) (each w.board p which)) refl p.last refl
        (linked_from (after_low d w at eq which) (after_last d w at eq) (ih (stands_on d w at eq (not-false _ et)) l))

unmoved_linked : (which : Chip) (b x : Board) (gs : List BoardGranted) → Unmoved b x → Linked which (chip x which).lowest x.granted_last gs → Linked which (chip b which).lowest b.granted_last gs
unmoved_linked which b x gs u l = linked_from (u.lowest which) u.arbiter l

round_linked : (which : Chip) (b : Board) (m d r : List ℕ) (k : ℕ) (later : List BoardGranted)
    → Linked which (chip (next b (Round m d r k)) which).lowest (next b (Round m d r k)).granted_last later
    → Linked which (chip b which).lowest b.granted_last (made b (Round m d r k) ++ later)
unfolding board_rounded_of board_closed when
round_linked which b m d r k later l = go (eqb (refusal (board_round_grounds b m k)) 0) refl l
  where
    go : (t : Bool) → eqb (refusal (board_round_grounds b m k)) 0 ≡ t
        → Linked which (chip (when t (board_closed (board_round_of k d (board_beginning b m r))) (board_closed (board_close (board_beginning b m r) (Err (numbered (refusal (board_round_grounds b m k))))))).rounded.board which).lowest
        (when t (board_closed (board_round_of k d (board_beginning b m r))) (board_closed (board_close (board_beginning b m r) (Err (numbered (refusal (board_round_grounds b m k))))))).rounded.board.granted_last later
        → Linked which (chip b which).lowest b.granted_last (when t (round_grants k d (board_beginning b m r)) [] ++ later)
    go true e l = linked_round which k d (board_beginning b m r) (round_stands b m r k (eqb-true _ _ e)) later l
    go false e l = l

granting : (which : Chip) (b : Board) (later : List BoardGranted) → Linked which (chip (next b Grant) which).lowest (next b Grant).granted_last later
    → Linked which (chip b which).lowest b.granted_last (made b Grant ++ later)
unfolding board_outcome
granting which b later l = grant_linked which b _ later refl l

-- the grants of operations are linked
linked_of : (which : Chip) (b : Board) (ops : List BoardOp) → Trace b ops → Linked which (chip b which).lowest b.granted_last (grants b ops)
linked_of which b [] u = last
linked_of which b (Write r x ∷ ops) u = unmoved_linked which b _ _ (write_unmoved b r x u.0) (linked_of which (next b (Write r x)) ops u.1)
linked_of which b (Read r ∷ ops) u = unmoved_linked which b _ _ (read_unmoved b r) (linked_of which (next b (Read r)) ops u.1)
linked_of which b (Pins p ∷ ops) u = unmoved_linked which b _ _ (pins_unmoved b p) (linked_of which (next b (Pins p)) ops u.1)
linked_of which b (Reset ∷ ops) u = unmoved_linked which b _ _ (reset_unmoved b u.0) (linked_of which (next b Reset) ops u.1)
linked_of which b (Waits chip n ∷ ops) u = unmoved_linked which b _ _ (waits_unmoved b chip n) (linked_of which (next b (Waits chip n)) ops u.1)
linked_of which b (Grant ∷ ops) u = granting which b _ (linked_of which (next b Grant) ops u.1)
linked_of which b (Run m d r limit eop ∷ ops) u = unmoved_linked which b _ _ (run_unmoved b m d r limit eop) (linked_of which (next b (Run m d r limit eop)) ops u.1)
linked_of which b (Round m d r k ∷ ops) u = round_linked which b m d r k _ (linked_of which (next b (Round m d r k)) ops u.1)
linked_of which b (SheetWriting form chip out ∷ ops) u = linked_of which b ops u.1
linked_of which b (SheetReading form chip bytes ∷ ops) u = unmoved_linked which b _ _ (reading_unmoved b form chip bytes u.0) (linked_of which (next b (SheetReading form chip bytes)) ops u.1)

pub board_demand_3 : BoardDemand3
board_demand_3 b ops which n past window rest small u same h =
    fair_window which n small past window rest (subst (Linked which (chip b which).lowest b.granted_last) same (linked_of which b ops u)) h

-- a grant on an idle board in its ranges is made, and told
pub grant_made : (b : Board) → pair_valid b ≡ true → serves b ≡ false → quiet b ≡ false → board_grant_of b ≡ record { board = granted_to b; answer = Ok (Some (winning_channel b)) }
unfolding board_outcome refusal first when
grant_made b v i q = simp (v, i, q)

round_granted : (left : ℕ) (d : List ℕ) (w : BoardCourse) → Stands w → All (λ (g : BoardGranted). (board_grant_of g.before).answer ≡ Ok (Some g.channel)) (round_grants left d w)
unfolding round_grants first
round_granted zero d w at = none
round_granted (suc left) d w at =
    let P : List BoardGranted → Type 0 = All (λ (g : BoardGranted). (board_grant_of g.before).answer ≡ Ok (Some g.channel)) in
    when_each P (quiet w.board) (λ e. none)
    (λ some. also (ap (λ (o : BoardOutcome). o.answer) (grant_made w.board at.range at.idle some)) (when_each P (not (is_ended (service_next w d).reason)) (λ e. none) (λ e. round_granted left d (after_service w d) (stands_on d w at some (not-false _ e)))))

pub round_grants_are_grants : RoundGrantsAreGrants
round_grants_are_grants b m d r k =
    when_each (All (λ (g : BoardGranted). (board_grant_of g.before).answer ≡ Ok (Some g.channel))) (eqb (refusal (board_round_grounds b m k)) 0)
    (λ e. round_granted k d (board_beginning b m r) (round_stands b m r k (eqb-true _ _ e))) (λ e. none)

-- a grant on an idle board in its ranges is made, and told
grant_told : (b : Board) → pair_valid b ≡ true → serves b ≡ false → quiet b ≡ false → (board_grant_of b).answer ≡ Ok (Some (winning_channel b))
unfolding board_outcome refusal first when
grant_told b v i q = simp (v, i, q)

-- What the board refuses, and what one of its controllers does and says where the board refuses nothing.
use Prim.Native.Nat.{ℕ, ◌≤◌}
use mathlib.Core.Path.{◌≡◌, refl, sym, ap, ◌∙◌}
use mathlib.Core.Bool.{Bool, true, false, not, ◌&&◌, ◌||◌}
use mathlib.Core.List.{List, [], ◌++◌}
use native.Mathlib.Omega.{arith}
use lib.Dec.{eqb}
use borrow.Author.Tests.{ne_eqb, not-false, not-true, leb-true, ltb-false, le-ltb}
use Rattle.words.specs.Choice.{when, ◌and◌}
use Rattle.words.specs.Grounds.{Ground, first}
use Rattle.am9517.specs.Fields.{put, Pins}
use Rattle.am9517.specs.Ranges.{valid}
use Rattle.am9517.specs.State.{cleared}
use Rattle.am9517.specs.Refusals.{numbered, refused, refusal, busy}
use Rattle.am9517.specs.Answers.{refusal_number, outcome, pins_of, reset_of, grant_of}
use Rattle.am9517.specs.Serving.{picked, picked_from, granted}
use Rattle.am9517.specs.declared.Controller.{Controller}
use Rattle.am9517.specs.declared.Outcome.{Outcome}
use Rattle.am9517.specs.declared.refusals.Refusal.{Refusal}
use Rattle.am9517_service.specs.Round.{nobody}
use Rattle.board.specs.declared.Board.{Board}
use Rattle.board.specs.declared.Chip.{Chip}
use Rattle.board.specs.declared.Chip.TheVariants.{First, Second}
use Rattle.board.specs.declared.BoardOutcome.{BoardOutcome}
use Rattle.board.specs.Chips.{chip, with_chip, channel_of}
use Rattle.board.specs.Bus.{winner_of, winner, quiet, turned_to, granted_to, winning_channel}
use Rattle.board.specs.Ranges.{both_serve, pair_valid, serves}
use Rattle.board.specs.Refusals.{access_grounds, idle_grounds, board_pins_grounds, board_reset_grounds, board_grant_grounds}
use Rattle.board.specs.Answers.{board_outcome}
use Rattle.words.proofs.ChoiceLaws.{when_both, both, never}
use Rattle.words.proofs.GroundLaws.{passed, Numbered}
use Rattle.board.proofs.RefusalLaws.{named, few, told_by, taken}
use Rattle.board.proofs.RefusalLaws.{front_refused, front_passed}
use Rattle.std.proofs.Common.{Option, Some, None, Ok, Err}
use Rattle.board.proofs.ChipLaws.{chip_back}

-- the number that an answer says is the refusal's own
pub stated : (r : BoardOutcome) (n : ℕ) (was next : Board) (told : Option ℕ) → n ≤ 15 → r ≡ board_outcome n was next told
    → (r ≡ board_outcome n was next told) × (refusal_number r.answer ≡ n)
unfolding board_outcome
stated r n was next told l e = (e, ap (λ (o : BoardOutcome). refusal_number o.answer) e ∙ told_by n told (eqb n 0) refl l)

pub grounds_stated : (r : BoardOutcome) (gs : List (Ground ℕ)) (was next : Board) (told : Option ℕ) → named gs ≡ true → r ≡ board_outcome (refusal gs) was next told
    → (r ≡ board_outcome (refusal gs) was next told) × (refusal_number r.answer ≡ refusal gs)
grounds_stated r gs was next told h e = stated r (refusal gs) was next told (few gs h) e

-- Refused.
pub refused_is : (n : ℕ) (was next : Board) (told : Option ℕ) (r : Refusal) → refused n ≡ Some r → record { board = was; answer = Err r } ≡ board_outcome n was next told
unfolding board_outcome when
refused_is n was next told r h = let t = taken n r h in simp (ne_eqb n 0 t.0, t.1)

-- Accepted.
pub accepted_is : (n : ℕ) (was next : Board) (told : Option ℕ) → n ≡ 0 → record { board = next; answer = Ok told } ≡ board_outcome n was next told
unfolding board_outcome when
accepted_is n was next told e = rw e refl

-- What a chip's own outcome leaves of the board.
carried_by_lem : (t : Bool) (n : ℕ) (b : Board) (which : Chip) (next : Controller) (told : Option ℕ)
    → ◌≡◌ {A = BoardOutcome} (record { board = with_chip b which (when t next (chip b which)); answer = when t (Ok told) (Err (numbered n)) }) (record { board = when t (with_chip b which next) b; answer = when t (Ok told) (Err (numbered n)) })
unfolding when
carried_by_lem true n b which next told = refl
carried_by_lem false n b which next told = ap (λ (x : Board). record { board = x; answer = Err (numbered n) }) (chip_back b which)

pub carried_is : (n : ℕ) (b : Board) (which : Chip) (next : Controller) (told : Option ℕ) (o : Outcome) → o ≡ outcome n (chip b which) next told
    → record { board = with_chip b which o.controller; answer = o.answer } ≡ board_outcome n b (with_chip b which next) told
unfolding outcome board_outcome
carried_is n b which next told o e =
    ap (λ (x : Outcome). record { board = with_chip b which x.controller; answer = x.answer }) e ∙ carried_by_lem (eqb n 0) n b which next told

-- the same, of the chip that was found and the outcome that it gave
pub carries : (b : Board) (N : Controller → ℕ) (next : Controller → Controller) (told : Controller → Option ℕ) (n : ℕ) (which found : Chip) (c : Controller) (o : Outcome) (x : BoardOutcome)
    → N (chip b which) ≡ n → found ≡ which → c ≡ chip b found → o ≡ outcome (N c) c (next c) (told c) → x ≡ record { board = with_chip b found o.controller; answer = o.answer }
    → x ≡ board_outcome n b (with_chip b which (next (chip b which))) (told (chip b which))
carries b N next told n which found c o x en ew ec eo ex =
    let there : c ≡ chip b which = ec ∙ ap (chip b) ew in
    ex
    ∙ ap (λ (w : Chip). record { board = with_chip b w o.controller; answer = o.answer }) ew
    ∙ carried_is (N (chip b which)) b which (next (chip b which)) (told (chip b which)) o (eo ∙ ap (λ (k : Controller). outcome (N k) k (next k) (told k)) there)
    ∙ ap (λ (k : ℕ). board_outcome k b (with_chip b which (next (chip b which))) (told (chip b which))) en

-- a refusal by grounds in front of others is that of all
refused_front : (front further : List (Ground ℕ)) → Numbered front → (r : Refusal) → refused (refusal front) ≡ Some r → refused (refusal (front ++ further)) ≡ Some r
refused_front front further h r e = ap refused (front_refused front further h (taken (refusal front) r e).0) ∙ e

-- of the board's own grounds, before those of a chip
pub access_refused : (b : Board) (r : ℕ) (further : List (Ground ℕ)) (x : Refusal) → refused (refusal (access_grounds b r [])) ≡ Some x → refused (refusal (access_grounds b r further)) ≡ Some x
access_refused b r further x e = refused_front (access_grounds b r []) further (omega arith, (omega arith, (omega arith, tt))) x e

pub access_passed : (b : Board) (r : ℕ) (further : List (Ground ℕ)) → refusal (access_grounds b r []) ≡ 0 → refusal further ≡ refusal (access_grounds b r further)
access_passed b r further z = sym (front_passed (access_grounds b r []) further (omega arith, (omega arith, (omega arith, tt))) z)

pub idle_refused : (b : Board) (further : List (Ground ℕ)) (x : Refusal) → refused (refusal (idle_grounds b [])) ≡ Some x → refused (refusal (idle_grounds b further)) ≡ Some x
idle_refused b further x e = refused_front (idle_grounds b []) further (omega arith, (omega arith, tt)) x e

pub idle_passed : (b : Board) (further : List (Ground ℕ)) → refusal (idle_grounds b []) ≡ 0 → refusal further ≡ refusal (idle_grounds b further)
idle_passed b further z = sym (front_passed (idle_grounds b []) further (omega arith, (omega arith, tt)) z)

-- what a pair in its ranges tells
pub record Pair (b : Board) : Type 0 where
  pub first : valid b.first ≡ true
  pub second : valid b.second ≡ true
  pub last : b.granted_last ≤ 1
  pub one : both_serve b ≡ false

pub each : (b : Board) → Pair b → (which : Chip) → valid (chip b which) ≡ true
each b p First = p.first
each b p Second = p.second

pub pair : (b : Board) → pair_valid b ≡ true → Pair b
unfolding pair_valid
pair b e =
    let x = both _ _ e in
    let y = both _ _ x.right in
    let z = both _ _ y.right in
    record { first = x.left; second = y.left; last = leb-true _ _ z.left; one = not-true _ z.right }

-- what the grounds tell that did not refuse
pub pins_passed : (b : Board) (p n : ℕ) → n ≡ refusal (board_pins_grounds b p) → n ≡ 0 → Pair b × (p ≤ 255)
unfolding refusal first
pins_passed b p n e z =
    let good = passed _ _ _ (omega arith) (sym e ∙ z) in
    let most = passed _ _ _ (omega arith) good.next in
    (pair b (not-false _ good.test), ltb-false _ _ most.test)

pub reset_passed : (b : Board) (n : ℕ) → n ≡ refusal (board_reset_grounds b) → n ≡ 0 → Pair b
unfolding refusal first
reset_passed b n e z = pair b (not-false _ (passed _ _ _ (omega arith) (sym e ∙ z)).test)

-- what both chips did stands on the board
pub settles : (b : Board) (n : ℕ) → n ≡ 0 → (one two one' two' : Controller) (last : ℕ) (x : BoardOutcome) → one ≡ one' → two ≡ two'
    → x ≡ record { board = record { first = one; second = two; granted_last = last }; answer = Ok None }
    → x ≡ board_outcome n b (record { first = one'; second = two'; granted_last = last }) None
settles b n z one two one' two' last x e1 e2 ex =
    ex ∙ rw (e1, e2) (accepted_is n b (record { first = one'; second = two'; granted_last = last }) None z)

-- a chip in its ranges takes pins and reset
pub chip_pins : (c : Controller) (p : ℕ) → valid c ≡ true → p ≤ 15 → (pins_of c p).controller ≡ put c Pins p
unfolding outcome refusal first when
chip_pins c p v h = simp (v, le-ltb _ _ h)

pub chip_reset : (c : Controller) → valid c ≡ true → (reset_of c).controller ≡ cleared c
unfolding outcome refusal first when
chip_reset c v = simp v

-- The channel picked is one of four, or 4.
pub picked_few : (c : Controller) → picked c ≤ 4
unfolding picked picked_from first
picked_few c =
    when_both (λ (x : ℕ). x ≤ 4) _ (omega arith) (when_both (λ (x : ℕ). x ≤ 4) _ (omega arith) (when_both (λ (x : ℕ). x ≤ 4) _ (omega arith) (when_both (λ (x : ℕ). x ≤ 4) _ (omega arith) (omega arith))))

-- who gets the bus wants it, unless nobody does
pub winner_wants : (b : Board) → quiet b ≡ false → nobody (chip b (winner b)) ≡ false
unfolding quiet winner_of ◌and◌ when
winner_wants b h = go (nobody b.first) (nobody b.second) (eqb b.granted_last 0) refl refl h
  where
    go : (x y t : Bool) → nobody b.first ≡ x → nobody b.second ≡ y → (x && y) ≡ false → nobody (chip b (when (not x) (when (not y) (when t Second First) First) Second)) ≡ false
    go true true t ex ey e = never e
    go true false t ex ey e = ey
    go false true t ex ey e = ex
    go false false true ex ey e = ey
    go false false false ex ey e = ex

-- neither serves
pub each_idle : (b : Board) → serves b ≡ false → (which : Chip) → busy (chip b which) ≡ false
each_idle b h which = go (busy b.first) (busy b.second) refl refl h which
  where
    go : (x y : Bool) → busy b.first ≡ x → busy b.second ≡ y → (x || y) ≡ false → (w : Chip) → busy (chip b w) ≡ false
    go true y ex ey e w = never e
    go false true ex ey e w = never e
    go false false ex ey e First = ex
    go false false ex ey e Second = ey

pub record Granting (b : Board) : Type 0 where
  pub pair : Pair b
  pub idle : serves b ≡ false
  pub some : quiet b ≡ false

pub grant_passed : (b : Board) (n : ℕ) → n ≡ refusal (board_grant_grounds b) → n ≡ 0 → Granting b
unfolding refusal first
grant_passed b n e z =
    let good = passed _ _ _ (omega arith) (sym e ∙ z) in
    let idle = passed _ _ _ (omega arith) good.next in
    let some = passed _ _ _ (omega arith) idle.next in
    record { pair = pair b (not-false _ good.test); idle = idle.test; some = some.test }

-- a chip in its ranges, idle, with somebody entitled, is granted
pub chip_granted : (c : Controller) → valid c ≡ true → busy c ≡ false → nobody c ≡ false → (grant_of c).controller ≡ granted c (picked c)
unfolding outcome refusal first when
chip_granted c v i s = simp (v, i, s)

pub granted_is : (b : Board) → refusal (board_grant_grounds b) ≡ 0 → (which : Chip) → which ≡ winner b → (c : Controller) → c ≡ chip b which → (p : ℕ) → p ≡ picked c → (o : Outcome) → o ≡ grant_of c
    → (next : Board) → next ≡ turned_to b which o.controller → (x : ℕ) → x ≡ channel_of which p
    → record { board = next; answer = Ok (Some x) } ≡ board_outcome (refusal (board_grant_grounds b)) b (granted_to b) (Some (winning_channel b))
unfolding granted_to
granted_is b z which ew c ec p ep o eo next en x ex =
    let g = grant_passed b _ refl z in
    let own : o.controller ≡ granted c (picked c) =
    ap (λ (y : Outcome). y.controller) eo ∙ rw (ec, ew) (chip_granted (chip b (winner b)) (each b g.pair (winner b)) (each_idle b g.idle (winner b)) (winner_wants b g.some)) in
    let board : next ≡ granted_to b = en ∙ ap (turned_to b which) own ∙ rw (ec, ew) refl in
    let said : x ≡ winning_channel b = ex ∙ rw (ep, ec, ew) refl in
    ap (λ (y : Board). record { board = y; answer = Ok (Some x) }) board ∙ ap (λ (y : ℕ). record { board = granted_to b; answer = Ok (Some y) }) said
    ∙ accepted_is (refusal (board_grant_grounds b)) b (granted_to b) (Some (winning_channel b)) z

-- A round on the board goes on service by service.
use Prim.Native.Nat.{ℕ, zero, suc, ◌+◌, ◌-◌, ◌*◌, ◌≤◌, ◌<◌}
use mathlib.Core.Path.{◌≡◌, refl, sym, ap, ◌∙◌}
use mathlib.Core.Bool.{Bool, true, false, not, ◌&&◌}
use mathlib.Core.List.{List, [], ◌∷◌, ◌++◌}
use native.Mathlib.Omega.{arith}
use lib.Dec.{eqb}
use lib.ListN.{length, get_or, set, take}
use borrow.Author.Tests.{eqb-true, eqb-false, ne_eqb, not-false, ltb-false}
use Rattle.words.specs.Choice.{when, ◌and◌}
use Rattle.words.specs.Grounds.{first}
use Rattle.am9517.specs.Ranges.{valid}
use Rattle.am9517.specs.Refusals.{numbered, refused, refusal}
use Rattle.am9517.specs.declared.refusals.Refusal.{Refusal}
use Rattle.am9517.specs.Serving.{picked}
use Rattle.am9517.specs.declared.Controller.{Controller}
use Rattle.am9517_service.specs.declared.Counts.{Counts}
use Rattle.am9517_service.specs.declared.Reason.{Reason}
use Rattle.am9517_service.specs.declared.RoundEnd.TheVariants.{Done, Quiet, Stopped}
use Rattle.am9517_service.specs.declared.turns.Rota.{Rota}
use Rattle.am9517_service.specs.declared.turns.Served.{Served}
use Rattle.am9517_service.specs.Counts.{none, plus}
use Rattle.am9517_service.specs.World.{Stop}
use Rattle.am9517_service.specs.Bounds.{most_transfers, most_states}
use Rattle.am9517_service.specs.Round.{RoundAnswer, nobody, is_ended}
use Rattle.am9517_service.specs.RoundAnswers.{round_refusal_number}
use Rattle.am9517_service.specs.Turns.{rota_of, ServedGiven, served_given, served_of, Ready, Serves}
use Rattle.board.specs.declared.Board.{Board}
use Rattle.board.specs.declared.BoardRounded.{BoardRounded}
use Rattle.board.specs.declared.Chip.{Chip}
use Rattle.board.specs.declared.Chip.TheVariants.{First, Second}
use Rattle.board.specs.Chips.{number_of, chip, fresh_board}
use Rattle.board.specs.Bus.{winner_of, winner, winning, winning_channel, quiet, turned_to}
use Rattle.board.specs.Refusals.{board_round_grounds}
use Rattle.board.specs.Round.{BoardCourse, board_course, board_beginning, service_next, with_service, after_service, BoardClose, board_close, board_round_of}
use Rattle.board.specs.RoundAnswers.{BoardRoundGiven, board_round_given, board_closed, board_rounded_of}
use Rattle.words.proofs.ChoiceLaws.{when_both, when_hit, when_miss}
use Rattle.words.proofs.GroundLaws.{passed}
use Rattle.board.proofs.RefusalLaws.{taken, few, number_back}
use Rattle.std.proofs.Common.{Some, Ok, Err}
use Rattle.board.proofs.ChipLaws.{number_below}
use Rattle.board.proofs.OutcomeLaws.{pair, each_idle, picked_few, winner_wants}

-- the rota of a chip, and the board of two
abbrev pub rota_at : Chip → Rota → Rota → Rota
rota_at First x y = x
rota_at Second x y = y

abbrev pub board_in : Rota → Rota → ℕ → Board
board_in x y last = record { first = x.controller; second = y.controller; granted_last = last }

abbrev pub rounded : Board → RoundAnswer → List ℕ → Counts → BoardRounded
rounded b a services n = record { board = b; answer = a; services = services; totals = n }

-- a controller at rest, as its rota tells
pub record Resting (ρ : Rota) : Type 0 where
  pub own : ρ ≡ rota_of ρ.controller
  pub range : valid ρ.controller ≡ true
  pub idle : ρ.controller.in_service ≡ 0

-- Where the loop stands, with `left` services to go: what is left of it comes to o.
pub record Rolling (k : ℕ) (d : List ℕ) (size : ℕ) (o : BoardClose) (services : List ℕ) (n : Counts) (rotas : List Rota) (nexts : List ℕ) (last left : ℕ) (m r : List ℕ) : Type 0 where
  pub one : Rota
  pub two : Rota
  pub rotas_are : rotas ≡ one ∷ two ∷ []
  pub nexts_are : nexts ≡ picked one.controller ∷ picked two.controller ∷ []
  pub resting : (which : Chip) → Resting (rota_at which one two)
  pub memory : length m ≡ 65536
  pub room : length r ≡ size
  pub used : n.used ≤ length d
  pub written : n.written ≤ size
  pub begun : (i : ℕ) → get_or services i 0 ≤ k - left
  pub transfers : n.transfers ≤ (k - left) * most_transfers
  pub states : n.states ≤ (k - left) * most_states
  pub fewer : left ≤ k
  pub most : k ≤ 4096
  pub same : board_round_of left d (board_course (board_in one two last) m r services n) ≡ o

-- what an accepted round has found
pub round_passed : (b : Board) (m : List ℕ) (k : ℕ) → refusal (board_round_grounds b m k) ≡ 0
    → (valid b.first ≡ true) × (valid b.second ≡ true) × (b.first.in_service ≡ 0) × (b.second.in_service ≡ 0) × (length m ≡ 65536) × (k ≤ 4096)
unfolding refusal first
round_passed b m k z =
    let good = passed _ _ _ (omega arith) z in
    let most = passed _ _ _ (omega arith) good.next in
    let size = passed _ _ _ (omega arith) most.next in
    let idle = passed _ _ _ (omega arith) size.next in
    let p = pair b (not-false _ good.test) in
    (p.first, p.second, eqb-true _ _ (not-false _ (each_idle b idle.test First)), eqb-true _ _ (not-false _ (each_idle b idle.test Second)), eqb-true _ _ (not-false _ size.test), ltb-false _ _ most.test)

pub rolling_start : (b : Board) (m d r : List ℕ) (k : ℕ) → valid b.first ≡ true → valid b.second ≡ true → b.first.in_service ≡ 0 → b.second.in_service ≡ 0 → length m ≡ 65536 → k ≤ 4096
    → (one two : Rota) → one ≡ rota_of b.first → two ≡ rota_of b.second → (p q : ℕ) → p ≡ picked one.controller → q ≡ picked two.controller → (z : Counts) → z ≡ none
    → Rolling k d (length r) (board_round_of k d (board_beginning (board_in one two b.granted_last) m r)) (0 ∷ 0 ∷ 0 ∷ 0 ∷ 0 ∷ 0 ∷ 0 ∷ 0 ∷ []) z (one ∷ two ∷ []) (p ∷ q ∷ []) b.granted_last k m r
rolling_start b m d r k v1 v2 i1 i2 size few one two e1 e2 p q ep eq z ez = rw (ep, eq, ez) (go one two e1 e2)
  where
    nothing : (i : ℕ) → get_or (0 ∷ 0 ∷ 0 ∷ 0 ∷ 0 ∷ 0 ∷ 0 ∷ 0 ∷ []) i 0 ≤ k - k
    nothing zero = omega arith
    nothing (suc zero) = omega arith
    nothing (suc (suc zero)) = omega arith
    nothing (suc (suc (suc zero))) = omega arith
    nothing (suc (suc (suc (suc zero)))) = omega arith
    nothing (suc (suc (suc (suc (suc zero))))) = omega arith
    nothing (suc (suc (suc (suc (suc (suc zero)))))) = omega arith
    nothing (suc (suc (suc (suc (suc (suc (suc zero))))))) = omega arith
    nothing (suc (suc (suc (suc (suc (suc (suc (suc i)))))))) = omega arith

    rests : (which : Chip) → Resting (rota_at which (rota_of b.first) (rota_of b.second))
    rests First = record { own = refl; range = v1; idle = i1 }
    rests Second = record { own = refl; range = v2; idle = i2 }

    go : (x y : Rota) → x ≡ rota_of b.first → y ≡ rota_of b.second
        → Rolling k d (length r) (board_round_of k d (board_beginning (board_in x y b.granted_last) m r)) (0 ∷ 0 ∷ 0 ∷ 0 ∷ 0 ∷ 0 ∷ 0 ∷ 0 ∷ []) none (x ∷ y ∷ []) (picked x.controller ∷ picked y.controller ∷ []) b.granted_last k m r
    go x y ex ey =
        rw (ex, ey)
        (record {
          one = rota_of b.first;
          two = rota_of b.second;
          rotas_are = refl;
          nexts_are = refl;
          resting = rests;
          memory = size;
          room = refl;
          used = omega arith;
          written = omega arith;
          begun = nothing;
          transfers = omega arith;
          states = omega arith;
          fewer = omega arith;
          most = few;
          same = refl;
        })

-- a rota that was just made is its controller's own
pub made_own : (c : Controller) (x : Rota) → x ≡ rota_of c → valid c ≡ true → (x ≡ rota_of x.controller) × (valid x.controller ≡ true)
made_own c x e v = rw e (refl, v)

-- the rotas with this chip's as z
abbrev put_one : Chip → Rota → Rota → Rota
put_one First x z = z
put_one Second x z = x

abbrev put_two : Chip → Rota → Rota → Rota
put_two First y z = y
put_two Second y z = z

put_rotas : (which : Chip) (t : ℕ) (x y z : Rota) → t ≡ number_of which → set (x ∷ y ∷ []) t z ≡ put_one which x z ∷ put_two which y z ∷ []
put_rotas First t x y z e = rw e refl
put_rotas Second t x y z e = rw e refl

put_nexts : (which : Chip) (t : ℕ) (x y z : Rota) (p q n : ℕ) → t ≡ number_of which → p ≡ picked x.controller → q ≡ picked y.controller → n ≡ picked z.controller
    → set (p ∷ q ∷ []) t n ≡ picked (put_one which x z).controller ∷ picked (put_two which y z).controller ∷ []
put_nexts First t x y z p q n e ep eq en = rw (e, eq, en) refl
put_nexts Second t x y z p q n e ep eq en = rw (e, ep, en) refl

rota_got : (which : Chip) (t : ℕ) (x y δ : Rota) → t ≡ number_of which → get_or (x ∷ y ∷ []) t δ ≡ rota_at which x y
rota_got First t x y δ e = rw e refl
rota_got Second t x y δ e = rw e refl

next_got : (which : Chip) (t : ℕ) (x y : Rota) → t ≡ number_of which → get_or (picked x.controller ∷ picked y.controller ∷ []) t 0 ≡ picked (rota_at which x y).controller
next_got First t x y e = rw e refl
next_got Second t x y e = rw e refl

chip_in : (which : Chip) (x y : Rota) (last : ℕ) → chip (board_in x y last) which ≡ (rota_at which x y).controller
chip_in First x y last = refl
chip_in Second x y last = refl

board_turned : (which : Chip) (x y z : Rota) (last t : ℕ) → t ≡ number_of which → board_in (put_one which x z) (put_two which y z) t ≡ turned_to (board_in x y last) which z.controller
board_turned First x y z last t e = rw e refl
board_turned Second x y z last t e = rw e refl

put_resting : (which : Chip) (x y z : Rota) → ((w : Chip) → Resting (rota_at w x y)) → Resting z → (w : Chip) → Resting (rota_at w (put_one which x z) (put_two which y z))
put_resting First x y z h s First = s
put_resting First x y z h s Second = h Second
put_resting Second x y z h s First = h First
put_resting Second x y z h s Second = s

-- one service more of a channel
one_more : (l : List ℕ) (n b : ℕ) → ((i : ℕ) → get_or l i 0 ≤ b) → (i : ℕ) → get_or (set l n (get_or l n 0 + 1)) i 0 ≤ b + 1
one_more [] n b h i = omega (arith, h i)
one_more (x ∷ xs) zero b h zero = omega (arith, h 0)
one_more (x ∷ xs) zero b h (suc i) = omega (arith, h (suc i))
one_more (x ∷ xs) (suc n) b h zero = omega (arith, h 0)
one_more (x ∷ xs) (suc n) b h (suc i) = one_more xs n b (λ k. h (suc k)) i

-- the services of one chip more
next_mul : (x y : ℕ) → (x + 1) * y ≡ x * y + y
next_mul x y = omega arith

module _ (k : ℕ) (d : List ℕ) (size : ℕ) (o : BoardClose) (services : List ℕ) (n : Counts) (rotas : List Rota) (nexts : List ℕ) (last left : ℕ) (m r : List ℕ)
    (g : Rolling k d size o services n rotas nexts last left m r) where
  abbrev B : Board
  B = board_in g.one g.two last

  abbrev W : BoardCourse
  W = board_course B m r services n

  -- neither wants the bus
  abbrev Test : Bool
  Test = eqb (get_or nexts 0 0) 4 && eqb (get_or nexts 1 0) 4

  none_one : eqb (get_or nexts 0 0) 4 ≡ nobody g.one.controller
  none_one = ap (λ (l : List ℕ). eqb (get_or l 0 0) 4) g.nexts_are

  none_two : eqb (get_or nexts 1 0) 4 ≡ nobody g.two.controller
  none_two = ap (λ (l : List ℕ). eqb (get_or l 1 0) 4) g.nexts_are

  quiet_is : (t : Bool) → Test ≡ t → quiet B ≡ t
  unfolding quiet ◌and◌
  quiet_is t e = ap (λ (x : Bool). x && nobody g.two.controller) (sym none_one) ∙ ap (λ (y : Bool). eqb (get_or nexts 0 0) 4 && y) (sym none_two) ∙ e

  -- all services were begun
  pub rolling_done : left ≡ 0 → (δ : Rota) → board_round_given (rounded (board_in (get_or rotas 0 δ) (get_or rotas 1 δ) last) (Ok Done) services n) m r ≡ board_closed o
  unfolding board_closed board_round_of
  rolling_done z δ =
      let there : board_close W (Ok Done) ≡ o = ap (λ (j : ℕ). board_round_of j d W) (sym z) ∙ g.same in
      rw g.rotas_are (ap board_closed there)

  -- nobody wants the bus
  pub rolling_quiet : 0 < left → Test ≡ true → (δ : Rota) → board_round_given (rounded (board_in (get_or rotas 0 δ) (get_or rotas 1 δ) last) (Ok Quiet) services n) m r ≡ board_closed o
  unfolding board_closed board_round_of first
  rolling_quiet more e δ =
      let s : suc (left - 1) ≡ left = omega arith in
      let there : board_close W (Ok Quiet) ≡ o = sym (when_hit _ _ _ (quiet_is true e)) ∙ ap (λ (j : ℕ). board_round_of j d W) s ∙ g.same in
      rw g.rotas_are (ap board_closed there)

  module _ (more : 0 < left) (test : Test ≡ false) (which : Chip) (is-which : which ≡ winner_of last (not (eqb (get_or nexts 0 0) 4)) (not (eqb (get_or nexts 1 0) 4))) (t : ℕ) (is-t : t ≡ number_of which) where
    loud : quiet B ≡ false
    loud = quiet_is false test

    wins : which ≡ winner B
    wins = is-which ∙ ap (λ (x : Bool). winner_of last (not x) (not (eqb (get_or nexts 1 0) 4))) none_one ∙ ap (λ (x : Bool). winner_of last (not (nobody g.one.controller)) (not x)) none_two

    abbrev ρ : Rota
    ρ = rota_at which g.one g.two

    c_is : ρ.controller ≡ winning B
    c_is = sym (chip_in which g.one g.two last) ∙ ap (chip B) wins

    somebody : nobody ρ.controller ≡ false
    somebody = ap nobody c_is ∙ winner_wants B loud

    pub rota_there : (δ : Rota) → get_or rotas t δ ≡ ρ
    rota_there δ = ap (λ (l : List Rota). get_or l t δ) g.rotas_are ∙ rota_got which t g.one g.two δ is-t

    next_there : get_or nexts t 0 ≡ picked ρ.controller
    next_there = ap (λ (l : List ℕ). get_or l t 0) g.nexts_are ∙ next_got which t g.one g.two is-t

    pub next_below : get_or nexts t 0 < 4
    next_below = let some = eqb-false (picked ρ.controller) 4 somebody in omega (arith, next_there, picked_few ρ.controller, some)

    abbrev channel : ℕ
    channel = 4 * t + get_or nexts t 0

    pub place_below : t < 2
    place_below = omega (arith, is-t, number_below which)

    pub channel_below : channel < 8
    channel_below = omega (arith, next_below, place_below)

    pub services_below : get_or services channel 0 < 4096
    services_below = omega (arith, g.begun channel, g.most, g.fewer, more)

    pub ready : (x : Rota) → x ≡ ρ → Ready x n m d r
    ready x ex =
        rw ex
        (record {
          own = (g.resting which).own;
          range = (g.resting which).range;
          idle = (g.resting which).idle;
          some = somebody;
          memory = g.memory;
          used = g.used;
          written = omega (arith, g.written, g.room);
          transfers = omega (arith, g.transfers, g.most);
          states = omega (arith, g.states, g.most);
        })

    abbrev S : Stop
    S = service_next W d

    abbrev services' : List ℕ
    services' = set services channel (get_or services channel 0 + 1)

    channel_is : channel ≡ winning_channel B
    channel_is = ap (λ (j : ℕ). 4 * j + get_or nexts t 0) is-t ∙ ap (λ (j : ℕ). 4 * number_of which + j) next_there ∙ ap (λ (j : ℕ). 4 * number_of which + j) (ap picked c_is) ∙ ap (λ (w : Chip). 4 * number_of w + picked (winning B)) wins

    -- the service that was made
    module _ (y : Rota) (ey : y ≡ ρ) (x : Served) (m' r' : List ℕ) (is : served_given x m' r' ≡ served_of y.controller n m d r) (keeps : Serves y n d (length r) x m' r') where
      made : served_given x m' r' ≡ served_given (record { rota = rota_of S.world.controller; why = S.reason; counts = plus n S.world.counts }) S.world.memory (take n.written r ++ S.world.room)
      unfolding served_of
      made = is ∙ rw ey (rw c_is refl)

      made_controller : x.rota.controller ≡ S.world.controller
      made_controller = ap (λ (z : ServedGiven). z.served.rota.controller) made

      why_is : x.why ≡ S.reason
      why_is = ap (λ (z : ServedGiven). z.served.why) made

      abbrev one' : Rota
      one' = put_one which g.one x.rota

      abbrev two' : Rota
      two' = put_two which g.two x.rota

      behind : after_service W d ≡ board_course (board_in one' two' t) m' r' services' x.counts
      unfolding with_service
      behind =
          let f : Board → List ℕ → List ℕ → ℕ → Counts → BoardCourse = λ b μ ρ' j z. board_course b μ ρ' (set services j (get_or services j 0 + 1)) z in
          ap (λ (b : Board). f b S.world.memory (take n.written r ++ S.world.room) (winning_channel B) (plus n S.world.counts))
          (ap (λ (w : Chip). turned_to B w S.world.controller) (sym wins) ∙ ap (turned_to B which) (sym made_controller) ∙ sym (board_turned which g.one g.two x.rota last t is-t))
          ∙ ap (λ (μ : List ℕ). f (board_in one' two' t) μ (take n.written r ++ S.world.room) (winning_channel B) (plus n S.world.counts)) (sym (ap (λ (z : ServedGiven). z.memory) made))
          ∙ ap (λ (μ : List ℕ). f (board_in one' two' t) m' μ (winning_channel B) (plus n S.world.counts)) (sym (ap (λ (z : ServedGiven). z.room) made))
          ∙ ap (λ (j : ℕ). f (board_in one' two' t) m' r' j (plus n S.world.counts)) (sym channel_is)
          ∙ ap (f (board_in one' two' t) m' r' channel) (sym (ap (λ (z : ServedGiven). z.served.counts) made))

      goes : when (not (is_ended S.reason)) (board_close (after_service W d) (Ok (Stopped S.reason))) (board_round_of (left - 1) d (after_service W d)) ≡ o
      unfolding board_round_of first
      goes = let s : suc (left - 1) ≡ left = omega (arith, more) in sym (when_miss _ _ _ loud) ∙ ap (λ (j : ℕ). board_round_of j d W) s ∙ g.same

      -- it did not end, and the round closes
      pub rolling_stops : is_ended x.why ≡ false → (δ : Rota)
          → board_round_given (rounded (board_in (get_or (set rotas t x.rota) 0 δ) (get_or (set rotas t x.rota) 1 δ) t) (Ok (Stopped x.why)) services' x.counts) m' r' ≡ board_closed o
      unfolding board_closed
      rolling_stops h δ =
          let stays : is_ended S.reason ≡ false = sym (ap is_ended why_is) ∙ h in
          let there : board_close (board_course (board_in one' two' t) m' r' services' x.counts) (Ok (Stopped x.why)) ≡ o =
          ap (λ (w : BoardCourse). board_close w (Ok (Stopped x.why))) (sym behind) ∙ ap (λ (e : Reason). board_close (after_service W d) (Ok (Stopped e))) why_is ∙ sym (when_hit _ _ _ (ap not stays)) ∙ goes in
          rw (g.rotas_are, put_rotas which t g.one g.two x.rota is-t) (ap board_closed there)

      -- it did, and the loop goes on
      pub rolling_on : is_ended x.why ≡ true → (p : ℕ) → p ≡ picked x.rota.controller
          → (left' : ℕ) → left' ≡ left - 1 → Rolling k d size o services' x.counts (set rotas t x.rota) (set nexts t p) t left' m' r'
      rolling_on h p ep left' el =
          let over : is_ended S.reason ≡ true = sym (ap is_ended why_is) ∙ h in
          let begun : k - left + 1 ≡ k - left' = omega (arith, g.fewer, more) in
          record {
            one = one';
            two = two';
            rotas_are = ap (λ (l : List Rota). set l t x.rota) g.rotas_are ∙ put_rotas which t g.one g.two x.rota is-t;
            nexts_are = ap (λ (l : List ℕ). set l t p) g.nexts_are ∙ put_nexts which t g.one g.two x.rota _ _ p is-t refl refl ep;
            resting = put_resting which g.one g.two x.rota g.resting (record { own = keeps.own; range = keeps.range; idle = keeps.idle h });
            memory = keeps.memory;
            room = keeps.room ∙ g.room;
            used = keeps.used;
            written = omega (arith, keeps.written, g.room);
            begun = λ i. rw (← begun) (one_more services channel (k - left) g.begun i);
            transfers = rw (← begun) (omega (arith, keeps.transfers, g.transfers));
            states = rw (← begun) (omega (arith, keeps.states, g.states));
            fewer = omega (arith, g.fewer);
            most = g.most;
            same = ap (λ (j : ℕ). board_round_of j d (board_course (board_in one' two' t) m' r' services' x.counts)) el ∙ ap (board_round_of (left - 1) d) (sym behind) ∙ sym (when_miss _ _ _ (ap not over)) ∙ goes;
          }

-- What a round gives that was refused, or came to its close; and that its answer says the refusal's number.
round_number : (left : ℕ) (d : List ℕ) (w : BoardCourse) → round_refusal_number (board_round_of left d w).answer ≡ 0
unfolding board_round_of first
round_number zero d w = refl
round_number (suc left) d w =
    let P : BoardClose → Type 0 = λ x. round_refusal_number x.answer ≡ 0 in
    when_both P _ refl (when_both P _ refl (round_number left d (after_service w d)))

round_by_lem : (n : ℕ) (t : Bool) (x : BoardClose) (w : BoardCourse) → eqb n 0 ≡ t → n ≤ 15 → round_refusal_number x.answer ≡ 0
    → round_refusal_number (when t (board_closed x) (board_closed (board_close w (Err (numbered n))))).rounded.answer ≡ n
unfolding when board_closed
round_by_lem n true x w e l h = h ∙ sym (eqb-true _ _ e)
round_by_lem n false x w e l h = number_back n l (eqb-false _ _ e)

pub round_told : (b : Board) (m d r : List ℕ) (k : ℕ) → round_refusal_number (board_rounded_of b m d r k).rounded.answer ≡ refusal (board_round_grounds b m k)
unfolding board_rounded_of
round_told b m d r k = round_by_lem (refusal (board_round_grounds b m k)) _ _ _ refl (few (board_round_grounds b m k) refl) (round_number k d (board_beginning b m r))

round_stated : (x : BoardRounded) (m' room : List ℕ) (b : Board) (m d r : List ℕ) (k : ℕ) → board_round_given x m' room ≡ board_rounded_of b m d r k
    → (board_round_given x m' room ≡ board_rounded_of b m d r k) × (round_refusal_number x.answer ≡ refusal (board_round_grounds b m k))
round_stated x m' room b m d r k e = (e, ap (λ (g : BoardRoundGiven). round_refusal_number g.rounded.answer) e ∙ round_told b m d r k)

pub said_refused : (b : Board) (m d r : List ℕ) (k : ℕ) (x : Refusal) → refused (refusal (board_round_grounds b m k)) ≡ Some x → (z : Counts) → z ≡ none
    → (board_round_given (rounded b (Err x) (0 ∷ 0 ∷ 0 ∷ 0 ∷ 0 ∷ 0 ∷ 0 ∷ 0 ∷ []) z) m r ≡ board_rounded_of b m d r k) × (round_refusal_number (Err x) ≡ refusal (board_round_grounds b m k))
unfolding board_rounded_of board_closed when
said_refused b m d r k x h z ez =
    let t = taken (refusal (board_round_grounds b m k)) x h in
    round_stated _ m r b m d r k (simp (ne_eqb (refusal (board_round_grounds b m k)) 0 t.0, t.1, ez))

said_closed : (b : Board) (m d r : List ℕ) (k : ℕ) → refusal (board_round_grounds b m k) ≡ 0 → (x y : BoardRounded) (m' r' : List ℕ) → x ≡ y → board_round_given y m' r' ≡ board_closed (board_round_of k d (board_beginning b m r))
    → (board_round_given x m' r' ≡ board_rounded_of b m d r k) × (round_refusal_number x.answer ≡ refusal (board_round_grounds b m k))
unfolding board_rounded_of when
said_closed b m d r k free x y m' r' ex h =
    round_stated x m' r' b m d r k (ap (λ (k' : BoardRounded). board_round_given k' m' r') ex ∙ h ∙ rw free refl)

-- the board that an array of two rotas begins with, as the loop has it
abbrev pub begins_with : List Rota → ℕ → Board
begins_with [] last = fresh_board 0 0
begins_with (x ∷ []) last = fresh_board 0 0
begins_with (x ∷ y ∷ rest) last = board_in x y last

pub begun_is : (b : Board) (one two : Rota) → one ≡ rota_of b.first → two ≡ rota_of b.second → board_in one two b.granted_last ≡ b
begun_is b one two e1 e2 = rw (e1, e2) refl

-- a round that came to its close from the board with which it began
pub said_over : (b : Board) (m d r : List ℕ) (k : ℕ) → refusal (board_round_grounds b m k) ≡ 0 → (one two : Rota) → one ≡ rota_of b.first → two ≡ rota_of b.second → (x y : BoardRounded) (m' r' : List ℕ) → x ≡ y
    → board_round_given y m' r' ≡ board_closed (board_round_of k d (board_beginning (board_in one two b.granted_last) m r))
    → (board_round_given x m' r' ≡ board_rounded_of b m d r k) × (round_refusal_number x.answer ≡ refusal (board_round_grounds b m k))
said_over b m d r k z one two e1 e2 x y m' r' ex h =
    said_closed b m d r k z x y m' r' ex (h ∙ ap (λ (w : Board). board_closed (board_round_of k d (board_beginning w m r))) (begun_is b one two e1 e2))

-- One turn of judging: a record that is right and goes on, one that ends the service, a wrong one, and none.
use Prim.Native.Nat.{ℕ, zero, suc, ◌+◌, ◌-◌, ◌/◌, ◌≤◌, ◌<◌}
use mathlib.Core.Path.{◌≡◌, refl, sym, ap, ◌∙◌, subst}
use mathlib.Core.Bool.{Bool, true, false, not, ◌&&◌, ◌||◌}
use mathlib.Core.List.{List, [], ◌∷◌}
use native.Mathlib.Omega.{arith}
use lib.Dec.{eqb}
use lib.IntN.{ℤ, pos}
use lib.ListN.{length, get_or, drop, length-set, length-drop}
use lib.Seq.{get_or-drop, drop-drop}
use native.Mathlib.Nat.{zero-add}
use borrow.Author.Tests.{eq-eqb, eqb-true, le-leb}
use Rattle.words.specs.Choice.{when, ◌and◌}
use Rattle.words.specs.Bits.{bit}
use Rattle.am9517.specs.Refusals.{busy}
use Rattle.am9517.specs.declared.Controller.{Controller}
use Rattle.am9517_service.specs.declared.Reason.TheVariants.{Limit}
use Rattle.am9517_service.specs.World.{Stop, stop, start_of, memory_to_memory}
use Rattle.am9517_service.specs.Ends.{reaches_tc, single}
use Rattle.words.proofs.ChoiceLaws.{when_both, when_hit, when_miss, both, both_hold, never, not-false}
use Rattle.am9517.proofs.RangeLaws.{and_left, and_right, fields, ranges, of_ranges, Ranges}
use Rattle.am9517_service.proofs.RunWayLaws.{neither_left, neither_right}
use Rattle.am9517_service.proofs.KeepLaws.{run_left_lem}
use Rattle.logs.specs.declared.Record.{Record}
use Rattle.logs.specs.declared.registers.Service.{Service}
use Rattle.logs.specs.declared.registers.Registers.{Registers}
use Rattle.logs.specs.Record.{record_in, is_last, flags_of, record_of, first_address}
use Rattle.logs.specs.Judge.{next_run, transfers, tells_eop, same, is_right, apart, signed, error_of, Found, found, behind, judged}
use Rattle.logs.specs.ClosedRegisters.{service_of, registers_of, with_registers, copies, stores, record_by, goes_on, goes_on_in, stepped_by, stored_by, flows, Flowing, EndsOnly, Rest, Passes}
use Rattle.logs.proofs.RecordLaws.{one_there}
use Rattle.logs.proofs.NextLaws.{after, next_on_lem, next_last, transfers_is, flows_alike}
use Rattle.logs.proofs.RegisterLaws as registers

abbrev entry : ℕ → ℕ → ℕ → ℕ → ℕ → ℕ → Record
entry a b c d e f = record { channel = a; kind = b; address = c; second = d; byte = e; flags = f }

-- two records that are the same
pub same_is : (r q : Record) → same r q ≡ true → r ≡ q
unfolding same
same_is r q e =
    let a = both _ _ e in
    let b = both _ _ a.right in
    let c = both _ _ b.right in
    let d = both _ _ c.right in
    let f = both _ _ d.right in
    let h1 : r.channel ≡ q.channel = eqb-true _ _ a.left in
    let h2 : r.kind ≡ q.kind = eqb-true _ _ b.left in
    let h3 : r.address ≡ q.address = eqb-true _ _ c.left in
    let h4 : r.second ≡ q.second = eqb-true _ _ d.left in
    let h5 : r.byte ≡ q.byte = eqb-true _ _ f.left in
    let h6 : r.flags ≡ q.flags = eqb-true _ _ f.right in
    let all : entry r.channel r.kind r.address r.second r.byte r.flags ≡ entry q.channel q.kind q.address q.second q.byte q.flags = simp (h1, h2, h3, h4, h5, h6) in
    all

pub same_self : (r : Record) → same r r ≡ true
unfolding same
same_self r =
    let is : (n : ℕ) → eqb n n ≡ true = λ n. eq-eqb n n refl in
    both_hold (is r.channel) (both_hold (is r.kind) (both_hold (is r.address) (both_hold (is r.second) (both_hold (is r.byte) (is r.flags)))))

-- flags of zero tell that nothing ends the service
none_set : (t o : Bool) → when t 1 0 + when false 2 0 + when (t || false || o) 4 0 ≡ 0 → (t ≡ false) × (o ≡ false)
unfolding when
none_set true o e = absurd (omega arith)
none_set false true e = absurd (omega arith)
none_set false false e = (refl, refl)

-- Where the rules make no transfer, nothing is right and no error is told.
pub judged_still : (more : ℕ) (c : Controller) (m log : List ℕ) → ((byte : ℕ) (eop : Bool) → transfers c m byte eop ≡ false) → judged more c m log ≡ found c m 0 (pos 0)
unfolding judged is_right error_of when ◌and◌
judged_still zero c m log h = refl
judged_still (suc more) c m log h = simp h

pub busy_is : (c : Controller) → c.in_service ≡ 1 → busy c ≡ true
busy_is c e = ap (λ (n : ℕ). not (eqb n 0)) e

-- a record of a service that flows is right where it says what it should
module _ (c : Controller) (m : List ℕ) (r : Record) (opened : c.in_service ≡ 1) (f : flows c ≡ true) where
  pub made : transfers c m r.byte (tells_eop r) ≡ true
  made = transfers_is c m r.byte (tells_eop r) (busy_is c opened) ∙ f

  pub right_is : is_right c m r ≡ same r (record_of c m r.byte (tells_eop r))
  unfolding is_right ◌and◌
  right_is = simp made

  pub error_is : error_of c m r ≡ signed (apart r.address (first_address c))
  unfolding error_of
  error_is = when_hit _ _ _ made

-- A turn of the loop: c is the controller at its start, x the one here.
module _ (c : Controller) (four : length c.channels ≡ 4) (here : c.serving < 4) (g : Registers) (m log : List ℕ) (F : Flowing (with_registers c g) m) (p : registers.OneAddress c four here g) where
  abbrev x : Controller
  x = with_registers c g

  abbrev r : Record
  r = record_in log

  abbrev held : ℕ
  held = get_or m g.address 0

  should : (eop : Bool) → record_of x m r.byte eop ≡ record_by (service_of c) g held r.byte eop
  should eop = registers.record_is c four here g p m r.byte eop

  tc_same : reaches_tc x ≡ eqb g.count 0
  tc_same = ap (λ (n : ℕ). eqb n 0) (registers.count_same c four here g)

  -- it goes on
  module _ (on : goes_on_in (service_of c) g m log ≡ true) where
    long : 8 ≤ length log
    long = one_there (service_of c) g m log on

    says : goes_on (service_of c) g held r ≡ true
    unfolding goes_on_in
    says = sym (when_hit _ _ _ (le-leb _ _ long)) ∙ on

    unflagged : r.flags ≡ 0
    unflagged = eqb-true _ _ (and_left _ _ says)

    quiet : tells_eop r ≡ false
    quiet = ap (λ (b : ℕ). eqb (bit b 1) 1) unflagged

    as_said : r ≡ record_by (service_of c) g held r.byte false
    as_said = same_is _ _ (and_right (eqb r.flags 0) _ says)

    no_end : (eqb g.count 0 ≡ false) × (single c ≡ false)
    no_end = none_set _ _ (sym (ap (λ (q : Record). q.flags) as_said) ∙ unflagged)

    right : is_right x m r ≡ true
    right =
        right_is x m r F.busy F.flows
        ∙ ap (λ (t : Bool). same r (record_of x m r.byte t)) quiet
        ∙ ap (same r) (should false ∙ sym as_said)
        ∙ same_self r

    -- in memory-to-memory its byte is the one at the first address
    byte_held : memory_to_memory c ≡ true → held ≡ r.byte
    byte_held ic = sym (ap (λ (q : Record). q.byte) as_said ∙ registers.byte_copied c four here g ic held r.byte)

    next_is : next_run x m r.byte (tells_eop r) ≡ stop (after x m r.byte) Limit
    next_is = ap (next_run x m r.byte) quiet ∙ next_on_lem x m r.byte F.flows (tc_same ∙ no_end.0) (registers.single_same c four here g ∙ no_end.1)

    abbrev x' : Controller
    x' = with_registers c (stepped_by (service_of c) g r.byte)

    abbrev m' : List ℕ
    m' = stored_by (service_of c) g m r.byte

    moves : ((after x m r.byte).controller ≡ x') × ((after x m r.byte).memory ≡ m')
    moves = go (memory_to_memory c) refl
      where
        go : (t : Bool) → memory_to_memory c ≡ t → ((after x m r.byte).controller ≡ x') × ((after x m r.byte).memory ≡ m')
        go true ic = (registers.copied_controller c four here g m r.byte ic (byte_held ic), registers.copied_memory c four here g m r.byte ic (byte_held ic))
        go false nc = (registers.moved_controller c four here g m r.byte nc, registers.moved_memory c four here g m r.byte nc)

    pub turn : judged (length log / 8) x m log ≡ behind 8 (judged (length (drop 8 log) / 8) x' m' (drop 8 log))
    unfolding judged
    turn =
        let one_more : length log / 8 ≡ suc (length (drop 8 log) / 8) = rw (length-drop 8 log) (omega (arith, long)) in
        let on_from : Controller → List ℕ → Found = λ (y : Controller) (l : List ℕ). behind 8 (judged (length (drop 8 log) / 8) y l (drop 8 log)) in
        rw one_more (
        when_hit _ _ _ right
        ∙ ap (λ (t : Stop). on_from t.world.controller t.world.memory) next_is
        ∙ ap (λ (y : Controller). on_from y (after x m r.byte).memory) moves.0
        ∙ ap (on_from x') moves.1)

    kept : Ranges (next_run x m r.byte (tells_eop r)).world.controller
    unfolding next_run
    kept = (run_left_lem 1 _ (r.byte ∷ []) (start_of x m (0 ∷ [])) (ranges x F.valid) F.busy).ranges

    pub flowing_on : Flowing x' m'
    unfolding stored_by
    flowing_on =
        record {
          valid = of_ranges x' (subst (λ (y : Controller). Ranges y) (ap (λ (t : Stop). t.world.controller) next_is ∙ moves.0) kept);
          busy = registers.busy_same c four here (stepped_by (service_of c) g r.byte) ∙ sym (registers.busy_same c four here g) ∙ F.busy;
          memory =
              when_both (λ (l : List ℕ). length l ≡ 65536) (stores (service_of c)) (length-set m g.address r.byte ∙ F.memory)
              (when_both (λ (l : List ℕ). length l ≡ 65536) (copies (service_of c)) (length-set m g.second r.byte ∙ F.memory) F.memory);
          flows = flows_alike c _ (registers.alike c four here (stepped_by (service_of c) g r.byte)) ∙ sym (flows_alike c _ (registers.alike c four here g)) ∙ F.flows;
        }

  -- it doesn't: a record that is there and is right ends the service
  module _ (long : 8 ≤ length log) (e : is_right x m r ≡ true) (h : is_last x (tells_eop r) ≡ false) where
    met_none : (reaches_tc x ≡ false) × (tells_eop r ≡ false)
    unfolding is_last
    met_none =
        let neither = neither_left (reaches_tc x || tells_eop r) (single x) h in
        (neither_left (reaches_tc x) (tells_eop r) neither, neither_right (reaches_tc x) (tells_eop r) neither)

    said : r ≡ record_of x m r.byte (tells_eop r)
    said = same_is _ _ (sym (right_is x m r F.busy F.flows) ∙ e)

    flagless : r.flags ≡ 0
    unfolding flags_of when
    flagless =
        ap (λ (q : Record). q.flags) said
        ∙ ap (λ (t : Bool). when (reaches_tc x) 1 0 + when (tells_eop r) 2 0 + when t 4 0) h
        ∙ simp (met_none.0, met_none.1)

    says_on : same r (record_by (service_of c) g held r.byte false) ≡ true
    says_on = ap (same r) (sym (should false) ∙ ap (record_of x m r.byte) (sym met_none.1) ∙ sym said) ∙ same_self r

    on_after_all : goes_on_in (service_of c) g m log ≡ true
    unfolding goes_on_in
    on_after_all = when_hit _ _ _ (le-leb _ _ long) ∙ ap (λ (n : ℕ). eqb n 0 && same r (record_by (service_of c) g held r.byte false)) flagless ∙ says_on

  pub ends_only : goes_on_in (service_of c) g m log ≡ false → EndsOnly x m log
  ends_only off long e = not-false _ (λ h. never (sym (on_after_all long e h) ∙ off))

-- The record where the service may end.
module _ (c : Controller) (m log : List ℕ) (F : Flowing c m) where
  pub cut_short : length log < 8 → judged (length log / 8) c m log ≡ found c m 0 (pos 0)
  unfolding judged
  cut_short h = let none : length log / 8 ≡ 0 = omega arith in rw none refl

  module _ (long : 8 ≤ length log) where
    abbrev q : Record
    q = record_in log

    one_more : length log / 8 ≡ suc (length (drop 8 log) / 8)
    one_more = rw (length-drop 8 log) (omega arith)

    pub wrong_here : same q (record_of c m q.byte (tells_eop q)) ≡ false → judged (length log / 8) c m log ≡ found c m 0 (signed (apart q.address (first_address c)))
    unfolding judged
    wrong_here e =
        rw one_more (when_miss _ _ _ (right_is c m q F.busy F.flows ∙ e) ∙ ap (found c m 0) (error_is c m q F.busy F.flows))

    pub last_here : EndsOnly c m log → same q (record_of c m q.byte (tells_eop q)) ≡ true
        → judged (length log / 8) c m log ≡ found (next_run c m q.byte (tells_eop q)).world.controller (next_run c m q.byte (tells_eop q)).world.memory 8 (pos 0)
    unfolding judged is_last transfers
    last_here only e =
        let right : is_right c m q ≡ true = right_is c m q F.busy F.flows ∙ e in
        let s = next_run c m q.byte (tells_eop q) in
        let idle : busy s.world.controller ≡ false = ap (λ (n : ℕ). not (eqb n 0)) (next_last c m q.byte F.flows (tells_eop q) (only long right)) in
        rw one_more (
        when_hit _ _ _ right
        ∙ ap (behind 8) (judged_still (length (drop 8 log) / 8) s.world.controller s.world.memory (drop 8 log) (λ b t. simp idle)))

behind_none : (f : Found) → f ≡ behind 0 f
behind_none f = ap (λ (n : ℕ). found f.controller f.memory n f.error) (sym (zero-add f.place))

pub behind_both : (a b : ℕ) (f : Found) → behind a (behind b f) ≡ behind (a + b) f
behind_both a b f = ap (λ (n : ℕ). found f.controller f.memory n f.error) (omega arith)

-- The loop: at a place, with these registers and this memory, what is left gives the same.
pub record Passing (c : Controller) (m₀ log : List ℕ) (g : Registers) (m : List ℕ) (at : ℕ) : Type 0 where
  pub within : at ≤ length log
  pub flowing : Flowing (with_registers c g) m
  pub one_address : memory_to_memory c ≡ false → g.second ≡ 0
  pub left : judged (length log / 8) c m₀ log ≡ behind at (judged (length (drop at log) / 8) (with_registers c g) m (drop at log))

module _ (c : Controller) (m₀ log : List ℕ) where
  pub passing_first : Flowing c m₀ → Passing c m₀ log (registers_of c) m₀ 0
  passing_first F =
      record {
        within = omega arith;
        flowing = subst (λ (y : Controller). Flowing y m₀) (sym (registers.as_it_is c)) F;
        one_address = λ nc. when_miss _ _ _ nc;
        left = ap (λ (y : Controller). judged (length log / 8) y m₀ log) (sym (registers.as_it_is c)) ∙ behind_none _;
      }

  module _ (four : length c.channels ≡ 4) (here : c.serving < 4) (g : Registers) (m : List ℕ) (at : ℕ) (P : Passing c m₀ log g m at) where
    pub passing_next : goes_on_in (service_of c) g m (drop at log) ≡ true
        → Passing c m₀ log (stepped_by (service_of c) g (get_or log (at + 6) 0)) (stored_by (service_of c) g m (get_or log (at + 6) 0)) (at + 8)
    passing_next on =
        let l = drop at log in
        let b = (record_in l).byte in
        let F = P.flowing in
        let p = P.one_address in
        let on_from : List ℕ → Found = λ (k : List ℕ). judged (length k / 8) (with_registers c (stepped_by (service_of c) g b)) (stored_by (service_of c) g m b) k in
        subst (λ (byte : ℕ). Passing c m₀ log (stepped_by (service_of c) g byte) (stored_by (service_of c) g m byte) (at + 8)) (get_or-drop at log 6 0)
        (record {
          within = omega (arith, one_there (service_of c) g m l on, length-drop at log);
          flowing = flowing_on c four here g m l F p on;
          one_address = registers.one_address_on c four here g m b p;
          left = P.left ∙ ap (behind at) (turn c four here g m l F p on) ∙ behind_both at 8 _ ∙ ap (λ (k : List ℕ). behind (at + 8) (on_from k)) (drop-drop 8 at log);
        })

    pub passing_turn : (s : Service) → s ≡ service_of c → goes_on_in s g m (drop at log) ≡ true → (m' : List ℕ) → m' ≡ stored_by s g m (get_or log (at + 6) 0)
        → (g' : Registers) → g' ≡ stepped_by s g (get_or log (at + 6) 0) → Passing c m₀ log g' m' (at + 8)
    passing_turn s e on m' em g' eg =
        let b = get_or log (at + 6) 0 in
        let next = passing_next (ap (λ (t : Service). goes_on_in t g m (drop at log)) (sym e) ∙ on) in
        subst (λ (l : List ℕ). Passing c m₀ log g' l (at + 8)) (ap (λ (t : Service). stored_by t g m b) (sym e) ∙ sym em)
        (subst (λ (h : Registers). Passing c m₀ log h (stored_by (service_of c) g m b) (at + 8)) (ap (λ (t : Service). stepped_by t g b) (sym e) ∙ sym eg) next)

    -- where it ends, with the controller put together
    pub passed : (x : Controller) → x ≡ with_registers c g → (s : Service) → s ≡ service_of c → goes_on_in s g m (drop at log) ≡ false → Passes c m₀ log x m at
    passed x is s e off =
        subst (λ (y : Controller). Passes c m₀ log y m at) (sym is)
        (record {
          left = P.left;
          serving = registers.serving_same c four here g;
          rest =
              record {
                within = P.within;
                flowing = P.flowing;
                ends = ends_only c four here g m (drop at log) P.flowing P.one_address (ap (λ (t : Service). goes_on_in t g m (drop at log)) (sym e) ∙ off);
              };
        })

-- The record at a place where the service may end: none, a wrong one, or the last one.
module _ (c : Controller) (four : length c.channels ≡ 4) (m log : List ℕ) (at : ℕ) (R : Rest c m log at) where
  abbrev l : List ℕ
  l = drop at log

  abbrev left : Found
  left = behind at (judged (length l / 8) c m l)

  -- found so far along, where this is found from here
  along : (x : Controller) (m' : List ℕ) (n place : ℕ) (error : ℤ) → judged (length l / 8) c m l ≡ found x m' n error → at + n ≡ place → found x m' place error ≡ left
  along x m' n place error e h = ap (λ (k : ℕ). found x m' k error) (sym h) ∙ ap (behind at) (sym e)

  pub left_cut : length log - at < 8 → found c m at (pos 0) ≡ left
  left_cut h = along c m 0 at (pos 0) (cut_short c m l R.flowing (rw (length-drop at log) h)) (omega arith)

  module _ (long : 8 ≤ length log - at) (r q : Record) (eop t : Bool) (is : r ≡ record_in l) (told : eop ≡ tells_eop r)
      (says : q ≡ record_by (service_of c) (registers_of c) (get_or m (first_address c) 0) r.byte eop) (test : t ≡ same r q) where
    long' : 8 ≤ length l
    long' = rw (length-drop at log) long

    here : c.serving < 4
    here = omega (arith, (fields c R.flowing.valid).serving)

    should' : q ≡ record_of c m r.byte eop
    should' = says ∙ registers.record_here c four here m r.byte eop

    tested : same (record_in l) (record_of c m (record_in l).byte (tells_eop (record_in l))) ≡ t
    tested =
        ap (λ (k : Record). same k (record_of c m k.byte (tells_eop k))) (sym is)
        ∙ ap (λ (e : Bool). same r (record_of c m r.byte e)) (sym told)
        ∙ ap (same r) (sym should')
        ∙ sym test

    pub left_wrong : t ≡ false → found c m at (signed (apart r.address (first_address c))) ≡ left
    left_wrong off = along c m 0 at _ (wrong_here c m l R.flowing long' (tested ∙ off) ∙ ap (λ (k : Record). found c m 0 (signed (apart k.address (first_address c)))) (sym is)) (omega arith)

    pub left_last : t ≡ true → found (next_run c m r.byte eop).world.controller (next_run c m r.byte eop).world.memory (at + 8) (pos 0) ≡ left
    left_last on =
        let s = next_run c m r.byte eop in
        let next : next_run c m (record_in l).byte (tells_eop (record_in l)) ≡ s = ap (λ (k : Record). next_run c m k.byte (tells_eop k)) (sym is) ∙ ap (next_run c m r.byte) (sym told) in
        along s.world.controller s.world.memory 8 (at + 8) (pos 0)
        (last_here c m l R.flowing long' R.ends (tested ∙ on) ∙ ap (λ (k : Stop). found k.world.controller k.world.memory 8 (pos 0)) next) refl

    pub left_made : t ≡ true → (x : Controller) (m' : List ℕ) → x ≡ (next_run c m r.byte eop).world.controller → m' ≡ (next_run c m r.byte eop).world.memory → found x m' (at + 8) (pos 0) ≡ left
    left_made on x m' ex em =
        ap (λ (y : Controller). found y m' (at + 8) (pos 0)) ex ∙ ap (λ (k : List ℕ). found (next_run c m r.byte eop).world.controller k (at + 8) (pos 0)) em ∙ left_last on

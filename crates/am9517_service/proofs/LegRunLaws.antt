-- The run of a service that is not memory-to-memory is one trip, and what ends or stops it.
use Prim.Native.Nat.{ℕ, ◌+◌, ◌-◌, ◌≤◌, ◌<◌, min}
use mathlib.Core.Path.{◌≡◌, refl, sym, ap, ◌∙◌}
use mathlib.Core.Bool.{Bool, true, false, ◌&&◌, ◌||◌}
use mathlib.Core.List.{List}
use native.Mathlib.Omega.{arith}
use lib.Dec.{eqb, leb}
use lib.ListN.{length}
use borrow.Author.Tests.{eq-eqb, ne_eqb, eqb-true, lt-leb, le-leb, leb-true, leb-false}
use Rattle.words.specs.Choice.{when}
use Rattle.am9517.specs.State.{ended}
use Rattle.am9517.specs.Fields.{channel}
use Rattle.am9517.specs.Modes.{is_single, is_cascade}
use Rattle.am9517.specs.declared.Channel.{Channel}
use Rattle.am9517.specs.declared.Controller.{Controller}
use Rattle.am9517_service.specs.declared.Reason.{Reason}
use Rattle.am9517_service.specs.declared.Reason.TheVariants.{Ended, Dropped, Cascade}
use Rattle.am9517_service.specs.World.{World, start_of, with_controller, memory_to_memory, serving_channel, stop}
use Rattle.am9517_service.specs.Stops.{dropped, short, stops}
use Rattle.am9517_service.specs.Transfer.{writes, reads}
use Rattle.am9517_service.specs.Ends.{counting, reaches_tc, finished, after_tc_or_eop, single}
use Rattle.am9517_service.specs.Run.{run_of}
use Rattle.am9517_service.specs.ClosedLegs.{reached, travelled}
use Rattle.am9517_service.specs.ClosedSpans.{until_end, stock_of, halt}
use Rattle.words.proofs.ChoiceLaws.{when_both, when_each}
use Rattle.am9517_service.proofs.SpanLaws.{Until, until, read_not_write, stock_bytes, stock_space, stock_any}
use Rattle.am9517_service.proofs.RunLaws.{Free, run_stop, stops_dropped, stops_cascade, stops_limit, stops_short, stops_none}
use Rattle.am9517_service.proofs.RunWayLaws.{Way, way_on, way_end}
use Rattle.am9517_service.proofs.TransferLaws.{Standing, standing, reached_none, reached_more}

-- Before the first transfer.
module _ (c : Controller) (m d r : List ℕ) (limit eop : ℕ) (nc : memory_to_memory c ≡ false) where
  pub run_dropped : dropped c ≡ true → run_of limit eop d (start_of c m r) ≡ stop (start_of (ended c) m r) Dropped
  run_dropped h = run_stop eop d (start_of c m r) limit _ (stops_dropped (start_of c m r) d limit nc h)

  pub run_cascade : dropped c ≡ false → is_cascade (serving_channel c).mode ≡ true → run_of limit eop d (start_of c m r) ≡ stop (start_of c m r) Cascade
  run_cascade h s = run_stop eop d (start_of c m r) limit _ (stops_cascade (start_of c m r) d limit nc h s)

-- A device that is short after n transfers of a kind.
abbrev short_by : Bool → Bool → ℕ → ℕ → ℕ → Bool
short_by w r n bytes space = w && leb bytes (when w n 0) || r && leb space (when r n 0)

short_no : (w r : Bool) (n bytes space : ℕ) → (w ≡ true → n < bytes) → (r ≡ true → n < space) → short_by w r n bytes space ≡ false
unfolding when
short_no true true n bytes space h g = simp (lt-leb _ _ (h refl), lt-leb _ _ (g refl))
short_no true false n bytes space h g = simp (lt-leb _ _ (h refl))
short_no false true n bytes space h g = simp (lt-leb _ _ (g refl))
short_no false false n bytes space h g = refl

short_write : (r : Bool) (n bytes space : ℕ) → bytes ≤ n → short_by true r n bytes space ≡ true
unfolding when
short_write r n bytes space h = simp (le-leb _ _ h)

short_read : (n bytes space : ℕ) → space ≤ n → short_by false true n bytes space ≡ true
unfolding when
short_read n bytes space h = simp (le-leb _ _ h)

counting_is : (c : Controller) → memory_to_memory c ≡ false → counting c ≡ c.serving
unfolding counting when
counting_is c h = simp h

tc_is : (c : Controller) → memory_to_memory c ≡ false → reaches_tc c ≡ eqb (serving_channel c).count 0
tc_is c h = ap (λ (n : ℕ). eqb (channel c n).count 0) (counting_is c h)

after_tc_or_eop_is : (c : Controller) (tc eop : Bool) → memory_to_memory c ≡ false → after_tc_or_eop c tc eop ≡ finished c c.serving tc eop
unfolding after_tc_or_eop when
after_tc_or_eop_is c tc eop h = simp h

single_is : (c : Controller) → memory_to_memory c ≡ false → single c ≡ is_single (serving_channel c).mode
unfolding single
single_is c h = simp h

-- The trip.
module _ (c : Controller) (m d r : List ℕ) (limit eop : ℕ) (nc : memory_to_memory c ≡ false) (nd : dropped c ≡ false) (ns : is_cascade (serving_channel c).mode ≡ false)
    (below : (serving_channel c).address < 65536) (small : (serving_channel c).count < 65536) where
  abbrev ch : Channel
  ch = serving_channel c

  abbrev once : Bool
  once = is_single ch.mode

  abbrev here : ℕ → World
  here n = reached c m d r n

  -- n transfers may be made
  record Allowed (n : ℕ) : Type 0 where
    most : n ≤ limit
    bytes : writes ch ≡ true → n ≤ length d
    space : reads ch ≡ true → n ≤ length r

  allowed_less : (j n : ℕ) → j ≤ n → Allowed n → Allowed j
  allowed_less j n h a =
      record { most = omega (arith, a.most); bytes = λ e. omega (arith, a.bytes e); space = λ e. omega (arith, a.space e) }

  abbrev stands : (n : ℕ) → n ≤ ch.count → Standing c m d r (here n) n
  stands n h = standing c m d r n h small

  short_is : (n : ℕ) → n ≤ ch.count → short (here n) d ≡ short_by (writes ch) (reads ch) n (length d) (length r)
  unfolding short
  short_is n h = let s = stands n h in simp (s.mode, s.used, s.written, s.room)

  cascade_is : (n : ℕ) → n ≤ ch.count → is_cascade (serving_channel (here n).controller).mode ≡ false
  cascade_is n h = ap (λ (x : ℕ). is_cascade x) (stands n h).mode ∙ ns

  memory_to_memory_after : (n : ℕ) → memory_to_memory (here n).controller ≡ memory_to_memory c
  unfolding reached travelled memory_to_memory
  memory_to_memory_after n = when_both (λ (w : World). memory_to_memory w.controller ≡ memory_to_memory c) (eqb n 0) refl refl

  transfers_after : (n : ℕ) → (here n).counts.transfers ≡ n
  unfolding reached travelled
  transfers_after n = when_each (λ (w : World). w.counts.transfers ≡ n) (eqb n 0) (λ e. sym (eqb-true _ _ e)) (λ e. refl)

  -- nothing stops the transfer after n
  free_after : (n : ℕ) → n ≤ ch.count → Allowed (n + 1) → Free (stops (here n) d (limit - n))
  free_after n h a =
      let s = stands n h in
      let more : limit - n ≡ 0 → ⊥ = λ e. omega (arith, a.most) in
      stops_none (here n) d (limit - n) (s.memory_to_memory ∙ nc) (s.dropped ∙ nd) (cascade_is n h) (ne_eqb _ _ more)
      (short_is n h ∙ short_no (writes ch) (reads ch) n (length d) (length r) (λ e. omega (arith, a.bytes e)) (λ e. omega (arith, a.space e)))

  tc_after_lem : (n : ℕ) → n ≤ ch.count → reaches_tc (here n).controller ≡ eqb (ch.count - n) 0
  tc_after_lem n h = let s = stands n h in tc_is (here n).controller (s.memory_to_memory ∙ nc) ∙ ap (λ (x : ℕ). eqb x 0) s.count

  single_after : (n : ℕ) → n ≤ ch.count → single (here n).controller ≡ once
  single_after n h = let s = stands n h in single_is (here n).controller (s.memory_to_memory ∙ nc) ∙ ap (λ (x : ℕ). is_single x) s.mode

  way : Way d here once ch.count
  way = record { more = λ n h. reached_more c m d r n h small below nc; tc = tc_after_lem; alone = single_after; made = transfers_after }

  -- nothing stops n allowed transfers
  unstopped : (n : ℕ) → n ≤ ch.count + 1 → Allowed n → (k : ℕ) → k < n → Free (stops (here k) d (limit - k))
  unstopped n h a k l = free_after k (omega arith) (allowed_less (k + 1) n (omega arith) a)

  -- where a trip of n transfers is allowed by limit and stock
  allowed_by : (n : ℕ) → n ≤ min limit (stock_of ch (length d) (length r)) → Allowed n
  allowed_by n h =
      record {
        most = omega arith;
        bytes = λ e. omega (arith, stock_bytes ch (length d) (length r) e);
        space = λ e. omega (arith, stock_space ch (length d) (length r) (read_not_write ch.mode e) e);
      }

  -- The service ends with the n-th transfer.
  pub run_ends : (n : ℕ) → n ≡ until_end once ch.count eop → n ≤ min limit (stock_of ch (length d) (length r))
      → run_of limit eop d (start_of c m r)
      ≡ stop (with_controller (here n) (when (eqb n (ch.count + 1) || eqb n eop) (finished (here n).controller (here n).controller.serving (eqb n (ch.count + 1)) (eqb n eop)) (ended (here n).controller))) Ended
  run_ends n e h =
      let u : Until once ch.count eop n = rw e (until once ch.count eop) in
      let a = allowed_by n h in
      ap (λ (w : World). run_of limit eop d w) (sym (reached_none c m d r))
      ∙ way_end limit eop d here once ch.count way n u a.most (unstopped n u.most a)
      ∙ ap (λ (x : Controller). stop (with_controller (here n) (when (eqb n (ch.count + 1) || eqb n eop) x (ended (here n).controller))) Ended) (after_tc_or_eop_is (here n).controller (eqb n (ch.count + 1)) (eqb n eop) (memory_to_memory_after n ∙ nc))

  -- a device whose stock is used up is short
  short_after : (n : ℕ) → n ≤ ch.count → n ≡ stock_of ch (length d) (length r) → short (here n) d ≡ true
  short_after n h e = short_is n h ∙ go (writes ch) (reads ch) refl refl
    where
      go : (w r' : Bool) → writes ch ≡ w → reads ch ≡ r' → short_by w r' n (length d) (length r) ≡ true
      go true r' ew er = short_write r' n (length d) (length r) (omega (arith, stock_bytes ch (length d) (length r) ew))
      go false true ew er = short_read n (length d) (length r) (omega (arith, stock_space ch (length d) (length r) ew er))
      go false false ew er = absurd (omega (arith, stock_any ch (length d) (length r) ew er))

  -- The service stops after n transfers, before its end.
  pub run_halts : (n : ℕ) → n ≡ min limit (stock_of ch (length d) (length r)) → n < until_end once ch.count eop
      → run_of limit eop d (start_of c m r) ≡ stop (here n) (halt limit (stock_of ch (length d) (length r)))
  unfolding halt
  run_halts n e h =
      let stock = stock_of ch (length d) (length r) in
      let u = until once ch.count eop in
      let a = allowed_by n (omega arith) in
      let within : n ≤ ch.count = omega (arith, u.most) in
      let s = stands n within in
      let still = s.memory_to_memory ∙ nc in
      let line = s.dropped ∙ nd in
      ap (λ (w : World). run_of limit eop d w) (sym (reached_none c m d r))
      ∙ way_on limit eop d here once ch.count way (until_end once ch.count eop) u n h a.most (unstopped n (omega arith) a)
      ∙ when_each (λ (x : Reason). run_of (limit - n) eop d (here n) ≡ stop (here n) x) (leb limit stock)
      (λ t.
      let all : n ≡ limit = e ∙ (let h : limit ≤ stock = leb-true _ _ t in let m : min limit stock ≡ limit = omega arith in m) in
      let none : limit - n ≡ 0 = omega arith in
      run_stop eop d (here n) (limit - n) _ (stops_limit (here n) d (limit - n) still line (cascade_is n within) (eq-eqb _ _ none)))
      (λ t.
      let more : stock < limit = leb-false _ _ t in
      let all : n ≡ stock = e ∙ (let m : min limit stock ≡ stock = omega arith in m) in
      let left : limit - n ≡ 0 → ⊥ = λ z. omega arith in
      run_stop eop d (here n) (limit - n) _ (stops_short (here n) d (limit - n) still line (cascade_is n within) (ne_eqb _ _ left) (short_after n within all)))

-- Many transfers at once of memory-to-memory: one transfer more is one step of the rules, and what ends or stops it.
use Prim.Native.Nat.{ℕ, zero, suc, ◌+◌, ◌-◌, ◌*◌, ◌≤◌, ◌<◌}
use mathlib.Core.Path.{◌≡◌, refl, sym, ap, ◌∙◌}
use mathlib.Core.Bool.{Bool, true, false, ◌||◌}
use mathlib.Core.List.{List}
use mathlib.Core.Logic.{◌≢◌}
use native.Mathlib.Omega.{arith}
use native.Mathlib.Numerals.{add-one}
use lib.Dec.{eqb}
use lib.ListN.{get_or, set, length-set}
use lib.Seq.{get_or-set_same, get_or-set_other, set-set, set_comm}
use borrow.Author.Tests.{eq-eqb, ne_eqb, eqb-true, eqb-false}
use Rattle.words.specs.Choice.{when}
use Rattle.words.specs.Grounds.{first}
use Rattle.words.specs.Steps.{steps}
use Rattle.words.specs.Bits.{with_bit}
use Rattle.words.specs.Spans.{carried}
use Rattle.am9517.specs.State.{ended}
use Rattle.am9517.specs.Fields.{channel, with_channel, make, but, field, put, blank, Request, Temporary}
use Rattle.am9517.specs.Modes.{address_hold, decrement}
use Rattle.am9517.specs.declared.Channel.{Channel}
use Rattle.am9517.specs.declared.Controller.{Controller}
use Rattle.am9517_service.specs.declared.Reason.TheVariants.{Ended, Limit}
use Rattle.am9517_service.specs.Counts.{counts, plus}
use Rattle.am9517_service.specs.World.{World, world, start_of, with_controller, stop, memory_to_memory}
use Rattle.am9517_service.specs.Stops.{stops}
use Rattle.am9517_service.specs.Ends.{counting, reaches_tc, finished, after_tc_or_eop, single}
use Rattle.am9517_service.specs.Transfer.{stepped}
use Rattle.am9517_service.specs.States.{copy_pace}
use Rattle.am9517_service.specs.Copy.{source_next, copied, source_after}
use Rattle.am9517_service.specs.Run.{transferred, run_of}
use Rattle.am9517_service.specs.ClosedLegs.{address_after, current_after}
use Rattle.am9517_service.specs.ClosedSpans.{until_end}
use Rattle.am9517_service.specs.ClosedCopies.{carried_by, route_in, copied_on, copied_all, reached_copying}
use Rattle.words.proofs.ChoiceLaws.{when_both, when_each, when_hit, never, not-false}
use Rattle.words.proofs.SpreadLaws.{carried_more}
use Rattle.am9517_service.proofs.SpanLaws.{Until, until}
use Rattle.am9517_service.proofs.RunLaws.{Free, Gives, run_stop, transferred_copied}
use Rattle.am9517_service.proofs.RunWayLaws.{Way, way_on, way_end, neither_left, neither_right}
use Rattle.am9517_service.proofs.CopySourceLaws.{source_none, source_more}
use Rattle.am9517_service.proofs.TransferLaws.{next_mul, inside_of, count_left, stepped_current_after, stepped_first, address_after_none, current_after_count}

-- two places set again
pub two_again : (l : List Channel) (x y x' y' : Channel) → set (set (set (set l 0 x) 1 y) 0 x') 1 y' ≡ set (set l 0 x') 1 y'
two_again l x y x' y' =
    let apart : ◌≢◌ {A = ℕ} 1 0 = λ e. eqb-false 1 0 refl e in
    ap (λ (k : List Channel). set k 1 y') (set_comm (set l 0 x) 1 0 y x' apart ∙ ap (λ (k : List Channel). set k 1 y) (set-set l 0 x x'))
    ∙ set-set (set l 0 x') 1 y y'

-- the transfer of a world whose channels 0 and 1 are these
abbrev pub copied_with : World → Channel → Channel → World
copied_with w from to =
    let c = w.controller in
    let byte = get_or w.memory from.address 0 in
    world (with_channel (with_channel (put c Temporary byte) 0 (source_next (address_hold c.command) from)) 1 (stepped to)) (set w.memory to.address byte) w.room
    (plus w.counts (counts 1 0 0 (copy_pace c.waits)))

pub copied_by : (w : World) (from to : Channel) → channel w.controller 0 ≡ from → channel w.controller 1 ≡ to → copied w ≡ copied_with w from to
unfolding copied
copied_by w from to e g = ap (λ (x : Channel). copied_with w x (channel w.controller 1)) e ∙ ap (copied_with w from) g

module _ (c : Controller) (m r : List ℕ) where
  abbrev from : Channel
  from = channel c 0

  abbrev to : Channel
  to = channel c 1

  -- channel 0 after n transfers
  abbrev sent : ℕ → Channel
  sent n = source_after (address_hold c.command) from n

  abbrev bytes : ℕ → List ℕ
  bytes n = carried_by (route_in c) m n

  -- both channels after n transfers
  abbrev both : ℕ → List Channel
  both n = set (set c.channels 0 (sent n)) 1 (current_after to n)

  -- the byte that the transfer after n moves
  abbrev moving : ℕ → ℕ
  moving n = get_or (bytes n) (sent n).address 0

  abbrev shape : List Channel → ℕ → List ℕ → ℕ → ℕ → World
  shape chs byte l n states = world (make chs (but (field c) Temporary byte)) l r (counts n 0 0 states)

  sent_there : (n byte : ℕ) → (to.count ≡ 0 → ⊥) → channel (copied_on c byte n) 0 ≡ sent n
  sent_there n byte nz =
      let apart : ◌≢◌ {A = ℕ} 0 1 = λ e. eqb-false 0 1 refl e in
      let inside = inside_of c.channels 1 nz in
      get_or-set_other (set c.channels 0 (sent n)) 1 0 (current_after to n) blank apart ∙ get_or-set_same c.channels 0 (sent n) blank (omega arith)

  pub got_there : (n byte : ℕ) → (to.count ≡ 0 → ⊥) → channel (copied_on c byte n) 1 ≡ current_after to n
  got_there n byte nz = get_or-set_same (set c.channels 0 (sent n)) 1 (current_after to n) blank (simp length-set (inside_of c.channels 1 nz))

  bytes_more : (n : ℕ) → set (bytes n) (address_after to n) (moving n) ≡ bytes (n + 1)
  unfolding carried_by address_after
  bytes_more n =
      carried_more (steps 16 (decrement to.mode) to.address) (λ (j : ℕ). (sent j).address) m n (steps 16 (decrement to.mode) to.address n) (sent n).address refl refl (carried (steps 16 (decrement to.mode) to.address) (λ (j : ℕ). (sent j).address) m n) refl

  one_more : (j : ℕ) → (to.count ≡ 0 → ⊥) → copied (copied_all c m r (j + 1)) ≡ copied_all c m r (j + 1 + 1)
  unfolding copied_all current_after
  one_more j nz =
      let n = j + 1 in
      let byte = moving (n - 1) in
      let back : j + 1 + 1 - 1 ≡ j + 1 = omega arith in
      let p = copy_pace c.waits in
      let states : (j + 1) * p + p ≡ (j + 1 + 1) * p = sym (next_mul (j + 1) p) in
      let chs : set (set (set (set c.channels 0 (sent n)) 1 (current_after to n)) 0 (source_next (address_hold c.command) (sent n))) 1 (stepped (current_after to n)) ≡ both (n + 1) =
      two_again c.channels (sent n) (current_after to n) (source_next (address_hold c.command) (sent n)) (stepped (current_after to n))
      ∙ ap (λ (x : Channel). set (set c.channels 0 x) 1 (stepped (current_after to n))) (source_more (address_hold c.command) from n)
      ∙ ap (λ (y : Channel). set (set c.channels 0 (sent (n + 1))) 1 y) (stepped_current_after to n) in
      copied_by (copied_all c m r n) (sent n) (current_after to n) (sent_there n byte nz) (got_there n byte nz)
      ∙ ap (λ (l : List Channel). shape l (moving n) (set (bytes n) (address_after to n) (moving n)) (n + 1) (n * p + p)) chs
      ∙ ap (λ (l : List ℕ). shape (both (n + 1)) (moving n) l (n + 1) (n * p + p)) (bytes_more n)
      ∙ ap (λ (k : ℕ). shape (both (n + 1)) (moving k) (bytes (n + 1)) (n + 1) (n * p + p)) (sym back)
      ∙ ap (λ (k : ℕ). shape (both (n + 1)) (moving (n + 1 - 1)) (bytes (n + 1)) (n + 1) k) states

  bytes_none : bytes 0 ≡ m
  unfolding carried_by carried
  bytes_none = refl

  first_copy : to.address < 65536 → copied (start_of c m r) ≡ copied_all c m r 1
  unfolding copied_all
  first_copy goal =
      let p = copy_pace c.waits in
      let once : 0 + p ≡ 1 * p = omega arith in
      let start : source_next (address_hold c.command) from ≡ sent 1 = ap (source_next (address_hold c.command)) (sym (source_none (address_hold c.command) from)) ∙ source_more (address_hold c.command) from 0 in
      let chs : set (set c.channels 0 (source_next (address_hold c.command) from)) 1 (stepped to) ≡ both 1 =
      ap (λ (x : Channel). set (set c.channels 0 x) 1 (stepped to)) start ∙ ap (λ (y : Channel). set (set c.channels 0 (sent 1)) 1 y) (stepped_first to) in
      let byte : get_or m from.address 0 ≡ moving 0 = ap (λ (x : Channel). get_or m x.address 0) (sym (source_none (address_hold c.command) from)) ∙ ap (λ (l : List ℕ). get_or l (sent 0).address 0) (sym bytes_none) in
      let place : to.address ≡ address_after to 0 = sym (address_after_none to goal) in
      copied_by (start_of c m r) from to refl refl
      ∙ ap (λ (l : List Channel). shape l (get_or m from.address 0) (set m to.address (get_or m from.address 0)) 1 (0 + p)) chs
      ∙ ap (λ (b : ℕ). shape (both 1) b (set m to.address b) 1 (0 + p)) byte
      ∙ ap (λ (a : ℕ). shape (both 1) (moving 0) (set m a (moving 0)) 1 (0 + p)) place
      ∙ ap (λ (l : List ℕ). shape (both 1) (moving 0) (set l (address_after to 0) (moving 0)) 1 (0 + p)) (sym bytes_none)
      ∙ ap (λ (l : List ℕ). shape (both 1) (moving 0) l 1 (0 + p)) (bytes_more 0)
      ∙ ap (shape (both 1) (moving 0) (bytes 1) 1) once

  pub copying_none : reached_copying c m r 0 ≡ start_of c m r
  unfolding reached_copying when
  copying_none = refl

  pub copying_some : (n : ℕ) → 0 < n → reached_copying c m r n ≡ copied_all c m r n
  unfolding reached_copying when
  copying_some n h = let nz : n ≡ 0 → ⊥ = λ e. omega arith in simp (ne_eqb n 0 nz)

  abbrev here : ℕ → World
  here n = reached_copying c m r n

  memory_to_memory_after : (n : ℕ) → memory_to_memory (reached_copying c m r n).controller ≡ memory_to_memory c
  unfolding reached_copying copied_all memory_to_memory
  memory_to_memory_after n = when_both (λ (w : World). memory_to_memory w.controller ≡ memory_to_memory c) (eqb n 0) refl refl

  transfers_after : (n : ℕ) → (reached_copying c m r n).counts.transfers ≡ n
  unfolding reached_copying copied_all
  transfers_after n = when_each (λ (w : World). w.counts.transfers ≡ n) (eqb n 0) (λ e. sym (eqb-true _ _ e)) (λ e. refl)

  module _ (ic : memory_to_memory c ≡ true) (goal : to.address < 65536) (small : to.count < 65536) where
    there : (n : ℕ) → (to.count ≡ 0 → ⊥) → n ≤ to.count → (channel (copied_all c m r n).controller 1).count ≡ to.count - n
    unfolding copied_all
    there n nz h = ap (λ (x : Channel). x.count) (got_there n (moving (n - 1)) nz) ∙ current_after_count to n ∙ count_left to.count n h small

    count_after : (n : ℕ) → n ≤ to.count → (channel (here n).controller 1).count ≡ to.count - n
    count_after zero h = rw copying_none (omega arith)
    count_after (suc j) h = rw (copying_some (suc j) (omega arith)) (there (suc j) (λ e. omega arith) h)

    reached_more : (n : ℕ) → n ≤ to.count → (d : List ℕ) → transferred (reached_copying c m r n) d ≡ reached_copying c m r (n + 1)
    reached_more n h d = transferred_copied 0 d (reached_copying c m r n) (memory_to_memory_after n ∙ ic) ∙ go n h
      where
        go : (n : ℕ) → n ≤ to.count → copied (reached_copying c m r n) ≡ reached_copying c m r (n + 1)
        go zero h = rw (copying_none, copying_some 1 (omega arith)) (first_copy goal)
        go (suc j) h =
            let e = add-one j in
            rw (copying_some (suc j) (omega arith), copying_some (suc j + 1) (omega arith), ← e) (one_more j (λ z. omega arith))

    tc_after_lem : (n : ℕ) → n ≤ to.count → reaches_tc (here n).controller ≡ eqb (to.count - n) 0
    unfolding counting when
    tc_after_lem n h = simp (memory_to_memory_after n ∙ ic) (ap (λ (k : ℕ). eqb k 0) (count_after n h))

    single_after : (n : ℕ) → single (here n).controller ≡ false
    unfolding single
    single_after n = simp (memory_to_memory_after n ∙ ic)

    after_tc_or_eop_after : (n : ℕ) (tc met : Bool) → after_tc_or_eop (here n).controller tc met ≡ finished (put (here n).controller Request (with_bit (here n).controller.request 0 false)) 1 tc met
    unfolding after_tc_or_eop when
    after_tc_or_eop_after n tc met = simp (memory_to_memory_after n ∙ ic)

    module _ (limit eop : ℕ) (d : List ℕ) where
      way : Way d here false to.count
      way = record { more = λ n h. reached_more n h d; tc = tc_after_lem; alone = λ n h. single_after n; made = transfers_after }

      free_after : (n : ℕ) → n < limit → Free (stops (here n) d (limit - n))
      unfolding stops first when
      free_after n h x = let more : limit - n ≡ 0 → ⊥ = λ e. omega arith in simp (memory_to_memory_after n ∙ ic, ne_eqb _ _ more)

      stops_after : Gives (stops (here limit) d (limit - limit)) (stop (here limit) Limit)
      unfolding stops first when
      stops_after x = let none : limit - limit ≡ 0 = omega arith in simp (memory_to_memory_after limit ∙ ic, eq-eqb _ _ none)

      pub copy_ends : (n : ℕ) → n ≡ until_end false to.count eop → n ≤ limit
          → run_of limit eop d (start_of c m r)
          ≡ stop (with_controller (here n) (finished (put (here n).controller Request (with_bit (here n).controller.request 0 false)) 1 (eqb n (to.count + 1)) (eqb n eop))) Ended
      copy_ends n e h =
          let u : Until false to.count eop n = rw e (until false to.count eop) in
          let met : eqb n (to.count + 1) || eqb n eop ≡ true =
          not-false _ (λ z. never (sym (u.last (eqb-false _ _ (neither_left (eqb n (to.count + 1)) (eqb n eop) z)) (eqb-false _ _ (neither_right (eqb n (to.count + 1)) (eqb n eop) z))))) in
          ap (λ (w : World). run_of limit eop d w) (sym copying_none)
          ∙ way_end limit eop d here false to.count way n u h (λ k l. free_after k (omega arith))
          ∙ ap (λ (x : Controller). stop (with_controller (here n) x) Ended) (when_hit _ _ (ended (here n).controller) met ∙ after_tc_or_eop_after n (eqb n (to.count + 1)) (eqb n eop))

      pub copy_halts : limit < until_end false to.count eop → run_of limit eop d (start_of c m r) ≡ stop (here limit) Limit
      copy_halts h =
          ap (λ (w : World). run_of limit eop d w) (sym copying_none)
          ∙ way_on limit eop d here false to.count way (until_end false to.count eop) (until false to.count eop) limit h (omega arith) (λ k l. free_after k l)
          ∙ run_stop eop d (here limit) (limit - limit) _ stops_after

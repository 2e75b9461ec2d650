-- One transfer of a run, and its record.
use Prim.Native.Nat.{ℕ, ◌+◌}
use mathlib.Core.Path.{◌≡◌, refl, sym, ap, ◌∙◌}
use mathlib.Core.Bool.{Bool, true, false, ◌||◌}
use mathlib.Core.List.{List, [], ◌∷◌, ◌++◌}
use native.Mathlib.Omega.{arith}
use lib.Dec.{eqb}
use lib.ListN.{get_or, set}
use Rattle.words.specs.Choice.{when}
use Rattle.words.specs.Bytes.{word_of, low_byte, high_byte}
use Rattle.words.specs.Bits.{bit}
use Rattle.am9517.specs.State.{ended}
use Rattle.am9517.specs.Refusals.{busy}
use Rattle.am9517.specs.declared.Controller.{Controller}
use Rattle.am9517_service.specs.World.{World, memory_to_memory, serving_channel, start_of}
use Rattle.am9517_service.specs.Transfer.{writes, reads, moved}
use Rattle.am9517_service.specs.Copy.{copied}
use Rattle.am9517_service.specs.Ends.{reaches_tc, after_tc_or_eop, single}
use Rattle.am9517_service.specs.Run.{transferred}
use Rattle.words.proofs.ChoiceLaws.{when_both, when_over, both_hold}
use Rattle.am9517_service.proofs.RunLaws.{transferred_moved, transferred_copied}
use Rattle.logs.specs.declared.Record.{Record}
use Rattle.logs.specs.Record.{record_in, bytes_of, moved_byte, is_last, flags_of, record_of}
use Rattle.logs.specs.Judge.{next_run, tells_eop, same, is_right}
use Rattle.logs.specs.ClosedRegisters.{flows}
use Rattle.logs.proofs.NextLaws.{after, next_controller, next_memory, transfers_is}
use Rattle.logs.proofs.JudgeLaws.{same_self}

-- a record is read from its bytes, whatever comes behind them
pub read_back : (q : Record) (l : List ℕ) → record_in (bytes_of q ++ l) ≡ q
read_back q l =
    let a : word_of (low_byte q.address) (high_byte q.address) ≡ q.address = omega arith in
    let s : word_of (low_byte q.second) (high_byte q.second) ≡ q.second = omega arith in
    ap (λ (n : ℕ). record { channel = q.channel; kind = q.kind; address = n; second = word_of (low_byte q.second) (high_byte q.second); byte = q.byte; flags = q.flags }) a
    ∙ ap (λ (n : ℕ). record { channel = q.channel; kind = q.kind; address = q.address; second = n; byte = q.byte; flags = q.flags }) s

module _ (c : Controller) (m : List ℕ) (device : ℕ) (eop : Bool) where
  abbrev r : Record
  r = record_of c m device eop

  flag_by : (t e o : Bool) → eqb (bit (when t 1 0 + when e 2 0 + when o 4 0) 1) 1 ≡ e
  unfolding when
  flag_by true true true = refl
  flag_by true true false = refl
  flag_by true false true = refl
  flag_by true false false = refl
  flag_by false true true = refl
  flag_by false true false = refl
  flag_by false false true = refl
  flag_by false false false = refl

  -- its EOP flag tells EOP
  pub tells : tells_eop r ≡ eop
  unfolding flags_of
  tells = flag_by (reaches_tc c) eop (is_last c eop)

  again_by : (t w q : Bool) (here : ℕ) → when t here (when w (when t here (when w device (when q here 0))) (when q here 0)) ≡ when t here (when w device (when q here 0))
  unfolding when
  again_by true w q here = refl
  again_by false true q here = refl
  again_by false false q here = refl

  -- and its data byte, taken for the device's, gives the same record
  byte_again : moved_byte c m r.byte ≡ r.byte
  unfolding moved_byte
  byte_again = again_by (memory_to_memory c) (writes (serving_channel c)) (reads (serving_channel c)) _

  pub said_again : record_of c m r.byte (tells_eop r) ≡ r
  said_again =
      ap (record_of c m r.byte) tells
      ∙ ap (λ (b : ℕ). record { channel = r.channel; kind = r.kind; address = r.address; second = r.second; byte = b; flags = r.flags }) byte_again

  pub right : busy c ≡ true → flows c ≡ true → is_right c m r ≡ true
  unfolding is_right
  right b f = both_hold (transfers_is c m r.byte (tells_eop r) b ∙ f) (ap (same r) said_again ∙ same_self r)

-- what a transfer of a run leaves is what the transfer of that byte leaves from the state and the memory alone
module _ (w : World) (d : List ℕ) (eop : Bool) where
  abbrev c : Controller
  c = w.controller

  abbrev byte : ℕ
  byte = (record_of c w.memory (get_or d w.counts.used 0) eop).byte

  abbrev alone : World
  alone = start_of c w.memory (0 ∷ [])

  pub same_controller : (after c w.memory byte).controller ≡ (transferred w d).controller
  unfolding copied moved
  same_controller = go (memory_to_memory c) refl
    where
      go : (t : Bool) → memory_to_memory c ≡ t → (after c w.memory byte).controller ≡ (transferred w d).controller
      go true ic = ap (λ (v : World). v.controller) (transferred_copied 0 (byte ∷ []) alone ic) ∙ sym (ap (λ (v : World). v.controller) (transferred_copied 0 d w ic))
      go false nc = ap (λ (v : World). v.controller) (transferred_moved 0 (byte ∷ []) alone nc) ∙ sym (ap (λ (v : World). v.controller) (transferred_moved 0 d w nc))

  -- a write takes the device's byte
  byte_written : memory_to_memory c ≡ false → writes (serving_channel c) ≡ true → byte ≡ get_or d w.counts.used 0
  unfolding moved_byte when
  byte_written nc h = simp (nc, h)

  pub same_memory : (after c w.memory byte).memory ≡ (transferred w d).memory
  unfolding copied moved
  same_memory = go (memory_to_memory c) refl
    where
      go : (t : Bool) → memory_to_memory c ≡ t → (after c w.memory byte).memory ≡ (transferred w d).memory
      go true ic = ap (λ (v : World). v.memory) (transferred_copied 0 (byte ∷ []) alone ic) ∙ sym (ap (λ (v : World). v.memory) (transferred_copied 0 d w ic))
      go false nc =
          ap (λ (v : World). v.memory) (transferred_moved 0 (byte ∷ []) alone nc)
          ∙ when_over (λ (l : List ℕ). l) (writes (serving_channel c)) (λ h. ap (set w.memory (serving_channel c).address) (byte_written nc h)) (λ h. refl)
          ∙ sym (ap (λ (v : World). v.memory) (transferred_moved 0 d w nc))

  -- a transfer leaves the service open, and counts one
  pub still_busy : (transferred w d).controller.in_service ≡ c.in_service
  unfolding transferred copied moved
  still_busy = when_both (λ (v : World). v.controller.in_service ≡ c.in_service) (memory_to_memory c) refl refl

  pub one_more : (transferred w d).counts.transfers ≡ w.counts.transfers + 1
  unfolding transferred copied moved
  one_more = when_both (λ (v : World). v.counts.transfers ≡ w.counts.transfers + 1) (memory_to_memory c) refl refl

-- Its end, too.
module _ (w : World) (d : List ℕ) (eop : Bool) (f : flows w.controller ≡ true) where
  abbrev x : Controller
  x = w.controller

  abbrev b : ℕ
  b = (record_of x w.memory (get_or d w.counts.used 0) eop).byte

  abbrev next : World
  next = transferred w d

  pub left_controller : (next_run x w.memory b eop).world.controller
      ≡ when (reaches_tc x || eop) (after_tc_or_eop next.controller (reaches_tc x) eop) (when (single x) (ended next.controller) next.controller)
  left_controller =
      next_controller x w.memory b f eop
      ∙ ap (λ (y : Controller). when (reaches_tc x || eop) (after_tc_or_eop y (reaches_tc x) eop) (when (single x) (ended y) y)) (same_controller w d eop)

  pub left_memory : (next_run x w.memory b eop).world.memory ≡ next.memory
  left_memory = next_memory x w.memory b f eop ∙ same_memory w d eop

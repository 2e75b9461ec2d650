-- A service between two transfers, as numbers: its next record, and its next transfer.
use Prim.Native.Nat.{ℕ, ◌<◌}
use mathlib.Core.Path.{◌≡◌, refl, sym, ap, ◌∙◌}
use mathlib.Core.Bool.{Bool, true, false, ◌&&◌}
use mathlib.Core.List.{List, [], ◌∷◌}
use mathlib.Core.Logic.{◌≢◌}
use native.Mathlib.Omega.{arith}
use lib.Dec.{eqb}
use lib.ListN.{length, get_or, set, length-set}
use lib.Seq.{get_or-set_same, get_or-set_other, set-set}
use borrow.Author.Tests.{eqb-false}
use Rattle.words.specs.Choice.{when}
use Rattle.words.specs.Steps.{step}
use Rattle.am9517.specs.Fields.{blank, channel, make, field, put, with_channel, Temporary, LatchFull, Latch}
use Rattle.am9517.specs.Modes.{address_hold, autoinitialize, decrement}
use Rattle.am9517.specs.declared.Channel.{Channel}
use Rattle.am9517.specs.declared.Controller.{Controller}
use Rattle.am9517_service.specs.World.{World, start_of, memory_to_memory, serving_channel}
use Rattle.am9517_service.specs.Transfer.{with_current, stepped, writes, reads}
use Rattle.am9517_service.specs.Ends.{counting, single}
use Rattle.am9517_service.specs.Copy.{source_next}
use Rattle.am9517_service.specs.States.{latched}
use Rattle.words.proofs.ChoiceLaws.{when_both, when_each, when_hit, when_miss}
use Rattle.am9517_service.proofs.AnswerLaws.{set_here}
use Rattle.am9517_service.proofs.CopyLegLaws.{serving_0}
use Rattle.am9517_service.proofs.CopyLaws.{two_again, copied_with, copied_by}
use Rattle.am9517_service.proofs.TransferLaws.{moved_with, moved_by}
use Rattle.am9517_service.proofs.RunLaws.{transferred_moved, transferred_copied}
use Rattle.logs.specs.declared.registers.Registers.{Registers}
use Rattle.logs.specs.declared.registers.Service.{Service}
use Rattle.logs.specs.Record.{kind_of, second_address, moved_byte, is_last, flags_of, record_of}
use Rattle.logs.specs.ClosedRegisters.{service_of, registers_of, with_registers, copies, stores, record_by, copied_registers, moved_registers, stepped_by, stored_by}
use Rattle.logs.proofs.NextLaws.{Alike, copy_alike, after}

-- the controller with the registers that it has is itself
pub as_it_is : (c : Controller) → with_registers c (registers_of c) ≡ c
unfolding when
as_it_is c = each (memory_to_memory c)
  where
    by : Bool → Controller
    by t =
        let n = when t (channel c 1).count (serving_channel c).count in
        let y = with_channel c c.serving (with_current (serving_channel c) (serving_channel c).address (when t (when t (serving_channel c).count 0) n)) in
        when t (with_channel y 1 (with_current (channel c 1) (when t (channel c 1).address 0) n)) y

    one : set c.channels c.serving (serving_channel c) ≡ c.channels
    one = set_here c.channels c.serving

    each : (t : Bool) → by t ≡ c
    each true = ap (λ (l : List Channel). make l (field c)) (ap (λ (l : List Channel). set l 1 (channel c 1)) one ∙ set_here c.channels 1)
    each false = ap (λ (l : List Channel). make l (field c)) one

-- what a kind of 0 to 3 tells
copy_by : (t w r : Bool) → eqb (when t 3 (when w 1 (when r 2 0))) 3 ≡ t
unfolding when
copy_by true w r = refl
copy_by false true r = refl
copy_by false false true = refl
copy_by false false false = refl

byte_by : (t w r : Bool) (device here : ℕ)
    → when t here (when w device (when r here 0)) ≡ when (eqb (when t 3 (when w 1 (when r 2 0))) 1) device (when (eqb (when t 3 (when w 1 (when r 2 0))) 0) 0 here)
unfolding when
byte_by true w r device here = refl
byte_by false true r device here = refl
byte_by false false true device here = refl
byte_by false false false device here = refl

store_by : (w r : Bool) → eqb (when w 1 (when r 2 0)) 1 ≡ w
unfolding when
store_by true r = refl
store_by false true = refl
store_by false false = refl

-- channel 0 behind its step, and restored where its count passed 0
source_by : (hold t again : Bool) (ch : Channel) (a n : ℕ) → eqb n 0 ≡ t → autoinitialize ch.mode ≡ again
    → source_next hold (with_current ch a n) ≡ with_current ch (when (t && again) ch.base_address (when hold a (step 16 (decrement ch.mode) a))) (when (t && again) ch.base_count (step 16 true n))
unfolding when
source_by hold true true ch a n e h = simp (e, h)
source_by hold true false ch a n e h = simp (e, h)
source_by hold false again ch a n e h = simp e

pub copies_is : (c : Controller) → copies (service_of c) ≡ memory_to_memory c
unfolding kind_of
copies_is c = copy_by (memory_to_memory c) (writes (serving_channel c)) (reads (serving_channel c))

stores_is : (c : Controller) → memory_to_memory c ≡ false → stores (service_of c) ≡ writes (serving_channel c)
unfolding kind_of when
stores_is c nc = simp nc (store_by (writes (serving_channel c)) (reads (serving_channel c)))

stores_not : (c : Controller) → memory_to_memory c ≡ true → stores (service_of c) ≡ false
unfolding kind_of when
stores_not c ic = simp ic

-- a controller has four channels, by its type
module _ (c : Controller) (four : length c.channels ≡ 4) (here : c.serving < 4) (g : Registers) where
  abbrev x : Controller
  x = with_registers c g

  -- its serving channel, and in memory-to-memory channel 1
  abbrev served : Channel
  served = with_current (serving_channel c) g.address (when (memory_to_memory c) g.source g.count)

  abbrev target : Channel
  target = with_current (channel c 1) g.second g.count

  pub serving_same : x.serving ≡ c.serving
  serving_same = when_both (λ (y : Controller). y.serving ≡ c.serving) (memory_to_memory c) refl refl

  pub busy_same : x.in_service ≡ c.in_service
  busy_same = when_both (λ (y : Controller). y.in_service ≡ c.in_service) (memory_to_memory c) refl refl

  apart : ◌≢◌ {A = ℕ} 0 1
  apart e = eqb-false 0 1 refl e

  served_there : serving_channel x ≡ served
  served_there =
      when_each (λ (y : Controller). channel y y.serving ≡ served) (memory_to_memory c)
      (λ ic. rw (serving_0 c ic) (get_or-set_other (set c.channels 0 _) 1 0 target blank apart ∙ get_or-set_same c.channels 0 _ blank (omega arith)))
      (λ nc. get_or-set_same c.channels c.serving served blank (omega arith))

  pub target_there : memory_to_memory c ≡ true → channel x 1 ≡ target
  target_there ic =
      ap (λ (y : Controller). channel y 1) (when_hit _ _ _ ic) ∙ get_or-set_same (set c.channels c.serving served) 1 target blank (rw (length-set c.channels c.serving served) (omega arith))

  pub alike : Alike c x
  alike =
      record {
        pins = when_both (λ (y : Controller). y.pins ≡ c.pins) (memory_to_memory c) refl refl;
        command = when_both (λ (y : Controller). y.command ≡ c.command) (memory_to_memory c) refl refl;
        serving = serving_same;
        mode = ap (λ (ch : Channel). ch.mode) served_there;
      }

  -- the record of its next transfer
  kind_same : kind_of x ≡ kind_of c
  unfolding kind_of
  kind_same = rw alike.mode (simp (copy_alike c x alike))

  -- a device's service has no second address
  abbrev pub OneAddress : Type 0
  OneAddress = memory_to_memory c ≡ false → g.second ≡ 0

  second_same : OneAddress → second_address x ≡ g.second
  unfolding second_address
  second_same p = go (memory_to_memory c) refl
    where
      go : (t : Bool) → memory_to_memory c ≡ t → second_address x ≡ g.second
      go true ic = when_hit _ _ _ (copy_alike c x alike ∙ ic) ∙ ap (λ (ch : Channel). ch.address) (target_there ic)
      go false nc = when_miss _ _ _ (copy_alike c x alike ∙ nc) ∙ sym (p nc)

  address_same : (serving_channel x).address ≡ g.address
  address_same = ap (λ (ch : Channel). ch.address) served_there

  pub count_same : (channel x (counting x)).count ≡ g.count
  unfolding counting
  count_same = go (memory_to_memory c) refl
    where
      go : (t : Bool) → memory_to_memory c ≡ t → (channel x (counting x)).count ≡ g.count
      go true ic = ap (λ (n : ℕ). (channel x n).count) (when_hit (memory_to_memory x) 1 x.serving (copy_alike c x alike ∙ ic)) ∙ ap (λ (ch : Channel). ch.count) (target_there ic)
      go false nc =
          ap (λ (n : ℕ). (channel x n).count) (when_miss (memory_to_memory x) 1 x.serving (copy_alike c x alike ∙ nc))
          ∙ ap (λ (ch : Channel). ch.count) served_there
          ∙ when_miss (memory_to_memory c) g.source g.count nc

  pub single_same : single x ≡ single c
  unfolding single
  single_same = rw alike.mode (simp (copy_alike c x alike))

  byte_same : (m : List ℕ) (device : ℕ)
      → moved_byte x m device ≡ when (stores (service_of c)) device (when (eqb (service_of c).kind 0) 0 (get_or m g.address 0))
  unfolding moved_byte kind_of
  byte_same m device =
      rw (alike.mode, address_same) (simp (copy_alike c x alike) (byte_by (memory_to_memory c) (writes (serving_channel c)) (reads (serving_channel c)) device (get_or m g.address 0)))

  pub byte_copied : memory_to_memory c ≡ true → (held device : ℕ) → when (stores (service_of c)) device (when (eqb (service_of c).kind 0) 0 held) ≡ held
  unfolding kind_of when
  byte_copied ic held device = simp ic

  flags_same : (eop : Bool) → flags_of x eop ≡ (record_by (service_of c) g 0 0 eop).flags
  unfolding flags_of is_last
  flags_same eop = simp (count_same, single_same)

  pub record_is : OneAddress → (m : List ℕ) (device : ℕ) (eop : Bool) → record_of x m device eop ≡ record_by (service_of c) g (get_or m g.address 0) device eop
  record_is p m device eop = simp (serving_same, kind_same, address_same, second_same p, byte_same m device, flags_same eop)

  -- its next transfer, where that ends nothing; the byte is the one that its record has
  module _ (m : List ℕ) (byte : ℕ) where
    abbrev s : Service
    s = service_of c

    abbrev pub next : Controller
    next = with_registers c (stepped_by s g byte)

    abbrev base : Controller
    base = put (put (put c Temporary g.temporary) LatchFull g.latch_full) Latch g.latch

    -- memory-to-memory
    module _ (ic : memory_to_memory c ≡ true) (moved-one : get_or m g.address 0 ≡ byte) where
      abbrev sent : Channel
      sent = with_current (serving_channel c) g.address g.source

      sent_is : served ≡ sent
      sent_is = ap (with_current (serving_channel c) g.address) (when_hit (memory_to_memory c) g.source g.count ic)

      abbrev both : Controller
      both = with_channel (with_channel base c.serving sent) 1 target

      both_is : x ≡ both
      both_is = when_hit (memory_to_memory c) (with_channel (with_channel base c.serving served) 1 target) _ ic ∙ ap (λ (ch : Channel). with_channel (with_channel base c.serving ch) 1 target) sent_is

      abbrev source : Channel
      source = source_next (address_hold c.command) sent

      channels_on : set (set (set (set c.channels c.serving sent) 1 target) 0 source) 1 (stepped target) ≡ set (set c.channels c.serving source) 1 (stepped target)
      channels_on = rw (serving_0 c ic) (two_again c.channels _ target _ (stepped target))

      served_first : channel x 0 ≡ sent
      served_first = ap (λ (n : ℕ). channel x n) (sym (serving_same ∙ serving_0 c ic)) ∙ served_there ∙ sent_is

      copied_is : after x m byte ≡ copied_with (start_of both m (0 ∷ [])) sent target
      copied_is =
          transferred_copied 0 (byte ∷ []) (start_of x m (0 ∷ [])) (copy_alike c x alike ∙ ic)
          ∙ copied_by (start_of x m (0 ∷ [])) sent target served_first (target_there ic)
          ∙ ap (λ (y : Controller). copied_with (start_of y m (0 ∷ [])) sent target) both_is

      stepped_on : with_registers c (stepped_by s g byte) ≡ make (set (set c.channels c.serving source) 1 (stepped target)) (field (put both Temporary byte))
      unfolding stepped_by
      stepped_on =
          let on = copied_registers s g byte in
          ap (with_registers c) (when_hit (copies s) on (moved_registers s g) (copies_is c ∙ ic))
          ∙ when_hit (memory_to_memory c) _ _ ic
          ∙ ap (λ (n : ℕ). make (set (set c.channels c.serving (with_current (serving_channel c) on.address n)) 1 (stepped target)) (field (put both Temporary byte))) (when_hit (memory_to_memory c) on.source on.count ic)
          ∙ ap (λ (ch : Channel). make (set (set c.channels c.serving ch) 1 (stepped target)) (field (put both Temporary byte)))
          (sym (source_by (address_hold c.command) _ _ (serving_channel c) g.address g.source refl refl))

      pub copied_controller : (after x m byte).controller ≡ next
      copied_controller =
          ap (λ (w : World). w.controller) copied_is
          ∙ ap (λ (l : List Channel). make l (field (put both Temporary (get_or m g.address 0)))) channels_on
          ∙ ap (λ (b : ℕ). make (set (set c.channels c.serving source) 1 (stepped target)) (field (put both Temporary b))) moved-one
          ∙ sym stepped_on

      pub copied_memory : (after x m byte).memory ≡ stored_by s g m byte
      unfolding stored_by
      copied_memory =
          ap (λ (w : World). w.memory) copied_is
          ∙ ap (λ (b : ℕ). set m g.second b) moved-one
          ∙ sym (when_miss (stores s) (set m g.address byte) (when (copies s) (set m g.second byte) m) (stores_not c ic) ∙ when_hit (copies s) (set m g.second byte) m (copies_is c ∙ ic))

    -- a device's service
    module _ (nc : memory_to_memory c ≡ false) where
      abbrev serves : Channel
      serves = with_current (serving_channel c) g.address g.count

      serves_is : served ≡ serves
      serves_is = ap (with_current (serving_channel c) g.address) (when_miss (memory_to_memory c) g.source g.count nc)

      abbrev one : Controller
      one = with_channel base c.serving serves

      one_is : x ≡ one
      one_is = when_miss (memory_to_memory c) _ (with_channel base c.serving served) nc ∙ ap (with_channel base c.serving) serves_is

      moved_is : after x m byte ≡ moved_with (start_of one m (0 ∷ [])) (byte ∷ []) serves
      moved_is =
          transferred_moved 0 (byte ∷ []) (start_of x m (0 ∷ [])) (copy_alike c x alike ∙ nc)
          ∙ moved_by (start_of x m (0 ∷ [])) (byte ∷ []) serves (served_there ∙ serves_is)
          ∙ ap (λ (y : Controller). moved_with (start_of y m (0 ∷ [])) (byte ∷ []) serves) one_is

      stepped_off : with_registers c (stepped_by s g byte) ≡ make (set c.channels c.serving (stepped serves)) (field (latched one g.address))
      unfolding stepped_by
      stepped_off =
          let on = moved_registers s g in
          ap (with_registers c) (when_miss (copies s) (copied_registers s g byte) on (copies_is c ∙ nc))
          ∙ when_miss (memory_to_memory c) _ _ nc
          ∙ ap (λ (n : ℕ). make (set c.channels c.serving (with_current (serving_channel c) on.address n)) (field (latched one g.address))) (when_miss (memory_to_memory c) on.source on.count nc)

      pub moved_controller : (after x m byte).controller ≡ next
      moved_controller =
          ap (λ (w : World). w.controller) moved_is
          ∙ ap (λ (l : List Channel). make l (field (latched one g.address))) (set-set c.channels c.serving serves (stepped serves))
          ∙ sym stepped_off

      pub moved_memory : (after x m byte).memory ≡ stored_by s g m byte
      unfolding stored_by
      moved_memory =
          ap (λ (w : World). w.memory) moved_is
          ∙ sym (ap (λ (t : Bool). when t (set m g.address byte) (when (copies s) (set m g.second byte) m)) (stores_is c nc)
          ∙ ap (λ (l : List ℕ). when (writes (serving_channel c)) (set m g.address byte) l) (when_miss (copies s) (set m g.second byte) m (copies_is c ∙ nc)))

    -- what has no second address has none behind it
    pub one_address_on : OneAddress → memory_to_memory c ≡ false → (stepped_by s g byte).second ≡ 0
    unfolding stepped_by
    one_address_on p nc = ap (λ (on : Registers). on.second) (when_miss (copies s) (copied_registers s g byte) (moved_registers s g) (copies_is c ∙ nc)) ∙ p nc

-- the record of the next transfer, from the registers as they are
pub record_here : (c : Controller) → length c.channels ≡ 4 → c.serving < 4 → (m : List ℕ) (device : ℕ) (eop : Bool)
    → record_by (service_of c) (registers_of c) (get_or m (serving_channel c).address 0) device eop ≡ record_of c m device eop
record_here c four here m device eop =
    sym (record_is c four here (registers_of c) (λ nc. when_miss _ _ _ nc) m device eop) ∙ ap (λ (y : Controller). record_of y m device eop) (as_it_is c)

-- What a right record tells of its transfer.
use Prim.Native.Nat.{ℕ, ◌+◌}
use mathlib.Core.Path.{◌≡◌, refl, sym, ap, ◌∙◌, subst}
use mathlib.Core.Bool.{Bool, true, false, ◌||◌}
use mathlib.Core.List.{List, [], ◌∷◌}
use mathlib.Core.Logic.{◌↔◌}
use native.Mathlib.Omega.{arith}
use lib.Dec.{eqb}
use lib.ListN.{get_or, set}
use borrow.Author.Tests.{eqb-false, not-true}
use Rattle.words.specs.Choice.{when}
use Rattle.words.specs.Bits.{bit}
use Rattle.words.specs.Grounds.{first}
use Rattle.am9517.specs.Refusals.{busy}
use Rattle.am9517.specs.Fields.{channel}
use Rattle.am9517.specs.declared.Controller.{Controller}
use Rattle.am9517_service.specs.World.{World, Stop, with_controller, memory_to_memory, serving_channel, start_of}
use Rattle.am9517_service.specs.Transfer.{writes, reads, moved}
use Rattle.am9517_service.specs.Copy.{copied}
use Rattle.am9517_service.specs.Ends.{reaches_tc, finished, after_tc_or_eop, single}
use Rattle.words.proofs.ChoiceLaws.{when_hit, when_miss, when_both}
use Rattle.am9517_service.proofs.RunLaws.{transferred_moved, transferred_copied}
use Rattle.am9517_service.proofs.RunWayLaws.{neither_left, neither_right}
use Rattle.am9517_service.proofs.CopyLegLaws.{serving_0}
use Rattle.logs.specs.declared.Record.{Record}
use Rattle.logs.specs.Record.{kind_of, second_address, moved_byte, is_last, flags_of}
use Rattle.logs.specs.Judge.{next_run, tells_eop, is_right}
use Rattle.logs.specs.ClosedRegisters.{flows}
use Rattle.logs.proofs.NextLaws.{after, next_is, next_controller, next_last}
use Rattle.requests.specs.Logs.{Tells}
use Rattle.requests.proofs.LogStepLaws.{still_busy}
use Rattle.requests.proofs.SoundLaws.{busy_then, flows_then, said_then}

-- kinds told apart
abbrev kind_by : Bool → Bool → Bool → ℕ
kind_by t w q = when t 3 (when w 1 (when q 2 0))

kind_verify : (t w q : Bool) → kind_by t w q ≡ 0 → (t ≡ false) × (w ≡ false) × (q ≡ false)
unfolding when
kind_verify true w q e = absurd (omega arith)
kind_verify false true q e = absurd (omega arith)
kind_verify false false true e = absurd (omega arith)
kind_verify false false false e = (refl, refl, refl)

kind_write : (t w q : Bool) → kind_by t w q ≡ 1 → (t ≡ false) × (w ≡ true)
unfolding when
kind_write true w q e = absurd (omega arith)
kind_write false true q e = (refl, refl)
kind_write false false true e = absurd (omega arith)
kind_write false false false e = absurd (omega arith)

kind_read : (t w q : Bool) → kind_by t w q ≡ 2 → (t ≡ false) × (w ≡ false) × (q ≡ true)
unfolding when
kind_read true w q e = absurd (omega arith)
kind_read false true q e = absurd (omega arith)
kind_read false false true e = (refl, refl, refl)
kind_read false false false e = absurd (omega arith)

kind_copy : (t w q : Bool) → kind_by t w q ≡ 3 → t ≡ true
unfolding when
kind_copy true w q e = refl
kind_copy false true q e = absurd (omega arith)
kind_copy false false true e = absurd (omega arith)
kind_copy false false false e = absurd (omega arith)

-- flag bit 2
flag_last : (t e o : Bool) → bit (when t 1 0 + when e 2 0 + when o 4 0) 2 ≡ when o 1 0
unfolding when
flag_last true true true = refl
flag_last true true false = refl
flag_last true false true = refl
flag_last true false false = refl
flag_last false true true = refl
flag_last false true false = refl
flag_last false false true = refl
flag_last false false false = refl

-- TC, EOP and the end of a service leave the temporary byte
temporary_stays : (x : Controller) (tc eop : Bool) → (after_tc_or_eop x tc eop).temporary ≡ x.temporary
unfolding after_tc_or_eop finished
temporary_stays x tc eop = when_both (λ (y : Controller). y.temporary ≡ x.temporary) (memory_to_memory x) refl refl

-- One transfer, where the service flows.
module _ (c : Controller) (m : List ℕ) (byte : ℕ) (eop : Bool) (f : flows c ≡ true) where
  abbrev before : World
  before = start_of c m (0 ∷ [])

  abbrev made : World
  made = after c m byte

  abbrev next : World
  next = (next_run c m byte eop).world

  -- its end changes the controller alone
  next_left : {A : Type 0} (g : World → A) → ((x : Controller) → g (with_controller made x) ≡ g made) → g next ≡ g made
  unfolding first
  next_left g h =
      ap (λ (s : Stop). g s.world) (next_is c m byte f eop)
      ∙ when_both (λ (s : Stop). g s.world ≡ g made) (reaches_tc c || eqb made.counts.transfers (when eop 1 0)) (h _)
      (when_both (λ (s : Stop). g s.world ≡ g made) (single c) (h _) refl)

  next_temporary : next.controller.temporary ≡ made.controller.temporary
  next_temporary =
      ap (λ (x : Controller). x.temporary) (next_controller c m byte f eop)
      ∙ when_both Stays (reaches_tc c || eop) (temporary_stays made.controller (reaches_tc c) eop) (when_both Stays (single c) refl refl)
    where
      Stays : Controller → Type 0
      Stays x = x.temporary ≡ made.controller.temporary

  -- it leaves the service open unless it is the last
  next_open : is_last c eop ≡ false → next.controller.in_service ≡ c.in_service
  unfolding is_last
  next_open l =
      ap (λ (x : Controller). x.in_service)
      (next_controller c m byte f eop ∙ when_miss _ _ _ (neither_left (reaches_tc c || eop) (single c) l) ∙ when_miss _ _ _ (neither_right (reaches_tc c || eop) (single c) l))
      ∙ still_busy before (byte ∷ []) eop

  pub last_told : busy c ≡ true → (bit (flags_of c eop) 2 ≡ 1) ↔ (next.controller.in_service ≡ 0)
  unfolding flags_of is_last
  last_told b = go (is_last c eop) refl
    where
      is : bit (flags_of c eop) 2 ≡ when (is_last c eop) 1 0
      is = flag_last (reaches_tc c) eop (is_last c eop)

      go : (t : Bool) → is_last c eop ≡ t → (bit (flags_of c eop) 2 ≡ 1) ↔ (next.controller.in_service ≡ 0)
      go true l = (λ h. next_last c m byte f eop l, λ h. is ∙ when_hit _ _ _ l)
      go false l = (
        λ h. let z : ◌≡◌ {A = ℕ} 0 1 = sym (is ∙ when_miss _ _ _ l) ∙ h in absurd (omega arith),
        λ h. absurd (eqb-false _ _ (not-true _ b) (sym (next_open l) ∙ h)),
      )

  -- a device's transfer, and memory-to-memory
  module _ (nc : memory_to_memory c ≡ false) where
    moved_is : made ≡ moved before (byte ∷ [])
    moved_is = transferred_moved 0 (byte ∷ []) before nc

    pub stored : writes (serving_channel c) ≡ true → (next.memory ≡ set m (serving_channel c).address byte) × (next.counts.used ≡ 1)
    unfolding moved
    stored h = (
      next_left (λ (v : World). v.memory) (λ x. refl) ∙ ap (λ (v : World). v.memory) moved_is ∙ when_hit _ _ _ h,
      next_left (λ (v : World). v.counts.used) (λ x. refl) ∙ ap (λ (v : World). v.counts.used) moved_is ∙ ap (λ (n : ℕ). 0 + n) (when_hit _ _ _ h),
    )

    pub unstored : writes (serving_channel c) ≡ false → next.memory ≡ m
    unfolding moved
    unstored h = next_left (λ (v : World). v.memory) (λ x. refl) ∙ ap (λ (v : World). v.memory) moved_is ∙ when_miss _ _ _ h

    pub put_out : reads (serving_channel c) ≡ true → next.room ≡ get_or m (serving_channel c).address 0 ∷ []
    unfolding moved
    put_out h = next_left (λ (v : World). v.room) (λ x. refl) ∙ ap (λ (v : World). v.room) moved_is ∙ when_hit _ _ _ h

    pub kept_in : reads (serving_channel c) ≡ false → next.room ≡ 0 ∷ []
    unfolding moved
    kept_in h = next_left (λ (v : World). v.room) (λ x. refl) ∙ ap (λ (v : World). v.room) moved_is ∙ when_miss _ _ _ h

  module _ (ic : memory_to_memory c ≡ true) where
    abbrev here : ℕ
    here = get_or m (channel c 0).address 0

    copied_is : made ≡ copied before
    copied_is = transferred_copied 0 (byte ∷ []) before ic

    pub sent_on : (next.memory ≡ set m (channel c 1).address here) × (next.controller.temporary ≡ here)
    unfolding copied
    sent_on = (
      next_left (λ (v : World). v.memory) (λ x. refl) ∙ ap (λ (v : World). v.memory) copied_is,
      next_temporary ∙ ap (λ (v : World). v.controller.temporary) copied_is,
    )

-- the byte of a right record
module _ (c : Controller) (m : List ℕ) (x : ℕ) where
  byte_read_lem : memory_to_memory c ≡ false → writes (serving_channel c) ≡ false → reads (serving_channel c) ≡ true → moved_byte c m x ≡ get_or m (serving_channel c).address 0
  unfolding moved_byte when
  byte_read_lem nc nw r = simp (nc, nw, r)

  byte_copied : memory_to_memory c ≡ true → moved_byte c m x ≡ get_or m (channel c 0).address 0
  unfolding moved_byte
  byte_copied ic = when_hit _ _ _ ic ∙ ap (λ (n : ℕ). get_or m (channel c n).address 0) (serving_0 c ic)

pub record_tells : (c : Controller) (m : List ℕ) (r : Record) → is_right c m r ≡ true → Tells r m (next_run c m r.byte (tells_eop r)).world
unfolding kind_of second_address
record_tells c m r e =
    let f = flows_then c m r e in
    let is = said_then c m r e in
    let t = memory_to_memory c in
    let w = writes (serving_channel c) in
    let q = reads (serving_channel c) in
    let kind : r.kind ≡ kind_by t w q = ap (λ (s : Record). s.kind) is in
    let address : r.address ≡ (serving_channel c).address = ap (λ (s : Record). s.address) is in
    let second : r.second ≡ when t (channel c 1).address 0 = ap (λ (s : Record). s.second) is in
    let moves : r.byte ≡ moved_byte c m r.byte = ap (λ (s : Record). s.byte) is in
    let flags : r.flags ≡ flags_of c (tells_eop r) = ap (λ (s : Record). s.flags) is in
    let next = (next_run c m r.byte (tells_eop r)).world in
    record {
      last = subst (λ (n : ℕ). (bit n 2 ≡ 1) ↔ (next.controller.in_service ≡ 0)) (sym flags) (last_told c m r.byte (tells_eop r) f (busy_then c m r e));
      verify =
          λ h. let k = kind_verify t w q (sym kind ∙ h) in (unstored c m r.byte (tells_eop r) f k.0 k.1, kept_in c m r.byte (tells_eop r) f k.0 k.2);
      write =
          λ h. let k = kind_write t w q (sym kind ∙ h) in
          let s = stored c m r.byte (tells_eop r) f k.0 k.1 in
          (s.0 ∙ ap (λ (n : ℕ). set m n r.byte) (sym address), s.1);
      read =
          λ h. let k = kind_read t w q (sym kind ∙ h) in (
            unstored c m r.byte (tells_eop r) f k.0 k.1,
            put_out c m r.byte (tells_eop r) f k.0 k.2 ∙ ap (λ (n : ℕ). n ∷ []) (sym (moves ∙ byte_read_lem c m r.byte k.0 k.1 k.2)),
          );
      copy =
          λ h. let ic = kind_copy t w q (sym kind ∙ h) in
          let s = sent_on c m r.byte (tells_eop r) f ic in
          let byte : get_or m (channel c 0).address 0 ≡ r.byte = sym (moves ∙ byte_copied c m r.byte ic) in (
            s.0 ∙ ap (set m (channel c 1).address) byte ∙ ap (λ (n : ℕ). set m n r.byte) (sym (second ∙ when_hit _ _ _ ic)),
            s.1 ∙ byte,
          );
    }

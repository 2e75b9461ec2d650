-- Channel 0 in every run of memory-to-memory.
use Prim.Native.Nat.{ℕ, zero, suc, ◌+◌, ◌-◌, ◌*◌, ◌%◌, ◌<◌}
use mathlib.Core.Path.{◌≡◌, refl, sym, ap, ◌∙◌, subst}
use mathlib.Core.Bool.{Bool, true, false}
use mathlib.Core.List.{List}
use mathlib.Core.Logic.{◌≢◌}
use native.Mathlib.Omega.{arith}
use native.Mathlib.Numerals.{add-one}
use lib.Dec.{eqb}
use lib.ListN.{length, set, length-set}
use lib.Seq.{get_or-set_same, get_or-set_other}
use borrow.Author.Tests.{eqb-false}
use Rattle.words.specs.Bits.{bit, with_bit}
use Rattle.words.specs.Choice.{when}
use Rattle.words.specs.Steps.{stride, step, steps}
use Rattle.am9517.specs.Fields.{channel, with_channel, blank, put, Request}
use Rattle.am9517.specs.State.{ended}
use Rattle.am9517.specs.Modes.{address_hold, autoinitialize}
use Rattle.am9517.specs.declared.Channel.{Channel}
use Rattle.am9517.specs.declared.Controller.{Controller}
use Rattle.am9517_service.specs.declared.spans.Span.{Span}
use Rattle.am9517_service.specs.Counts.{counts}
use Rattle.am9517_service.specs.World.{World, start_of, Stop, memory_to_memory}
use Rattle.am9517_service.specs.States.{copy_pace}
use Rattle.am9517_service.specs.Copy.{source_next, copied, source_after}
use Rattle.am9517_service.specs.Ends.{sets_tc_bit, finished, after_tc_or_eop, channel_after}
use Rattle.am9517_service.specs.Transfer.{stepped}
use Rattle.am9517_service.specs.Run.{run_of}
use Rattle.am9517_service.specs.Answers.{Given, stopped, ran_of}
use Rattle.am9517_service.specs.ClosedSpans.{copy_span}
use Rattle.words.proofs.ChoiceLaws.{when_both, when_hit, when_miss}
use Rattle.words.proofs.StepLaws.{steps_none, steps_next}
use Rattle.am9517_service.proofs.AnswerLaws.{run_accepted}
use Rattle.am9517_service.proofs.KeepLaws.{run_ind}
use Rattle.am9517_service.proofs.RunLaws.{transferred_copied}
use Rattle.am9517_service.proofs.CopySourceLaws.{source_mode, source_none, source_more}
use Rattle.am9517_service.proofs.CopyLegLaws.{copy_run}
use Rattle.requests.specs.Copies.{Copies, ChannelZero, EndsAlike, CopyLoop}
use Rattle.std.proofs.Common.{Ok}

-- bit 0 where another one is set
bit_0_kept : (b : ℕ) (v : Bool) → bit (with_bit b 1 v) 0 ≡ bit b 0
unfolding with_bit when
bit_0_kept b true = omega arith
bit_0_kept b false = omega arith

-- Along a run: channel 0 as the transfers leave it, and its bits.
record Along (c : Controller) (x : Controller) (n : ℕ) : Type 0 where
  copy : memory_to_memory x ≡ true
  command : x.command ≡ c.command
  size : length x.channels ≡ 4
  registers : channel x 0 ≡ source_after (address_hold c.command) (channel c 0) n
  tc : bit x.tc 0 ≡ bit c.tc 0
  mask : bit x.mask 0 ≡ bit c.mask 0

-- where it stops
record Left (c : Controller) (x : Controller) (n : ℕ) : Type 0 where
  registers : channel x 0 ≡ source_after (address_hold c.command) (channel c 0) n
  tc : bit x.tc 0 ≡ bit c.tc 0
  mask : bit x.mask 0 ≡ bit c.mask 0

apart : ◌≢◌ {A = ℕ} 0 1
apart e = eqb-false 0 1 refl e

module _ (c : Controller) where
  copied_along : (w : World) → Along c w.controller w.counts.transfers → Along c (copied w).controller (copied w).counts.transfers
  unfolding copied memory_to_memory
  copied_along w p =
      let x = w.controller in
      let next = source_next (address_hold x.command) (channel x 0) in
      record {
        copy = p.copy;
        command = p.command;
        size = length-set (set x.channels 0 next) 1 (stepped (channel x 1)) ∙ length-set x.channels 0 next ∙ p.size;
        registers =
            get_or-set_other (set x.channels 0 next) 1 0 (stepped (channel x 1)) blank apart
            ∙ get_or-set_same x.channels 0 next blank (omega (arith, p.size))
            ∙ ap (λ (k : ℕ). source_next (address_hold k) (channel x 0)) p.command
            ∙ ap (source_next (address_hold c.command)) p.registers
            ∙ source_more (address_hold c.command) (channel c 0) w.counts.transfers;
        tc = p.tc;
        mask = p.mask;
      }

  finished_left : (x : Controller) (n : ℕ) (tc eop : Bool) → Along c x n → Left c (finished x 1 tc eop) n
  unfolding finished
  finished_left x n tc eop p =
      record {
        registers = get_or-set_other x.channels 1 0 (channel_after (channel x 1)) blank apart ∙ p.registers;
        tc = when_both (λ (b : ℕ). bit b 0 ≡ bit c.tc 0) (sets_tc_bit x.edition tc eop) (bit_0_kept x.tc true ∙ p.tc) p.tc;
        mask = when_both (λ (b : ℕ). bit b 0 ≡ bit c.mask 0) (autoinitialize (channel x 1).mode) p.mask (bit_0_kept x.mask true ∙ p.mask);
      }

  met_left : (x : Controller) (n : ℕ) (tc eop : Bool) → Along c x n → Left c (after_tc_or_eop x tc eop) n
  unfolding after_tc_or_eop memory_to_memory
  met_left x n tc eop p =
      let q = put x Request (with_bit x.request 0 false) in
      let asked : Along c q n = record { copy = p.copy; command = p.command; size = p.size; registers = p.registers; tc = p.tc; mask = p.mask } in
      rw (when_hit (memory_to_memory x) (finished q 1 tc eop) (finished x x.serving tc eop) p.copy) (finished_left q n tc eop asked)

  still_left : (x : Controller) (n : ℕ) → Along c x n → Left c x n
  still_left x n p = record { registers = p.registers; tc = p.tc; mask = p.mask }

  ended_left : (x : Controller) (n : ℕ) → Along c x n → Left c (ended x) n
  ended_left x n p = record { registers = p.registers; tc = p.tc; mask = p.mask }

  run_left_lem : (limit eop : ℕ) (d m r : List ℕ) → memory_to_memory c ≡ true → length c.channels ≡ 4
      → Left c (run_of limit eop d (start_of c m r)).world.controller (run_of limit eop d (start_of c m r)).world.counts.transfers
  run_left_lem limit eop d m r copy size =
      run_ind (λ n w. Along c w.controller w.counts.transfers) (λ s. Left c s.world.controller s.world.counts.transfers) eop d
      (λ n w p s. rw (transferred_copied 0 d w p.copy) (copied_along w p))
      (λ n w e not p. still_left w.controller w.counts.transfers p)
      (λ n w p. ended_left w.controller w.counts.transfers p)
      (λ n w tc met p. met_left w.controller w.counts.transfers tc met p)
      (λ n w p. ended_left w.controller w.counts.transfers p)
      limit (start_of c m r)
      (record { copy = copy; command = refl; size = size; registers = sym (source_none (address_hold c.command) (channel c 0)); tc = refl; mask = refl })

-- its count, where it doesn't autoinitialize
count_next : (hold : Bool) (ch : Channel) → autoinitialize ch.mode ≡ false → (source_next hold ch).count ≡ step 16 true ch.count
count_next hold ch h =
    when_both (λ (x : Channel). x.count ≡ step 16 true ch.count) (eqb ch.count 0)
    (when_miss (autoinitialize ch.mode) ch.base_count (step 16 true ch.count) h) refl

count_after : (hold : Bool) (ch : Channel) (n : ℕ) → autoinitialize ch.mode ≡ false → ch.count < 65536 → (source_after hold ch n).count ≡ steps 16 true ch.count n
unfolding source_after
count_after hold ch zero h small = sym (steps_none 16 true ch.count small)
count_after hold ch (suc n) h small =
    count_next hold (source_after hold ch n) (ap autoinitialize (source_mode hold ch n) ∙ h)
    ∙ ap (step 16 true) (count_after hold ch n h small)
    ∙ steps_next 16 true ch.count n
    ∙ ap (steps 16 true ch.count) (add-one n)

went : (was is n : ℕ) → was < 65536 → is ≡ steps 16 true was n → (was + 65536 - is) % 65536 ≡ n % 65536
unfolding steps stride when
went was is n small e = omega (arith, e)

-- how far a copy goes and why it stops there is channel 1's, limit's and EOP's
module _ (c : Controller) (m d r : List ℕ) (limit eop : ℕ) (k : Copies c m) (below : (channel c 1).address < 65536) (small : (channel c 1).count < 65536) where
  abbrev s : Span
  s = copy_span (channel c 1).count limit eop

  abbrev given : Span → Given → Type 0
  given x g = (g.ran.answer ≡ Ok x.why) × (g.ran.counts ≡ counts x.transfers 0 0 (x.transfers * copy_pace c.waits))

  none_spent : 0 ≡ 0 * copy_pace c.waits
  none_spent = omega arith

  stops_by : (n : ℕ) → s.transfers ≡ n → given s (stopped (run_of limit eop d (start_of c m r)))
  unfolding stopped
  stops_by zero e =
      let led = copy_run c m d r limit eop k.copy below small in (
        ap (λ (x : Stop). (Ok x.reason)) (led.stood e),
        ap (λ (x : Stop). x.world.counts) (led.stood e) ∙ ap (counts 0 0 0) none_spent ∙ ap (λ (n : ℕ). counts n 0 0 (n * copy_pace c.waits)) (sym e),
      )
  stops_by (suc n) e =
      let led = copy_run c m d r limit eop k.copy below small in
      let some = led.some (omega (arith, e)) in
      (ap (λ (x : Stop). (Ok x.reason)) some, ap (λ (x : Stop). x.world.counts) some)

  pub stops_so : given s (ran_of c m d r limit eop)
  stops_so = rw (run_accepted c m d r limit eop k.accepted) (stops_by s.transfers refl)

ends_alike : (c : Controller) (m d r : List ℕ) (limit eop : ℕ) → Copies c m → (channel c 1).address < 65536 → (channel c 1).count < 65536 → EndsAlike c m d r limit eop
ends_alike c m d r limit eop k below small other k' =
    let apart' : ◌≢◌ {A = ℕ} 1 0 = λ e. apart (sym e) in
    let there : channel (with_channel c 0 other) 1 ≡ channel c 1 = get_or-set_other c.channels 0 1 other blank apart' in
    let span : copy_span (channel (with_channel c 0 other) 1).count limit eop ≡ copy_span (channel c 1).count limit eop = ap (λ (x : Channel). copy_span x.count limit eop) there in
    let one = stops_so c m d r limit eop k below small in
    let two = stops_so (with_channel c 0 other) m d r limit eop k' (rw there below) (rw there small) in (
      two.0 ∙ ap (λ (x : Span). (Ok x.why)) span ∙ sym one.0,
      two.1 ∙ ap (λ (x : Span). counts x.transfers 0 0 (x.transfers * copy_pace c.waits)) span ∙ sym one.1,
    )

zero_left : (c : Controller) (m d r : List ℕ) (limit eop : ℕ) → Copies c m → ChannelZero c (stopped (run_of limit eop d (start_of c m r))).ran
unfolding stopped
zero_left c m d r limit eop k =
    let l = run_left_lem c limit eop d m r k.copy k.channels in
    let n = (run_of limit eop d (start_of c m r)).world.counts.transfers in
    record {
      registers = l.registers;
      tc = l.tc;
      mask = l.mask;
      told = λ h small. went (channel c 0).count _ n small (ap (λ (x : Channel). x.count) l.registers ∙ count_after (address_hold c.command) (channel c 0) n h small);
    }

pub copy_loop : CopyLoop
copy_loop =
    record {
      left = λ c m d r limit eop k. subst (λ (g : Given). ChannelZero c g.ran) (sym (run_accepted c m d r limit eop k.accepted)) (zero_left c m d r limit eop k);
      ends = ends_alike;
    }

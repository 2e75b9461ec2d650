-- Many transfers at once of a service that is not memory-to-memory: one transfer more is one step of the rules.
use Prim.Native.Nat.{ℕ, zero, suc, ◌+◌, ◌-◌, ◌*◌, ◌≤◌, ◌<◌, suc-le-suc, zero-le}
use mathlib.Core.Path.{◌≡◌, refl, sym, ap, ◌∙◌}
use mathlib.Core.Bool.{Bool, true, false}
use mathlib.Core.List.{List, [], ◌∷◌}
use native.Mathlib.Omega.{arith}
use native.Mathlib.Numerals.{add-one}
use native.Mathlib.Nat.{suc-mul, zero-add, mul-le-mul_left}
use lib.ListN.{length, get_or, set}
use lib.Seq.{get_or-set_same, set-set}
use borrow.Author.Tests.{ne_eqb}
use Rattle.words.specs.Choice.{when}
use Rattle.words.specs.Steps.{step, steps, stride}
use Rattle.am9517.specs.Fields.{blank, with_channel}
use Rattle.am9517.specs.Modes.{decrement, compressed}
use Rattle.am9517.specs.Serving.{active}
use Rattle.am9517.specs.declared.Channel.{Channel}
use Rattle.am9517.specs.declared.Controller.{Controller}
use Rattle.am9517_service.specs.World.{World, world, start_of, memory_to_memory, serving_channel}
use Rattle.am9517_service.specs.Stops.{dropped}
use Rattle.am9517_service.specs.States.{pace, needs_s1, latched, cost}
use Rattle.am9517_service.specs.Bounds.{most_waits, most_pace, most_states}
use Rattle.am9517_service.specs.Transfer.{with_current, stepped, writes, reads, moved}
use Rattle.am9517_service.specs.Run.{transferred}
use Rattle.words.specs.Spans.{spread}
use Rattle.am9517_service.specs.Counts.{counts, plus}
use Rattle.am9517_service.specs.ClosedLegs.{address_after, current_after, entered, states_of, moved_on, travelled, reached}
use Rattle.words.proofs.ChoiceLaws.{when_both, when_same, when_le, never}
use Rattle.words.proofs.StepLaws.{steps_none, steps_one, steps_next}
use Rattle.words.proofs.SpreadLaws.{spread_more, length_spread}
use Rattle.am9517_service.proofs.StatesLaws.{entered_more, entered_none, entered_most}
use Rattle.am9517_service.proofs.SpanLaws.{read_not_write}
use Rattle.am9517_service.proofs.RunLaws.{transferred_moved}

-- a channel with a count that is not 0 is one of the four
pub inside_of : (l : List Channel) (n : ℕ) → ((get_or l n blank).count ≡ 0 → ⊥) → n < length l
inside_of [] n h = absurd (h refl)
inside_of (x ∷ xs) zero h = suc-le-suc zero-le
inside_of (x ∷ xs) (suc n) h = suc-le-suc (inside_of xs n h)

pub count_left : (count j : ℕ) → j ≤ count → count < 65536 → steps 16 true count j ≡ count - j
unfolding steps stride when
count_left count j h l = omega arith

-- one transfer more of a channel
pub stepped_current_after : (ch : Channel) (j : ℕ) → stepped (current_after ch j) ≡ current_after ch (j + 1)
unfolding current_after address_after
stepped_current_after ch j =
    ap (λ (a : ℕ). with_current ch a (step 16 true (steps 16 true ch.count j))) (steps_next 16 (decrement ch.mode) ch.address j)
    ∙ ap (λ (n : ℕ). with_current ch (steps 16 (decrement ch.mode) ch.address (j + 1)) n) (steps_next 16 true ch.count j)

pub address_after_none : (ch : Channel) → ch.address < 65536 → address_after ch 0 ≡ ch.address
unfolding address_after
address_after_none ch h = steps_none 16 (decrement ch.mode) ch.address h

pub stepped_first : (ch : Channel) → stepped ch ≡ current_after ch 1
unfolding current_after address_after
stepped_first ch =
    ap (λ (a : ℕ). with_current ch a (step 16 true ch.count)) (sym (steps_one 16 (decrement ch.mode) ch.address))
    ∙ ap (λ (n : ℕ). with_current ch (steps 16 (decrement ch.mode) ch.address 1) n) (sym (steps_one 16 true ch.count))

pub current_after_mode : (ch : Channel) (j : ℕ) → (current_after ch j).mode ≡ ch.mode
unfolding current_after
current_after_mode ch j = refl

pub current_after_count : (ch : Channel) (j : ℕ) → (current_after ch j).count ≡ steps 16 true ch.count j
unfolding current_after
current_after_count ch j = refl

-- whether a line drops depends on pins, command, serving channel and its mode alone
dropped_by : (c x : Controller) → x.pins ≡ c.pins → x.command ≡ c.command → x.serving ≡ c.serving → (serving_channel x).mode ≡ (serving_channel c).mode → dropped x ≡ dropped c
unfolding dropped active
dropped_by c x p k n e = rw e (simp (p, k, n))

-- the transfer of a world whose serving channel is this
abbrev pub moved_with : World → List ℕ → Channel → World
moved_with w d ch =
    let c = w.controller in
    world (latched (with_channel c c.serving (stepped ch)) ch.address)
    (when (writes ch) (set w.memory ch.address (get_or d w.counts.used 0)) w.memory)
    (when (reads ch) (set w.room w.counts.written (get_or w.memory ch.address 0)) w.room)
    (plus w.counts (counts 1 (when (writes ch) 1 0) (when (reads ch) 1 0) (cost c ch.address)))

pub moved_by : (w : World) (d : List ℕ) (ch : Channel) → serving_channel w.controller ≡ ch → moved w d ≡ moved_with w d ch
unfolding moved
moved_by w d ch e = ap (moved_with w d) e

-- what a kind of transfer counts, one more
counts_on : (b : Bool) (j : ℕ) → when b j 0 + when b 1 0 ≡ when b (j + 1) 0
unfolding when
counts_on true j = refl
counts_on false j = refl

pub next_mul : (n p : ℕ) → (n + 1) * p ≡ n * p + p
next_mul n p = ap (λ (k : ℕ). k * p) (add-one n) ∙ suc-mul n p

module _ (c : Controller) (m d r : List ℕ) where
  abbrev ch : Channel
  ch = serving_channel c

  memory_on : (b : Bool) (j : ℕ) → when b (set (when b (spread (address_after ch) (λ (i : ℕ). i) d m j) m) (address_after ch j) (get_or d (when b j 0) 0)) (when b (spread (address_after ch) (λ (i : ℕ). i) d m j) m) ≡ when b (spread (address_after ch) (λ (i : ℕ). i) d m (j + 1)) m
  unfolding when
  memory_on true j = spread_more (address_after ch) (λ (i : ℕ). i) d m j (address_after ch j) j refl refl _ refl
  memory_on false j = refl

  room_on : (b w : Bool) (j : ℕ) → (b ≡ true → w ≡ false) → when b (set (when b (spread (λ (i : ℕ). i) (address_after ch) m r j) r) (when b j 0) (get_or (when w (spread (address_after ch) (λ (i : ℕ). i) d m j) m) (address_after ch j) 0)) (when b (spread (λ (i : ℕ). i) (address_after ch) m r j) r) ≡ when b (spread (λ (i : ℕ). i) (address_after ch) m r (j + 1)) r
  unfolding when
  room_on true true j h = never (h refl)
  room_on true false j h = spread_more (λ (i : ℕ). i) (address_after ch) m r j j (address_after ch j) refl refl _ refl
  room_on false w j h = refl

  pub server_there : (n : ℕ) → (ch.count ≡ 0 → ⊥) → serving_channel (moved_on c n) ≡ current_after ch n
  server_there n nz = get_or-set_same c.channels c.serving (current_after ch n) blank (inside_of c.channels c.serving nz)

  abbrev down : Bool
  down = decrement ch.mode

  -- the states of one transfer more
  abbrev states : ℕ → ℕ
  states n = states_of ch (pace c.command c.waits) (needs_s1 c ch.address) n

  states_on : (j : ℕ) → states (j + 1) + cost (moved_on c (j + 1)) (address_after ch (j + 1)) ≡ states (j + 1 + 1)
  unfolding states_of cost needs_s1 address_after
  states_on j =
      let a = ch.address in
      let p = pace c.command c.waits in
      let back : j + 1 - 1 ≡ j = omega arith in
      let back' : j + 1 + 1 - 1 ≡ j + 1 = omega arith in
      let more = entered_more down a j in
      let times = next_mul (j + 1) p in
      rw (back, back') (omega (arith, more, times))

  one_more : (j : ℕ) → (ch.count ≡ 0 → ⊥) → moved (travelled c m d r (j + 1)) d ≡ travelled c m d r (j + 1 + 1)
  unfolding travelled current_after
  one_more j nz =
      let back : j + 1 + 1 - 1 ≡ j + 1 = omega arith in
      let chs : set (set c.channels c.serving (current_after ch (j + 1))) c.serving (stepped (current_after ch (j + 1))) ≡ set c.channels c.serving (current_after ch (j + 1 + 1)) =
      set-set c.channels c.serving (current_after ch (j + 1)) (stepped (current_after ch (j + 1))) ∙ ap (λ (x : Channel). set c.channels c.serving x) (stepped_current_after ch (j + 1)) in
      moved_by (travelled c m d r (j + 1)) d (current_after ch (j + 1)) (server_there (j + 1) nz)
      ∙ simp (chs, back, memory_on (writes ch) (j + 1), room_on (reads ch) (writes ch) (j + 1) (read_not_write ch.mode), counts_on (writes ch) (j + 1), counts_on (reads ch) (j + 1), states_on j)

  -- the first transfer
  states_first : cost c ch.address ≡ states 1
  unfolding states_of cost
  states_first =
      let none : entered down ch.address (1 - 1) ≡ 0 = entered_none down ch.address in
      omega (arith, none)

  first_move : ch.address < 65536 → moved (start_of c m r) d ≡ travelled c m d r 1
  unfolding travelled moved spread
  first_move below =
      let chs : set c.channels c.serving (stepped ch) ≡ set c.channels c.serving (current_after ch 1) = ap (λ (x : Channel). set c.channels c.serving x) (stepped_first ch) in
      simp (chs, address_after_none ch below, zero-add, states_first)

  -- what stays and what goes on in the world after n transfers
  pub record Standing (w : World) (n : ℕ) : Type 0 where
    pub memory_to_memory : memory_to_memory w.controller ≡ memory_to_memory c
    pub dropped : dropped w.controller ≡ dropped c
    pub serving : w.controller.serving ≡ c.serving
    pub mode : (serving_channel w.controller).mode ≡ ch.mode
    pub count : (serving_channel w.controller).count ≡ ch.count - n
    pub transfers : w.counts.transfers ≡ n
    pub used : w.counts.used ≡ when (writes ch) n 0
    pub written : w.counts.written ≡ when (reads ch) n 0
    pub room : length w.room ≡ length r

  standing_start : Standing (start_of c m r) 0
  unfolding when
  standing_start =
      record {
        memory_to_memory = refl;
        dropped = refl;
        serving = refl;
        mode = refl;
        count = omega arith;
        transfers = refl;
        used = sym (when_same (writes ch) 0);
        written = sym (when_same (reads ch) 0);
        room = refl;
      }

  standing_on : (j : ℕ) → j + 1 ≤ ch.count → ch.count < 65536 → Standing (travelled c m d r (j + 1)) (j + 1)
  unfolding travelled memory_to_memory
  standing_on j h l =
      let there : serving_channel (moved_on c (j + 1)) ≡ current_after ch (j + 1) = server_there (j + 1) (λ e. omega arith) in
      record {
        memory_to_memory = refl;
        dropped = dropped_by c (moved_on c (j + 1)) refl refl refl (ap (λ (x : Channel). x.mode) there ∙ current_after_mode ch (j + 1));
        serving = refl;
        mode = ap (λ (x : Channel). x.mode) there ∙ current_after_mode ch (j + 1);
        count = ap (λ (x : Channel). x.count) there ∙ current_after_count ch (j + 1) ∙ count_left ch.count (j + 1) h l;
        transfers = refl;
        used = refl;
        written = refl;
        room = when_both (λ (x : List ℕ). length x ≡ length r) (reads ch) (length_spread (λ (i : ℕ). i) (address_after ch) m r (j + 1)) refl;
      }

  pub reached_none : reached c m d r 0 ≡ start_of c m r
  unfolding reached when
  reached_none = refl

  pub reached_some : (n : ℕ) → 0 < n → reached c m d r n ≡ travelled c m d r n
  unfolding reached when
  reached_some n h = let nz : n ≡ 0 → ⊥ = λ e. omega arith in simp (ne_eqb n 0 nz)

  pub standing : (n : ℕ) → n ≤ ch.count → ch.count < 65536 → Standing (reached c m d r n) n
  standing zero h l = rw reached_none standing_start
  standing (suc j) h l =
      let e = add-one j in
      rw (reached_some (suc j) (omega arith), ← e) (standing_on j (omega arith) l)

  -- One transfer more, as long as the count lasts.
  pub reached_more : (n : ℕ) → n ≤ ch.count → ch.count < 65536 → ch.address < 65536 → memory_to_memory c ≡ false → transferred (reached c m d r n) d ≡ reached c m d r (n + 1)
  reached_more n h l b nc =
      transferred_moved 0 d (reached c m d r n) ((standing n h l).memory_to_memory ∙ nc) ∙ go n h
    where
      go : (n : ℕ) → n ≤ ch.count → moved (reached c m d r n) d ≡ reached c m d r (n + 1)
      go zero h = rw (reached_none, reached_some 1 (omega arith)) (first_move b)
      go (suc j) h =
          let e = add-one j in
          rw (reached_some (suc j) (omega arith), reached_some (suc j + 1) (omega arith), ← e) (one_more j (λ z. omega arith))

-- the byte of one transfer alone
module _ (down : Bool) (a : ℕ) (src dst : List ℕ) (n : ℕ) (one : n ≡ 1) (below : a < 65536) where
  pub one_stored : set dst a (get_or src 0 0) ≡ spread (steps 16 down a) (λ (j : ℕ). j) src dst n
  unfolding spread
  one_stored = rw one (ap (λ (x : ℕ). set dst x (get_or src 0 0)) (sym (steps_none 16 down a below)))

  pub one_loaded : set dst 0 (get_or src a 0) ≡ spread (λ (j : ℕ). j) (steps 16 down a) src dst n
  unfolding spread
  one_loaded = rw one (ap (λ (x : ℕ). set dst 0 (get_or src x 0)) (sym (steps_none 16 down a below)))

-- no leg has more states than memory-to-memory's
pub states_most : (ch : Channel) (p : ℕ) (first : Bool) (n : ℕ) → n ≤ 65536 → p ≤ most_pace → states_of ch p first n ≤ most_states
unfolding states_of
states_most ch p first n h q =
    let each : n * p ≤ n * most_pace = mul-le-mul_left n q in
    omega (arith, each, when_le first 1, entered_most (decrement ch.mode) ch.address (n - 1) (omega arith))

pub pace_most : (command waits : ℕ) → waits ≤ most_waits → pace command waits ≤ most_pace
unfolding pace
pace_most command waits h = when_both (λ (x : ℕ). x + waits ≤ most_pace) (compressed command) (omega arith) (omega arith)

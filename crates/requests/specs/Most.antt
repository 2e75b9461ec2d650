-- Document 02, A3: "The counts of a run and a round change with it, and a long round now passes 32 bits." The most that they count, by the names of
-- am9517_service's Bounds: nothing counts more, it fits, and it is reached.
use Rattle.std.specs.Prelude.{ℕ, ◌^◌, ◌≤◌, ◌<◌, ◌≡◌, List, [], ◌∷◌, length, get_or}
use Rattle.am9517.specs.Fields.{Field, make, but, blank, Command, Mask, Pins, Lowest, Waits}
use Rattle.am9517.specs.declared.Controller.{Controller}
use Rattle.am9517_service.specs.declared.Counts.{Counts}
use Rattle.am9517_service.specs.Counts.{counts}
use Rattle.am9517_service.specs.Bounds.{most_waits, most_transfers, most_states, most_services, most_round_transfers, most_round_states}
use Rattle.am9517_service.specs.Answers.{ran_of}
use Rattle.am9517_service.specs.RoundAnswers.{rounded_of}
use Rattle.demands.specs.Operations.{Grant, next}
use Rattle.demands.specs.Rounds.{Words}

-- these counts are at most so many transfers and states, and no more device bytes than were lent
pub record AtMost (n : Counts) (most most_of_states : ℕ) (d r : List ℕ) : Type 0 where
  pub transfers : n.transfers ≤ most
  pub used : n.used ≤ length d
  pub written : n.written ≤ length r
  pub states : n.states ≤ most_of_states

-- the state that reaches it: memory-to-memory, channel 0's line held unmasked, channel 1 autoinitializing with count FFFFh, all wait states
abbrev pub longest : Controller
longest =
    make
    (blank ∷ record { base_address = 0; address = 0; base_count = 0xFFFF; count = 0xFFFF; mode = 0x90 } ∷ blank ∷ blank ∷ [])
    (but (but (but (but (but (λ (f : Field). 0) Command 1) Mask 14) Pins 1) Lowest 3) Waits most_waits)

-- Counts of 16 bits (`Words`) and wait states of a byte are the types of the fields, which every controller has.
pub record MostCounted : Type 0 where
  -- No run counts more,
  pub run : (s : Controller) (m d r : List ℕ) (limit eop : ℕ) → Words s → s.waits ≤ most_waits
      → AtMost (ran_of s m d r limit eop).ran.counts most_transfers most_states d r
  -- and no round, nor does it begin more services of a channel;
  pub round : (s : Controller) (m d r : List ℕ) (k : ℕ) → s.waits ≤ most_waits
      → AtMost (rounded_of s m d r k).rounded.totals most_round_transfers most_round_states d r
  pub services : (s : Controller) (m d r : List ℕ) (k i : ℕ) → s.waits ≤ most_waits → get_or (rounded_of s m d r k).rounded.services i 0 ≤ most_services
  -- in numbers, of which the last "passes 32 bits".
  pub numbers : (most_states ≡ 33947648) × (most_round_transfers ≡ 268435456) × (most_round_states ≡ 139049566208) × (2 ^ 32 < most_round_states)
  -- Every count fits its type: transfers and states the 64 bits of u64, services the 32 bits of u32.
  pub fits : (most_round_transfers < 2 ^ 64) × (most_round_states < 2 ^ 64) × (most_services < 2 ^ 32)
  -- Both are reached.
  pub run_reached : (m d r : List ℕ) (limit : ℕ) → length m ≡ 65536 → most_transfers ≤ limit
      → (ran_of (next longest Grant) m d r limit 0).ran.counts ≡ counts most_transfers 0 0 most_states
  pub round_reached : (m d r : List ℕ) → length m ≡ 65536
      → (rounded_of longest m d r most_services).rounded.totals ≡ counts most_round_transfers 0 0 most_round_states

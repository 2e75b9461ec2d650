-- Document 02, A1, of every run of memory-to-memory: channel 0 steps with each transfer, by nothing else, and ends nothing; so a copy loop
-- reads from it how many bytes went.
use Rattle.std.specs.Prelude.{ℕ, ◌+◌, ◌-◌, ◌%◌, ◌<◌, ◌≡◌, true, false, List, length}
use Rattle.words.specs.Bits.{bit}
use Rattle.am9517.specs.Fields.{channel, with_channel}
use Rattle.am9517.specs.Modes.{address_hold, autoinitialize}
use Rattle.am9517.specs.Refusals.{refusal}
use Rattle.am9517.specs.declared.Channel.{Channel}
use Rattle.am9517.specs.declared.Controller.{Controller}
use Rattle.am9517_service.specs.declared.Ran.{Ran}
use Rattle.am9517_service.specs.World.{memory_to_memory}
use Rattle.am9517_service.specs.Answers.{run_grounds, ran_of}
use Rattle.am9517_service.specs.Copy.{source_after}

-- a run of memory-to-memory that isn't refused
pub record Copies (c : Controller) (m : List ℕ) : Type 0 where
  pub accepted : refusal (run_grounds c m) ≡ 0
  pub copy : memory_to_memory c ≡ true
  pub channels : length c.channels ≡ 4

-- what such a run leaves of channel 0
pub record ChannelZero (c : Controller) (r : Ran) : Type 0 where
  -- "Channel 0's count steps down with every transfer": its registers are what so many transfers leave of them, however the service ended
  pub registers : channel r.controller 0 ≡ source_after (address_hold c.command) (channel c 0) r.counts.transfers
  -- "neither .. nor sets TC bit 0"; document 01: "Channel 0's .. mask bit" isn't touched
  pub tc : bit r.controller.tc 0 ≡ bit c.tc 0
  pub mask : bit r.controller.mask 0 ≡ bit c.mask 0
  -- "A pier's copy loop read channel 0's count": where it doesn't autoinitialize, what it was less what it is, modulo 65,536, is how many bytes went
  pub told : autoinitialize (channel c 0).mode ≡ false → (channel c 0).count < 65536
      → ((channel c 0).count + 65536 - (channel r.controller 0).count) % 65536 ≡ r.counts.transfers % 65536

-- "it neither ends the service": with any other channel 0 the run stops for the same reason after as many transfers and states
abbrev pub EndsAlike : Controller → List ℕ → List ℕ → List ℕ → ℕ → ℕ → Type 0
EndsAlike c m d r limit eop =
    (other : Channel) → Copies (with_channel c 0 other) m
    → ((ran_of (with_channel c 0 other) m d r limit eop).ran.answer ≡ (ran_of c m d r limit eop).ran.answer)
    × ((ran_of (with_channel c 0 other) m d r limit eop).ran.counts ≡ (ran_of c m d r limit eop).ran.counts)

pub record CopyLoop : Type 0 where
  pub left : (c : Controller) (m d r : List ℕ) (limit eop : ℕ) → Copies c m → ChannelZero c (ran_of c m d r limit eop).ran
  pub ends : (c : Controller) (m d r : List ℕ) (limit eop : ℕ) → Copies c m → (channel c 1).address < 65536 → (channel c 1).count < 65536 → EndsAlike c m d r limit eop

-- "The transfer": bytes, address, count, and what is counted.
use Rattle.std.specs.Prelude.{ℕ, Bool, true, List, get_or, set}
use Rattle.words.specs.Choice.{when}
use Rattle.words.specs.Steps.{step}
use Rattle.am9517.specs.Fields.{with_channel}
use Rattle.am9517.specs.Modes.{is_write, is_read, decrement}
use Rattle.am9517.specs.declared.Channel.{Channel}
use Rattle.am9517_service.specs.Counts.{counts, plus}
use Rattle.am9517_service.specs.World.{World, world, serving_channel}
use Rattle.am9517_service.specs.States.{cost, latched}

-- the channel at another address and count
abbrev pub with_current : Channel → ℕ → ℕ → Channel
with_current ch a n =
    record { base_address = ch.base_address; address = a; base_count = ch.base_count; count = n; mode = ch.mode }

-- "The address steps by one up or down and wraps modulo 65,536. The count steps down; from 0 it becomes FFFFh, which is TC."
abbrev pub stepped : Channel → Channel
stepped ch = with_current ch (step 16 (decrement ch.mode) ch.address) (step 16 true ch.count)

-- a write, a read
abbrev pub writes : Channel → Bool
writes ch = is_write ch.mode

abbrev pub reads : Channel → Bool
reads ch = is_read ch.mode

-- "verify moves nothing; write stores the next device byte at the current address;
-- read puts that memory byte in the next place of the room"; "Room behind the last byte written isn't touched."
unfoldable pub moved : World → List ℕ → World
moved w d =
    let c = w.controller in
    let ch = serving_channel c in
    world (latched (with_channel c c.serving (stepped ch)) ch.address)
    (when (writes ch) (set w.memory ch.address (get_or d w.counts.used 0)) w.memory)
    (when (reads ch) (set w.room w.counts.written (get_or w.memory ch.address 0)) w.room)
    (plus w.counts (counts 1 (when (writes ch) 1 0) (when (reads ch) 1 0) (cost c ch.address)))

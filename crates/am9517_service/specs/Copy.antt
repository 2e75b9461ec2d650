-- "Memory-to-memory." One transfer of it. When a service is one, World `memory_to_memory` says; what stops it, Stops; its end, Ends `after_tc_or_eop`.
use Rattle.std.specs.Prelude.{ℕ, zero, suc, Bool, true, eqb, get_or, set}
use Rattle.words.specs.Choice.{when}
use Rattle.words.specs.Steps.{step}
use Rattle.am9517.specs.Fields.{channel, with_channel, put, Temporary}
use Rattle.am9517.specs.Modes.{address_hold, decrement}
use Rattle.am9517.specs.declared.Channel.{Channel}
use Rattle.am9517_service.specs.Counts.{counts, plus}
use Rattle.am9517_service.specs.World.{World, world}
use Rattle.am9517_service.specs.Transfer.{with_current, stepped}
use Rattle.am9517_service.specs.States.{copy_pace}
use Rattle.am9517_service.specs.Ends.{channel_after}

-- channel 0's address "stays under command bit 1", until it is restored; document 02, A1: "Channel 0's count steps down with every transfer,
-- also under address hold." This overrules document 01's "Channel 0's count and mask bit aren't touched" as to the count
abbrev pub source_stepped : Bool → Channel → Channel
source_stepped hold ch = with_current ch (when hold ch.address (step 16 (decrement ch.mode) ch.address)) (step 16 true ch.count)

-- channel 0 after a transfer: "When it goes from 0 to FFFFh it neither ends the service nor sets TC bit 0, but restores channel 0's current
-- registers if that channel has autoinitialize. On the same transfer the address steps first and the restore wins." Under address hold, too:
-- what is held from then on is the base address
abbrev pub source_next : Bool → Channel → Channel
source_next hold ch = when (eqb ch.count 0) (channel_after (source_stepped hold ch)) (source_stepped hold ch)

-- and after n of them
unfoldable pub source_after : Bool → Channel → ℕ → Channel
source_after hold ch zero = ch
source_after hold ch (suc n) = source_next hold (source_after hold ch n)

-- "One transfer: byte at channel 0's address to the temporary byte, then to channel 1's address; both step as their mode bit 5 says, but channel 0
-- stays under command bit 1. Channel 1's count steps .."
unfoldable pub copied : World → World
copied w =
    let c = w.controller in
    let byte = get_or w.memory (channel c 0).address 0 in
    let sent = with_channel (put c Temporary byte) 0 (source_next (address_hold c.command) (channel c 0)) in
    world (with_channel sent 1 (stepped (channel c 1)))
    (set w.memory (channel c 1).address byte)
    w.room
    (plus w.counts (counts 1 0 0 (copy_pace c.waits)))

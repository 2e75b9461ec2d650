-- A leg of memory-to-memory, in closed form. What a run is, Run.antt says.
use Rattle.std.specs.Prelude.{ℕ, ◌+◌, ◌-◌, ◌*◌, Bool, true, false, ◌||◌, List, eqb, ltb, get_or, min}
use Rattle.words.specs.Choice.{when}
use Rattle.words.specs.Bits.{with_bit}
use Rattle.words.specs.Steps.{steps}
use Rattle.words.specs.Spans.{reach_of, carried}
use Rattle.am9517.specs.Fields.{channel, with_channel, put, InService, LatchFull, Latch, Temporary}
use Rattle.am9517.specs.Modes.{address_hold, autoinitialize, decrement}
use Rattle.am9517.specs.declared.Channel.{Channel}
use Rattle.am9517.specs.declared.Controller.{Controller}
use Rattle.am9517_service.specs.declared.legs.Bits.{Bits}
use Rattle.am9517_service.specs.declared.copies.Route.{Route}
use Rattle.am9517_service.specs.declared.copies.Copied.{Copied}
use Rattle.am9517_service.specs.Counts.{counts}
use Rattle.am9517_service.specs.World.{World, world, start_of}
use Rattle.am9517_service.specs.Transfer.{with_current}
use Rattle.am9517_service.specs.Ends.{with_bits}
use Rattle.am9517_service.specs.States.{copy_pace}
use Rattle.am9517_service.specs.Copy.{source_after}
use Rattle.am9517_service.specs.ClosedLegs.{address_after, current_after, leg_of}

-- channel 0 after n transfers of which none restores it, and as it is restored; after any n: Copy `source_after`
abbrev pub source_on : Bool → Channel → ℕ → Channel
source_on hold ch n = with_current ch (when hold ch.address (address_after ch n)) (steps 16 true ch.count n)

abbrev pub restored : Channel → Channel
restored ch = with_current ch ch.base_address ch.base_count

-- one of n transfers before the last restores it
unfoldable pub restores : Channel → ℕ → Bool
restores ch n = when (autoinitialize ch.mode) (ltb (ch.count + 1) n) false

-- the bytes of n transfers along a route, and along one on which channel 0 isn't restored
unfoldable pub carried_by : Route → List ℕ → ℕ → List ℕ
carried_by ρ m n = carried (steps 16 ρ.to_down ρ.to) (λ (j : ℕ). (source_after ρ.hold ρ.source j).address) m n

unfoldable pub carried_along : Route → List ℕ → ℕ → List ℕ
carried_along ρ m n = carried (steps 16 ρ.to_down ρ.to) (λ (j : ℕ). (source_on ρ.hold ρ.source j).address) m n

-- of n bytes along a route, how many are moved before an address turns over: the target's, and the source's unless it is held
unfoldable pub straight_of : Route → ℕ → ℕ
straight_of ρ n =
    let target = min n (reach_of 65536 ρ.to_down ρ.to) in
    when ρ.hold target (min target (reach_of 65536 (decrement ρ.source.mode) ρ.source.address))

-- the route n bytes on, where channel 0 isn't restored
abbrev pub farther : Route → ℕ → Route
farther ρ n =
    record { hold = ρ.hold; source = source_on ρ.hold ρ.source n; to = steps 16 ρ.to_down ρ.to n; to_down = ρ.to_down }

-- the route at its place, from another source
abbrev pub begun : Route → Channel → Route
begun ρ source = record { hold = ρ.hold; source = source; to = ρ.to; to_down = ρ.to_down }

-- the route n bytes on, where channel 0 was just restored; an area of one byte is a held one
abbrev pub beginning_again : Route → ℕ → Route
beginning_again ρ n =
    record { hold = ρ.hold || eqb ρ.source.base_count 0; source = restored ρ.source; to = steps 16 ρ.to_down ρ.to n; to_down = ρ.to_down }

-- the route from one channel to another
abbrev pub route_of : Bool → Channel → Channel → Route
route_of hold source target = record { hold = hold; source = source; to = target.address; to_down = decrement target.mode }

-- what n transfers, at least one, leave of channels 0 and 1 and of the bits, where transfer eop meets EOP; its states are counted apart
unfoldable pub copy_leg_of : ℕ → Channel → Channel → Bits → Bool → ℕ → ℕ → Copied
copy_leg_of edition source target b hold n eop =
    let over = eqb n (target.count + 1) || eqb n eop in
    let l = leg_of edition 1 target (record { tc = b.tc; request = when over (with_bit b.request 0 false) b.request; mask = b.mask }) false 0 n eop in
    record { source = source_after hold source n; target = l.channel; bits = l.bits }

-- the byte that n transfers moved last
abbrev pub last_byte : Route → List ℕ → ℕ → ℕ
last_byte ρ m n = get_or (carried_by ρ m (n - 1)) (source_after ρ.hold ρ.source (n - 1)).address 0

-- the controller after a leg whose last byte was this: the service stays open, or it ended
abbrev pub after_copy : Controller → Copied → ℕ → Bool → Controller
after_copy c l byte stays =
    let x = with_bits (with_channel (with_channel (put c Temporary byte) 0 l.source) 1 l.target) l.bits in
    put (put (put x InService (when stays c.in_service 0)) LatchFull (when stays c.latch_full 0)) Latch (when stays c.latch 0)

-- the controller and the world after n transfers, at least one, that did not end the service, the last of this byte
abbrev pub copied_on : Controller → ℕ → ℕ → Controller
copied_on c byte n =
    with_channel (with_channel (put c Temporary byte) 0 (source_after (address_hold c.command) (channel c 0) n)) 1 (current_after (channel c 1) n)

abbrev pub route_in : Controller → Route
route_in c = route_of (address_hold c.command) (channel c 0) (channel c 1)

unfoldable pub copied_all : Controller → List ℕ → List ℕ → ℕ → World
copied_all c m r n = world (copied_on c (last_byte (route_in c) m n) n) (carried_by (route_in c) m n) r (counts n 0 0 (n * copy_pace c.waits))

unfoldable pub reached_copying : Controller → List ℕ → List ℕ → ℕ → World
reached_copying c m r n = when (eqb n 0) (start_of c m r) (copied_all c m r n)

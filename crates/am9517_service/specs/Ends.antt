-- TC, external EOP and the ends of a service.
use Rattle.std.specs.Prelude.{ℕ, Bool, true, false, not, ◌&&◌, ◌||◌, List, [], ◌∷◌, eqb}
use Rattle.words.specs.Choice.{when}
use Rattle.words.specs.Grounds.{Ground, ◌if◌}
use Rattle.words.specs.Bits.{with_bit}
use Rattle.am9517.specs.Editions.{is_intel}
use Rattle.am9517.specs.State.{ended}
use Rattle.am9517.specs.Fields.{channel, with_channel, put, Tc, Request, Mask}
use Rattle.am9517.specs.Modes.{autoinitialize, is_single}
use Rattle.am9517.specs.declared.Channel.{Channel}
use Rattle.am9517.specs.declared.Controller.{Controller}
use Rattle.am9517_service.specs.declared.Reason.TheVariants.{Ended}
use Rattle.am9517_service.specs.declared.legs.Bits.{Bits}
use Rattle.am9517_service.specs.World.{World, with_controller, memory_to_memory, serving_channel, Stop, stop}
use Rattle.am9517_service.specs.Transfer.{with_current}

-- the channel whose count passing 0 is TC: in memory-to-memory channel 1 ("Channel 1's count steps; its TC sets TC bit 1"), else the serving one
unfoldable pub counting : Controller → ℕ
counting c = when (memory_to_memory c) 1 c.serving

-- "from 0 it becomes FFFFh, which is TC. So count N gives N+1 transfers (001)": TC is met by the transfer before which the count is 0
abbrev pub reaches_tc : Controller → Bool
reaches_tc c = eqb (channel c (counting c)).count 0

-- the TC, request and mask bits of a controller
abbrev pub bits_of : Controller → Bits
bits_of c = record { tc = c.tc; request = c.request; mask = c.mask }

abbrev pub with_bits : Controller → Bits → Controller
with_bits c b = put (put (put c Tc b.tc) Request b.request) Mask b.mask

-- "TC sets the TC bit. External EOP alone does not (000)." Document 02, A2, of the Intel edition: "There, .. external EOP sets the TC bit of
-- the channel whose count is being run (channel 1 in memory-to-memory)": it is that one that finishes (`after_tc_or_eop`), autoinitialize or not
abbrev pub sets_tc_bit : ℕ → Bool → Bool → Bool
sets_tc_bit edition tc eop = tc || is_intel edition && eop

-- what TC or EOP leaves of the bits of channel n, which is in this mode, in this edition: ".. the request bit is cleared, and the channel either
-- restores current from base (autoinitialize) or sets its mask bit"
abbrev pub bits_after : ℕ → ℕ → ℕ → Bits → Bool → Bool → Bits
bits_after edition n mode b tc eop =
    record {
      tc = when (sets_tc_bit edition tc eop) (with_bit b.tc n true) b.tc;
      request = with_bit b.request n false;
      mask = when (autoinitialize mode) b.mask (with_bit b.mask n true);
    }

-- and of its record: "restores current from base (autoinitialize)". In memory-to-memory channel 0's count passing 0 does so, too (Copy)
abbrev pub channel_after : Channel → Channel
channel_after ch =
    let again = autoinitialize ch.mode in
    with_current ch (when again ch.base_address ch.address) (when again ch.base_count ch.count)

-- "On either or both, the service ends": of channel n
unfoldable pub finished : Controller → ℕ → Bool → Bool → Controller
finished c n tc eop =
    let ch = channel c n in
    ended (with_bits (with_channel c n (channel_after ch)) (bits_after c.edition n ch.mode (bits_of c) tc eop))

-- in memory-to-memory "At TC or EOP the service ends, request bits 0 and 1 are cleared, and channel 1 restores or is masked by its
-- own mode bit 4. Channel 0's count and mask bit aren't touched": it is channel 1 that finishes, and only its mask bit is set. As to the
-- count document 02's A1 overrules it (Copy `source_stepped`): the end of the service touches neither
unfoldable pub after_tc_or_eop : Controller → Bool → Bool → Controller
after_tc_or_eop c tc eop =
    when (memory_to_memory c) (finished (put c Request (with_bit c.request 0 false)) 1 tc eop) (finished c c.serving tc eop)

-- "Outside memory-to-memory, a single service ends after each transfer in any case."
unfoldable pub single : Controller → Bool
single c = not (memory_to_memory c) && is_single (serving_channel c).mode

-- the ends that a transfer may meet: from the controller c before it to the world w behind it. "These ends are "ended"."
-- In memory-to-memory "only TC or EOP ends it": `single` never holds there.
abbrev pub ends : Controller → World → ℕ → List (Ground Stop)
ends c w eop =
    let tc = reaches_tc c in
    let met = eqb w.counts.transfers eop in
    stop (with_controller w (after_tc_or_eop w.controller tc met)) Ended if (tc || met)
    ∷ stop (with_controller w (ended w.controller)) Ended if single c
    ∷ []

-- A leg of a service, in closed form: what so many transfers leave. What a run is, Run.antt says.
use Rattle.am9517_service.specs.States.{pace, needs_s1, latched}
use Rattle.std.specs.Prelude.{ℕ, ◌+◌, ◌-◌, ◌*◌, ◌/◌, ◌%◌, Bool, true, ◌||◌, List, eqb}
use Rattle.words.specs.Choice.{when}
use Rattle.words.specs.Bytes.{high_byte}
use Rattle.words.specs.Steps.{steps}
use Rattle.words.specs.Spans.{spread}
use Rattle.am9517.specs.Fields.{with_channel, put, InService, Serving, LatchFull, Latch}
use Rattle.am9517.specs.Modes.{decrement}
use Rattle.am9517.specs.declared.Channel.{Channel}
use Rattle.am9517.specs.declared.Controller.{Controller}
use Rattle.am9517_service.specs.declared.Counts.{Counts}
use Rattle.am9517_service.specs.declared.legs.Bits.{Bits}
use Rattle.am9517_service.specs.declared.legs.Leg.{Leg}
use Rattle.am9517_service.specs.Counts.{counts}
use Rattle.am9517_service.specs.World.{World, world, start_of, serving_channel}
use Rattle.am9517_service.specs.Transfer.{with_current, writes, reads}
use Rattle.am9517_service.specs.Ends.{with_bits, bits_after, channel_after}

-- the address after j transfers
unfoldable pub address_after : Channel → ℕ → ℕ
address_after ch j = steps 16 (decrement ch.mode) ch.address j

-- the channel after j transfers
unfoldable pub current_after : Channel → ℕ → Channel
current_after ch j = with_current ch (address_after ch j) (steps 16 true ch.count j)

-- the pages of 256 bytes entered by j steps from a
unfoldable pub entered : Bool → ℕ → ℕ → ℕ
entered down a j = (when down (255 - a % 256) (a % 256) + j) / 256

-- the states of n transfers at this pace: S1 for the first where it is needed, and for each page entered
unfoldable pub states_of : Channel → ℕ → Bool → ℕ → ℕ
states_of ch p first n = n * p + (when first 1 0 + entered (decrement ch.mode) ch.address (n - 1))

-- what n transfers of a channel count
abbrev pub counts_of : Channel → ℕ → ℕ → Counts
counts_of ch n states = counts n (when (writes ch) n 0) (when (reads ch) n 0) states

-- the bytes that n transfers store in the memory, and put in the room
abbrev pub stored : Channel → List ℕ → List ℕ → ℕ → List ℕ
stored ch d m n = when (writes ch) (spread (address_after ch) (λ (i : ℕ). i) d m n) m

abbrev pub loaded : Channel → List ℕ → List ℕ → ℕ → List ℕ
loaded ch m r n = when (reads ch) (spread (λ (i : ℕ). i) (address_after ch) m r n) r

-- what n transfers, at least one, leave of channel i and of the bits, where transfer eop meets EOP
unfoldable pub leg_of : ℕ → ℕ → Channel → Bits → Bool → ℕ → ℕ → ℕ → Leg
leg_of edition i ch b first p n eop =
    let tc = eqb n (ch.count + 1) in
    let met = eqb n eop in
    record {
      channel = when (tc || met) (channel_after (current_after ch n)) (current_after ch n);
      bits = when (tc || met) (bits_after edition i ch.mode b tc met) b;
      latch = high_byte (address_after ch (n - 1));
      states = states_of ch p first n;
    }

-- the controller after a leg of channel i: the service stays open and has its address latched, or it ended
abbrev pub after_leg : Controller → ℕ → Leg → Bool → Controller
after_leg c i l stays =
    let x = with_bits (with_channel c i l.channel) l.bits in
    put (put (put (put x InService (when stays c.in_service 0)) Serving (when stays c.serving 0)) LatchFull (when stays 1 0)) Latch (when stays l.latch 0)

-- the controller and the world after n transfers, at least one, that did not end the service
abbrev pub moved_on : Controller → ℕ → Controller
moved_on c n = latched (with_channel c c.serving (current_after (serving_channel c) n)) (address_after (serving_channel c) (n - 1))

unfoldable pub travelled : Controller → List ℕ → List ℕ → List ℕ → ℕ → World
travelled c m d r n =
    let ch = serving_channel c in
    world (moved_on c n) (stored ch d m n) (loaded ch m r n) (counts_of ch n (states_of ch (pace c.command c.waits) (needs_s1 c ch.address) n))

unfoldable pub reached : Controller → List ℕ → List ℕ → List ℕ → ℕ → World
reached c m d r n = when (eqb n 0) (start_of c m r) (travelled c m d r n)

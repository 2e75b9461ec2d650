-- What the loop of a round keeps, in closed form. What a round is, Round.antt says.
use Rattle.std.specs.Prelude.{ℕ, ◌+◌, ◌*◌, Bool, true, not, ◌&&◌, Ok, List, [], ◌∷◌, eqb}
use Rattle.words.specs.Choice.{when}
use Rattle.am9517.specs.Fields.{with_channel, put, InService, Serving, LatchFull, Latch, Lowest}
use Rattle.am9517.specs.Modes.{memory_to_memory_bit, address_hold, rotating, is_write, is_read}
use Rattle.am9517.specs.Serving.{picked_from}
use Rattle.am9517.specs.ClosedSets.{lines_of, blocks_of, entitled_of}
use Rattle.am9517.specs.declared.Channel.{Channel}
use Rattle.am9517.specs.declared.Controller.{Controller}
use Rattle.am9517_service.specs.declared.Counts.{Counts}
use Rattle.am9517_service.specs.declared.Reason.{Reason}
use Rattle.am9517_service.specs.declared.Reason.TheVariants.{Ended, Dropped, Cascade, Limit, Short}
use Rattle.am9517_service.specs.declared.RoundEnd.TheVariants.{Done, Quiet, Stopped}
use Rattle.am9517_service.specs.Round.{RoundAnswer}
use Rattle.am9517_service.specs.declared.legs.Bits.{Bits}
use Rattle.am9517_service.specs.declared.rounds.Facts.{Facts}
use Rattle.am9517_service.specs.declared.rounds.Turn.{Turn}
use Rattle.am9517_service.specs.declared.turns.Rota.{Rota}
use Rattle.am9517_service.specs.declared.turns.Served.{Served}
use Rattle.am9517_service.specs.Counts.{counts, plus}
use Rattle.am9517_service.specs.Ends.{with_bits}
use Rattle.am9517_service.specs.States.{pace}
use Rattle.am9517_service.specs.ClosedLegs.{leg_of, counts_of}
use Rattle.am9517_service.specs.ClosedSpans.{stays_open}

-- what a round needs of the command, the wait states, the pins and the modes, which stay
abbrev pub facts_of : Controller → Facts
facts_of c =
    record { rotating = rotating c.command; copier = when (memory_to_memory_bit c.command) 0 4; hold = address_hold c.command; pace = pace c.command c.waits; lines = lines_of c; blocks = blocks_of c; waits = c.waits }

-- who is next behind each channel served last, with these mask and request bits
unfoldable pub nexts_of : Facts → ℕ → ℕ → List ℕ
nexts_of f mask request =
    let set = entitled_of f.lines f.blocks mask request in
    picked_from (when f.rotating 0 3) set ∷ picked_from (when f.rotating 1 3) set ∷ picked_from (when f.rotating 2 3) set ∷ picked_from 3 set ∷ []

-- a transfer that may be made alone is made, with so many bytes and so much room left
unfoldable pub made_alone : Bool → ℕ → ℕ → ℕ → Bool
made_alone may mode bytes space = may && when (is_write mode) (not (eqb bytes 0)) (when (is_read mode) (not (eqb space 0)) true)

-- a leg of n transfers of the service of channel i that was just granted, on counts so far; a round has no EOP
abbrev pub turn_of : ℕ → ℕ → ℕ → Channel → ℕ → Bits → Counts → Turn
turn_of edition p i ch n b was =
    let l = leg_of edition i ch b true p n 0 in
    record { channel = l.channel; bits = l.bits; latch = l.latch; counts = plus was (counts_of ch n l.states) }

-- the counts with so many transfers made alone, each with S1
abbrev pub with_alone : Counts → ℕ → ℕ → Counts
with_alone n alone p = counts (n.transfers + alone) n.used n.written (n.states + alone * (p + 1))

-- the controller s, at rest but for its lowest channel, behind a service of channel i that stays open or not
abbrev pub settled_of : Controller → ℕ → Bool → Bool → Controller
settled_of s i turns stays = put (put (put s InService (when stays 1 0)) Serving (when stays i 0)) Lowest (when turns i s.lowest)

-- how a round closes whose last leg stopped so
abbrev pub answer_of : Reason → Bool → RoundAnswer
answer_of Ended done = Ok (when done Done Quiet)
answer_of Dropped done = Ok (Stopped Dropped)
answer_of Cascade done = Ok (Stopped Cascade)
answer_of Limit done = Ok (Stopped Limit)
answer_of Short done = Ok (Stopped Short)

-- the service of channel i whose leg left u and stopped so; where it stays open, its address is latched
abbrev pub turned_of : Rota → ℕ → Turn → Reason → Served
turned_of ρ i u why =
    let stays = stays_open why in
    let s = with_bits (with_channel ρ.controller i u.channel) u.bits in
    let c = settled_of (put (put s LatchFull (when stays 1 0)) Latch (when stays u.latch 0)) i ρ.facts.rotating stays in
    record { rota = record { controller = c; facts = ρ.facts; nexts = nexts_of ρ.facts u.bits.mask u.bits.request }; why = why; counts = u.counts }

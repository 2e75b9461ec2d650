-- What judging goes by inside a service, in closed form: what stays, and the registers that its transfers step. What is right, Judge.antt says.
use Rattle.std.specs.Prelude.{ℕ, ◌+◌, ◌/◌, ◌≤◌, ◌≡◌, Bool, true, false, not, ◌||◌, ◌&&◌, List, eqb, leb, length, get_or, set, drop}
use Rattle.words.specs.Choice.{when}
use Rattle.words.specs.Bytes.{high_byte}
use Rattle.words.specs.Steps.{step}
use Rattle.am9517.specs.Fields.{channel, with_channel, put, Temporary, LatchFull, Latch}
use Rattle.am9517.specs.Modes.{address_hold, autoinitialize, decrement, is_cascade}
use Rattle.am9517.specs.Ranges.{valid}
use Rattle.am9517.specs.State.{ended}
use Rattle.am9517.specs.declared.Controller.{Controller}
use Rattle.am9517_service.specs.World.{memory_to_memory, serving_channel}
use Rattle.am9517_service.specs.Stops.{dropped}
use Rattle.am9517_service.specs.Transfer.{with_current}
use Rattle.am9517_service.specs.Ends.{after_tc_or_eop, single}
use Rattle.logs.specs.declared.Record.{Record}
use Rattle.logs.specs.declared.registers.Service.{Service}
use Rattle.logs.specs.declared.registers.Registers.{Registers}
use Rattle.logs.specs.Record.{record_in, kind_of, is_last}
use Rattle.logs.specs.Judge.{tells_eop, same, is_right, behind, judged}

-- what stays over a service: its channel and kind, whether it is a single one, address hold, and what channel 0 or the serving one steps by
abbrev pub service_of : Controller → Service
service_of c =
    let ch = serving_channel c in
    record {
      channel = c.serving;
      kind = kind_of c;
      once = single c;
      hold = address_hold c.command;
      again = autoinitialize ch.mode;
      down = decrement ch.mode;
      to_down = decrement (channel c 1).mode;
      base_address = ch.base_address;
      base_count = ch.base_count;
    }

-- the registers that its transfers step: the first address, the count that TC goes by, and in memory-to-memory the second address and
-- channel 0's count, which else are 0; the temporary byte and the latch
abbrev pub registers_of : Controller → Registers
registers_of c =
    record {
      address = (serving_channel c).address;
      count = when (memory_to_memory c) (channel c 1).count (serving_channel c).count;
      second = when (memory_to_memory c) (channel c 1).address 0;
      source = when (memory_to_memory c) (serving_channel c).count 0;
      temporary = c.temporary;
      latch_full = c.latch_full;
      latch = c.latch;
    }

-- the controller with these registers
abbrev pub with_registers : Controller → Registers → Controller
with_registers c g =
    let x = put (put (put c Temporary g.temporary) LatchFull g.latch_full) Latch g.latch in
    let y = with_channel x c.serving (with_current (serving_channel c) g.address (when (memory_to_memory c) g.source g.count)) in
    when (memory_to_memory c) (with_channel y 1 (with_current (channel c 1) g.second g.count)) y

-- memory-to-memory, and a write
abbrev pub copies : Service → Bool
copies s = eqb s.kind 3

abbrev pub stores : Service → Bool
stores s = eqb s.kind 1

-- the record of the next transfer; `here` is the byte at the first address
abbrev pub record_by : Service → Registers → ℕ → ℕ → Bool → Record
record_by s g here device eop =
    let tc = eqb g.count 0 in
    record {
      channel = s.channel;
      kind = s.kind;
      address = g.address;
      second = g.second;
      byte = when (stores s) device (when (eqb s.kind 0) 0 here);
      flags = when tc 1 0 + when eop 2 0 + when (tc || eop || s.once) 4 0;
    }

-- a record is right and does not end the service
abbrev pub goes_on : Service → Registers → ℕ → Record → Bool
goes_on s g here r = eqb r.flags 0 && same r (record_by s g here r.byte false)

-- one is there, and does so
unfoldable pub goes_on_in : Service → Registers → List ℕ → List ℕ → Bool
goes_on_in s g m log = when (leb 8 (length log)) (goes_on s g (get_or m g.address 0) (record_in log)) false

-- the registers after a transfer of this byte that does not end the service: of memory-to-memory, and of a device's
abbrev pub copied_registers : Service → Registers → ℕ → Registers
copied_registers s g byte =
    let passed = eqb g.source 0 && s.again in
    record {
      address = when passed s.base_address (when s.hold g.address (step 16 s.down g.address));
      count = step 16 true g.count;
      second = step 16 s.to_down g.second;
      source = when passed s.base_count (step 16 true g.source);
      temporary = byte;
      latch_full = g.latch_full;
      latch = g.latch;
    }

abbrev pub moved_registers : Service → Registers → Registers
moved_registers s g =
    record {
      address = step 16 s.down g.address;
      count = step 16 true g.count;
      second = g.second;
      source = g.source;
      temporary = g.temporary;
      latch_full = 1;
      latch = high_byte g.address;
    }

unfoldable pub stepped_by : Service → Registers → ℕ → Registers
stepped_by s g byte = when (copies s) (copied_registers s g byte) (moved_registers s g)

-- the memory after it
unfoldable pub stored_by : Service → Registers → List ℕ → ℕ → List ℕ
stored_by s g m byte = when (stores s) (set m g.address byte) (when (copies s) (set m g.second byte) m)

-- what a transfer leaves that has made this of the controller, by what it meets: TC or EOP, the end of a single service, or none
abbrev pub last_by : Controller → Bool → Bool → Bool → Controller
last_by c tc eop once = when (tc || eop) (after_tc_or_eop c tc eop) (when once (ended c) c)

-- the rules make a transfer next, whatever the device gives
unfoldable pub flows : Controller → Bool
flows c = memory_to_memory c || not (dropped c || is_cascade (serving_channel c).mode)

-- what the functions ask of a state and a memory: a run of the open service is not refused, and it flows
pub record Flowing (c : Controller) (m : List ℕ) : Type 0 where
  pub valid : valid c ≡ true
  pub busy : c.in_service ≡ 1
  pub memory : length m ≡ 65536
  pub flows : flows c ≡ true

-- a record that is there and is right ends the service
abbrev pub EndsOnly : Controller → List ℕ → List ℕ → Type 0
EndsOnly c m log = 8 ≤ length log → is_right c m (record_in log) ≡ true → is_last c (tells_eop (record_in log)) ≡ true

-- what is left of a log: nothing of it goes on
pub record Rest (c : Controller) (m log : List ℕ) (at : ℕ) : Type 0 where
  pub within : at ≤ length log
  pub flowing : Flowing c m
  pub ends : EndsOnly c m (drop at log)

-- from a state and a memory to others, over so many bytes of a log: what is left of it is judged as the whole
pub record Passes (c : Controller) (m log : List ℕ) (x : Controller) (m' : List ℕ) (at : ℕ) : Type 0 where
  pub left : judged (length log / 8) c m log ≡ behind at (judged (length (drop at log) / 8) x m' (drop at log))
  pub serving : x.serving ≡ c.serving
  pub rest : Rest x m' log at

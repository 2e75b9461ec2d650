-- The fields of the state, named and set.
-- Field, tag, field and make are the only lines of this crate that list every field beside the channels: a new field is one line in each.
use Rattle.std.specs.Prelude.{ℕ, List, cond, get_or, set, eqb}
use Rattle.am9517.specs.declared.Channel.{Channel}
use Rattle.am9517.specs.declared.Controller.{Controller}

-- "Beside them: command, four TC bits, four request bits, four mask bits, temporary byte, first/last flip-flop, four pin levels,
-- the lowest channel, idle or in service, the serving channel, and the upper address byte last latched in this service, if any":
-- LatchFull says whether there is one. Document 02, A2: the edition, "chosen when a state is made and kept in it through reset"; A3: "The state
-- gains a byte of wait states"
pub data Field : Type 0 where
  Command Tc Request Mask Temporary FlipFlop Pins Lowest InService Serving LatchFull Latch Edition Waits : Field

-- tells two fields apart: help for `but`, no rule
abbrev pub tag : Field → ℕ
tag Command = 0
tag Tc = 1
tag Request = 2
tag Mask = 3
tag Temporary = 4
tag FlipFlop = 5
tag Pins = 6
tag Lowest = 7
tag InService = 8
tag Serving = 9
tag LatchFull = 10
tag Latch = 11
tag Edition = 12
tag Waits = 13

-- the field's value
abbrev pub field : Controller → Field → ℕ
field s Command = s.command
field s Tc = s.tc
field s Request = s.request
field s Mask = s.mask
field s Temporary = s.temporary
field s FlipFlop = s.flip_flop
field s Pins = s.pins
field s Lowest = s.lowest
field s InService = s.in_service
field s Serving = s.serving
field s LatchFull = s.latch_full
field s Latch = s.latch
field s Edition = s.edition
field s Waits = s.waits

-- the state of these channels and fields: "It has four channels", by the type [Channel; 4] of src/lib.rt
abbrev pub make : List Channel → (Field → ℕ) → Controller
make cs f =
    record {
      channels = cs;
      command = f Command;
      tc = f Tc;
      request = f Request;
      mask = f Mask;
      temporary = f Temporary;
      flip_flop = f FlipFlop;
      pins = f Pins;
      lowest = f Lowest;
      in_service = f InService;
      serving = f Serving;
      latch_full = f LatchFull;
      latch = f Latch;
      edition = f Edition;
      waits = f Waits;
    }

-- fields f with g as v
abbrev pub but : (Field → ℕ) → Field → ℕ → Field → ℕ
but f g v h = cond (eqb (tag g) (tag h)) v (f h)

-- the state with the field g as v
abbrev pub put : Controller → Field → ℕ → Controller
put s g v = make s.channels (but (field s) g v)

-- a channel of zeros: "each with base address, current address, base count, current count (16 bits each) and a mode byte"
abbrev pub blank : Channel
blank = record { base_address = 0; address = 0; base_count = 0; count = 0; mode = 0 }

-- channel n
abbrev pub channel : Controller → ℕ → Channel
channel s n = get_or s.channels n blank

-- the state with channel n as c
abbrev pub with_channel : Controller → ℕ → Channel → Controller
with_channel s n c = make (set s.channels n c) (field s)

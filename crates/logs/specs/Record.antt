-- "Vendors send us bus logs of one service each." The record of one transfer.
use Rattle.std.specs.Prelude.{ℕ, ◌+◌, Bool, ◌||◌, List, [], ◌∷◌, get_or}
use Rattle.words.specs.Choice.{when}
use Rattle.words.specs.Bytes.{word_of, low_byte, high_byte}
use Rattle.am9517.specs.Fields.{channel}
use Rattle.am9517.specs.declared.Controller.{Controller}
use Rattle.am9517_service.specs.World.{memory_to_memory, serving_channel}
use Rattle.am9517_service.specs.Transfer.{writes, reads}
use Rattle.am9517_service.specs.Ends.{reaches_tc, single}
use Rattle.logs.specs.declared.Record.{Record}

-- "A record has 8 bytes: serving channel; kind ..; address; second address ..; data byte ..; flags .. Addresses are low byte first."
abbrev pub record_in : List ℕ → Record
record_in s =
    record {
      channel = get_or s 0 0;
      kind = get_or s 1 0;
      address = word_of (get_or s 2 0) (get_or s 3 0);
      second = word_of (get_or s 4 0) (get_or s 5 0);
      byte = get_or s 6 0;
      flags = get_or s 7 0;
    }

abbrev pub bytes_of : Record → List ℕ
bytes_of r =
    r.channel ∷ r.kind ∷ low_byte r.address ∷ high_byte r.address ∷ low_byte r.second ∷ high_byte r.second ∷ r.byte ∷ r.flags ∷ []

-- "kind (0 verify, 1 write, 2 read, 3 memory-to-memory)"
unfoldable pub kind_of : Controller → ℕ
kind_of c = when (memory_to_memory c) 3 (when (writes (serving_channel c)) 1 (when (reads (serving_channel c)) 2 0))

-- "address": the serving channel's, before its step; in memory-to-memory channel 0 serves
abbrev pub first_address : Controller → ℕ
first_address c = (serving_channel c).address

-- "second address (channel 1's in memory-to-memory, else 0)"
unfoldable pub second_address : Controller → ℕ
second_address c = when (memory_to_memory c) (channel c 1).address 0

-- "data byte (0 for verify)": the byte that the transfer moves, out of the memory or, in a write, out of the device
unfoldable pub moved_byte : Controller → List ℕ → ℕ → ℕ
moved_byte c m device =
    let here = get_or m (first_address c) 0 in
    when (memory_to_memory c) here (when (writes (serving_channel c)) device (when (reads (serving_channel c)) here 0))

-- "last of service": it meets TC, external EOP or the end of a single service (am9517_service Ends `ends`)
unfoldable pub is_last : Controller → Bool → Bool
is_last c eop = reaches_tc c || eop || single c

-- "flags, bit 0 TC (the TC count passed 0), bit 1 external EOP, bit 2 last of service, others 0": in both editions
unfoldable pub flags_of : Controller → Bool → ℕ
flags_of c eop = when (reaches_tc c) 1 0 + when eop 2 0 + when (is_last c eop) 4 0

-- the record of the next transfer from a state and a memory, where the device's next byte is this and external EOP is met or not
abbrev pub record_of : Controller → List ℕ → ℕ → Bool → Record
record_of c m device eop =
    record {
      channel = c.serving;
      kind = kind_of c;
      address = first_address c;
      second = second_address c;
      byte = moved_byte c m device;
      flags = flags_of c eop;
    }

-- Document 01, "Registers": what an accepted write stores, what a read gives and leaves.
use Rattle.std.specs.Prelude.{ℕ, ◌-◌, ◌/◌, ◌%◌, Bool, [], ◌∷◌, ltb, eqb}
use Rattle.words.specs.Choice.{when}
use Rattle.words.specs.Grounds.{◌if◌, first}
use Rattle.words.specs.Bits.{bit, with_bit}
use Rattle.words.specs.Bytes.{byte_of, with_byte}
use Rattle.am9517.specs.State.{cleared}
use Rattle.am9517.specs.Fields.{channel, with_channel, put, Command, Tc, Request, Mask, FlipFlop}
use Rattle.am9517.specs.Serving.{status}
use Rattle.am9517.specs.declared.Channel.{Channel}
use Rattle.am9517.specs.declared.Controller.{Controller}

-- "The flip-flop picks low (0) or high (1) byte and turns over after each access."
abbrev pub high : Controller → Bool
high s = eqb s.flip_flop 1

abbrev pub turned_over : Controller → Controller
turned_over s = put s FlipFlop (when (high s) 0 1)

-- "A write sets that byte of base and current": of the address, and of the count
abbrev pub with_address_byte : Channel → Bool → ℕ → Channel
with_address_byte c h b =
    record {
      base_address = with_byte c.base_address h b;
      address = with_byte c.address h b;
      base_count = c.base_count;
      count = c.count;
      mode = c.mode;
    }

abbrev pub with_count_byte : Channel → Bool → ℕ → Channel
with_count_byte c h b =
    record {
      base_address = c.base_address;
      address = c.address;
      base_count = with_byte c.base_count h b;
      count = with_byte c.count h b;
      mode = c.mode;
    }

abbrev pub with_mode : Channel → ℕ → Channel
with_mode c m =
    record {
      base_address = c.base_address;
      address = c.address;
      base_count = c.base_count;
      count = c.count;
      mode = m;
    }

-- "0 to 7: even is channel n/2's address, odd its count."
unfoldable pub port_written : Controller → ℕ → ℕ → Controller
port_written s r b =
    let c = channel s (r / 2) in
    turned_over (with_channel s (r / 2) (when (eqb (r % 2) 0) (with_address_byte c (high s) b) (with_count_byte c (high s) b)))

-- "a read gives current"
unfoldable pub port_read : Controller → ℕ → ℕ
port_read s r = byte_of (when (eqb (r % 2) 0) (channel s (r / 2)).address (channel s (r / 2)).count) (high s)

-- "mode of channel (bits 1-0); stored with these two bits zero"
unfoldable pub mode_written : Controller → ℕ → Controller
mode_written s b = with_channel s (b % 4) (with_mode (channel s (b % 4)) (b - b % 4))

-- what an accepted write of b to register r stores. "8 write: command. .. 9 write: request bit of channel (bits 1-0) becomes bit 2.
-- A write: the same for the mask bit. F write: bits 3-0 become the mask. B write: mode of channel (bits 1-0) .. C write clears the
-- flip-flop. .. D write: master clear, as reset." Document 02, A2: "There, a write of register E clears all four mask bits", whatever the byte;
-- elsewhere it is refused
unfoldable pub after_write : Controller → ℕ → ℕ → Controller
after_write s r b =
    first (
    port_written s r b if ltb r 8
    ∷ put s Command b if eqb r 8
    ∷ put s Request (with_bit s.request (b % 4) (eqb (bit b 2) 1)) if eqb r 9
    ∷ put s Mask (with_bit s.mask (b % 4) (eqb (bit b 2) 1)) if eqb r 0xA
    ∷ mode_written s b if eqb r 0xB
    ∷ put s FlipFlop 0 if eqb r 0xC
    ∷ cleared s if eqb r 0xD
    ∷ put s Mask 0 if eqb r 0xE
    ∷ put s Mask (b % 16) if eqb r 0xF
    ∷ []) s

-- what an accepted read of register r gives: "8 read: status"; "D read: temporary byte."
unfoldable pub value : Controller → ℕ → ℕ
value s r = first (port_read s r if ltb r 8 ∷ status s if eqb r 8 ∷ []) s.temporary

-- what it leaves: the flip-flop turned over; "the TC bits, cleared by this read"
unfoldable pub after_read : Controller → ℕ → Controller
after_read s r = first (turned_over s if ltb r 8 ∷ put s Tc 0 if eqb r 8 ∷ []) s

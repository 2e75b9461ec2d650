-- Document 01, "Registers": what the bits of the command and of a mode byte mean.
use Rattle.std.specs.Prelude.{ℕ, ◌/◌, ◌%◌, Bool, not, ◌&&◌, eqb}
use Rattle.words.specs.Bits.{bit}

-- of the command: "Bit 0 memory-to-memory, 1 channel 0 address hold, 2 disable, 3 compressed, 4 rotating, 6 DREQ active low."
-- "Bits 5 and 7 of the command are stored and have no other effect": a write stores the whole byte, and nothing asks these two.
abbrev pub memory_to_memory_bit : ℕ → Bool
memory_to_memory_bit command = eqb (bit command 0) 1

abbrev pub address_hold : ℕ → Bool
address_hold command = eqb (bit command 1) 1

abbrev pub disabled : ℕ → Bool
disabled command = eqb (bit command 2) 1

abbrev pub compressed : ℕ → Bool
compressed command = eqb (bit command 3) 1

abbrev pub rotating : ℕ → Bool
rotating command = eqb (bit command 4) 1

abbrev pub active_low : ℕ → Bool
active_low command = eqb (bit command 6) 1

-- of a mode byte: "Bits 3-2: 00 verify, 01 write (device to memory), 10 read, ignored in cascade": there a run stops before it asks them
abbrev pub transfer_bits : ℕ → ℕ
transfer_bits mode = mode / 4 % 4

abbrev pub is_write : ℕ → Bool
is_write mode = eqb (transfer_bits mode) 1

abbrev pub is_read : ℕ → Bool
is_read mode = eqb (transfer_bits mode) 2

-- "4 autoinitialize; 5 decrement"
abbrev pub autoinitialize : ℕ → Bool
autoinitialize mode = eqb (bit mode 4) 1

abbrev pub decrement : ℕ → Bool
decrement mode = eqb (bit mode 5) 1

-- "7-6: 00 demand, 01 single, 10 block, 11 cascade"
abbrev pub service_bits : ℕ → ℕ
service_bits mode = mode / 64

abbrev pub is_demand : ℕ → Bool
is_demand mode = eqb (service_bits mode) 0

abbrev pub is_single : ℕ → Bool
is_single mode = eqb (service_bits mode) 1

abbrev pub is_block : ℕ → Bool
is_block mode = eqb (service_bits mode) 2

abbrev pub is_cascade : ℕ → Bool
is_cascade mode = eqb (service_bits mode) 3

-- refused by 5: "mode byte with bits 3-2 = 11 and bits 7-6 not 11"
abbrev pub mode_refused : ℕ → Bool
mode_refused m = eqb (transfer_bits m) 3 && not (is_cascade m)

-- The most that a run and a round can count. That no run and no round counts more, that every count fits its type, and that these are reached,
-- is a theorem of demands (Most); here they are named, for it and for what the functions ask.
use Rattle.std.specs.Prelude.{ℕ, ◌+◌, ◌*◌}

-- "a byte of wait states"
abbrev pub most_waits : ℕ
most_waits = 255

-- the states of a transfer, by States: a normal one without S1 (`pace`), and one of memory-to-memory (`copy_pace`)
abbrev pub most_pace : ℕ
most_pace = 3 + most_waits

abbrev pub most_copy_pace : ℕ
most_copy_pace = 8 + 2 * most_waits

-- a run: count FFFFh gives this many transfers
abbrev pub most_transfers : ℕ
most_transfers = 65536

abbrev pub most_states : ℕ
most_states = most_transfers * most_copy_pace

-- a round: "up to k services (0 to 4,096)"
abbrev pub most_services : ℕ
most_services = 4096

abbrev pub most_round_transfers : ℕ
most_round_transfers = most_services * most_transfers

-- "a long round now passes 32 bits"
abbrev pub most_round_states : ℕ
most_round_states = most_services * most_states

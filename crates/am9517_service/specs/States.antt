-- "Working states. Normal transfer 3, compressed 2, plus 1 (state S1) when the latch is empty or differs from the upper address byte,
-- which is then latched. Memory-to-memory 8 always, latch unused. Idle and S0 states aren't counted":
-- a transfer adds its states, and nothing else adds any. Document 02, A3: "They hold READY low." A memory card holds it in each transfer, verify too,
-- and in memory-to-memory in both halves.
use Rattle.std.specs.Prelude.{ℕ, ◌+◌, ◌*◌, Bool, not, ◌||◌, eqb}
use Rattle.words.specs.Choice.{when}
use Rattle.words.specs.Bytes.{high_byte}
use Rattle.am9517.specs.Fields.{put, LatchFull, Latch}
use Rattle.am9517.specs.Modes.{compressed}
use Rattle.am9517.specs.declared.Controller.{Controller}

-- the pace of a command: the states of a transfer without S1, which are S2, S3 and S4; compressed leaves S3 out. "Each transfer costs that
-- many states more", the wait states,
unfoldable pub pace : ℕ → ℕ → ℕ
pace command waits = when (compressed command) 2 3 + waits

-- "memory-to-memory twice that": its pace, which is 8 only where there are none
unfoldable pub copy_pace : ℕ → ℕ
copy_pace waits = 8 + 2 * waits

-- state S1 is needed for the address a
unfoldable pub needs_s1 : Controller → ℕ → Bool
needs_s1 c a = not (eqb c.latch_full 1) || not (eqb c.latch (high_byte a))

unfoldable pub cost : Controller → ℕ → ℕ
cost c a = pace c.command c.waits + when (needs_s1 c a) 1 0

abbrev pub latched : Controller → ℕ → Controller
latched c a = put (put c LatchFull 1) Latch (high_byte a)

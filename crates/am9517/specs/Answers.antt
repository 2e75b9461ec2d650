-- What each operation hands back, for all inputs. "Every operation takes the state and hands the next one back": the state is the
-- first argument of write_of, read_of, pins_of, reset_of, waits_of and grant_of, and the next one a field of what they give.
use Rattle.std.specs.Prelude.{ℕ, Option, Some, None, Result, eqb}
use Rattle.words.specs.Choice.{when}
use Rattle.am9517.specs.State.{cleared}
use Rattle.am9517.specs.Fields.{put, Pins, Waits}
use Rattle.am9517.specs.Serving.{picked, granted}
use Rattle.am9517.specs.Registers.{after_write, value, after_read}
use Rattle.am9517.specs.Refusals.{unless, number_in, refusal, write_grounds, read_grounds, pins_grounds, reset_grounds, waits_grounds, grant_grounds}
use Rattle.am9517.specs.declared.Controller.{Controller}
use Rattle.am9517.specs.declared.refusals.Refusal.{Refusal}
use Rattle.am9517.specs.declared.Outcome.{Outcome}

-- done, with the byte read or the channel granted where it has one; or its refusal
abbrev pub Answer : Type 0
Answer = Result (Option ℕ) Refusal

-- "If an answer is an enum, the promises use a definition that states this paper's number and values for each of its cases": the refusal
-- number of each answer, 0 for none
abbrev pub refusal_number : Answer → ℕ
refusal_number = number_in

-- refused by n: the paper's number, and the state as it was; or, with n zero, the next state and what is told of it.
-- "Each returns its number only, and state, memory and buffers stay."
unfoldable pub outcome : ℕ → Controller → Controller → Option ℕ → Outcome
outcome n was next told =
    record { controller = when (eqb n 0) next was; answer = unless n told }

abbrev pub write_of : Controller → ℕ → ℕ → Outcome
write_of s r b = outcome (refusal (write_grounds s r b)) s (after_write s r b) None

abbrev pub read_of : Controller → ℕ → Outcome
read_of s r = outcome (refusal (read_grounds s r)) s (after_read s r) (Some (value s r))

abbrev pub pins_of : Controller → ℕ → Outcome
pins_of s p = outcome (refusal (pins_grounds s p)) s (put s Pins p) None

abbrev pub reset_of : Controller → Outcome
reset_of s = outcome (refusal (reset_grounds s)) s (cleared s) None

-- "a byte of wait states, set by its own call"
abbrev pub waits_of : Controller → ℕ → Outcome
waits_of s n = outcome (refusal (waits_grounds s)) s (put s Waits n) None

abbrev pub grant_of : Controller → Outcome
grant_of s = outcome (refusal (grant_grounds s)) s (granted s (picked s)) (Some (picked s))

-- Document 02, A8: what judging a log tells, of every state, memory and log.
use Rattle.std.specs.Prelude.{ℕ, ◌+◌, ◌*◌, ◌/◌, ◌%◌, ◌≤◌, ◌<◌, ◌≡◌, true, false, ◌||◌, List, [], ◌∷◌, ◌++◌, ◌↔◌, ℤ, pos, negsuc, length, get_or, set, take, drop}
use Rattle.words.specs.Bits.{bit}
use Rattle.am9517.specs.Modes.{is_cascade}
use Rattle.am9517.specs.Ranges.{valid}
use Rattle.am9517.specs.Refusals.{refusal}
use Rattle.am9517.specs.declared.Controller.{Controller}
use Rattle.am9517_service.specs.declared.Reason.TheVariants.{Dropped}
use Rattle.am9517_service.specs.World.{World, Stop, start_of, memory_to_memory, serving_channel}
use Rattle.am9517_service.specs.Stops.{dropped}
use Rattle.am9517_service.specs.Run.{run_of}
use Rattle.am9517_service.specs.Answers.{run_grounds}
use Rattle.logs.specs.declared.Verdict.{Verdict}
use Rattle.logs.specs.declared.Verdict.TheVariants.{Accepted, Wrong, Refused}
use Rattle.logs.specs.declared.Record.{Record}
use Rattle.logs.specs.Record.{record_in}
use Rattle.logs.specs.Judge.{next_run, tells_eop, is_right, apart, signed, error_of}
use Rattle.logs.specs.Log.{log_of, bytes_told, eop_told}
use Rattle.logs.specs.Answers.{JudgeGiven, judge_given, judge_refusal_number, judged_of, place_of}
use Rattle.am9517.specs.Refusals.{numbered}

-- what is said of a log, with the state and the memory that its good records leave
abbrev pub verdict : JudgeGiven → Verdict
verdict g = g.judged.verdict

abbrev pub state : JudgeGiven → Controller
state g = g.judged.controller

abbrev pub says : Controller → Verdict → List ℕ → JudgeGiven
says c v m = judge_given (record { controller = c; verdict = v }) m

-- A refusal gives its number, and changes nothing: "Refusals 1, 7, 8 in that order". Where none holds, the log is judged.
pub record Refuses (c : Controller) (m log : List ℕ) : Type 0 where
  pub refused : (refusal (run_grounds c m) ≡ 0 → ⊥) → judged_of c m log ≡ says c (Refused (numbered (refusal (run_grounds c m)))) m
  pub number : judge_refusal_number (verdict (judged_of c m log)) ≡ refusal (run_grounds c m)

-- What a record tells: where it is right, its transfer does what it says. Its flag bit 2, "last of service", is set exactly where the service has
-- ended; verify leaves memory and room; a write takes one byte of the device and stores it at the address; a read puts its byte into the room;
-- memory-to-memory stores it at the second address, and it is the temporary byte
pub record Tells (r : Record) (m : List ℕ) (next : World) : Type 0 where
  pub last : (bit r.flags 2 ≡ 1) ↔ (next.controller.in_service ≡ 0)
  pub verify : r.kind ≡ 0 → (next.memory ≡ m) × (next.room ≡ 0 ∷ [])
  pub write : r.kind ≡ 1 → (next.memory ≡ set m r.address r.byte) × (next.counts.used ≡ 1)
  pub read : r.kind ≡ 2 → (next.memory ≡ m) × (next.room ≡ r.byte ∷ [])
  pub copy : r.kind ≡ 3 → (next.memory ≡ set m r.second r.byte) × (next.controller.temporary ≡ r.byte)

-- Honest: "accept .. the logs whose every record is what the rules do next". The log of any run is accepted, and leaves what the run left, unless
-- that found the line dropped, which a log can't show
abbrev pub Honest : Controller → List ℕ → Stop → List ℕ → Type 0
Honest c m s log = (s.reason ≡ Dropped → ⊥) → judged_of c m log ≡ says s.world.controller Accepted s.world.memory

-- Sound: ".. exactly the logs ..". A log of bytes that is accepted is that of the run which finds the device bytes and the EOP that it tells, as
-- many transfers as it has records, and room for them; and leaves what that run leaves. Where the line had dropped it has none, and the state stays
pub record Sound (c : Controller) (m log : List ℕ) (g : JudgeGiven) (n : ℕ) (s : Stop) (told : List ℕ) : Type 0 where
  pub whole : length log ≡ 8 * n
  pub same : log ≡ told
  pub left : (s.reason ≡ Dropped → ⊥) → g ≡ says s.world.controller Accepted s.world.memory
  pub dropped : s.reason ≡ Dropped → (n ≡ 0) × (g ≡ says c Accepted m)

abbrev pub soundly : Controller → List ℕ → List ℕ → List ℕ → Type 0
soundly c m log r =
    let n = length log / 8 in
    let eop = eop_told n log in
    let d = bytes_told n log in
    Sound c m log (judged_of c m log) n (run_of n eop d (start_of c m r)) (log_of n eop d (start_of c m r))

-- the part that is handed back
abbrev pub handed : List ℕ → JudgeGiven → List ℕ
handed log g = drop (place_of (length log) (verdict g)) log

-- First: "hand back the part of the vendor's log that begins at the first wrong record, with its address error". All before the place is accepted
-- by itself, and leaves the same; what is handed back begins there, and is cut, with error 0, or begins with a record that is not what the rules do next
pub record First (c : Controller) (m log : List ℕ) (g : JudgeGiven) (at : ℕ) (error : ℤ) : Type 0 where
  pub records : ℕ
  pub place : at ≡ 8 * records
  pub some : at < length log
  pub back : handed log g ≡ drop at log
  pub before : judged_of c m (take at log) ≡ says (state g) Accepted g.memory
  pub cut : length (drop at log) < 8 → error ≡ pos 0
  pub wrong : 8 ≤ length (drop at log) → is_right (state g) g.memory (record_in (drop at log)) ≡ false
  pub meant : 8 ≤ length (drop at log) → error ≡ error_of (state g) g.memory (record_in (drop at log))

-- The error: "as a signed number, -32,768 to 32,767, claimed minus right first address modulo 65,536"
abbrev pub InRange : ℤ → Type 0
InRange (pos n) = n ≤ 32767
InRange (negsuc n) = n ≤ 32767

-- what it says: the right address and a number that isn't negative make the claimed one, the claimed one and what lacks make the right one
abbrev pub Between : ℕ → ℕ → ℤ → Type 0
Between claimed right (pos n) = (right + n) % 65536 ≡ claimed
Between claimed right (negsuc n) = (claimed + (n + 1)) % 65536 ≡ right

pub record Error (claimed right : ℕ) : Type 0 where
  pub range : InRange (signed (apart claimed right))
  pub between : Between claimed right (signed (apart claimed right))
  pub zero : (signed (apart claimed right) ≡ pos 0) ↔ (claimed ≡ right)

-- Parts: whole records, judged one part after another while the service is open, are the whole judged; behind its end any byte is wrong, with
-- error 0; a part that is wrong is where the whole is wrong
abbrev pub further : ℕ → Verdict → Verdict
further n Accepted = Accepted
further n (Wrong at error) = Wrong (n + at) error
further n (Refused r) = Refused r

pub record Parts (c : Controller) (m a b : List ℕ) (g : JudgeGiven) : Type 0 where
  pub opened : verdict g ≡ Accepted → (state g).in_service ≡ 1
      → let h = judged_of (state g) g.memory b in judged_of c m (a ++ b) ≡ says (state h) (further (length a) (verdict h)) h.memory
  pub ended : verdict g ≡ Accepted → (state g).in_service ≡ 0 → (length b ≡ 0 → ⊥)
      → judged_of c m (a ++ b) ≡ says (state g) (Wrong (length a) (pos 0)) g.memory
  pub wrong : (at : ℕ) (error : ℤ) → verdict g ≡ Wrong at error → judged_of c m (a ++ b) ≡ g

-- What judging leaves as it was: a chip in its ranges stays in them, and so do its lowest channel, its edition and its wait states
pub record Keeps (c : Controller) (g : JudgeGiven) : Type 0 where
  pub ranges : valid c ≡ true → valid (state g) ≡ true
  pub lowest : valid c ≡ true → (state g).lowest ≡ c.lowest
  pub edition : (state g).edition ≡ c.edition
  pub waits : (state g).waits ≡ c.waits

-- a log of bytes
abbrev pub Bytes : List ℕ → Type 0
Bytes log = (i : ℕ) → get_or log i 0 < 256

pub record LogsJudged : Type 0 where
  pub refuses : (c : Controller) (m log : List ℕ) → Refuses c m log
  pub tells : (c : Controller) (m : List ℕ) (r : Record) → is_right c m r ≡ true → Tells r m (next_run c m r.byte (tells_eop r)).world
  -- a log has a record for each transfer that the run makes
  pub counted : (c : Controller) (m d r : List ℕ) (limit eop : ℕ)
      → length (log_of limit eop d (start_of c m r)) ≡ 8 * (run_of limit eop d (start_of c m r)).world.counts.transfers
  pub honest : (c : Controller) (m d r : List ℕ) (limit eop : ℕ) → refusal (run_grounds c m) ≡ 0
      → Honest c m (run_of limit eop d (start_of c m r)) (log_of limit eop d (start_of c m r))
  pub sound : (c : Controller) (m log r : List ℕ) → refusal (run_grounds c m) ≡ 0 → Bytes log → verdict (judged_of c m log) ≡ Accepted
      → length log / 8 ≤ length r → soundly c m log r
  -- an empty log is accepted
  pub empty : (c : Controller) (m : List ℕ) → refusal (run_grounds c m) ≡ 0 → judged_of c m [] ≡ says c Accepted m
  -- where "the rules make no transfer (line dropped, cascade)", all else is wrong with error 0, and the service stays open
  pub silent : (c : Controller) (m log : List ℕ) → refusal (run_grounds c m) ≡ 0 → memory_to_memory c ≡ false
      → dropped c || is_cascade (serving_channel c).mode ≡ true → (length log ≡ 0 → ⊥) → judged_of c m log ≡ says c (Wrong 0 (pos 0)) m
  pub first : (c : Controller) (m log : List ℕ) (at : ℕ) (error : ℤ) → verdict (judged_of c m log) ≡ Wrong at error
      → First c m log (judged_of c m log) at error
  pub accepted : (c : Controller) (m log : List ℕ) → verdict (judged_of c m log) ≡ Accepted → handed log (judged_of c m log) ≡ []
  pub errors : (claimed right : ℕ) → claimed < 65536 → right < 65536 → Error claimed right
  pub ranges : (c : Controller) (m log : List ℕ) (at : ℕ) (error : ℤ) → verdict (judged_of c m log) ≡ Wrong at error → InRange error
  pub ends : (signed 0 ≡ pos 0) × (signed 32767 ≡ pos 32767) × (signed 32768 ≡ negsuc 32767) × (signed 65535 ≡ negsuc 0)
  pub parts : (c : Controller) (m a b : List ℕ) → refusal (run_grounds c m) ≡ 0 → length a ≡ 8 * (length a / 8)
      → Parts c m a b (judged_of c m a)
  pub keeps : (c : Controller) (m log : List ℕ) → Keeps c (judged_of c m log)

-- Demand 1 of the C library: a refused call says the number of the first ground, and all that was lent stays. A chip in its ranges stays in them.
use Rattle.std.specs.Prelude.{ℕ, ◌+◌, ◌≤◌, ◌≡◌, true, false, List, [], ◌∷◌, ◌++◌, ◌↔◌, leb, ℤ, pos, negsuc, length}
use Rattle.words.specs.Grounds.{Ground}
use Rattle.am9517.specs.Editions.{number_of}
use Rattle.am9517.specs.State.{fresh}
use Rattle.am9517.specs.Ranges.{valid}
use Rattle.am9517.specs.Serving.{entitled, set_of, status}
use Rattle.am9517.specs.Refusals.{write_grounds, read_grounds, pins_grounds, reset_grounds, waits_grounds, grant_grounds}
use Rattle.am9517.specs.Answers.{write_of, read_of, pins_of, reset_of, waits_of, grant_of}
use Rattle.am9517.specs.declared.Controller.{Controller}
use Rattle.am9517.specs.declared.Edition.TheVariants.{Am9517A}
use Rattle.am9517_service.specs.Answers.{ran_of, run_grounds}
use Rattle.am9517_service.specs.RoundAnswers.{rounded_of, round_grounds}
use Rattle.am9517_sheet.specs.declared.forms.Form.{Form}
use Rattle.am9517_sheet.specs.declared.forms.Form.TheVariants.{One, Two}
use Rattle.am9517_sheet.specs.Sheet.{sheet_write_grounds, sheet_read_grounds, sheet_write_of, sheet_read_of}
use Rattle.am9517_sheet.specs.Form.{other}
use Rattle.am9517_sheet.specs.Convert.{convert_grounds, convert_of}
use Rattle.logs.specs.Answers.{judged_of}
use Rattle.c_told.specs.declared.Told.{Told}
use Rattle.c_told.specs.Numbers.{edition_byte, told, Saved, save_of}
use Rattle.c_am9517.specs.Host.{look_grounds, look_of, Left, call_of, load_of, RunLeft, run_call_of, RoundLeft, round_call_of, JudgeLeft, judge_call_of}
use Rattle.demands.specs.Lists.{All}
use Rattle.demands.specs.Operations.{Scene, scene}
use Rattle.demands.specs.Refusals.{First}

-- The calls beside the chip that they are lent; each as its function in crates/c_am9517/src/lib.rt. (am9517_version and am9517_fresh are
-- lent none and refuse nothing.)
pub data Call : Type 0 where
  CCheck CReset CGrant CEntitled CStatus : Call
  -- register, byte
  CWrite : ℕ → ℕ → Call
  -- register
  CRead : ℕ → Call
  -- levels
  CPins : ℕ → Call
  -- wait states
  CWaits : ℕ → Call
  -- memory, device bytes, room, limit, EOP
  CRun : List ℕ → List ℕ → List ℕ → ℕ → ℕ → Call
  -- memory, device bytes, room, k
  CRound : List ℕ → List ℕ → List ℕ → ℕ → Call
  -- memory, log
  CJudge : List ℕ → List ℕ → Call
  -- form, and the bytes into which the sheet is written, or from which it is read: am9517_save and am9517_load for form 1,
  -- am9517_save2 and am9517_load2 for form 2
  CSave CLoad : Form → List ℕ → Call

-- what a call says, the refusal's number and the numbers beside it, and what it leaves of the chip and of the bytes that it was lent
pub record Spoken : Type 0 where
  pub refusal : ℕ
  pub beside : List ℕ
  pub leaves : Scene

-- a look changes nothing: the chip is lent by `&`
abbrev pub looked : Controller → Told → Spoken
looked s t = record { refusal = t.refusal; beside = t.value ∷ []; leaves = scene s [] [] [] }

abbrev pub left_by : Left → Spoken
left_by l = looked l.chip l.said

abbrev pub ran_by : RunLeft → Spoken
ran_by l =
    let t = l.said in
    record {
      refusal = t.refusal;
      beside = t.reason ∷ t.transfers ∷ t.used ∷ t.written ∷ t.states ∷ [];
      leaves = scene l.chip l.memory l.room [];
    }

abbrev pub round_by : RoundLeft → Spoken
round_by l =
    let t = l.said in
    record {
      refusal = t.refusal;
      beside = t.reason ∷ (t.services ++ (t.transfers ∷ t.used ∷ t.written ∷ t.states ∷ []));
      leaves = scene l.chip l.memory l.room [];
    }

-- how far a signed number is from 0
abbrev pub size : ℤ → ℕ
size (pos n) = n
size (negsuc n) = n + 1

abbrev pub judged_by : JudgeLeft → Spoken
judged_by l =
    let t = l.said in
    record { refusal = t.refusal; beside = size t.error ∷ t.right ∷ []; leaves = scene l.chip l.memory [] [] }

-- a save leaves the chip, which is lent by `&`
abbrev pub saved_by : Controller → Saved → Spoken
saved_by s w = record { refusal = w.refusal; beside = []; leaves = scene s [] [] w.sheet }

-- each by the definition that its contract cites, on the chip s
abbrev pub does : Controller → Call → Spoken
does s CCheck = looked s (told (look_of s 0).refusal 0)
does s CEntitled = looked s (look_of s (set_of (entitled s)))
does s CStatus = looked s (look_of s (status s))
does s (CWrite r x) = left_by (call_of (write_of s r x))
does s (CRead r) = left_by (call_of (read_of s r))
does s (CPins p) = left_by (call_of (pins_of s p))
does s (CWaits n) = left_by (call_of (waits_of s n))
does s CReset = left_by (call_of (reset_of s))
does s CGrant = left_by (call_of (grant_of s))
does s (CRun m d r limit eop) = ran_by (run_call_of (ran_of s m d r limit eop))
does s (CRound m d r k) = round_by (round_call_of (rounded_of s m d r k))
does s (CJudge m log) = judged_by (judge_call_of (length log) (judged_of s m log))
does s (CSave form bytes) = saved_by s (save_of (sheet_write_of form s bytes))
does s (CLoad form bytes) = left_by (load_of (sheet_read_of form s bytes))

-- what a call is lent to change; a part that it isn't lent is empty
abbrev pub lent_to : Controller → Call → Scene
lent_to s CCheck = scene s [] [] []
lent_to s CEntitled = scene s [] [] []
lent_to s CStatus = scene s [] [] []
lent_to s (CWrite r x) = scene s [] [] []
lent_to s (CRead r) = scene s [] [] []
lent_to s (CPins p) = scene s [] [] []
lent_to s (CWaits n) = scene s [] [] []
lent_to s CReset = scene s [] [] []
lent_to s CGrant = scene s [] [] []
lent_to s (CRun m d r limit eop) = scene s m r []
lent_to s (CRound m d r k) = scene s m r []
lent_to s (CJudge m log) = scene s m [] []
lent_to s (CSave form bytes) = scene s [] [] bytes
lent_to s (CLoad form bytes) = scene s [] [] []

-- what refuses a call: a look by 1 alone, the others by their operation's own grounds
abbrev pub call_grounds : Controller → Call → List (Ground ℕ)
call_grounds s CCheck = look_grounds s
call_grounds s CEntitled = look_grounds s
call_grounds s CStatus = look_grounds s
call_grounds s (CWrite r x) = write_grounds s r x
call_grounds s (CRead r) = read_grounds s r
call_grounds s (CPins p) = pins_grounds s p
call_grounds s (CWaits n) = waits_grounds s
call_grounds s CReset = reset_grounds s
call_grounds s CGrant = grant_grounds s
call_grounds s (CRun m d r limit eop) = run_grounds s m
call_grounds s (CRound m d r k) = round_grounds s m k
call_grounds s (CJudge m log) = run_grounds s m
call_grounds s (CSave form bytes) = sheet_write_grounds form s (length bytes)
call_grounds s (CLoad form bytes) = sheet_read_grounds form bytes

pub record CallRefuses (s : Spoken) (grounds : List (Ground ℕ)) (was : Scene) : Type 0 where
  -- The call says a number exactly when its ground is the first that holds;
  pub exactly : (n : ℕ) → ¬ (n ≡ 0) → (s.refusal ≡ n) ↔ First n grounds
  -- a refusal leaves chip, memory, room and sheet as they were;
  pub stays : ¬ (s.refusal ≡ 0) → s.leaves ≡ was
  -- and says its number only: all beside it is 0.
  pub only : ¬ (s.refusal ≡ 0) → All (λ (n : ℕ). n ≡ 0) s.beside

pub record Demand1OfCalls : Type 0 where
  pub calls : (s : Controller) (c : Call) → CallRefuses (does s c) (call_grounds s c) (lent_to s c)
  -- am9517_forward (to form 2) and am9517_back (to form 1) are lent no chip; whatever chip s there is stays, too.
  pub conversions : (s : Controller) (to : Form) (source target : List ℕ)
      → CallRefuses (saved_by s (save_of (convert_of to source target))) (convert_grounds (other to) to source (length target)) (scene s [] [] target)

pub record ChipsStayGood : Type 0 where
  -- A fresh chip is in its ranges exactly where its edition is one of the two;
  pub begins : (edition : ℕ) → valid (fresh (edition_byte edition)) ≡ leb edition 1
  -- an accepted call leaves one in its ranges, whatever chip it was lent,
  pub accepted : (s : Controller) (c : Call) → (does s c).refusal ≡ 0 → valid (does s c).leaves.controller ≡ true
  -- and a refused one leaves it as it was;
  pub refused : (s : Controller) (c : Call) → ¬ ((does s c).refusal ≡ 0) → (does s c).leaves.controller ≡ s
  -- so a chip in its ranges stays in them, whatever a call says,
  pub good : (s : Controller) (c : Call) → valid s ≡ true → valid (does s c).leaves.controller ≡ true
  -- and the next call is refused by its operation's own grounds, if at all: not by 1, nor, but for a save and a load, by a number over 8.
  pub next : (s : Controller) (c then : Call) → valid s ≡ true → ¬ ((does (does s c).leaves.controller then).refusal ≡ 1)
  pub small : (s : Controller) (c : Call)
      → ((form : Form) (bytes : List ℕ) → ¬ (c ≡ CSave form bytes))
      → ((form : Form) (bytes : List ℕ) → ¬ (c ≡ CLoad form bytes))
      → (does s c).refusal ≤ 8
  -- 1 is said of every chip that is out of its ranges, but by a load, which asks nothing of what it replaces;
  pub by_one : (s : Controller) (c : Call) → valid s ≡ false → ((form : Form) (bytes : List ℕ) → ¬ (c ≡ CLoad form bytes)) → (does s c).refusal ≡ 1
  pub load_never_by1 : (s : Controller) (form : Form) (bytes : List ℕ) → ¬ ((does s (CLoad form bytes)).refusal ≡ 1)
  -- A chip in its ranges is saved in form 2 into any bytes that have room;
  pub saved2 : (s : Controller) (bytes : List ℕ) → valid s ≡ true → 58 ≤ length bytes → (does s (CSave Two bytes)).refusal ≡ 0
  -- in form 1 an Am9517A without wait states is saved so, and any other chip in its ranges is refused by 15;
  pub saved : (s : Controller) (bytes : List ℕ) → valid s ≡ true → s.edition ≡ number_of Am9517A → s.waits ≡ 0 → 56 ≤ length bytes
      → (does s (CSave One bytes)).refusal ≡ 0
  pub unsaved : (s : Controller) (bytes : List ℕ) → valid s ≡ true → ¬ ((s.edition ≡ number_of Am9517A) × (s.waits ≡ 0)) → 56 ≤ length bytes
      → (does s (CSave One bytes)).refusal ≡ 15
  -- what was saved is loaded, whatever chip t it is loaded into, as it was. (Four channels are the type [Channel; 4].)
  pub loaded : (form : Form) (s t : Controller) (bytes : List ℕ)
      → length s.channels ≡ 4
      → (does s (CSave form bytes)).refusal ≡ 0
      → does t (CLoad form (does s (CSave form bytes)).leaves.slice) ≡ record { refusal = 0; beside = 0 ∷ []; leaves = scene s [] [] [] }

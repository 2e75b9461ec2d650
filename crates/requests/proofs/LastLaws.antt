-- Edition and wait states last: what every operation leaves of them.
use Prim.Native.Nat.{ℕ, zero, suc}
use mathlib.Core.Path.{◌≡◌, refl, ◌∙◌}
use mathlib.Core.Bool.{Bool, not}
use mathlib.Core.List.{List}
use lib.Dec.{eqb, ltb}
use lib.ListN.{drop}
use Rattle.words.specs.Grounds.{first}
use Rattle.am9517.specs.Answers.{outcome}
use Rattle.am9517.specs.Refusals.{refusal, waits_grounds}
use Rattle.am9517.specs.Registers.{port_written, mode_written, after_write, after_read}
use Rattle.am9517.specs.Serving.{picked, granted}
use Rattle.std.proofs.Common.{Option}
use Rattle.am9517.specs.declared.Controller.{Controller}
use Rattle.am9517_service.specs.World.{World, start_of, memory_to_memory, Stop}
use Rattle.am9517_service.specs.Transfer.{moved}
use Rattle.am9517_service.specs.Copy.{copied}
use Rattle.am9517_service.specs.Ends.{finished, after_tc_or_eop}
use Rattle.am9517_service.specs.Run.{transferred, run_of}
use Rattle.am9517_service.specs.Answers.{Given, stopped, run_grounds, ran_of}
use Rattle.am9517_service.specs.Round.{Course, beginning, run_next, with_run, after_next, is_ended, Close, round_of}
use Rattle.am9517_service.specs.RoundAnswers.{RoundGiven, closed, round_grounds, rounded_of}
use Rattle.am9517_sheet.specs.declared.forms.Form.{Form}
use Rattle.demands.specs.Operations.{Op, Write, Read, Pins, Reset, Waits, Grant, Run, Round, SheetWriting, SheetReading, Converting, next}
use Rattle.words.proofs.ChoiceLaws.{when_both}
use Rattle.am9517_service.proofs.KeepLaws.{run_ind}

-- t has the edition and the wait states of s
abbrev pub Lasts : Controller → Controller → Type 0
Lasts s t = (t.edition ≡ s.edition) × (t.waits ≡ s.waits)

pub lasts_then : (s t u : Controller) → Lasts s t → Lasts t u → Lasts s u
lasts_then s t u p q = (q.0 ∙ p.0, q.1 ∙ p.1)

-- a run
pub transfer_lasts : (w : World) (d : List ℕ) → Lasts w.controller (transferred w d).controller
unfolding transferred copied moved
transfer_lasts w d =
    when_both (λ (x : World). Lasts w.controller x.controller) (memory_to_memory w.controller) (refl, refl) (refl, refl)

met_lasts : (c : Controller) (tc met : Bool) → Lasts c (after_tc_or_eop c tc met)
unfolding after_tc_or_eop finished
met_lasts c tc met = when_both (Lasts c) (memory_to_memory c) (refl, refl) (refl, refl)

pub run_lasts : (left eop : ℕ) (d : List ℕ) (w : World) → Lasts w.controller (run_of left eop d w).world.controller
run_lasts left eop d w =
    run_ind (λ (k : ℕ) (x : World). Lasts c x.controller) (λ (s : Stop). Lasts c s.world.controller) eop d
    (λ k x p s. lasts_then c x.controller (transferred x d).controller p (transfer_lasts x d)) (λ k x e z p. p) (λ k x p. p) (λ k x tc met p. lasts_then c x.controller (after_tc_or_eop x.controller tc met) p (met_lasts x.controller tc met)) (λ k x p. p)
    left w (refl, refl)
  where
    c : Controller
    c = w.controller

-- a round
module _ (d : List ℕ) where
  pub next_lasts : (w : Course) → Lasts w.controller (after_next w d).controller
  unfolding run_next with_run granted
  next_lasts w = run_lasts 65536 0 _ (start_of (granted w.controller (picked w.controller)) w.memory (drop w.totals.written w.room))

  round_lasts : (left : ℕ) (w : Course) → Lasts w.controller (round_of left d w).course.controller
  unfolding round_of first
  round_lasts zero w = (refl, refl)
  round_lasts (suc left) w =
      let Kept : Close → Type 0 = λ k. Lasts w.controller k.course.controller in
      let on = next_lasts w in
      when_both Kept (eqb (picked w.controller) 4) (refl, refl)
      (when_both Kept (not (is_ended (run_next w d).reason)) on (lasts_then w.controller (after_next w d).controller (round_of left d (after_next w d)).course.controller on (round_lasts left (after_next w d))))

-- the operations
module _ (s : Controller) where
  outcome_lasts : (n : ℕ) (t : Controller) (a : Option ℕ) → Lasts s t → Lasts s (outcome n s t a).controller
  unfolding outcome
  outcome_lasts n t a h = when_both (Lasts s) (eqb n 0) h (refl, refl)

  write_lasts : (r b : ℕ) → Lasts s (after_write s r b)
  unfolding after_write first port_written mode_written
  write_lasts r b =
      when_both (Lasts s) (ltb r 8) (refl, refl)
      (when_both (Lasts s) (eqb r 8) (refl, refl)
      (when_both (Lasts s) (eqb r 9) (refl, refl)
      (when_both (Lasts s) (eqb r 0xA) (refl, refl)
      (when_both (Lasts s) (eqb r 0xB) (refl, refl)
      (when_both (Lasts s) (eqb r 0xC) (refl, refl)
      (when_both (Lasts s) (eqb r 0xD) (refl, refl)
      (when_both (Lasts s) (eqb r 0xE) (refl, refl) (when_both (Lasts s) (eqb r 0xF) (refl, refl) (refl, refl)))))))))

  read_lasts : (r : ℕ) → Lasts s (after_read s r)
  unfolding after_read first
  read_lasts r = when_both (Lasts s) (ltb r 8) (refl, refl) (when_both (Lasts s) (eqb r 8) (refl, refl) (refl, refl))

  grant_lasts : (n : ℕ) → Lasts s (granted s n)
  unfolding granted
  grant_lasts n = (refl, refl)

  ran_lasts : (m d r : List ℕ) (limit eop : ℕ) → Lasts s (ran_of s m d r limit eop).ran.controller
  unfolding ran_of stopped
  ran_lasts m d r limit eop =
      when_both (λ (g : Given). Lasts s g.ran.controller) (eqb (refusal (run_grounds s m)) 0) (run_lasts limit eop d (start_of s m r)) (refl, refl)

  rounded_lasts : (m d r : List ℕ) (k : ℕ) → Lasts s (rounded_of s m d r k).rounded.controller
  unfolding rounded_of closed
  rounded_lasts m d r k =
      when_both (λ (g : RoundGiven). Lasts s g.rounded.controller) (eqb (refusal (round_grounds s m k)) 0) (round_lasts d k (beginning s m r)) (refl, refl)

-- what each operation leaves as it was, of both: all but a call of `waits` and the reading of a sheet
abbrev Lasting : Controller → Op → Type 0
Lasting s (Write r b) = Lasts s (next s (Write r b))
Lasting s (Read r) = Lasts s (next s (Read r))
Lasting s (Pins p) = Lasts s (next s (Pins p))
Lasting s Reset = Lasts s (next s Reset)
Lasting s (Waits n) = Unit {0}
Lasting s Grant = Lasts s (next s Grant)
Lasting s (Run m d r limit eop) = Lasts s (next s (Run m d r limit eop))
Lasting s (Round m d r k) = Lasts s (next s (Round m d r k))
Lasting s (SheetWriting form out) = Lasts s (next s (SheetWriting form out))
Lasting s (SheetReading form bytes) = Unit {0}
Lasting s (Converting to source out) = Lasts s (next s (Converting to source out))

lasting : (s : Controller) (op : Op) → Lasting s op
lasting s (Write r b) = outcome_lasts s _ _ _ (write_lasts s r b)
lasting s (Read r) = outcome_lasts s _ _ _ (read_lasts s r)
lasting s (Pins p) = outcome_lasts s _ _ _ (refl, refl)
lasting s Reset = outcome_lasts s _ _ _ (refl, refl)
lasting s (Waits n) = tt
lasting s Grant = outcome_lasts s _ _ _ (grant_lasts s (picked s))
lasting s (Run m d r limit eop) = ran_lasts s m d r limit eop
lasting s (Round m d r k) = rounded_lasts s m d r k
lasting s (SheetWriting form out) = (refl, refl)
lasting s (SheetReading form bytes) = tt
lasting s (Converting to source out) = (refl, refl)

pub edition_kept : (s : Controller) (op : Op) → ((form : Form) (bytes : List ℕ) → ¬ (op ≡ SheetReading form bytes)) → (next s op).edition ≡ s.edition
unfolding outcome
edition_kept s (Write r b) h = (lasting s (Write r b)).0
edition_kept s (Read r) h = (lasting s (Read r)).0
edition_kept s (Pins p) h = (lasting s (Pins p)).0
edition_kept s Reset h = (lasting s Reset).0
edition_kept s (Waits n) h = when_both (λ (t : Controller). t.edition ≡ s.edition) (eqb (refusal (waits_grounds s)) 0) refl refl
edition_kept s Grant h = (lasting s Grant).0
edition_kept s (Run m d r limit eop) h = (lasting s (Run m d r limit eop)).0
edition_kept s (Round m d r k) h = (lasting s (Round m d r k)).0
edition_kept s (SheetWriting form out) h = (lasting s (SheetWriting form out)).0
edition_kept s (SheetReading form bytes) h = absurd (h form bytes refl)
edition_kept s (Converting to source out) h = (lasting s (Converting to source out)).0

pub waits_kept : (s : Controller) (op : Op) → ((n : ℕ) → ¬ (op ≡ Waits n)) → ((form : Form) (bytes : List ℕ) → ¬ (op ≡ SheetReading form bytes)) → (next s op).waits ≡ s.waits
waits_kept s (Write r b) g h = (lasting s (Write r b)).1
waits_kept s (Read r) g h = (lasting s (Read r)).1
waits_kept s (Pins p) g h = (lasting s (Pins p)).1
waits_kept s Reset g h = (lasting s Reset).1
waits_kept s (Waits n) g h = absurd (g n refl)
waits_kept s Grant g h = (lasting s Grant).1
waits_kept s (Run m d r limit eop) g h = (lasting s (Run m d r limit eop)).1
waits_kept s (Round m d r k) g h = (lasting s (Round m d r k)).1
waits_kept s (SheetWriting form out) g h = (lasting s (SheetWriting form out)).1
waits_kept s (SheetReading form bytes) g h = absurd (h form bytes refl)
waits_kept s (Converting to source out) g h = (lasting s (Converting to source out)).1

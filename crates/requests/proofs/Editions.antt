-- What an edition changes, and that nothing else is changed by it: operation by operation.
use Prim.Native.Nat.{ℕ, ◌<◌}
use mathlib.Core.Path.{◌≡◌, refl, sym, ap, ◌∙◌}
use mathlib.Core.Bool.{Bool, true, false, not, ◌&&◌}
use mathlib.Core.List.{List, [], ◌∷◌}
use native.Mathlib.Omega.{arith}
use lib.Dec.{eqb, ltb, leb}
use lib.ListN.{length}
use borrow.Author.Tests.{eqb-true, eqb-false, ne_eqb, le-leb, leb-true, leb-false}
use Rattle.words.specs.Choice.{when, ◌and◌}
use Rattle.words.specs.Grounds.{◌if◌, first}
use Rattle.am9517.specs.Fields.{put, Mask}
use Rattle.am9517.specs.Fields as fields
use Rattle.am9517.specs.Editions.{is_intel}
use Rattle.am9517.specs.State.{cleared}
use Rattle.am9517.specs.Modes.{mode_refused}
use Rattle.am9517.specs.Ranges.{mode_valid, modes_valid, fields_valid, service_valid, valid}
use Rattle.am9517.specs.Serving.{active, request_counts, requests, set_of, status, picked, granted}
use Rattle.am9517.specs.Registers.{port_written, mode_written, after_write, port_read, value, after_read}
use Rattle.am9517.specs.Refusals.{numbered, refused, refusal, idle, busy, unreadable, unwritable, write_grounds, read_grounds, pins_grounds, reset_grounds, waits_grounds, grant_grounds}
use Rattle.am9517.specs.Answers.{outcome, write_of}
use Rattle.am9517.specs.declared.Controller.{Controller}
use Rattle.am9517.specs.declared.Outcome.{Outcome}
use Rattle.am9517_service.specs.World.{start_of, Stop}
use Rattle.am9517_service.specs.Ends.{counting}
use Rattle.am9517_service.specs.Run.{run_of}
use Rattle.am9517_service.specs.Answers.{Given, given, stopped, refused_of, wrong_size, run_grounds, ran_of}
use Rattle.am9517_service.specs.RoundAnswers.{RoundGiven, round_given, closed, round_grounds, rounded_of}
use Rattle.am9517_service.specs.Round.{beginning, Close, close, round_of}
use Rattle.am9517_sheet.specs.declared.forms.Form.TheVariants.{Two}
use Rattle.am9517_sheet.specs.Body.{exceeds, state_of}
use Rattle.am9517_sheet.specs.Sheet.{answer_of, sheet_in, sheet_read_grounds}
use Rattle.demands.specs.Operations.{Op, Write, Read, Pins, Reset, Waits, Grant, Run, Round, SheetWriting, SheetReading, Converting, scene, after, ran_scene, round_scene}
use Rattle.requests.specs.Editions.{ours, intel, Told, RunTold, RoundTold, SheetTold, reply, MeetsEop, Shared, as_intel, SameInBoth, with_tc, EditionsDiffer}
use Rattle.words.proofs.ChoiceLaws.{when_over}
use Rattle.words.proofs.GroundLaws.{first_over}
use Rattle.am9517_service.proofs.AnswerLaws.{run_refused, run_accepted}
use Rattle.demands.proofs.Refusals.{refused_some}
use Rattle.demands.proofs.Sheets.{zero_written, other_refused}
use Rattle.requests.proofs.LastLaws.{edition_kept}
use Rattle.requests.proofs.EditionRunLaws.{marked, meets, in_stop, Ahead, not_yet, run_in}
use Rattle.requests.proofs.EditionRoundLaws.{in_close, picked_in, granted_in, round_in}
use Rattle.std.proofs.Common.{Option, Some, None, Ok, Err}

-- no range tells the two editions apart
valid_in : (s : Controller) → valid (intel s) ≡ valid (ours s)
unfolding ◌and◌ mode_valid modes_valid fields_valid service_valid valid
valid_in s = refl

-- Register accesses, pins, reset and grant.
module _ (s : Controller) where
  -- the same number, what is stored but for the edition, and the same answer make the same of both
  record Alike (o o' : Outcome) : Type 0 where
    says : o'.answer ≡ o.answer
    leaves : intel o'.controller ≡ intel o.controller

  alike : (n n' : ℕ) (t t' : Controller) (a a' : Option ℕ) → n' ≡ n → t' ≡ intel t → a' ≡ a → Alike (outcome n (ours s) t a) (outcome n' (intel s) t' a')
  unfolding outcome
  alike n n' t t' a a' en et ea =
      rw (en, et, ea) (record { says = refl; leaves = ap intel (when_over intel (eqb n 0) {a = t} {b = ours s} (λ e. refl) (λ e. refl)) })

  write_in : (r b : ℕ) → after_write (intel s) r b ≡ intel (after_write (ours s) r b)
  unfolding after_write port_written mode_written
  write_in r b = first_over intel _ (ours s) (after_write (ours s) r b) refl

  write_number : (r b : ℕ) → ¬ (r ≡ 0xE) → refusal (write_grounds (intel s) r b) ≡ refusal (write_grounds (ours s) r b)
  write_number r b h =
      let number : Bool → Bool → ℕ = λ v u. refusal (1 if not v ∷ 2 if ltb 15 r ∷ 3 if busy s ∷ 4 if u ∷ 5 if (eqb r 0xB && mode_refused b) ∷ []) in
      ap (λ (v : Bool). number v (unwritable 1 r)) (valid_in s) ∙ ap (number (valid (ours s))) (rw (ne_eqb r 0xE h))

  read_number : (r : ℕ) → refusal (read_grounds (intel s) r) ≡ refusal (read_grounds (ours s) r)
  read_number r = ap (λ (v : Bool). refusal (1 if not v ∷ 2 if ltb 15 r ∷ 3 if busy s ∷ 4 if unreadable r ∷ [])) (valid_in s)

  value_in : (r : ℕ) → value (intel s) r ≡ value (ours s) r
  unfolding value first port_read status set_of requests active request_counts
  value_in r = refl

  read_in : (r : ℕ) → after_read (intel s) r ≡ intel (after_read (ours s) r)
  unfolding after_read
  read_in r = first_over intel _ (ours s) (after_read (ours s) r) refl

  pins_number : (p : ℕ) → refusal (pins_grounds (intel s) p) ≡ refusal (pins_grounds (ours s) p)
  pins_number p = ap (λ (v : Bool). refusal (1 if not v ∷ 2 if ltb 15 p ∷ [])) (valid_in s)

  reset_number : refusal (reset_grounds (intel s)) ≡ refusal (reset_grounds (ours s))
  reset_number = ap (λ (v : Bool). refusal (1 if not v ∷ [])) (valid_in s)

  waits_number : refusal (waits_grounds (intel s)) ≡ refusal (waits_grounds (ours s))
  waits_number = ap (λ (v : Bool). refusal (1 if not v ∷ 3 if busy s ∷ [])) (valid_in s)

  same_pick : picked (intel s) ≡ picked (ours s)
  same_pick = picked_in 1 s ∙ sym (picked_in 0 s)

  grant_number : refusal (grant_grounds (intel s)) ≡ refusal (grant_grounds (ours s))
  grant_number =
      let number : Bool → ℕ → ℕ = λ v n. refusal (1 if not v ∷ 3 if busy s ∷ 6 if eqb n 4 ∷ []) in
      ap (λ (v : Bool). number v (picked (intel s))) (valid_in s) ∙ ap (number (valid (ours s))) same_pick

  grant_in : granted (intel s) (picked (intel s)) ≡ intel (granted (ours s) (picked (ours s)))
  grant_in = ap (granted (intel s)) same_pick ∙ granted_in 1 (ours s) (picked (ours s))

-- A run.
module _ (s : Controller) (m d r : List ℕ) (limit eop : ℕ) where
  run_number : refusal (run_grounds (intel s) m) ≡ refusal (run_grounds (ours s) m)
  run_number = ap (λ (v : Bool). refusal (1 if not v ∷ 7 if wrong_size m ∷ 8 if idle s ∷ [])) (valid_in s)

  -- what it gives, with the TC bit where EOP was met
  abbrev marked_given : Given → Given
  marked_given g =
      given (record { controller = marked (meets eop g.ran.counts.transfers) (counting s) g.ran.controller; answer = g.ran.answer; counts = g.ran.counts }) g.memory g.room

  ahead : Ahead eop 0
  ahead z = omega arith

  stopped_in : (x : Stop) → stopped (in_stop eop (counting s) x) ≡ marked_given (stopped x)
  unfolding stopped
  stopped_in x = refl

  refused_in_lem : (n : ℕ) → given (refused_of (intel s) n) m r ≡ marked_given (given (refused_of (ours s) n) m r)
  unfolding when
  refused_in_lem n = rw (not_yet eop 0 ahead)

  ran_in : ran_of (intel s) m d r limit eop ≡ marked_given (ran_of (ours s) m d r limit eop)
  ran_in = go (eqb n 0) refl
    where
      n : ℕ
      n = refusal (run_grounds (ours s) m)

      go : (t : Bool) → eqb n 0 ≡ t → ran_of (intel s) m d r limit eop ≡ marked_given (ran_of (ours s) m d r limit eop)
      go true e =
          let free : n ≡ 0 = eqb-true n 0 e in
          run_accepted (intel s) m d r limit eop (run_number ∙ free)
          ∙ ap stopped (run_in eop (counting s) d limit (start_of s m r) refl ahead)
          ∙ stopped_in (run_of limit eop d (start_of (ours s) m r))
          ∙ ap marked_given (sym (run_accepted (ours s) m d r limit eop free))
      go false e =
          let no = refused_some n (eqb-false n 0 e) in
          run_refused (intel s) m d r limit eop (numbered n) (ap refused run_number ∙ no) ∙ refused_in_lem n ∙ ap marked_given (sym (run_refused (ours s) m d r limit eop (numbered n) no))

  abbrev ran_transfers : ℕ
  ran_transfers = (ran_of (ours s) m d r limit eop).ran.counts.transfers

  not_met : ¬ MeetsEop (ours s) m d r limit eop → meets eop ran_transfers ≡ false
  not_met h = not_yet eop ran_transfers (λ z. go (leb eop ran_transfers) refl z)
    where
      go : (t : Bool) → leb eop ran_transfers ≡ t → ¬ (eop ≡ 0) → ran_transfers < eop
      go true e z = absurd (h (omega arith, leb-true eop ran_transfers e))
      go false e z = leb-false eop ran_transfers e

  run_says : reply (intel s) (Run m d r limit eop) ≡ reply (ours s) (Run m d r limit eop)
  run_says = ap (λ (g : Given). RunTold g.ran.answer g.ran.counts) ran_in

  run_leaves : (met : Bool) → meets eop ran_transfers ≡ met
      → after (intel s) (Run m d r limit eop) ≡ scene (marked met (counting s) (ran_of (ours s) m d r limit eop).ran.controller) (ran_of (ours s) m d r limit eop).memory (ran_of (ours s) m d r limit eop).room []
  run_leaves met e = ap ran_scene ran_in ∙ ap (λ (t : Bool). let g = ran_of (ours s) m d r limit eop in scene (marked t (counting s) g.ran.controller) g.memory g.room []) e

  run_shared : ¬ MeetsEop (ours s) m d r limit eop → SameInBoth s (Run m d r limit eop)
  unfolding when
  run_shared h = record { says = run_says; leaves = ap as_intel (run_leaves false (not_met h)) }

  run_met : MeetsEop (ours s) m d r limit eop
      → after (intel s) (Run m d r limit eop) ≡ with_tc (counting s) (as_intel (after (ours s) (Run m d r limit eop)))
  unfolding when
  run_met h = run_leaves true (rw (ne_eqb eop 0 (omega (arith, h.0)), le-leb eop ran_transfers h.1))

-- A round.
module _ (s : Controller) (m d r : List ℕ) (k : ℕ) where
  round_number : refusal (round_grounds (intel s) m k) ≡ refusal (round_grounds (ours s) m k)
  round_number = ap (λ (v : Bool). refusal (1 if not v ∷ 2 if ltb 4096 k ∷ 7 if wrong_size m ∷ 3 if busy s ∷ [])) (valid_in s)

  abbrev intel_given : RoundGiven → RoundGiven
  intel_given g =
      round_given (record { controller = intel g.rounded.controller; answer = g.rounded.answer; services = g.rounded.services; totals = g.rounded.totals }) g.memory g.room

  closed_in : (x : Close) → closed (in_close x) ≡ intel_given (closed x)
  unfolding closed
  closed_in x = refl

  rounded_in : rounded_of (intel s) m d r k ≡ intel_given (rounded_of (ours s) m d r k)
  unfolding rounded_of
  rounded_in =
      rw round_number
      (when_over intel_given (eqb (refusal (round_grounds (ours s) m k)) 0)
      (λ e. ap closed (round_in d k (beginning s m r)) ∙ closed_in (round_of k d (beginning (ours s) m r)))
      (λ e. closed_in (close (beginning (ours s) m r) (Err (numbered (refusal (round_grounds (ours s) m k)))))))

  round_shared : SameInBoth s (Round m d r k)
  round_shared =
      record {
        says = ap (λ (g : RoundGiven). RoundTold g.rounded.answer g.rounded.services g.rounded.totals) rounded_in;
        leaves = ap (λ (g : RoundGiven). as_intel (round_scene g)) rounded_in;
      }

-- What is shared, operation by operation.
accessed : (s : Controller) (o o' : Outcome) → Alike s o o' → Told o'.answer ≡ Told o.answer
accessed s o o' p = ap Told p.says

access_leaves : (s : Controller) (o o' : Outcome) → Alike s o o' → as_intel (scene o'.controller [] [] []) ≡ as_intel (scene o.controller [] [] [])
access_leaves s o o' p = ap (λ (c : Controller). scene c [] [] []) p.leaves

read_sheet_lem : (s told : Controller) (t : Bool) → intel (when t told (intel s)) ≡ intel (when t told (ours s))
unfolding when
read_sheet_lem s told true = refl
read_sheet_lem s told false = refl

shared : (s : Controller) (op : Op) → Shared s op → SameInBoth s op
shared s (Write r b) h =
    let p = alike s _ _ _ _ None None (write_number s r b h) (write_in s r b) refl in record { says = accessed s _ _ p; leaves = access_leaves s _ _ p }
shared s (Read r) h =
    let p = alike s _ _ _ _ (Some (value (ours s) r)) (Some (value (intel s) r)) (read_number s r) (read_in s r) (ap (λ (v : ℕ). Some v) (value_in s r)) in record { says = accessed s _ _ p; leaves = access_leaves s _ _ p }
shared s (Pins p) h =
    let q = alike s _ _ (put (ours s) fields.Pins p) (put (intel s) fields.Pins p) None None (pins_number s p) refl refl in record { says = accessed s _ _ q; leaves = access_leaves s _ _ q }
shared s Reset h =
    let p = alike s _ _ (cleared (ours s)) (cleared (intel s)) None None (reset_number s) refl refl in record { says = accessed s _ _ p; leaves = access_leaves s _ _ p }
shared s (Waits n) h =
    let p = alike s _ _ (put (ours s) fields.Waits n) (put (intel s) fields.Waits n) None None (waits_number s) refl refl in record { says = accessed s _ _ p; leaves = access_leaves s _ _ p }
shared s Grant h =
    let p = alike s _ _ _ _ (Some (picked (ours s))) (Some (picked (intel s))) (grant_number s) (grant_in s) (ap (λ (v : ℕ). Some v) (same_pick s)) in record { says = accessed s _ _ p; leaves = access_leaves s _ _ p }
shared s (Run m d r limit eop) h = run_shared s m d r limit eop h
shared s (Round m d r k) h = round_shared s m d r k
shared s (SheetWriting form out) h = absurd h
shared s (SheetReading form bytes) h = record { says = refl; leaves = ap (λ (c : Controller). scene c [] [] []) (read_sheet_lem s (state_of form (sheet_in form bytes)) (eqb (refusal (sheet_read_grounds form bytes)) 0)) }
shared s (Converting to source out) h = record { says = refl; leaves = refl }

-- a write of E to an idle state in its ranges: its number
e_number : (s : Controller) (b : ℕ) → valid s ≡ true → s.in_service ≡ 0 → refusal (write_grounds s 0xE b) ≡ when (not (is_intel s.edition)) 4 0
unfolding refusal first when
e_number s b v i =
    let number : Bool → ℕ → ℕ = λ v i. refusal (1 if not v ∷ 2 if ltb 15 0xE ∷ 3 if not (eqb i 0) ∷ 4 if unwritable s.edition 0xE ∷ 5 if (eqb 0xE 0xB && mode_refused b) ∷ []) in
    ap (λ (t : Bool). number t s.in_service) v ∙ ap (number true) i

register_e_lem : (s : Controller) (b : ℕ) → valid (intel s) ≡ true → s.in_service ≡ 0
    → (write_of (intel s) 0xE b ≡ record { controller = put (intel s) Mask 0; answer = Ok None }) × (write_of (ours s) 0xE b ≡ record { controller = ours s; answer = Err (numbered 4) })
unfolding outcome first when after_write
register_e_lem s b v i =
    (ap (λ (n : ℕ). outcome n (intel s) (after_write (intel s) 0xE b) None) (e_number (intel s) b v i), ap (λ (n : ℕ). outcome n (ours s) (after_write (ours s) 0xE b) None) (e_number (ours s) b (sym (valid_in s) ∙ v) i))

same_answer : (s : Controller) (out : List ℕ) → reply (intel s) (SheetWriting Two out) ≡ reply (ours s) (SheetWriting Two out)
unfolding exceeds
same_answer s out = ap (λ (v : Bool). SheetTold (answer_of (refusal (1 if not v ∷ 9 if ltb (length out) 58 ∷ 15 if false ∷ [])))) (valid_in s)

pub editions_differ : EditionsDiffer
editions_differ =
    record {
      shared = shared;
      kept = edition_kept;
      register_e = register_e_lem;
      met_eop = λ s m d r limit eop h. (run_says s m d r limit eop, run_met s m d r limit eop h);
      sheets = λ s out v w room. (other_refused (intel s) out v (λ e. omega (arith, e.0)) room, zero_written (ours s) out (sym (valid_in s) ∙ v) refl w room);
      sheets2 = same_answer;
    }

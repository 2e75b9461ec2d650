-- The theorems about the two forms of the sheet.
use Prim.Native.Nat.{ℕ, ◌+◌, ◌-◌, ◌≤◌, ◌<◌}
use mathlib.Core.Path.{◌≡◌, refl, sym, ap, ◌∙◌, subst}
use mathlib.Core.Bool.{Bool, true, false, ◌||◌}
use mathlib.Core.List.{List, [], ◌∷◌, ◌++◌}
use native.Mathlib.Omega.{arith}
use lib.Dec.{ltb}
use lib.ListN.{length, take}
use borrow.Author.Tests.{ltb-false, le-ltb}
use Rattle.words.specs.Choice.{when}
use Rattle.words.specs.Grounds.{first}
use Rattle.am9517.specs.Refusals.{refusal}
use Rattle.am9517.specs.declared.Controller.{Controller}
use Rattle.am9517_sheet.specs.Sheet.{SheetAnswer}
use Rattle.am9517_sheet.specs.declared.SheetRead.{SheetRead}
use Rattle.am9517_sheet.specs.declared.forms.Form.{Form}
use Rattle.am9517_sheet.specs.declared.forms.Form.TheVariants.{One, Two}
use Rattle.am9517_sheet.specs.Bytes.{word_bytes, total, last, OfBytes}
use Rattle.am9517_sheet.specs.Form.{other, sheet_size}
use Rattle.am9517_sheet.specs.Body.{body_of, exceeds, state_of}
use Rattle.am9517_sheet.specs.Sheet.{told_in, sheet_of, Stored, stored, sheet_write_of, sheet_faults, sheet_read_grounds, sheet_read_of}
use Rattle.am9517_sheet.specs.Convert.{convert_grounds, rewritten, convert_of}
use Rattle.c_am9517.specs.Host.{load_of}
use Rattle.demands.specs.Operations.{scene}
use Rattle.demands.specs.Calls.{CLoad, looked, left_by, does}
use Rattle.requests.specs.Forms.{changed_at, fault_at, SheetForms}
use Rattle.words.proofs.ChoiceLaws.{when_both, when_miss}
use Rattle.am9517_sheet.proofs.BytesLaws.{placed_end}
use Rattle.am9517_sheet.proofs.BodyLaws.{zero_within, other_exceeds}
use Rattle.am9517_sheet.proofs.SheetLaws.{grounds_said, none_refuses, sheet_length, write_done, write_room, read_done, read_refused, read_room, read_faults}
use Rattle.am9517_sheet.proofs.ConvertLaws.{convert_short, convert_fault, convert_free, convert_over, convert_done, convert_refused}
use Rattle.requests.proofs.ConvertTripLaws.{source_read, convert_writes, convert_told, convert_back}
use Rattle.requests.proofs.OtherFormLaws.{other_answers, other_refuses}
use Rattle.requests.proofs.ChangedLaws.{byte_changed}
use Rattle.std.proofs.Common.{Ok, Err}
use Rattle.am9517.specs.Refusals.{number_of, numbered}

-- a reader's answer and the number of its refusal
free_of : (form : Form) (t : Controller) (bytes : List ℕ) → (sheet_read_of form t bytes).answer ≡ Ok tt → refusal (sheet_read_grounds form bytes) ≡ 0
free_of form t bytes done = none_refuses _ done

state_of_lem : (form : Form) (t : Controller) (bytes : List ℕ) → (sheet_read_of form t bytes).answer ≡ Ok tt → (sheet_read_of form t bytes).controller ≡ told_in form bytes
state_of_lem form t bytes done = ap (λ (r : SheetRead). r.controller) (read_done form bytes t (free_of form t bytes done))

-- of two numbers that are not 0 neither is
abbrev Number : ℕ → Type 0
Number n = ¬ (n ≡ 0)

either : (t : Bool) (a b : ℕ) → Number a → Number b → Number (when t a b)
either t a b h g = when_both Number t h g

number : (n : ℕ) → 0 < n → Number n
number n h z = omega (arith, z)

fault_number : (form : Form) (i : ℕ) → Number (fault_at form i)
fault_number form i = either _ _ _ (number 13 (omega arith)) (either _ _ _ (number 11 (omega arith)) (either _ _ _ (number 12 (omega arith)) (either _ _ _ (number 13 (omega arith)) (number 10 (omega arith)))))

-- a slice that is too short, for a reader and beside another test
read_short : (form : Form) (bytes : List ℕ) → ltb (length bytes) (sheet_size form) ≡ true → refusal (sheet_read_grounds form bytes) ≡ 9
unfolding refusal first when
read_short form bytes e = rw e

short : (a b : Bool) → a ≡ true → a || b ≡ true
short a b e = rw e

-- a good sheet, to be converted
module _ (from to : Form) (t : Controller) (source target : List ℕ) (done : (sheet_read_of from t source).answer ≡ Ok tt) (room : sheet_size to ≤ length target) where
  abbrev here : sheet_size from ≤ length source
  here = read_room from source (free_of from t source done)

  abbrev fine : refusal (sheet_faults from source) ≡ 0
  fine = sym (read_faults from source here) ∙ free_of from t source done

  goes : exceeds to (told_in from source) ≡ false → (rewritten from to source target).answer ≡ Ok tt
  goes within = ap (λ (w : Stored). w.answer) (convert_done from to source target 0 (convert_free from to source (length target) here room fine within) refl)

  stops : exceeds to (told_in from source) ≡ true → rewritten from to source target ≡ stored (Err (numbered 15)) target
  stops over = convert_refused from to source target 15 (convert_over from to source (length target) here room fine over) (number 15 (omega arith))

forward : (t : Controller) (source target : List ℕ) → (sheet_read_of One t source).answer ≡ Ok tt → 58 ≤ length target → (convert_of Two source target).answer ≡ Ok tt
unfolding exceeds
forward t source target done room = goes One Two t source target done room refl

module _ (t : Controller) (source target : List ℕ) (done : (sheet_read_of Two t source).answer ≡ Ok tt) (room : 56 ≤ length target) where
  abbrev Zero : Controller → Type 0
  Zero s = (s.edition ≡ 0) × (s.waits ≡ 0)

  back : Zero (sheet_read_of Two t source).controller → (convert_of One source target).answer ≡ Ok tt
  back zero = let z = subst Zero (state_of_lem Two t source done) zero in goes Two One t source target done room (zero_within _ z.0 z.1)

  not_back_lem : ¬ Zero (sheet_read_of Two t source).controller → convert_of One source target ≡ stored (Err (numbered 15)) target
  not_back_lem set = stops Two One t source target done room (other_exceeds _ (λ z. set (subst Zero (sym (state_of_lem Two t source done)) z)))

module _ (to : Form) (t : Controller) (source target : List ℕ) (done : (convert_of to source target).answer ≡ Ok tt) where
  read : sheet_read_of (other to) t source ≡ record { controller = told_in (other to) source; answer = Ok tt }
  read = read_done (other to) source t (source_read (other to) to source target done)

  good : (sheet_read_of (other to) t source).answer ≡ Ok tt
  good = ap (λ (r : SheetRead). r.answer) read

  written : convert_of to source target ≡ sheet_write_of to (sheet_read_of (other to) t source).controller target
  written = convert_writes (other to) to source target done ∙ ap (λ (r : SheetRead). sheet_write_of to r.controller target) (sym read)

  told : (u : Controller) → sheet_read_of to u (convert_of to source target).bytes ≡ sheet_read_of (other to) t source
  told u = convert_told (other to) to source target done u ∙ sym read

same_bytes_lem : (to : Form) (source target again : List ℕ) → OfBytes source → (convert_of to source target).answer ≡ Ok tt → sheet_size (other to) ≤ length again
    → convert_of (other to) (convert_of to source target).bytes again ≡ stored (Ok tt) (take (length again - sheet_size (other to)) again ++ last (sheet_size (other to)) source)
same_bytes_lem One source target again byte done room = convert_back Two One source target done again byte room
same_bytes_lem Two source target again byte done room = convert_back One Two source target done again byte room

one_of_two_lem : (t u : Controller) (bytes : List ℕ) → (sheet_read_of Two t bytes).answer ≡ Ok tt → sheet_read_of One u bytes ≡ record { controller = u; answer = Err (numbered 11) }
one_of_two_lem t u bytes done =
    let free = free_of Two t bytes done in
    let room : 58 ≤ length bytes = read_room Two bytes free in
    read_refused One bytes u 11 (other_answers Two bytes free ∙ when_miss _ _ _ (le-ltb (length bytes) 56 (omega arith))) (number 11 (omega arith))

two_of_one_lem : (t u : Controller) (bytes : List ℕ) → (sheet_read_of One t bytes).answer ≡ Ok tt → sheet_read_of Two u bytes ≡ record { controller = u; answer = Err (numbered (when (ltb (length bytes) 58) 9 11)) }
two_of_one_lem t u bytes done = read_refused Two bytes u _ (other_answers One bytes (free_of One t bytes done)) (either _ 9 11 (number 9 (omega arith)) (number 11 (omega arith)))

numbered_back : (t : Bool) → number_of (numbered (when t 9 11)) ≡ when t 9 11
unfolding numbered when
numbered_back true = refl
numbered_back false = refl

never_misread_lem : (form : Form) (s t : Controller) (bytes : List ℕ) → (does s (CLoad form bytes)).refusal ≡ 0
    → does t (CLoad (other form) bytes) ≡ record { refusal = when (ltb (length bytes) (sheet_size (other form))) 9 11; beside = 0 ∷ []; leaves = scene t [] [] [] }
never_misread_lem form s t bytes loaded =
    let answered = other_answers form bytes (sym (grounds_said _ refl) ∙ loaded) in
    ap (λ (r : SheetRead). left_by (load_of r)) (read_refused (other form) bytes t _ answered (either _ 9 11 (number 9 (omega arith)) (number 11 (omega arith))))
    ∙ ap (λ (n : ℕ). looked t (record { refusal = n; value = 0 })) (numbered_back (ltb (length bytes) (sheet_size (other form))))

-- a sheet of form 2, byte by byte
laid_out_lem : (s : Controller) → sheet_of Two s ≡ s.edition ∷ s.waits ∷ body_of One s ++ (0x02 ∷ 0x00 ∷ 0x32 ∷ 0x00 ∷ word_bytes (s.edition + (s.waits + total (body_of One s))) ++ (0x44 ∷ 0x4D ∷ []))
unfolding body_of total
laid_out_lem s = refl

sized : (s : Controller) → (length (body_of One s) ≡ 48) × (length (sheet_of Two s) ≡ 58)
unfolding body_of
sized s = (refl, refl)

at_the_end_lem : (form : Form) (s : Controller) (out : List ℕ) → (sheet_write_of form s out).answer ≡ Ok tt
    → (sheet_write_of form s out).bytes ≡ take (length out - sheet_size form) out ++ sheet_of form s
at_the_end_lem form s out done =
    let free = none_refuses _ done in
    ap (λ (w : Stored). w.bytes) (write_done form s out free) ∙ placed_end out (sheet_of form s) (sheet_size form) (sheet_length form s) (write_room form s (length out) free)

-- "Old sheets convert with edition 0 and waits 0."
zero : (u : Controller) (source target : List ℕ) → (convert_of Two source target).answer ≡ Ok tt
    → ((sheet_read_of Two u (convert_of Two source target).bytes).controller.edition ≡ 0) × ((sheet_read_of Two u (convert_of Two source target).bytes).controller.waits ≡ 0)
unfolding state_of
zero u source target done =
    let told = convert_told One Two source target done u in (ap (λ (r : SheetRead). r.controller.edition) told, ap (λ (r : SheetRead). r.controller.waits) told)

-- what its reader refuses is not converted, and refused by the same number
module _ (from to : Form) (t : Controller) (source target : List ℕ) (room : sheet_size to ≤ length target) where
  same_number : ¬ (refusal (sheet_read_grounds from source) ≡ 0) → refusal (convert_grounds from to source (length target)) ≡ refusal (sheet_read_grounds from source)
  same_number h = go (ltb (length source) (sheet_size from)) refl
    where
      go : (b : Bool) → ltb (length source) (sheet_size from) ≡ b → refusal (convert_grounds from to source (length target)) ≡ refusal (sheet_read_grounds from source)
      go true e = convert_short from to source (length target) (short _ _ e) ∙ sym (read_short from source e)
      go false e =
          let here = ltb-false _ _ e in
          let faults = read_faults from source here in
          convert_fault from to source (length target) here room (λ z. h (faults ∙ z)) ∙ sym faults

  as_reader_lem : ¬ ((sheet_read_of from t source).answer ≡ Ok tt) → rewritten from to source target ≡ stored (sheet_read_of from t source).answer target
  as_reader_lem not =
      let h : ¬ (refusal (sheet_read_grounds from source) ≡ 0) = λ z. not (ap (λ (r : SheetRead). r.answer) (read_done from source t z)) in
      convert_refused from to source target _ (same_number h) h
      ∙ ap (λ (a : SheetAnswer). stored a target) (sym (ap (λ (r : SheetRead). r.answer) (read_refused from source t _ refl h)))

-- a good sheet of the form that is to be written is none of the other
never_converted_lem : (to : Form) (t : Controller) (source target : List ℕ) → (sheet_read_of to t source).answer ≡ Ok tt → sheet_size to ≤ length target
    → convert_of to source target ≡ stored (Err (numbered (when (ltb (length source) (sheet_size (other to))) 9 11))) target
never_converted_lem to t source target done room =
    let no = either _ 9 11 (number 9 (omega arith)) (number 11 (omega arith)) in
    let answered = other_answers to source (free_of to t source done) in
    convert_refused (other to) to source target _ (same_number (other to) to t source target room (λ z. no (sym answered ∙ z)) ∙ answered) no

pub sheet_forms_lem : SheetForms
sheet_forms_lem =
    record {
      laid_out = laid_out_lem;
      sized = sized;
      at_the_end = at_the_end_lem;
      forward = forward;
      zero = zero;
      back = back;
      not_back = not_back_lem;
      good = good;
      as_reader = λ to t source target. as_reader_lem (other to) to t source target;
      written = written;
      told = λ to t u source target done. told to t source target done u;
      same_bytes = same_bytes_lem;
      one_of_two = one_of_two_lem;
      two_of_one = two_of_one_lem;
      never_misread = never_misread_lem;
      never_converted = never_converted_lem;
      changed = λ form t u bytes i v done here other. read_refused form (changed_at form bytes i v) u (fault_at form i) (byte_changed form bytes i v (free_of form t bytes done) here other) (fault_number form i);
      changed_for_other = λ form t u bytes i v done accepted. other_refuses form bytes (free_of form t bytes done) (length bytes - sheet_size form + i) v (free_of (other form) u (changed_at form bytes i v) accepted);
    }

-- The theorems about sheets, from the crate of sheets.
use Prim.Native.Nat.{ℕ, ◌≤◌}
use mathlib.Core.Path.{◌≡◌, refl, ap}
use mathlib.Core.List.{List}
use native.Mathlib.Omega.{arith}
use mathlib.Core.Bool.{true}
use lib.ListN.{length}
use borrow.Author.Tests.{le-ltb}
use Rattle.words.specs.Choice.{when}
use Rattle.words.specs.Grounds.{first}
use Rattle.am9517.specs.Editions.{number_of}
use Rattle.am9517.specs.Ranges.{valid}
use Rattle.am9517.specs.declared.Edition.TheVariants.{Am9517A}
use Rattle.am9517.specs.declared.Controller.{Controller}
use Rattle.am9517.specs.Refusals.{refusal}
use Rattle.am9517_sheet.specs.declared.SheetRead.{SheetRead}
use Rattle.am9517_sheet.specs.Body.{exceeds, state_of}
use Rattle.am9517_sheet.specs.declared.forms.Form.TheVariants.{One, Two}
use Rattle.am9517_sheet.specs.Sheet.{Stored, stored, sheet_write_of, sheet_read_of}
use Rattle.demands.specs.Sheets.{RoundTrips}
use Rattle.am9517_sheet.proofs.SheetLaws.{none_refuses, write_done, write_free, read_done, put_refused}
use Rattle.am9517_sheet.proofs.BodyLaws.{zero_within, other_exceeds}
use Rattle.am9517_sheet.proofs.TripLaws.{written_read_lem, read_copied_lem, read_written_lem, fresh_sheet_lem}
use Rattle.std.proofs.Common.{Ok, Err}
use Rattle.am9517.specs.Refusals.{numbered}

pub full_written : (s : Controller) (out : List ℕ) → valid s ≡ true → 58 ≤ length out → (sheet_write_of Two s out).answer ≡ Ok tt
unfolding exceeds
full_written s out v room = ap (λ (w : Stored). w.answer) (write_done Two s out (write_free Two s (length out) v room refl))

pub zero_written : (s : Controller) (out : List ℕ) → valid s ≡ true → s.edition ≡ number_of Am9517A → s.waits ≡ 0 → 56 ≤ length out → (sheet_write_of One s out).answer ≡ Ok tt
zero_written s out v e w room = ap (λ (w : Stored). w.answer) (write_done One s out (write_free One s (length out) v room (zero_within s e w)))

pub other_refused : (s : Controller) (out : List ℕ) → valid s ≡ true → ¬ ((s.edition ≡ number_of Am9517A) × (s.waits ≡ 0)) → 56 ≤ length out → sheet_write_of One s out ≡ stored (Err (numbered 15)) out
unfolding refusal first when
other_refused s out v e room = put_refused _ One s out 15 (simp (v, le-ltb _ _ room, other_exceeds s e)) (λ z. omega arith)

read_edition_lem : (t : Controller) (bytes : List ℕ) → (sheet_read_of One t bytes).answer ≡ Ok tt → (sheet_read_of One t bytes).controller.edition ≡ number_of Am9517A
unfolding state_of
read_edition_lem t bytes done = ap (λ (r : SheetRead). r.controller.edition) (read_done One bytes t (none_refuses _ done))

read_waits_lem : (t : Controller) (bytes : List ℕ) → (sheet_read_of One t bytes).answer ≡ Ok tt → (sheet_read_of One t bytes).controller.waits ≡ 0
unfolding state_of
read_waits_lem t bytes done = ap (λ (r : SheetRead). r.controller.waits) (read_done One bytes t (none_refuses _ done))

pub round_trips : RoundTrips
round_trips =
    record {
      written2 = full_written;
      written = zero_written;
      no_place = other_refused;
      written_read = written_read_lem;
      read_copied = read_copied_lem;
      read_written = read_written_lem;
      read_edition = read_edition_lem;
      read_waits = read_waits_lem;
      fresh_sheet = fresh_sheet_lem;
    }

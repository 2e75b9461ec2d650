-- Laws of what the commands on sheets answer.
use Rattle.std.proofs.Common.{◌≡◌, ℕ, ◌/◌, Bool, true, false, List, length, Option, Some, None, refl, ap, ◌∙◌}
use lib.Dec.{leb}
use lib.ListN.{replicate}
use Rattle.words.specs.Choice.{when}
use Rattle.am9517_sheet.specs.Sheet.{SheetAnswer}
use Rattle.am9517_sheet.specs.Sheet.{Stored, stored}
use Rattle.console_text.specs.Hex.{is_bytes, bytes_in}
use Rattle.console_chip.specs.Answers.{bytes_answer, numbered}
use Rattle.console_chip.specs.Sheets.{bytes_within, sheet_said, stored_text}

-- a sheet stored, by writing or converting, into n bytes 0xEE
pub sheet_told : (stores : List ℕ → Stored) (n : ℕ) (filled written : List ℕ) (a : SheetAnswer) → filled ≡ replicate n 238 → stored a written ≡ stores filled
    → sheet_said a (bytes_answer written) ≡ stored_text stores n
unfolding stored_text
sheet_told stores n filled written a e w =
    ap (λ (x : Stored). sheet_said x.answer (bytes_answer x.bytes)) (w ∙ ap stores e)

-- by the bytes that digits say, if they have room: `told` has them
pub by_bytes : {A : Type 0} (spare : ℕ) (digits : List ℕ) (told : Option (List ℕ)) (f : List ℕ → A) (other : A) → told ≡ bytes_within spare digits
    → numbered told f other ≡ when (leb (length digits / 2) spare) (when (is_bytes digits) (f (bytes_in digits)) other) other
unfolding numbered bytes_within when
by_bytes {A} spare digits told f other e = rw e (go (leb (length digits / 2) spare) (is_bytes digits))
  where
    go : (x y : Bool) → numbered (when x (when y (Some (bytes_in digits)) None) None) f other ≡ when x (when y (f (bytes_in digits)) other) other
    go true true = refl
    go true false = refl
    go false y = refl

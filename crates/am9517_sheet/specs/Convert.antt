-- Document 02, A5, a sheet of one form written in the other: forward to form 2, and back to form 1.
use Rattle.std.specs.Prelude.{ℕ, ◌||◌, List, [], ◌∷◌, ◌++◌, ltb, length}
use Rattle.words.specs.Grounds.{Ground, ◌if◌}
use Rattle.am9517.specs.Refusals.{refusal}
use Rattle.am9517_sheet.specs.declared.forms.Form.{Form}
use Rattle.am9517_sheet.specs.Form.{other, sheet_size}
use Rattle.am9517_sheet.specs.Body.{exceeds}
use Rattle.am9517_sheet.specs.Sheet.{Stored, told_in, sheet_faults, put_unless}

-- "Either way the order is 9 (source or target too short), 10 to 14, then 15", into a slice of n bytes: "Converting back is allowed exactly when
-- both are 0, else refusal 15", edition and waits.
abbrev pub convert_grounds : Form → Form → List ℕ → ℕ → List (Ground ℕ)
convert_grounds from to source n =
    9 if (ltb (length source) (sheet_size from) || ltb n (sheet_size to)) ∷ (sheet_faults from source ++ (15 if exceeds to (told_in from source) ∷ []))

-- the sheet of the state that the source tells: "Old sheets convert with edition 0 and waits 0." Where it is refused, "target untouched"
abbrev pub rewritten : Form → Form → List ℕ → List ℕ → Stored
rewritten from to source out = put_unless (refusal (convert_grounds from to source (length out))) to (told_in from source) out

-- to this form, from the other
abbrev pub convert_of : Form → List ℕ → List ℕ → Stored
convert_of to source out = rewritten (other to) to source out

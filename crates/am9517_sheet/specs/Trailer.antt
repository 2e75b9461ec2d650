-- The eight bytes behind a body.
use Rattle.std.specs.Prelude.{ℕ, ◌+◌, not, List, [], ◌∷◌, ◌++◌, eqb, length, take}
use Rattle.words.specs.Bytes.{word_of}
use Rattle.words.specs.Grounds.{Ground, ◌if◌}
use Rattle.am9517_sheet.specs.declared.forms.Form.{Form}
use Rattle.am9517_sheet.specs.Bytes.{word_bytes, word, total}
use Rattle.am9517_sheet.specs.Form.{number, body_size}

-- "44h, 4Dh"
abbrev pub end_mark : ℕ
end_mark = word_of 0x44 0x4D

-- "Trailer, 8 bytes: 01, 00, distance back from trailer to body (30h, 00), sum of the body bytes (2 bytes), 44h, 4Dh"; document 02, A5:
-- "the trailer says form 2 and distance 50"
abbrev pub trailer_of : Form → List ℕ → List ℕ
trailer_of form body = word_bytes (number form) ++ word_bytes (length body) ++ word_bytes (total body) ++ word_bytes end_mark

-- a body, and its trailer behind it
abbrev pub with_trailer : Form → List ℕ → List ℕ
with_trailer form body = body ++ trailer_of form body

-- of a sheet: "Reading faults: 10 end mark; 11 first two trailer bytes; 12 distance; 13 sum"
abbrev pub trailer_grounds : Form → List ℕ → List (Ground ℕ)
trailer_grounds form sheet =
    let size = body_size form in
    10 if not (eqb (word sheet (size + 6)) end_mark)
    ∷ 11 if not (eqb (word sheet size) (number form))
    ∷ 12 if not (eqb (word sheet (size + 2)) size)
    ∷ 13 if not (eqb (word sheet (size + 4)) (total (take size sheet)))
    ∷ []

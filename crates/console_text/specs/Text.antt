-- Text as character codes, and a page that text is put on.
use Rattle.std.specs.Prelude.{ℕ, ◌+◌, Bool, true, false, ◌&&◌, List, [], ◌∷◌, ltb, eqb, length, set}
use Prim.Native.Char.{code}
use Prim.Native.String.{String, [] as none, ◌∷◌ as ◌then◌}
use Rattle.words.specs.Choice.{when}

-- the codes of a text
abbrev pub codes : String → List ℕ
codes none = []
codes (c then s) = code c ∷ codes s

-- two texts are the same
unfoldable pub same : List ℕ → List ℕ → Bool
same [] [] = true
same [] (y ∷ ys) = false
same (x ∷ xs) [] = false
same (x ∷ xs) (y ∷ ys) = eqb x y && same xs ys

-- A lent slice, and the place in it where the next byte goes.
pub record Page : Type 0 where
  pub bytes : List ℕ
  pub at : ℕ

abbrev pub page : List ℕ → ℕ → Page
page bs at = record { bytes = bs; at = at }

-- a byte that finds no room is left out
unfoldable pub put_byte : Page → ℕ → Page
put_byte p b = when (ltb p.at (length p.bytes)) (page (set p.bytes p.at b) (p.at + 1)) p

-- bytes put one behind the other
unfoldable pub put : Page → List ℕ → Page
put p [] = p
put p (b ∷ bs) = put (put_byte p b) bs

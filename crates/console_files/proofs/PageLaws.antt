-- What is put on a page stays within it.
use Rattle.std.proofs.Common.{ℕ, ◌+◌, ◌<◌, ◌≤◌, ◌≡◌, Bool, true, false, ltb, List, [], ◌∷◌, length, set, refl, sym, subst, arith}
use lib.ListN.{length-set}
use Rattle.std.proofs.lemmas.Bool.{ltb-true}
use Rattle.words.specs.Choice.{when}
use Rattle.console_text.specs.Text.{Page, page, put, put_byte}

abbrev IsWithin : Page → Type 0
IsWithin p = p.at ≤ length p.bytes

choice_within : (t : Bool) (p : Page) (b : ℕ) → ltb p.at (length p.bytes) ≡ t → IsWithin p → IsWithin (when t (page (set p.bytes p.at b) (p.at + 1)) p)
unfolding when
choice_within true p b e h =
    let l : p.at < length p.bytes = ltb-true p.at (length p.bytes) e in
    let n : length (set p.bytes p.at b) ≡ length p.bytes = length-set p.bytes p.at b in
    omega arith
choice_within false p b e h = h

byte_within : (p : Page) (b : ℕ) → IsWithin p → IsWithin (put_byte p b)
unfolding put_byte
byte_within p b h = choice_within (ltb p.at (length p.bytes)) p b refl h

within : (p : Page) (s : List ℕ) → IsWithin p → IsWithin (put p s)
unfolding put
within p [] h = h
within p (b ∷ s) h = within (put_byte p b) s (byte_within p b h)

pub put_within : (old new s : List ℕ) (at r : ℕ) → page new r ≡ put (page old at) s → at ≤ length old → r ≤ length new
put_within old new s at r e h = subst IsWithin (sym e) (within (page old at) s h)

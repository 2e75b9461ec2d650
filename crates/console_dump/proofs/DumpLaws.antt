-- Laws of rows.
use Prim.Native.Nat.{ℕ, suc, ◌+◌, ◌-◌, ◌*◌, ◌/◌, ◌≤◌, ◌<◌}
use mathlib.Core.Path.{◌≡◌, sym, ap, ◌∙◌}
use mathlib.Core.List.{List, ◌∷◌, ◌++◌}
use native.Mathlib.Omega.{arith}
use lib.ListN.{length, get_or, take, drop, length-drop}
use lib.Seq.{take_all, drop-drop}
use borrow.Author.Tests.{ne_eqb, le-leb}
use Rattle.words.specs.Choice.{when}
use Rattle.console_text.specs.Text.{codes, Page, put_byte, put}
use Rattle.console_text.proofs.TextLaws.{put_none, put_next, put_append, drop_next, drop_end}
use Rattle.console_dump.specs.Dump.{letter_of, letters, cell_text, cells, row_text, more_rows, dump_text, dump_at}

-- A turn of the loops over a row's bytes, and their ends.
module _ (p r : Page) (s : List ℕ) (i : ℕ) where
  letters_next : i < length s → letters (drop i s) ≡ letter_of (get_or s i 0) ∷ letters (drop (i + 1) s)
  unfolding letters
  letters_next h = rw (drop_next s i h)

  pub letters_turn : (q : Page) → i < length s → q ≡ put_byte p (letter_of (get_or s i 0)) → put p (letters (drop i s)) ≡ r → put q (letters (drop (i + 1) s)) ≡ r
  letters_turn q h e was = rw (e, ← (put_next p (letter_of (get_or s i 0)) (letters (drop (i + 1) s))), ← (letters_next h)) was

  pub letters_end : length s ≤ i → put p (letters (drop i s)) ≡ r → p ≡ r
  unfolding letters
  letters_end h was = sym (put_none p) ∙ rw (drop_end s i h) at was

  cells_next : i < length s → cells (drop i s) ≡ cell_text (get_or s i 0) ++ cells (drop (i + 1) s)
  unfolding cells
  cells_next h = rw (drop_next s i h)

  pub cells_turn : (q : Page) → i < length s → q ≡ put p (cell_text (get_or s i 0)) → put p (cells (drop i s)) ≡ r → put q (cells (drop (i + 1) s)) ≡ r
  cells_turn q h e was = rw (e, ← (put_append p (cell_text (get_or s i 0)) (cells (drop (i + 1) s))), ← (cells_next h)) was

  pub cells_end : length s ≤ i → put p (cells (drop i s)) ≡ r → p ≡ r
  unfolding cells
  cells_end h was = sym (put_none p) ∙ rw (drop_end s i h) at was

-- fewer than 16 bytes are left
pub last_row : (s : List ℕ) (from : ℕ) → length s - from ≤ 16 → take (length s - from) (drop from s) ≡ take 16 (drop from s)
last_row s from h =
    let size = length-drop from s in
    take_all (length s - from) (drop from s) (omega arith) ∙ sym (take_all 16 (drop from s) (omega arith))

-- A turn of the loop over rows, its end and its beginning: the first k are told.
module _ (p r : Page) (s : List ℕ) (a : ℕ) where
  pub rows_turn : (q t : Page) (rows k : ℕ) → k < rows → q ≡ put_byte p 10 → t ≡ put q (row_text (a + 16 * k) (take 16 (drop (16 * k) s)))
      → put p (more_rows (rows - k) (a + 16 * k) (drop (16 * k) s)) ≡ r
      → put t (more_rows (rows - (k + 1)) (a + 16 * (k + 1)) (drop (16 * (k + 1)) s)) ≡ r
  unfolding more_rows
  rows_turn q t rows k h d e was =
      let n = rows - (k + 1) in
      let i = 16 * k in
      let row = row_text (a + i) (take 16 (drop i s)) in
      let left : rows - k ≡ suc n = omega arith in
      let place : 16 * (k + 1) ≡ i + 16 = omega arith in
      let sum : a + (i + 16) ≡ a + i + 16 = omega arith in
      let told : t ≡ put p (10 ∷ row) = e ∙ ap (λ (x : Page). put x row) d ∙ sym (put_next p 10 row) in
      rw (told, place, sum, sym (drop-drop 16 i s))
      (sym (put_append p (10 ∷ row) (more_rows n (a + i + 16) (drop 16 (drop i s)))) ∙ rw left at was)

  pub rows_end : (rows k : ℕ) → rows ≤ k → put p (more_rows (rows - k) (a + 16 * k) (drop (16 * k) s)) ≡ r → p ≡ r
  unfolding more_rows
  rows_end rows k h was = let none : rows - k ≡ 0 = omega arith in sym (put_none p) ∙ rw none at was

  pub rows_begin : 1 ≤ length s → p ≡ put r (row_text a (take 16 (drop 0 s)))
      → put p (more_rows ((length s + 15) / 16 - 1) (a + 16) (drop 16 s)) ≡ put r (dump_text a s)
  unfolding dump_text when
  rows_begin h e =
      let some : length s ≡ 0 → ⊥ = λ z. omega arith in
      let more : (length s + 15) / 16 - 1 ≡ (length s - 1) / 16 = omega arith in
      rw (e, more, ne_eqb _ _ some) (sym (put_append r (row_text a (take 16 s)) (more_rows ((length s - 1) / 16) (a + 16) (drop 16 s))))

-- no bytes
pub dump_none : (array : List ℕ) (a n : ℕ) → a + n ≤ length array → n ≡ 0 → dump_at array a n ≡ codes "-"
unfolding dump_at dump_text when
dump_none array a n h e = rw (le-leb (a + n) (length array) h, e)

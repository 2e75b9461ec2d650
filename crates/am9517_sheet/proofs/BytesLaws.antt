-- Laws of sums, of pieces put into a list, and of words among bytes.
use Prim.Native.Nat.{ℕ, zero, suc, ◌+◌, ◌-◌, ◌≤◌, ◌<◌}
use mathlib.Core.Path.{◌≡◌, refl, sym, ap, ◌∙◌}
use mathlib.Core.Bool.{Bool, true, false}
use mathlib.Core.List.{List, [], ◌∷◌, ◌++◌, append_assoc, append-nil}
use native.Mathlib.Omega.{arith}
use native.Mathlib.Nat.{add-zero}
use lib.Dec.{eqb}
use lib.ListN.{length, get_or, set, take, drop, length-append, drop_of_length-le, take-append-drop}
use lib.Seq.{take_at, drop_at, drop-drop, drop-cons, take_all, take-length, length-take-le, take-append_seam, paste, length-paste, get_or-append-add, get_or-drop, get_or-set_same, get_or-set_other}
use borrow.Author.Tests.{eqb-true, eqb-false}
use Rattle.words.specs.Bytes.{word_of, low_byte, high_byte}
use Rattle.am9517_sheet.specs.Bytes.{word, total, placed, last}

pub total_append : (xs ys : List ℕ) → total (xs ++ ys) ≡ total xs + total ys
unfolding total
total_append [] ys = omega arith
total_append (x ∷ xs) ys = omega (arith, total_append xs ys)

pub placed_all : (d : List ℕ) (at : ℕ) (xs : List ℕ) → paste d at xs (length xs) ≡ placed d at xs
placed_all d at xs = ap (λ (l : List ℕ). take at d ++ l ++ drop (at + length xs) d) (take-length xs)

pub length_placed : (d : List ℕ) (at : ℕ) (xs : List ℕ) → at + length xs ≤ length d → length (placed d at xs) ≡ length d
length_placed d at xs h = ap length (sym (placed_all d at xs)) ∙ length-paste d at xs (length xs) h (omega arith)

pub placed_none : (d : List ℕ) (at : ℕ) → placed d at [] ≡ d
placed_none d at = rw (append-nil (take at d), add-zero at) (take-append-drop at d)

-- a piece put behind a piece is both put at once
pub placed_next : (d : List ℕ) (at : ℕ) (xs ys : List ℕ) → at + length xs + length ys ≤ length d
    → placed (placed d at xs) (at + length xs) ys ≡ placed d at (xs ++ ys)
placed_next d at xs ys h =
    let end = at + length xs in
    let rest = drop end d in
    let size : length (take at d ++ xs) ≡ end = omega (arith, length-append (take at d) xs, length-take-le at d (omega arith)) in
    let front : take end (placed d at xs) ≡ take at d ++ xs = take_at (take at d ++ xs) rest end size in
    let sums : end + length ys ≡ at + length (xs ++ ys) = omega (arith, length-append xs ys) in
    let back : drop (end + length ys) (placed d at xs) ≡ drop (at + length (xs ++ ys)) d =
    sym (drop-drop (length ys) end (placed d at xs))
    ∙ ap (drop (length ys)) (drop_at (take at d ++ xs) rest end size)
    ∙ drop-drop (length ys) end d
    ∙ ap (λ (k : ℕ). drop k d) sums in
    rw (front, back, append_assoc (take at d) xs ys)

-- the same of two stores
pub stored_next : (d one two xs ys : List ℕ) (at to : ℕ) → at + length xs + length ys ≤ length d
    → one ≡ placed d at xs → to ≡ at + length xs → two ≡ placed one to ys → two ≡ placed d at (xs ++ ys)
stored_next d one two xs ys at to h e1 ea e2 = rw (e2, e1, ea) (placed_next d at xs ys h)

-- a piece that was put stands there
pub placed_stands : (d one xs : List ℕ) (at n : ℕ) → at ≤ length d → length xs ≡ n → one ≡ placed d at xs → take n (drop at one) ≡ xs
placed_stands d one xs at n h size e =
    let rest = drop (at + length xs) d in
    let behind : drop at one ≡ xs ++ rest =
    ap (drop at) (e ∙ append_assoc (take at d) xs rest) ∙ drop_at (take at d) (xs ++ rest) at (length-take-le at d h) in
    ap (take n) behind ∙ ap (λ (k : ℕ). take k (xs ++ rest)) (sym size) ∙ take-append_seam xs rest

-- nothing stands behind a piece put at the end
module _ (d xs : List ℕ) (n : ℕ) (size : length xs ≡ n) (room : n ≤ length d) where
  pub placed_end : placed d (length d - n) xs ≡ take (length d - n) d ++ xs
  placed_end =
      let at = length d - n in
      let none : drop (at + length xs) d ≡ [] = drop_of_length-le d {i = at + length xs} (omega arith) in
      rw (none, append-nil (take at d ++ xs))

  -- and the end of the list is the piece
  pub last_placed : last n (placed d (length d - n) xs) ≡ xs
  last_placed =
      let at = length d - n in
      let ends : length (placed d at xs) - n ≡ at = omega (arith, length_placed d at xs (omega arith)) in
      rw (ends, placed_end) (drop_at (take at d) xs at (length-take-le at d (omega arith)))

-- A word and its two bytes.
pub word_whole : (w : ℕ) → word_of (low_byte w) (high_byte w) ≡ w
word_whole w = omega arith

pub word_low : (low high : ℕ) → low < 256 → low_byte (word_of low high) ≡ low
word_low low high h = omega arith

pub word_high : (low high : ℕ) → low < 256 → high_byte (word_of low high) ≡ high
word_high low high h = omega arith

-- a word behind xs
pub word_behind_lem : (xs ys : List ℕ) (k : ℕ) → word (xs ++ ys) (length xs + k) ≡ word ys k
word_behind_lem xs ys k =
    let e : length xs + k + 1 ≡ length xs + (k + 1) = omega arith in
    rw (e, get_or-append-add xs ys k 0, get_or-append-add xs ys (k + 1) 0)

pub word_drop : (xs : List ℕ) (n k : ℕ) → word (drop n xs) k ≡ word xs (n + k)
word_drop xs n k =
    let e : n + k + 1 ≡ n + (k + 1) = omega arith in
    rw (e, get_or-drop n xs k 0, get_or-drop n xs (k + 1) 0)

pub word_at_seam : (xs ys : List ℕ) → word (xs ++ ys) (length xs) ≡ word ys 0
word_at_seam xs ys = ap (word (xs ++ ys)) (sym (add-zero (length xs))) ∙ word_behind_lem xs ys 0

-- a word where the element at place i is another: as it was where it doesn't stand in the word, else not
pub word_kept : (xs : List ℕ) (i v w : ℕ) → ¬ (w ≡ i) → ¬ (w + 1 ≡ i) → word (set xs i v) w ≡ word xs w
word_kept xs i v w low high = rw (get_or-set_other xs i w v 0 low, get_or-set_other xs i (w + 1) v 0 high)

pub word_changed : (xs : List ℕ) (i v w : ℕ) → i < length xs → ¬ (v ≡ get_or xs i 0) → w ≤ i → i ≤ w + 1 → ¬ (word (set xs i v) w ≡ word xs w)
word_changed xs i v w h d from to same = go (eqb i w) refl
  where
    go : (t : Bool) → eqb i w ≡ t → ⊥
    go true e =
        let at = eqb-true i w e in
        d (omega (arith, same, get_or-set_same xs i v 0 h, ap (λ (n : ℕ). get_or (set xs i v) n 0) at, ap (λ (n : ℕ). get_or xs n 0) at, get_or-set_other xs i (w + 1) v 0 (λ z. omega (arith, z, at))))
    go false e =
        let at : i ≡ w + 1 = omega (arith, eqb-false i w e) in
        d (omega (arith, same, get_or-set_same xs i v 0 h, ap (λ (n : ℕ). get_or (set xs i v) n 0) at, ap (λ (n : ℕ). get_or xs n 0) at, get_or-set_other xs i w v 0 (λ z. omega (arith, z, at))))

-- n elements from place k on, one by one
abbrev pub cells : ℕ → ℕ → List ℕ → List ℕ
cells k zero xs = []
cells k (suc n) xs = get_or xs k 0 ∷ cells (suc k) n xs

part_cells : (n k : ℕ) (xs : List ℕ) → k + n ≤ length xs → take n (drop k xs) ≡ cells k n xs
part_cells zero k xs h = refl
part_cells (suc n) k xs h =
    ap (take (suc n)) (drop-cons xs k 0 (omega arith)) ∙ ap (λ (l : List ℕ). get_or xs k 0 ∷ l) (part_cells n (suc k) xs (omega arith))

pub first_cells : (n : ℕ) (xs : List ℕ) → n ≤ length xs → take n xs ≡ cells 0 n xs
first_cells n xs h = part_cells n 0 xs (omega arith)

pub all_cells : (n : ℕ) (xs : List ℕ) → length xs ≡ n → xs ≡ cells 0 n xs
all_cells n xs e = sym (take_all n xs (omega arith)) ∙ first_cells n xs (omega arith)

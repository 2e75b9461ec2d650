-- Laws of text put on a page.
use Prim.Native.Nat.{ℕ, zero, suc, ◌+◌, ◌-◌, ◌≤◌, ◌<◌}
use mathlib.Core.Path.{◌≡◌, refl, sym, ap, ◌∙◌}
use mathlib.Core.Bool.{Bool, ◌&&◌}
use mathlib.Core.List.{List, [], ◌∷◌, ◌++◌, append-nil}
use native.Mathlib.Omega.{arith}
use native.Mathlib.Numerals.{add-one}
use lib.ListN.{length, get_or, take, drop, set, replicate, length-set, drop_of_length-le}
use lib.Seq.{drop-cons, take-suc, sets, sets-eq, take-append_seam, take-length, paste}
use lib.Dec.{eqb}
use Rattle.std.specs.Prelude.{nat_eq}
use Rattle.std.specs.Cmp.Lexicographic.{pointwise}
use borrow.Rule.Slice.PartMut.{put_mid}
use Rattle.std.proofs.lemmas.Slice.{put_mid-paste}
use borrow.Author.Tests.{lt-ltb}
use Rattle.words.specs.Choice.{when}
use Rattle.console_text.specs.Text.{same, Page, page, put_byte, put}

pub put_none : (p : Page) → put p [] ≡ p
unfolding put
put_none p = refl

pub put_next : (p : Page) (b : ℕ) (bs : List ℕ) → put p (b ∷ bs) ≡ put (put_byte p b) bs
unfolding put
put_next p b bs = refl

pub put_one_lem : (p : Page) (b : ℕ) → put p (b ∷ []) ≡ put_byte p b
unfolding put
put_one_lem p b = refl

pub put_append : (p : Page) (xs ys : List ℕ) → put p (xs ++ ys) ≡ put (put p xs) ys
unfolding put
put_append p [] ys = refl
put_append p (x ∷ xs) ys = put_append (put_byte p x) xs ys

-- a text put behind a text is both put at once
pub put_both : (p m q : Page) (xs ys : List ℕ) → m ≡ put p xs → q ≡ put m ys → q ≡ put p (xs ++ ys)
put_both p m q xs ys d e = rw (put_append p xs ys, ← d) e

-- at the end of a text nothing is left to put
pub drop_end : (s : List ℕ) (i : ℕ) → length s ≤ i → drop i s ≡ []
drop_end s i h = drop_of_length-le s {i = i} h

-- the rest of a text is its next character and what is behind
pub drop_next : (s : List ℕ) (i : ℕ) → i < length s → drop i s ≡ get_or s i 0 ∷ drop (i + 1) s
drop_next s i h = rw (add-one i) (drop-cons s i 0 h)

-- where there is room all of the text stands on the page, one byte behind the other
put_sets : (bs xs : List ℕ) (at : ℕ) → at + length bs ≤ length xs → put (page xs at) bs ≡ page (sets xs at bs) (at + length bs)
unfolding put put_byte when
put_sets [] xs at h = let e : at + 0 ≡ at = omega arith in rw e
put_sets (b ∷ bs) xs at h =
    let l : length (set xs at b) ≡ length xs = length-set xs at b in
    let e : suc at + length bs ≡ at + suc (length bs) = omega arith in
    rw (lt-ltb at (length xs) (omega arith), add-one at, put_sets bs (set xs at b) (suc at) (omega arith), e)

pub put_room : (bs xs : List ℕ) (at : ℕ) → at + length bs ≤ length xs
    → put (page xs at) bs ≡ page (take at xs ++ bs ++ drop (at + length bs) xs) (at + length bs)
put_room bs xs at h = put_sets bs xs at h ∙ ap (λ (l : List ℕ). page l (at + length bs)) (sets-eq bs xs at h)

-- so one copy into a part of the slice puts a text that finds room
pub put_fitting : (bs xs ys : List ℕ) (at k n : ℕ) → ys ≡ bs → n ≡ k → n ≡ length bs → at ≤ length xs → n ≤ length xs - at
    → page (put_mid at k xs ys) (at + n) ≡ put (page xs at) bs
put_fitting bs xs ys at k n e same size h r =
    let fits : at + length bs ≤ length xs = omega (arith, size) in
    let full : put (page xs at) bs ≡ page (paste xs at bs n) (at + n) = put_room bs xs at fits ∙ rw (size, take-length bs) refl in
    ap (λ (l : List ℕ). page l (at + n)) (put_mid-paste at k xs ys bs n e same size) ∙ sym full

-- One character more of a text, and one copy more of a byte, are one byte more on the page.
pub put_more : (p : Page) (s : List ℕ) (i : ℕ) → i < length s → put p (take (i + 1) s) ≡ put_byte (put p (take i s)) (get_or s i 0)
put_more p s i h = rw (add-one i, take-suc s i 0 h, put_append p (take i s) (get_or s i 0 ∷ []), put_one_lem) refl

pub put_copy : (p : Page) (n b : ℕ) → put p (replicate (n + 1) b) ≡ put_byte (put p (replicate n b)) b
unfolding put
put_copy p zero b = refl
put_copy p (suc n) b = rw (add-one (suc n)) (rw (add-one n) at (put_copy (put_byte p b) n b))

-- Two texts are the same where `==` says so of their bytes.
pub same_is : (a b : List ℕ) → pointwise nat_eq a b ≡ same a b
unfolding same
same_is [] [] = refl
same_is [] (y ∷ ys) = refl
same_is (x ∷ xs) [] = refl
same_is (x ∷ xs) (y ∷ ys) = ap (λ (t : Bool). eqb x y && t) (same_is xs ys)

-- Bytes put at a slice's front stand there, and are the whole slice if they have its length.
module _ (bs xs ys : List ℕ) (r : ℕ) (e : page ys r ≡ put (page xs 0) bs) where
  pub stands_in_front : length bs ≤ length xs → take (length bs) ys ≡ bs
  stands_in_front h =
      let all : ys ≡ bs ++ drop (0 + length bs) xs = ap (λ (p : Page). p.bytes) (e ∙ put_room bs xs 0 (omega arith)) in
      rw all (take-append_seam bs (drop (0 + length bs) xs))

  pub stands_whole : length bs ≡ length xs → ys ≡ bs
  stands_whole h =
      let none : drop (0 + length bs) xs ≡ [] = drop_of_length-le xs {i = 0 + length bs} (omega arith) in
      let all : ys ≡ bs ++ drop (0 + length bs) xs = ap (λ (p : Page). p.bytes) (e ∙ put_room bs xs 0 (omega arith)) in
      all ∙ ap (λ (l : List ℕ). bs ++ l) none ∙ append-nil bs

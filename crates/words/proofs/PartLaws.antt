-- The tail of a slice that is lent on: what it is, and what the whole is when it is back.
use Prim.Native.Nat.{ℕ, ◌-◌}
use mathlib.Core.Path.{◌≡◌, sym, ap, ◌∙◌}
use mathlib.Core.List.{List, [], ◌++◌, append-nil}
use native.Mathlib.Omega.{arith}
use lib.ListN.{length, take, drop, length-drop}
use lib.Seq.{take_all, drop-length}
use borrow.Rule.Slice.PartMut.{put_mid}

-- `&s[a..]` is the list behind a
pub tail_all : (a : ℕ) (xs : List ℕ) → take (length xs - a) (drop a xs) ≡ drop a xs
tail_all a xs = take_all (length xs - a) (drop a xs) (rw length-drop (omega arith))

-- `&mut s[a..]`, come back as ys, leaves the front and then ys
pub put_tail : (a : ℕ) (xs ys : List ℕ) → put_mid a (length xs - a) xs ys ≡ take a xs ++ ys
put_tail a xs ys =
    let e : drop (length xs - a) (drop a xs) ≡ [] = ap (λ (k : ℕ). drop k (drop a xs)) (sym (length-drop a xs)) ∙ drop-length (drop a xs) in
    ap (λ (l : List ℕ). take a xs ++ (ys ++ l)) e ∙ ap (λ (l : List ℕ). take a xs ++ l) (append-nil ys)

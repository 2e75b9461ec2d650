-- Laws of the memory, the queue and the room.
use Prim.Native.Nat.{ℕ, ◌+◌, ◌-◌, ◌≤◌}
use mathlib.Core.Path.{◌≡◌, refl, sym, ap, ◌∙◌}
use mathlib.Core.Bool.{Bool, true, false}
use mathlib.Core.List.{List, ◌++◌}
use native.Mathlib.Omega.{arith}
use lib.Dec.{leb}
use lib.ListN.{length, take, drop, length-append, length-drop, take-append-drop}
use lib.Seq.{length-take-le, take_at, drop-append-le, paste, take-paste}
use borrow.Author.Tests.{leb-true, leb-false, le-leb, lt-leb}
use Rattle.words.specs.Choice.{when}
use Rattle.console_text.specs.Text.{Page, page, put}
use Rattle.console_chip.specs.Answers.{ok_text, error_text}
use Rattle.console_arrays.specs.Arrays.{shown, showing, held, appended, Grown}
use Rattle.console_text.proofs.TextLaws.{put_room}

-- Two ways to test that n more have room behind a.
sums_so : (a n size : ℕ) → a ≤ size → (t : Bool) → leb n (size - a) ≡ t → t ≡ leb (a + n) size
sums_so a n size h true e = let l = leb-true n (size - a) e in sym (le-leb (a + n) size (omega arith))
sums_so a n size h false e = let l = leb-false n (size - a) e in sym (lt-leb (a + n) size (omega arith))

pub sums : (a n size : ℕ) → a ≤ size → leb n (size - a) ≡ leb (a + n) size
sums a n size h = sums_so a n size h _ refl

-- bytes moved to the front
pub front_end : (q now : List ℕ) (from n : ℕ) → from + n ≤ length q → now ≡ paste q 0 (drop from q) n → take n now ≡ take n (drop from q)
front_end q now from n h e =
    let none : 0 + n ≡ n = omega arith in
    rw e (ap (λ (k : ℕ). take k (paste q 0 (drop from q) n)) (sym none) ∙ take-paste q 0 (drop from q) n (omega arith) (omega (arith, length-drop from q)))

-- what a queue holds, without what is behind it
pub held_front : (q : List ℕ) (from to : ℕ) → from ≤ to → to ≤ length q → drop from (take to q) ≡ held q from to
held_front q from to h l =
    let size = length-take-le to q l in
    let part : drop from q ≡ drop from (take to q) ++ drop to q =
    ap (drop from) (sym (take-append-drop to q)) ∙ drop-append-le from (take to q) (drop to q) (omega arith) in
    let long : length (drop from (take to q)) ≡ to - from = omega (arith, length-drop from (take to q)) in
    sym (ap (take (to - from)) part ∙ take_at (drop from (take to q)) (drop to q) (to - from) long)

pub held_length : (q : List ℕ) (from to : ℕ) → to ≤ length q → length (held q from to) ≡ to - from
held_length q from to l = length-take-le (to - from) (drop from q) (omega (arith, length-drop from q))

-- bytes put behind it are appended
pub held_put : (q bs ys : List ℕ) (from to r : ℕ) → from ≤ to → to + length bs ≤ length q → page ys r ≡ put (page q to) bs
    → held ys from (to + length bs) ≡ held q from to ++ bs
held_put q bs ys from to r h l e =
    let k = to + length bs in
    let front = take to q ++ bs in
    let all : ys ≡ front ++ drop k q = ap (λ (p : Page). p.bytes) (e ∙ put_room bs q to l) in
    let size : length (take to q) ≡ to = length-take-le to q (omega arith) in
    let whole : length front ≡ k = omega (arith, length-append (take to q) bs) in
    let long : length (drop from front) ≡ k - from = omega (arith, length-drop from front) in
    ap (λ (l : List ℕ). take (k - from) (drop from l)) all
    ∙ ap (take (k - from)) (drop-append-le from front (drop k q) (omega arith))
    ∙ take_at (drop from front) (drop k q) (k - from) long
    ∙ drop-append-le from (take to q) bs (omega arith)
    ∙ ap (λ (l : List ℕ). l ++ bs) (held_front q from to h (omega arith))

-- the queue behind an append, and one that had no place
module _ (q bs : List ℕ) (p out : Page) where
  pub append_done : (new : List ℕ) → leb (length q + length bs) 70000 ≡ true → new ≡ q ++ bs → out ≡ put p ok_text → shown new out ≡ showing p (appended q bs)
  unfolding appended when
  append_done new t e o = rw (t, e, o)

  pub append_not : leb (length q + length bs) 70000 ≡ false → out ≡ put p error_text → shown q out ≡ showing p (appended q bs)
  unfolding appended when
  append_not t o = rw (t, o)

-- The queue from `from` up to `to`, and n more bytes.
module _ (q bs : List ℕ) (from to n : ℕ) (p out : Page) (inside : to ≤ length q) (size : length bs ≡ n) where
  sum_test : leb (length (held q from to) + length bs) 70000 ≡ leb (to - from + n) 70000
  sum_test = let e : length (held q from to) + length bs ≡ to - from + n = omega (arith, held_length q from to inside) in ap (λ (k : ℕ). leb k 70000) e

  pub queue_full : leb (to - from + n) 70000 ≡ false → out ≡ put p error_text → shown (held q from to) out ≡ showing p (appended (held q from to) bs)
  queue_full t o = append_not (held q from to) bs p out (sum_test ∙ t) o

  pub queue_grown : (moved ys : List ℕ) (place start end r : ℕ) → leb (to - from + n) 70000 ≡ true → Grown place start end n moved (held q from to)
      → page ys r ≡ put (page moved place) bs → out ≡ put p ok_text → shown (held ys start end) out ≡ showing p (appended (held q from to) bs)
  queue_grown moved ys place start end r t g e o =
      let grown : held ys start (place + length bs) ≡ held moved start place ++ bs =
      held_put moved bs ys start place r g.behind (omega (arith, g.longer, g.inside)) e in
      let long : end ≡ place + length bs = omega (arith, g.longer) in
      append_done (held q from to) bs p out (held ys start end) (sum_test ∙ t)
      (ap (held ys start) long ∙ grown ∙ ap (λ (l : List ℕ). l ++ bs) g.kept) o

-- Laws of a service on what the console lends to it.
use Prim.Native.Nat.{ℕ, ◌+◌, ◌-◌, ◌≤◌}
use mathlib.Core.Path.{◌≡◌, refl, sym, ap, ◌∙◌}
use mathlib.Core.Bool.{Bool, true, false}
use mathlib.Core.List.{List, ◌++◌}
use native.Mathlib.Omega.{arith}
use lib.Dec.{ltb}
use lib.ListN.{length, take, drop, drop_of_length-le}
use lib.Seq.{length-take-le, take-append-add, take-append_seam, take-take, drop-drop}
use borrow.Author.Tests.{le-ltb, ltb-true, ltb-false}
use borrow.Rule.Slice.PartMut.{put_mid}
use Rattle.words.specs.Choice.{when}
use Rattle.am9517.specs.declared.Controller.{Controller}
use Rattle.board.specs.declared.Board.{Board}
use Rattle.console_text.specs.Text.{Page, page}
use Rattle.console_arrays.specs.Arrays.{held}
use Rattle.console_arrays.specs.Services.{Service, Seen, serving}
use Rattle.console_arrays.proofs.ArrayLaws.{held_front, held_length}
use Rattle.console_commands.specs.Holding.{Held, having, holds, Left, left, leaving}
use Rattle.console_commands.specs.Doings.{further, lent_to, serviced}
use Rattle.console_commands.specs.Needs.{Standing, after_service}
use Rattle.console_commands.specs.declared.Console.{Console}

-- bytes used leave the queue
used_left : (q : List ℕ) (from to n : ℕ) → from ≤ to → to ≤ length q → held q (further from n to) to ≡ drop n (held q from to)
unfolding further when
used_left q from to n h l = go (ltb (to - from) n) refl
  where
    go : (b : Bool) → ltb (to - from) n ≡ b → held q (further from n to) to ≡ drop n (held q from to)
    go true e =
        let more = ltb-true (to - from) n e in
        let none : to - to ≡ 0 = omega arith in
        rw (le-ltb to from h, e)
        (ap (λ (k : ℕ). take k (drop to q)) none ∙ sym (drop_of_length-le (held q from to) {i = n} (omega (arith, held_length q from to l))))
    go false e =
        let most = ltb-false (to - from) n e in
        rw (le-ltb to from h, e)
        (sym (held_front q (from + n) to (omega arith) l) ∙ sym (drop-drop n from (take to q)) ∙ ap (drop n) (held_front q from to h l))

-- a part in the middle, come back
room_back : (w size : ℕ) (room new : List ℕ) → w ≤ size → size ≤ length room → length new ≡ size - w
    → take size (put_mid w (size - w) room new) ≡ take w (take size room) ++ new
room_back w size room new h l e =
    let rest = drop (size - w) (drop w room) in
    let front : length (take w room) ≡ w = length-take-le w room (omega arith) in
    let sum : size ≡ length (take w room) + length new = omega arith in
    ap (λ (k : ℕ). take k (take w room ++ (new ++ rest))) sum
    ∙ take-append-add (take w room) (new ++ rest) (length new)
    ∙ ap (λ (x : List ℕ). take w room ++ x) (take-append_seam new rest)
    ∙ ap (λ (x : List ℕ). x ++ new) (sym (take-take w size room h))

-- A service of a controller or a board, by its parts of the arrays; `a` is what it is of, as it is next.
module _ (c : Console) (m q room : List ℕ) (s : Standing c (length m) (length q) (length room)) {A : Type 0} (controller : A → Controller) (board : A → Board) where
  module _ (asked : List ℕ → List ℕ → List ℕ → Service A) (p : Page) (a : A) (used written : ℕ) (m' room' out : List ℕ) (at : ℕ) where
    abbrev h : Held
    h = holds c m q room

    abbrev done : Service A
    done = lent_to h asked

    -- the arrays when these are back
    abbrev memory : List ℕ
    memory = put_mid 0 (c.lent - 0) m m'

    abbrev rest : List ℕ
    rest = put_mid c.written (c.size - c.written) room room'

    abbrev seen_of : Seen A
    seen_of = record { next = a; used = used; written = written; memory = m'; room = room'; page = page out at }

    module _ (e : seen_of ≡ serving p (asked (take (c.lent - 0) (drop 0 m)) h.queue (held room c.written c.size))) (l : length room' ≡ c.size - c.written) where
      -- what is seen of it is what it does to all that is held
      told : seen_of ≡ serving p done
      told =
          let none : c.lent - 0 ≡ c.lent = omega arith in
          e
          ∙ ap (λ (n : ℕ). serving p (asked (take n m) h.queue (held room c.written c.size))) none
          ∙ ap (λ (x : List ℕ). serving p (asked (take c.lent m) h.queue x)) (sym (held_front room c.written c.size s.roomed.ordered s.roomed.inside))

      abbrev seen : Seen A → Left
      seen x =
          record {
            holding =
                having (controller x.next) (board x.next)
                (x.memory ++ drop c.lent m)
                c.lent
                (drop x.used h.queue)
                (take c.written h.room ++ x.room)
                (further c.written x.written (length h.room));
            page = x.page;
          }

      abbrev after : Console
      after = after_service c (controller a) (board a) used written

      served_so : left (record { console = after; at = at }) memory q rest out ≡ leaving p (serviced h (controller done.next) (board done.next) done)
      served_so =
          let none : c.lent - 0 ≡ c.lent = omega arith in
          let whole : memory ≡ m' ++ drop c.lent m = ap (λ (n : ℕ). m' ++ drop n m) none in
          let queue = used_left q c.start c.end used s.queued.ordered s.queued.inside in
          let back = room_back c.written c.size room room' s.roomed.ordered s.roomed.inside l in
          let size : c.size ≡ length h.room = sym (length-take-le c.size room s.roomed.inside) in
          rw (whole, queue, back, ap (further c.written written) size) (ap seen told)

      pub service_so : (y : Console) → y ≡ after
          → left (record { console = y; at = at }) memory q rest out ≡ leaving p (serviced h (controller done.next) (board done.next) done)
      service_so y d = ap (λ (x : Console). record { holding = holds x memory q rest; page = page out at }) d ∙ served_so

-- What `gather` and `answer` promise is what a part of a script does.
use Prim.Native.Nat.{ℕ, suc, ◌+◌, ◌-◌, ◌≤◌, ◌<◌}
use mathlib.Core.Path.{◌≡◌, refl, sym, ap, ◌∙◌}
use mathlib.Core.Bool.{Bool, true, false}
use mathlib.Core.List.{List, [], ◌∷◌, ◌++◌}
use native.Mathlib.Omega.{arith}
use lib.Dec.{ltb, eqb}
use lib.ListN.{length, take, drop, length-append, length-set}
use lib.Seq.{length-take-le, take_at, drop-drop}
use borrow.Author.Tests.{lt-ltb, le-ltb, ltb-true, ltb-false}
use Rattle.words.specs.Choice.{when}
use Rattle.console_text.specs.Text.{Page, page, put_byte}
use Rattle.console_text.proofs.TextLaws.{put_one_lem, put_room}
use Rattle.console_session.specs.Script.{answer_of, Way, answering, keeping, going, part_does, gather_from, line_on, in_turn, GatherThenAnswer}

-- a byte put on the page is kept of the line
module _ (bytes : List ℕ) (at b : ℕ) (size : length bytes ≡ 200002) (inside : at ≤ 200002) where
  here : length (take at bytes) ≡ at
  here = length-take-le at bytes (omega arith)

  put_kept : (t : Bool) → ltb at 200002 ≡ t → keeping (take at bytes) b ≡ line_on (put_byte (page bytes at) b)
  unfolding keeping put_byte when
  put_kept true e =
      let room : at < 200002 = ltb-true _ _ e in
      let front = take at bytes ++ (b ∷ []) in
      let long : length front ≡ at + 1 = omega (arith, here, length-append (take at bytes) (b ∷ [])) in
      let told : put_byte (page bytes at) b ≡ page (front ++ drop (at + 1) bytes) (at + 1) = sym (put_one_lem (page bytes at) b) ∙ put_room (b ∷ []) bytes at (omega arith) in
      rw (lt-ltb (length (take at bytes)) 200002 (omega (arith, here))) (sym (ap line_on told ∙ take_at front (drop (at + 1) bytes) (at + 1) long))
  put_kept false e =
      let full : 200002 ≤ at = ltb-false _ _ e in
      rw (le-ltb (length (take at bytes)) 200002 (omega (arith, here)), le-ltb at (length bytes) (omega arith)) refl

  put_inside : (t : Bool) → ltb at 200002 ≡ t → (length (put_byte (page bytes at) b).bytes ≡ 200002) × ((put_byte (page bytes at) b).at ≤ 200002)
  unfolding put_byte when
  put_inside true e =
      let room : at < 200002 = ltb-true _ _ e in
      rw (lt-ltb at (length bytes) (omega arith)) (length-set bytes at b ∙ size, omega arith)
  put_inside false e =
      let full : 200002 ≤ at = ltb-false _ _ e in
      rw (le-ltb at (length bytes) (omega arith)) (size, inside)

-- no place is taken twice
byte_grows : (p : Page) (b : ℕ) (bs : List ℕ) (i : ℕ) → ((q : Page) (k : ℕ) → k ≤ (gather_from q bs k).taken) → (t : Bool) → eqb b 10 ≡ t
    → i + 1 ≤ (gather_from p (b ∷ bs) i).taken
unfolding gather_from when
byte_grows p b bs i on true e = rw e (omega arith)
byte_grows p b bs i on false e = rw e (on (put_byte p b) (i + 1))

taken_grows : (bs : List ℕ) (p : Page) (i : ℕ) → i ≤ (gather_from p bs i).taken
unfolding gather_from
taken_grows [] p i = omega arith
taken_grows (b ∷ bs) p i = omega (arith, byte_grows p b bs i (taken_grows bs) (eqb b 10) refl)

module _ (tells : ℕ → List ℕ) where
  abbrev Turns : List ℕ → Type 0
  Turns bs =
      (w : Way) (p : Page) (i : ℕ) → w.line ≡ line_on p → length p.bytes ≡ 200002 → p.at ≤ 200002
      → part_does tells w bs ≡ in_turn tells w (gather_from p bs i) (drop ((gather_from p bs i).taken - i) bs)

  -- with what stands on the page as the line
  abbrev lined : Way → List ℕ → Way
  lined w line = record { line = line; count = w.count; holding = w.holding; text = w.text }

  none_turns : Turns []
  unfolding part_does gather_from when
  none_turns w p i e s h = ap (lined w) e

  byte_turns : (b : ℕ) (bs : List ℕ) → Turns bs → (t : Bool) → eqb b 10 ≡ t → Turns (b ∷ bs)
  unfolding part_does gather_from when
  byte_turns b bs on true e w p i l s h =
      let one : i + 1 - i ≡ 1 = omega arith in
      rw (e, one) (ap (λ (x : List ℕ). part_does tells (answering (lined w x) (answer_of x true w.holding (tells w.count))) bs) l)
  byte_turns b bs on false e w p i l s h =
      let q = put_byte p b in
      let line : keeping w.line b ≡ line_on q = ap (λ (x : List ℕ). keeping x b) l ∙ put_kept p.bytes p.at b s h (ltb p.at 200002) refl in
      let stays = put_inside p.bytes p.at b s h (ltb p.at 200002) refl in
      let g = gather_from q bs (i + 1) in
      let next : g.taken - i ≡ suc (g.taken - (i + 1)) = omega (arith, taken_grows bs q (i + 1)) in
      rw (e, next) (on (going w b) q (i + 1) line stays.0 stays.1)

  part_turns : (bs : List ℕ) → Turns bs
  part_turns [] = none_turns
  part_turns (b ∷ bs) = byte_turns b bs (part_turns bs) (eqb b 10) refl

pub gather_then_answer : GatherThenAnswer
gather_then_answer tells w p part from l s h =
    let bs = drop from part in
    let g = gather_from p bs from in
    let sum : from + (g.taken - from) ≡ g.taken = omega (arith, taken_grows bs p from) in
    part_turns tells bs w p from l s h
    ∙ ap (in_turn tells w g) (drop-drop (g.taken - from) from part ∙ ap (λ (k : ℕ). drop k part) sum)

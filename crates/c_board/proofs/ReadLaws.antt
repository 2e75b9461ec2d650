-- A read, field by field: what it is refused by, what it tells, and that it changes no more than the TC bits and the flip-flop of one chip.
use Prim.Native.Nat.{ℕ, ◌<◌, ◌≤◌}
use mathlib.Core.Path.{◌≡◌, refl, sym, ap, ◌∙◌}
use mathlib.Core.Bool.{Bool, true, false, not, ◌&&◌}
use mathlib.Core.List.{List}
use native.Mathlib.Omega.{arith}
use lib.Dec.{ltb, eqb, leb}
use borrow.Author.Tests.{eqb-true, ne_eqb, lt-ltb, le-ltb, ltb-false}
use Rattle.words.specs.Choice.{when, ◌and◌}
use Rattle.words.specs.Grounds.{Ground, first}
use Rattle.words.specs.Bits.{bit}
use Rattle.am9517.specs.Ranges.{valid}
use Rattle.am9517.specs.Registers.{after_read, value}
use Rattle.am9517.specs.Refusals.{number_of, numbered, refused, refusal, busy, unreadable}
use Rattle.am9517.specs.declared.Controller.{Controller}
use Rattle.am9517.specs.declared.refusals.Refusal.{Refusal}
use Rattle.am9517.specs.declared.refusals.Refusal.TheVariants.{Register}
use Rattle.board.proofs.RefusalLaws as refusals
use Rattle.std.proofs.Common.{Some, None}
use Rattle.board.specs.declared.Board.{Board}
use Rattle.board.specs.declared.Chip.{Chip}
use Rattle.board.specs.declared.Chip.TheVariants.{First, Second}
use Rattle.board.specs.Chips.{chip, with_chip, addressed, own}
use Rattle.board.specs.Ranges.{both_serve, pair_valid, serves}
use Rattle.board.specs.Refusals.{access_grounds, board_read_grounds}
use Rattle.board.specs.Answers.{board_outcome, board_read_of}
use Rattle.c_told.specs.Numbers.{told}
use Rattle.c_board.specs.Host.{left, call_of, looked}
use Rattle.words.proofs.ChoiceLaws.{never}
use Rattle.words.proofs.GroundLaws.{passed}
use Rattle.board.proofs.OutcomeLaws.{pair, each, each_idle}

-- the last register of those below 8
past_three : (r : ℕ) → (r ≡ 0 → ⊥) → (r ≡ 1 → ⊥) → (r ≡ 2 → ⊥) → (r ≡ 3 → ⊥) → 4 ≤ r
past_three r n0 n1 n2 n3 = omega arith

from_four : (r : ℕ) → r < 8 → 4 ≤ r → (r ≡ 4 → ⊥) → (r ≡ 5 → ⊥) → (r ≡ 6 → ⊥) → r ≡ 7
from_four r h m n4 n5 n6 = omega arith

pub last_word : (r : ℕ) → r < 8 → (r ≡ 0 → ⊥) → (r ≡ 1 → ⊥) → (r ≡ 2 → ⊥) → (r ≡ 3 → ⊥) → (r ≡ 4 → ⊥) → (r ≡ 5 → ⊥) → (r ≡ 6 → ⊥) → r ≡ 7
last_word r h n0 n1 n2 n3 n4 n5 n6 = from_four r h (past_three r n0 n1 n2 n3) n4 n5 n6

-- what is left of one chip
pub flip_flop_kept : (c : Controller) (r : ℕ) → 8 ≤ r → c.flip_flop ≡ (after_read c r).flip_flop
unfolding after_read first when
flip_flop_kept c r h = go (eqb r 8) refl
  where
    go : (t : Bool) → eqb r 8 ≡ t → c.flip_flop ≡ (after_read c r).flip_flop
    go true e = simp (le-ltb _ _ h, e)
    go false e = simp (le-ltb _ _ h, e)

pub tc_left : (c : Controller) (r : ℕ) → when (eqb r 8) 0 c.tc ≡ (after_read c r).tc
unfolding after_read first when
tc_left c r = go (ltb r 8) (eqb r 8) refl refl
  where
    go : (l t : Bool) → ltb r 8 ≡ l → eqb r 8 ≡ t → when (eqb r 8) 0 c.tc ≡ (after_read c r).tc
    go true true el et = let eight : r ≡ 8 = eqb-true r 8 et in never (sym el ∙ ap (λ (k : ℕ). ltb k 8) eight)
    go true false el et = simp (el, et)
    go false true el et = simp (el, et)
    go false false el et = simp (el, et)

-- The grounds, in the order in which they are asked.
abbrev pub each_in : Bool → Bool → Board → Bool
each_in v w b = v && (w && leb b.granted_last 1)

one_out : (x y z s : Bool) → not (x && (y && z)) ≡ true → (x && (y && (z && not s))) ≡ false
one_out true true true s e = never (sym e)
one_out true true false s e = refl
one_out true false z s e = refl
one_out false y z s e = refl

all_in : (x y z s : Bool) → not (x && (y && z)) ≡ false → s ≡ false → (x && (y && (z && not s))) ≡ true
all_in true true true true e h = never h
all_in true true true false e h = refl
all_in true true false s e h = never e
all_in true false z s e h = never e
all_in false y z s e h = never e

two_serve : (x y z s : Bool) → s ≡ true → (x && (y && (z && not s))) ≡ false
two_serve true true true s e = rw e refl
two_serve true true false s e = refl
two_serve true false z s e = refl
two_serve false y z s e = refl

in_ranges : (b : Board) (v w : Bool) → v ≡ valid b.first → w ≡ valid b.second → not (each_in v w b) ≡ false → both_serve b ≡ false → pair_valid b ≡ true
unfolding pair_valid ◌and◌
in_ranges b v w ev ew e s = rw (sym ev, sym ew) (all_in v w (leb b.granted_last 1) (both_serve b) e s)

pub each_asked : (b : Board) (r : ℕ) (further : List (Ground ℕ)) (v w : Bool) → v ≡ valid b.first → w ≡ valid b.second → not (each_in v w b) ≡ true
    → 1 ≡ refusal (access_grounds b r further)
unfolding refusal first when pair_valid ◌and◌
each_asked b r further v w ev ew e =
    let no : pair_valid b ≡ false = rw (sym ev, sym ew) (one_out v w (leb b.granted_last 1) (both_serve b) e) in
    simp no

pub both_asked : (b : Board) (r : ℕ) (further : List (Ground ℕ)) → both_serve b ≡ true → 1 ≡ refusal (access_grounds b r further)
unfolding refusal first when pair_valid ◌and◌
both_asked b r further e =
    let no : pair_valid b ≡ false = two_serve (valid b.first) (valid b.second) (leb b.granted_last 1) (both_serve b) e in
    simp no

pub number_asked : (b : Board) (r : ℕ) (further : List (Ground ℕ)) (v w : Bool) → v ≡ valid b.first → w ≡ valid b.second → not (each_in v w b) ≡ false
    → both_serve b ≡ false → 31 < r → 2 ≡ refusal (access_grounds b r further)
unfolding refusal first when
number_asked b r further v w ev ew e s h = simp (in_ranges b v w ev ew e s, lt-ltb _ _ h)

pub service_asked : (b : Board) (r : ℕ) (further : List (Ground ℕ)) (v w : Bool) → v ≡ valid b.first → w ≡ valid b.second → not (each_in v w b) ≡ false
    → both_serve b ≡ false → r ≤ 31 → serves b ≡ true → 3 ≡ refusal (access_grounds b r further)
unfolding refusal first when
service_asked b r further v w ev ew e s h t = simp (in_ranges b v w ev ew e s, le-ltb _ _ h, t)

own_asked : (b : Board) (r : ℕ) → pair_valid b ≡ true → ltb 31 r ≡ false → serves b ≡ false → valid (chip b (addressed r)) ≡ true → ltb 15 (own r) ≡ false → busy (chip b (addressed r)) ≡ false
    → refusal (board_read_grounds b r) ≡ when (unreadable (own r)) 4 0
unfolding refusal first when
own_asked b r good few t c small i = simp (good, few, t, c, small, i)

pub register_asked : (b : Board) (r n : ℕ) (v w : Bool) → v ≡ valid b.first → w ≡ valid b.second → not (each_in v w b) ≡ false
    → both_serve b ≡ false → r ≤ 31 → serves b ≡ false → n ≡ when (unreadable (own r)) 4 0 → n ≡ refusal (board_read_grounds b r)
register_asked b r n v w ev ew e s h t en =
    let good : pair_valid b ≡ true = in_ranges b v w ev ew e s in
    let low : own r ≤ 15 = omega arith in
    en ∙ sym (own_asked b r good (le-ltb 31 r h) t (each b (pair b good) (addressed r)) (le-ltb 15 (own r) low) (each_idle b t (addressed r)))

pub register_refused : (t : Bool) → when t (Some Register) None ≡ refused (when t 4 0)
unfolding refused numbered when
register_refused true = refl
register_refused false = refl

-- What is told and left: refused, of the first, of the second.
pub read_refused : (b : Board) (r m : ℕ) (x : Refusal) → Some x ≡ refused (refusal (board_read_grounds b r)) → m ≡ number_of x → left b (told m 0) ≡ call_of (board_read_of b r)
unfolding board_outcome when
read_refused b r m x e em =
    let t = refusals.taken (refusal (board_read_grounds b r)) x (sym e) in
    rw (em, t.1) (simp (ne_eqb (refusal (board_read_grounds b r)) 0 t.0))

chip_looked : (b : Board) (w : Chip) (r : ℕ) (low eight : Bool) → ltb r 8 ≡ low → eqb r 8 ≡ eight
    → looked b (with_chip b w (after_read (chip b w) r)).first.tc (with_chip b w (after_read (chip b w) r)).first.flip_flop (with_chip b w (after_read (chip b w) r)).second.tc (with_chip b w (after_read (chip b w) r)).second.flip_flop
    ≡ with_chip b w (after_read (chip b w) r)
unfolding after_read first when
chip_looked b First r true e l h = rw l refl
chip_looked b First r false true l h = rw (l, h) refl
chip_looked b First r false false l h = rw (l, h) refl
chip_looked b Second r true e l h = rw l refl
chip_looked b Second r false true l h = rw (l, h) refl
chip_looked b Second r false false l h = rw (l, h) refl

taken : (b : Board) (r n : ℕ) (w : Chip) → n ≡ refusal (board_read_grounds b r) → n ≡ 0 → addressed r ≡ w
    → left (with_chip b w (after_read (chip b w) (own r))) (told 0 (value (chip b w) (own r))) ≡ call_of (board_read_of b r)
unfolding board_outcome when
taken b r n w e z ew = rw (← e, z, ew) refl

pub read_first : (b : Board) (r n t f v : ℕ) → n ≡ refusal (board_read_grounds b r) → n ≡ 0 → r < 16 → t ≡ (after_read b.first (own r)).tc → f ≡ (after_read b.first (own r)).flip_flop → v ≡ value b.first (own r)
    → left (looked b t f b.second.tc b.second.flip_flop) (told 0 v) ≡ call_of (board_read_of b r)
unfolding addressed when
read_first b r n t f v e z h et ef ev =
    let which : addressed r ≡ First = let i : bit r 4 ≡ 0 = omega arith in simp i in
    rw (et, ef, ev) (ap (λ (x : Board). left x (told 0 (value b.first (own r)))) (chip_looked b First (own r) (ltb (own r) 8) (eqb (own r) 8) refl refl)
    ∙ taken b r n First e z which)

few_numbers : (b : Board) (r n : ℕ) → n ≡ refusal (board_read_grounds b r) → n ≡ 0 → r ≤ 31
unfolding refusal first
few_numbers b r n e z =
    let good = passed _ _ _ (omega arith) (sym e ∙ z) in
    ltb-false 31 r (passed _ _ _ (omega arith) good.next).test

pub read_second : (b : Board) (r n t f v : ℕ) → n ≡ refusal (board_read_grounds b r) → n ≡ 0 → 16 ≤ r → t ≡ (after_read b.second (own r)).tc → f ≡ (after_read b.second (own r)).flip_flop → v ≡ value b.second (own r)
    → left (looked b b.first.tc b.first.flip_flop t f) (told 0 v) ≡ call_of (board_read_of b r)
unfolding addressed when
read_second b r n t f v e z h et ef ev =
    let most : r ≤ 31 = few_numbers b r n e z in
    let which : addressed r ≡ Second = let i : bit r 4 ≡ 1 = omega (arith, most) in simp i in
    rw (et, ef, ev) (ap (λ (x : Board). left x (told 0 (value b.second (own r)))) (chip_looked b Second (own r) (ltb (own r) 8) (eqb (own r) 8) refl refl)
    ∙ taken b r n Second e z which)

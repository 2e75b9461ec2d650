-- Who may be served, told of sets of four bits.
use Prim.Native.Nat.{ℕ, zero, suc, ◌+◌, ◌-◌, ◌*◌, ◌%◌, ◌^◌, ◌≤◌, ◌<◌, min, max}
use mathlib.Core.Path.{◌≡◌, refl, sym, ap, ap₂, ◌∙◌}
use mathlib.Core.Bool.{Bool, true, false, not, ◌&&◌, ◌||◌}
use mathlib.Core.List.{List, [], ◌∷◌}
use native.Mathlib.Omega.{arith}
use lib.Dec.{eqb}
use lib.Bits.{bit_and, bit_or, and_le_l, or_lt, and_zero_r, or_zero_r}
use borrow.Author.Tests.{eqb-true}
use Rattle.words.specs.Choice.{when}
use Rattle.words.specs.Grounds.{◌if◌, first}
use Rattle.words.specs.Bits.{bit}
use Rattle.words.proofs.ChoiceLaws.{when_both, when_le}
use Rattle.words.proofs.BitLaws.{bit_and_lem, bit_or_lem}
use Rattle.am9517.specs.Fields.{channel}
use Rattle.am9517.specs.Modes.{disabled, active_low, is_block}
use Rattle.am9517.specs.Serving.{active, request_counts, requests, entitled, set_of, last_asked, asked, entitled_set, picked_from, picked}
use Rattle.am9517.specs.ClosedSets.{lines_of, blocks_of, entitled_of}
use Rattle.am9517.specs.declared.Controller.{Controller}
use Rattle.am9517.proofs.RangeLaws.{below4}
use Rattle.am9517.proofs.ModeLaws.{every, every_told, same, same_told}
use Rattle.am9517.proofs.TableLaws.{entry, ruled, entry_told}

-- what a test weighs is 0 or its weight
weighs : (t : Bool) (w : ℕ) → when t w 0 ≡ w * when t 1 0
unfolding when
weighs true w = omega arith
weighs false w = omega arith

tells : (x : ℕ) (t : Bool) → x ≡ when t 1 0 → eqb x 1 ≡ t
unfolding when
tells x true e = rw e
tells x false e = rw e

module _ (f : ℕ → Bool) where
  -- the weights of its channels make a set
  weighed : set_of f ≡ when (f 0) 1 0 + 2 * when (f 1) 1 0 + 4 * when (f 2) 1 0 + 8 * when (f 3) 1 0
  unfolding set_of
  weighed = rw (weighs (f 1) 2, weighs (f 2) 4, weighs (f 3) 8)

  pub set_most : set_of f ≤ 15
  set_most = omega (arith, weighed, when_le (f 0) 1, when_le (f 1) 1, when_le (f 2) 1, when_le (f 3) 1)

  bit_of_set : (n : ℕ) → n < 4 → bit (set_of f) n ≡ when (f n) 1 0
  bit_of_set =
      below4 (λ (n : ℕ). bit (set_of f) n ≡ when (f n) 1 0)
      (omega (arith, weighed, when_le (f 0) 1))
      (omega (arith, weighed, when_le (f 0) 1, when_le (f 1) 1))
      (omega (arith, weighed, when_le (f 0) 1, when_le (f 1) 1, when_le (f 2) 1))
      (omega (arith, weighed, when_le (f 0) 1, when_le (f 1) 1, when_le (f 2) 1, when_le (f 3) 1))

  in_set : (n : ℕ) → n < 4 → eqb (bit (set_of f) n) 1 ≡ f n
  in_set n h = tells _ (f n) (bit_of_set n h)

own_bits : (x : ℕ) → x ≤ 15 → x ≡ bit x 0 + 2 * bit x 1 + 4 * bit x 2 + 8 * bit x 3
unfolding every
own_bits x h = eqb-true _ _ (every_told (λ (y : ℕ). eqb y (bit y 0 + 2 * bit y 1 + 4 * bit y 2 + 8 * bit y 3)) 16 x refl (omega arith))

-- a number of four bits is the set of those that are set
set_is : (x : ℕ) (f : ℕ → Bool) → x ≤ 15 → ((n : ℕ) → n < 4 → bit x n ≡ when (f n) 1 0) → x ≡ set_of f
set_is x f h e = omega (arith, own_bits x h, weighed f, e 0 (omega arith), e 1 (omega arith), e 2 (omega arith), e 3 (omega arith))

set_same : (f g : ℕ → Bool) → ((n : ℕ) → n < 4 → f n ≡ g n) → set_of f ≡ set_of g
unfolding set_of
set_same f g e = simp (e 0 (omega arith), e 1 (omega arith), e 2 (omega arith), e 3 (omega arith))

digit : (x : ℕ) → x < 2 → x ≡ when (eqb x 1) 1 0
unfolding when
digit zero h = refl
digit (suc zero) h = refl
digit (suc (suc x)) h = absurd (omega arith)

min_when : (p q : Bool) → min (when p 1 0) (when q 1 0) ≡ when (p && q) 1 0
unfolding when
min_when true true = refl
min_when true false = refl
min_when false true = refl
min_when false false = refl

max_when : (p q : Bool) → max (when p 1 0) (when q 1 0) ≡ when (p || q) 1 0
unfolding when
max_when true true = refl
max_when true false = refl
max_when false true = refl
max_when false false = refl

-- of a set, those whose bit in x is 1
and_set : (f : ℕ → Bool) (x : ℕ) → bit_and (set_of f) x ≡ set_of (λ n. f n && eqb (bit x n) 1)
and_set f x =
    set_is (bit_and (set_of f) x) (λ n. f n && eqb (bit x n) 1) (omega (arith, and_le_l (set_of f) x, set_most f))
    (λ n h. bit_and_lem (set_of f) x n ∙ ap₂ min (bit_of_set f n h) (digit (bit x n) (omega arith)) ∙ min_when (f n) (eqb (bit x n) 1))

or_set : (f g : ℕ → Bool) → bit_or (set_of f) (set_of g) ≡ set_of (λ n. f n || g n)
or_set f g =
    let most : bit_or (set_of f) (set_of g) < 2 ^ 4 = or_lt 4 (set_of f) (set_of g) (omega (arith, set_most f)) (omega (arith, set_most g)) in
    set_is (bit_or (set_of f) (set_of g)) (λ n. f n || g n) (omega arith)
    (λ n h. bit_or_lem (set_of f) (set_of g) n ∙ ap₂ max (bit_of_set f n h) (bit_of_set g n h) ∙ max_when (f n) (g n))

-- a bit of all but a byte
clear_bit : (m n : ℕ) → m ≤ 255 → n < 4 → eqb (bit (255 - m) n) 1 ≡ eqb (bit m n) 0
unfolding every same
clear_bit m n h =
    below4 (λ (k : ℕ). eqb (bit (255 - m) k) 1 ≡ eqb (bit m k) 0) (at 0 refl) (at 1 refl) (at 2 refl) (at 3 refl) n
  where
    right : ℕ → ℕ → Bool
    right k x = same (eqb (bit (255 - x) k) 1) (eqb (bit x k) 0)

    at : (k : ℕ) → every (right k) 256 ≡ true → eqb (bit (255 - m) k) 1 ≡ eqb (bit m k) 0
    at k e = same_told _ _ (every_told (right k) 256 m e (omega arith))

and_swap : (b r : Bool) → b && r ≡ r && b
and_swap true true = refl
and_swap true false = refl
and_swap false true = refl
and_swap false false = refl

-- what both sides ask, asked once
shared : (d a m b r : Bool) → (d && a) && m || (d && b) && r ≡ d && (a && m || r && b)
shared false a m b r = refl
shared true a m b r = ap (λ (t : Bool). a && m || t) (and_swap b r)

pub entitled_set_is : (c : Controller) → c.mask ≤ 255 → entitled_set c ≡ entitled_of (lines_of c) (blocks_of c) c.mask c.request
unfolding entitled_of lines_of blocks_of entitled request_counts
entitled_set_is c h =
    let d = not (disabled c.command) in
    let block : ℕ → Bool = λ n. is_block (channel c n).mode in
    sym (ap₂ bit_or (and_set (λ n. d && active c n) (255 - c.mask)) (and_set (λ n. d && block n) c.request) ∙ or_set _ _
    ∙ set_same _ _ (λ n l. rw (clear_bit c.mask n h l) (shared d (active c n) (eqb (bit c.mask n) 0) (block n) (eqb (bit c.request n) 1))))

-- the requesting channels, of those whose line is active and those whose mode is block
pub requests_set : (c : Controller) → bit_or (set_of (active c)) (bit_and (set_of (λ n. is_block (channel c n).mode)) c.request) ≡ set_of (requests c)
unfolding requests request_counts
requests_set c =
    let block : ℕ → Bool = λ n. is_block (channel c n).mode in
    ap (bit_or (set_of (active c))) (and_set block c.request) ∙ or_set (active c) _
    ∙ set_same _ _ (λ n l. ap (λ (t : Bool). active c n || t) (and_swap (block n) (eqb (bit c.request n) 1)))

-- where no request bit is set, they are those whose line is active
pub no_requests : (c : Controller) → c.request ≡ 0 → set_of (active c) ≡ set_of (requests c)
no_requests c e = sym (ap (bit_or (set_of (active c))) (rw e (and_zero_r (set_of (λ n. is_block (channel c n).mode)))) ∙ or_zero_r (set_of (active c))) ∙ requests_set c

-- the channels whose pin differs from y
pins_set : (p y : ℕ) → p ≤ 255 → y < 2 → set_of (λ n. not (eqb (bit p n) y)) ≡ when (eqb y 1) (15 - p % 16) (p % 16)
unfolding every set_of when
pins_set p zero h l = eqb-true _ _ (every_told (λ (x : ℕ). eqb (set_of (λ n. not (eqb (bit x n) 0))) (x % 16)) 256 p refl (omega arith))
pins_set p (suc zero) h l = eqb-true _ _ (every_told (λ (x : ℕ). eqb (set_of (λ n. not (eqb (bit x n) 1))) (15 - x % 16)) 256 p refl (omega arith))
pins_set p (suc (suc y)) h l = absurd (omega arith)

pub active_set_lem : (c : Controller) → c.pins ≤ 255 → when (active_low c.command) (15 - c.pins % 16) (c.pins % 16) ≡ set_of (active c)
unfolding active
active_set_lem c h = sym (pins_set c.pins (bit c.command 6) h (omega arith))

-- none where the controller is disabled
held_back : (d : Bool) (f : ℕ → Bool) → when d 0 (set_of f) ≡ set_of (λ n. not d && f n)
unfolding when set_of
held_back true f = refl
held_back false f = refl

pub lines_are : (c : Controller) → when (disabled c.command) 0 (set_of (active c)) ≡ lines_of c
unfolding lines_of
lines_are c = held_back (disabled c.command) (active c)

pub blocks_are : (c : Controller) → when (disabled c.command) 0 (set_of (λ n. is_block (channel c n).mode)) ≡ blocks_of c
unfolding blocks_of
blocks_are c = held_back (disabled c.command) (λ n. is_block (channel c n).mode)

-- only the channel's remainder and the four lowest bits of the set count
pub picked_from_rest : (l s : ℕ) → picked_from l s ≡ picked_from (l % 4) (s % 16)
unfolding picked_from
picked_from_rest l s =
    let a : (k : ℕ) → asked l k ≡ asked (l % 4) k = λ k. omega arith in
    let b : (n : ℕ) → n < 4 → bit s n ≡ bit (s % 16) n = below4 (λ (n : ℕ). bit s n ≡ bit (s % 16) n) (omega arith) (omega arith) (omega arith) (omega arith) in
    rw (a 0, a 1, a 2, a 3, b (asked (l % 4) 0) (omega arith), b (asked (l % 4) 1) (omega arith), b (asked (l % 4) 2) (omega arith), b (asked (l % 4) 3) (omega arith))

-- an entry of a table that is by the rule
pub picked_from_entry : (t : List (List ℕ)) (l s : ℕ) → ruled picked_from 4 16 t ≡ true → entry t (l % 4) (s % 16) ≡ picked_from l s
picked_from_entry t l s h = entry_told picked_from 4 16 t h (l % 4) (s % 16) (omega arith) (omega arith) ∙ sym (picked_from_rest l s)

pub picked_from_most : (l s : ℕ) → picked_from l s ≤ 4
unfolding picked_from first
picked_from_most l s =
    let P : ℕ → Type 0 = λ n. n ≤ 4 in
    when_both P _ (omega arith) (when_both P _ (omega arith) (when_both P _ (omega arith) (when_both P _ (omega arith) (omega arith))))

pub picked_most : (c : Controller) → picked c ≤ 4
unfolding picked
picked_most c = picked_from_most (last_asked c) (entitled_set c)

pub picked_asked :
    (c : Controller)
    → picked c
    ≡ first (
    asked (last_asked c) 0 if entitled c (asked (last_asked c) 0)
    ∷ asked (last_asked c) 1 if entitled c (asked (last_asked c) 1)
    ∷ asked (last_asked c) 2 if entitled c (asked (last_asked c) 2)
    ∷ asked (last_asked c) 3 if entitled c (asked (last_asked c) 3)
    ∷ []) 4
unfolding picked picked_from
picked_asked c =
    let e : (k : ℕ) → eqb (bit (entitled_set c) (asked (last_asked c) k)) 1 ≡ entitled c (asked (last_asked c) k) = λ k. in_set (entitled c) (asked (last_asked c) k) (omega arith) in
    rw (e 0, e 1, e 2, e 3)

pub lines_same : (c x : Controller) → x.command ≡ c.command → x.pins ≡ c.pins → lines_of x ≡ lines_of c
unfolding lines_of active
lines_same c x e p = rw (e, p)

pub blocks_same : (c x : Controller) → x.command ≡ c.command → ((i : ℕ) → (channel x i).mode ≡ (channel c i).mode) → blocks_of x ≡ blocks_of c
unfolding blocks_of
blocks_same c x e m = simp (e, m)

-- A transfer made alone, as the code computes it.
use Prim.Native.Nat.{ℕ, ◌+◌, ◌-◌, ◌<◌}
use mathlib.Core.Path.{◌≡◌, refl, sym, ap, ◌∙◌}
use mathlib.Core.Bool.{Bool, true, false, not, ◌&&◌}
use mathlib.Core.List.{List, ◌++◌}
use native.Mathlib.Omega.{arith}
use lib.Dec.{eqb}
use lib.ListN.{length, take, drop, take-append-drop}
use borrow.Author.Tests.{eqb-false, not-true}
use Rattle.words.specs.Choice.{when}
use Rattle.words.specs.Steps.{steps}
use Rattle.words.specs.Spans.{spread}
use Rattle.am9517.specs.Modes.{decrement, is_write, is_read, is_single}
use Rattle.am9517.specs.declared.Channel.{Channel}
use Rattle.am9517_service.specs.declared.Counts.{Counts}
use Rattle.am9517_service.specs.declared.bytes.Moved.{Moved}
use Rattle.am9517_service.specs.ClosedLegs.{address_after, stored, loaded}
use Rattle.am9517_service.specs.ClosedSpans.{stock_of}
use Rattle.am9517_service.specs.ClosedRounds.{made_alone}
use Rattle.words.proofs.ChoiceLaws.{when_miss, never}
use Rattle.std.proofs.Common.{Option, Some, None, is_some, unwrap_or}

both_left : (a b : Bool) → a && b ≡ true → a ≡ true
both_left true b e = refl
both_left false b e = e

both_right : (a b : Bool) → a && b ≡ true → b ≡ true
both_right true b e = e
both_right false b e = never (sym e)

some_left : (x : ℕ) → not (eqb x 0) ≡ true → 0 < x
some_left x h = let nz = eqb-false x 0 (not-true _ h) in omega arith

-- a byte or a place that a lone transfer found
found_by : (w r : Bool) (bytes space : ℕ) → when w (not (eqb bytes 0)) (when r (not (eqb space 0)) true) ≡ true → 0 < when w bytes (when r space 65536)
unfolding when
found_by true r bytes space h = some_left bytes h
found_by false true bytes space h = some_left space h
found_by false false bytes space h = omega arith

found_some : (ch : Channel) (may : Bool) (bytes space : ℕ) → made_alone may ch.mode bytes space ≡ true → 0 < stock_of ch bytes space
unfolding made_alone stock_of
found_some ch may bytes space e =
    found_by (is_write ch.mode) (is_read ch.mode) bytes space (both_right may (when (is_write ch.mode) (not (eqb bytes 0)) (when (is_read ch.mode) (not (eqb space 0)) true)) e)

may_be : (may : Bool) (mode bytes space : ℕ) → made_alone may mode bytes space ≡ true → may ≡ true
unfolding made_alone
may_be may mode bytes space e = both_left may (when (is_write mode) (not (eqb bytes 0)) (when (is_read mode) (not (eqb space 0)) true)) e

-- what a tail that came back leaves of the whole
tail_when : (b : Bool) (a : ℕ) (r x : List ℕ) → take a r ++ when b x (drop a r) ≡ when b (take a r ++ x) r
unfolding when
tail_when true a r x = refl
tail_when false a r x = take-append-drop a r

-- a lone transfer was made, and left this; or none was
some_made : (b : Bool) (a x : Moved) → when b (Some a) None ≡ Some x → (b ≡ true) × (a ≡ x)
unfolding when
some_made true a x h = (refl, ap (λ (o : Option Moved). unwrap_or o a) h)
some_made false a x h = never (sym (ap is_some h))

none_made : (b : Bool) (a : Moved) → ((x : Moved) → when b (Some a) None ≡ Some x → ⊥) → when b (Some a) None ≡ None
unfolding when
none_made true a h = absurd (h a refl)
none_made false a h = refl

-- what one of these counts leaves of them, in this mode
abbrev pub one_more : Counts → ℕ → Moved
one_more n mode = record { used = n.used + when (is_write mode) 1 0; written = n.written + when (is_read mode) 1 0 }

-- Channel q, whose record is ch, on counts so far.
module _ (ch : Channel) (q copier : ℕ) (n : Counts) (d m r : List ℕ) (count address : ℕ) (ec : count ≡ ch.count) (ea : address ≡ ch.address) (single : Bool) (es : single ≡ is_single ch.mode) (o : Option Moved) (m' r' : List ℕ)
    (eo : o ≡ when (made_alone (single && (not (eqb count 0) && not (eqb q copier))) ch.mode (length d - n.used) (length r - n.written)) (Some (one_more n ch.mode)) None)
    (em : m' ≡ when (is_some o && is_write ch.mode) (spread (steps 16 (decrement ch.mode) address) (λ (x : ℕ). x) (drop n.used d) m 1) m)
    (er : r' ≡ when (is_some o && is_read ch.mode) (take n.written r ++ spread (λ (x : ℕ). x) (steps 16 (decrement ch.mode) address) m (drop n.written r) 1) r) where
  -- none was made: all is as it was
  pub still_all : ((x : Moved) → o ≡ Some x → ⊥) → (m' ≡ m) × (r' ≡ r)
  still_all h =
      let e : o ≡ None = eo ∙ none_made _ _ (λ x k. h x (eo ∙ k)) in (
        em ∙ ap (λ (p : Option Moved). when (is_some p && is_write ch.mode) (spread (steps 16 (decrement ch.mode) address) (λ (x : ℕ). x) (drop n.used d) m 1) m) e ∙ when_miss _ _ _ refl,
        er ∙ ap (λ (p : Option Moved). when (is_some p && is_read ch.mode) (take n.written r ++ spread (λ (x : ℕ). x) (steps 16 (decrement ch.mode) address) m (drop n.written r) 1) r) e ∙ when_miss _ _ _ refl,
      )

  -- one was made: what that asked, and what it left
  module _ (x : Moved) (is : o ≡ Some x) where
    pub record Made : Type 0 where
      pub alone : is_single ch.mode ≡ true
      pub more : ch.count ≡ 0 → ⊥
      pub device : q ≡ copier → ⊥
      pub found : 0 < stock_of ch (length d - n.used) (length r - n.written)
      pub used : n.used + when (is_write ch.mode) 1 0 ≡ x.used
      pub written : n.written + when (is_read ch.mode) 1 0 ≡ x.written
      pub memory : stored ch (drop n.used d) m 1 ≡ m'
      pub room : take n.written r ++ loaded ch m (drop n.written r) 1 ≡ r'

    abbrev may : Bool
    may = single && (not (eqb count 0) && not (eqb q copier))

    told : (made_alone may ch.mode (length d - n.used) (length r - n.written) ≡ true) × (one_more n ch.mode ≡ x)
    told = some_made _ _ x (sym eo ∙ is)

    may_is : may ≡ true
    may_is = may_be may ch.mode _ _ told.0

    last_two : not (eqb count 0) && not (eqb q copier) ≡ true
    last_two = both_right single (not (eqb count 0) && not (eqb q copier)) may_is

    memory_is : stored ch (drop n.used d) m 1 ≡ m'
    unfolding address_after
    memory_is =
        ap (λ (a : ℕ). when (is_write ch.mode) (spread (steps 16 (decrement ch.mode) a) (λ (x : ℕ). x) (drop n.used d) m 1) m) (sym ea)
        ∙ ap (λ (p : Option Moved). when (is_some p && is_write ch.mode) (spread (steps 16 (decrement ch.mode) address) (λ (x : ℕ). x) (drop n.used d) m 1) m) (sym is) ∙ sym em

    room_is : take n.written r ++ loaded ch m (drop n.written r) 1 ≡ r'
    unfolding address_after
    room_is =
        tail_when (is_read ch.mode) n.written r (spread (λ (x : ℕ). x) (steps 16 (decrement ch.mode) ch.address) m (drop n.written r) 1)
        ∙ ap (λ (a : ℕ). when (is_read ch.mode) (take n.written r ++ spread (λ (x : ℕ). x) (steps 16 (decrement ch.mode) a) m (drop n.written r) 1) r) (sym ea)
        ∙ ap (λ (p : Option Moved). when (is_some p && is_read ch.mode) (take n.written r ++ spread (λ (x : ℕ). x) (steps 16 (decrement ch.mode) address) m (drop n.written r) 1) r) (sym is) ∙ sym er

    pub made_all : Made
    made_all =
        record {
          alone = sym es ∙ both_left single (not (eqb count 0) && not (eqb q copier)) may_is;
          more = λ z. eqb-false _ _ (not-true _ (both_left (not (eqb count 0)) (not (eqb q copier)) last_two)) (ec ∙ z);
          device = eqb-false _ _ (not-true _ (both_right (not (eqb count 0)) (not (eqb q copier)) last_two));
          found = found_some ch may (length d - n.used) (length r - n.written) told.0;
          used = ap (λ (y : Moved). y.used) told.1;
          written = ap (λ (y : Moved). y.written) told.1;
          memory = memory_is;
          room = room_is;
        }

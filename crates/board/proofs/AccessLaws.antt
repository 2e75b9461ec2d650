-- A register access asks of the board only what the controller that is addressed doesn't ask by itself: the other one, the arbiter, and the
-- register's number. Where they hold that controller's own answer is the board's.
use Prim.Native.Nat.{ℕ, ◌≤◌}
use mathlib.Core.Path.{◌≡◌, refl, sym, ap, subst, ◌∙◌}
use mathlib.Core.Bool.{Bool, true, false, ◌&&◌}
use mathlib.Core.List.{List, []}
use native.Mathlib.Omega.{arith}
use lib.Dec.{ltb, leb}
use borrow.Author.Tests.{leb-true, le-ltb}
use Rattle.words.specs.Choice.{when, ◌and◌}
use Rattle.words.specs.Grounds.{Ground, first}
use Rattle.am9517.specs.Ranges.{valid}
use Rattle.am9517.specs.Refusals.{refused, refusal, idle}
use Rattle.am9517.specs.Answers.{outcome}
use Rattle.am9517.specs.declared.Controller.{Controller}
use Rattle.am9517.specs.declared.Outcome.{Outcome}
use Rattle.am9517.specs.declared.refusals.Refusal.{Refusal}
use Rattle.board.specs.declared.Board.{Board}
use Rattle.board.specs.declared.Chip.{Chip}
use Rattle.board.specs.declared.Chip.TheVariants.{First, Second}
use Rattle.board.specs.declared.BoardOutcome.{BoardOutcome}
use Rattle.board.specs.Chips.{chip, with_chip, other, addressed, own}
use Rattle.board.specs.Ranges.{pair_valid}
use Rattle.board.specs.Refusals.{access_grounds}
use Rattle.board.specs.Answers.{board_outcome}
use Rattle.board.specs.Needs.{own_grounds, Accesses}
use Rattle.words.proofs.ChoiceLaws.{never}
use Rattle.board.proofs.OutcomeLaws.{refused_is, carries, access_refused, access_passed}
use Rattle.std.proofs.Common.{Option, Some, Err}

-- this controller is in its ranges, and idle
abbrev pub free : Controller → Bool
free c = valid c && idle c

-- what is asked of the board beside the controller that is addressed
abbrev pub asked : Bool → Board → ℕ → Bool
asked f b r = f && (leb b.granted_last 1 && leb r 31)

-- both of two that hold
two : (x y : Bool) → (x && y) ≡ true → (x ≡ true) × (y ≡ true)
two true true e = (refl, refl)
two true false e = never (sym e)
two false y e = never (sym e)

decides : (b : Board) (which : Chip) (r : ℕ) (rest : List (Ground ℕ)) → asked (free (chip b (other which))) b r ≡ true
    → refusal (own_grounds (chip b which) r rest) ≡ refusal (access_grounds b r (own_grounds (chip b which) r rest))
unfolding refusal first when pair_valid ◌and◌
decides b which r rest e =
    let o = two (free (chip b (other which))) _ e in
    let x = two (valid (chip b (other which))) (idle (chip b (other which))) o.0 in
    let y = two (leb b.granted_last 1) (leb r 31) o.1 in
    let few : ltb 31 r ≡ false = le-ltb 31 r (leb-true r 31 y.1) in
    let low : own r ≤ 15 = omega arith in
    let small : ltb 15 (own r) ≡ false = le-ltb _ _ low in
    go which x.0 x.1 y.0 few small (valid (chip b which)) (idle (chip b which)) refl refl
  where
    go : (w : Chip) → valid (chip b (other w)) ≡ true → idle (chip b (other w)) ≡ true → leb b.granted_last 1 ≡ true → ltb 31 r ≡ false → ltb 15 (own r) ≡ false
        → (v i : Bool) → valid (chip b w) ≡ v → idle (chip b w) ≡ i → refusal (own_grounds (chip b w) r rest) ≡ refusal (access_grounds b r (own_grounds (chip b w) r rest))
    go First ev ei el ef es true true hv hi = simp (ev, ei, el, ef, es, hv, hi)
    go First ev ei el ef es true false hv hi = simp (ev, ei, el, ef, es, hv, hi)
    go First ev ei el ef es false i hv hi = simp (ev, ei, el, ef, es, hv)
    go Second ev ei el ef es true true hv hi = simp (ev, ei, el, ef, es, hv, hi)
    go Second ev ei el ef es true false hv hi = simp (ev, ei, el, ef, es, hv, hi)
    go Second ev ei el ef es false i hv hi = simp (ev, ei, el, ef, es, hv)

-- so it is where the board refuses nothing
passes : (b : Board) (which : Chip) (r : ℕ) (rest : List (Ground ℕ)) → refusal (access_grounds b r []) ≡ 0
    → refusal (own_grounds (chip b which) r rest) ≡ refusal (access_grounds b r (own_grounds (chip b which) r rest))
passes b which r rest z = access_passed b r (own_grounds (chip b which) r rest) z

-- what goes on to the controller is as that says: f tells what was asked of the other, no what the board refused where that wasn't enough
accessed : (b : Board) (r : ℕ) (rest : Controller → List (Ground ℕ)) (next : Controller → Controller) (told : Controller → Option ℕ) (found : Chip) (f : Bool) (c : Controller) (o : Outcome) (x : BoardOutcome)
    → found ≡ addressed r → f ≡ free (chip b (other found)) → (asked f b r ≡ false → refusal (access_grounds b r []) ≡ 0) → c ≡ chip b found → o ≡ outcome (refusal (own_grounds c r (rest c))) c (next c) (told c)
    → x ≡ record { board = with_chip b found o.controller; answer = o.answer }
    → x ≡ board_outcome (refusal (access_grounds b r (own_grounds (chip b (addressed r)) r (rest (chip b (addressed r)))))) b (with_chip b (addressed r) (next (chip b (addressed r)))) (told (chip b (addressed r)))
accessed b r rest next told found f c o x ew ef ea ec eo ex =
    let there : f ≡ free (chip b (other (addressed r))) = ef ∙ ap (λ (w : Chip). free (chip b (other w))) ew in
    carries b (λ k. refusal (own_grounds k r (rest k))) next told _ (addressed r) found c o x (go (asked f b r) refl there) ew ec eo ex
  where
    go : (t : Bool) → asked f b r ≡ t → f ≡ free (chip b (other (addressed r)))
        → refusal (own_grounds (chip b (addressed r)) r (rest (chip b (addressed r)))) ≡ refusal (access_grounds b r (own_grounds (chip b (addressed r)) r (rest (chip b (addressed r)))))
    go true e there = decides b (addressed r) r (rest (chip b (addressed r))) (ap (λ (y : Bool). asked y b r) (sym there) ∙ e)
    go false e there = passes b (addressed r) r (rest (chip b (addressed r))) (ea e)

-- what is refused by the board stays so
unaccessed : (b : Board) (r : ℕ) (further : List (Ground ℕ)) (next : Board) (told : Option ℕ) (x : Refusal)
    → refused (refusal (access_grounds b r [])) ≡ Some x → record { board = b; answer = Err x } ≡ board_outcome (refusal (access_grounds b r further)) b next told
unaccessed b r further next told x e = refused_is _ b next told x (access_refused b r further x e)

-- the same of whatever the access gives
module _ (gives : Controller → Outcome → Type 0) (b : Board) (r : ℕ) (x : BoardOutcome) where
  pub accesses_on : (found : Chip) (f : Bool) (c : Controller) (o : Outcome) → found ≡ addressed r → f ≡ free (chip b (other found)) → (asked f b r ≡ false → refusal (access_grounds b r []) ≡ 0)
      → c ≡ chip b found → gives c o → x ≡ record { board = with_chip b found o.controller; answer = o.answer } → Accesses gives b r x
  accesses_on found f c o ew ef ea ec p ex = λ rest next told does.
      accessed b r rest next told found f (chip b (addressed r)) o x ew ef ea (ap (chip b) (sym ew)) (does o (subst (λ (k : Controller). gives k o) (ec ∙ ap (chip b) ew) p)) ex

  pub accesses_not : (y : Refusal) → refused (refusal (access_grounds b r [])) ≡ Some y → x ≡ record { board = b; answer = Err y } → Accesses gives b r x
  accesses_not y e ex = λ rest next told does. ex ∙ unaccessed b r _ _ _ y e

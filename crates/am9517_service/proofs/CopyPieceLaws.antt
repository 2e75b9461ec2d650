-- The bytes of memory-to-memory in pieces: up to where an address turns over, and from there on.
use Prim.Native.Nat.{ℕ, ◌+◌, ◌-◌, ◌≤◌, ◌<◌, min}
use mathlib.Core.Path.{◌≡◌, refl, sym, ap, ◌∙◌}
use mathlib.Core.Bool.{Bool, true, false}
use mathlib.Core.List.{List}
use native.Mathlib.Omega.{arith}
use lib.ListN.{length}
use Rattle.words.specs.Choice.{when}
use Rattle.words.specs.Steps.{steps}
use Rattle.words.specs.Spans.{place_of, reach_of, carried}
use Rattle.am9517.specs.Modes.{decrement}
use Rattle.am9517_service.specs.declared.copies.Route.{Route}
use Rattle.am9517_service.specs.ClosedLegs.{address_after}
use Rattle.am9517_service.specs.ClosedCopies.{carried_along, straight_of, farther}
use Rattle.am9517_service.specs.Needs.{Straight}
use Rattle.words.proofs.ChoiceLaws.{when_both, when_each, when_hit, when_miss, never}
use Rattle.words.proofs.StepLaws.{steps_on, steps_below}
use Rattle.words.proofs.SpanLaws.{reach_within, some_within, placed}
use Rattle.words.proofs.SpreadLaws.{length_carried, carried_same, carried_on}

-- A piece of a route: some bytes, no more than are left, and no address turns over.
pub record Piece (ρ : Route) (n k : ℕ) : Type 0 where
  pub some : 0 < n → 0 < k
  pub most : k ≤ n
  pub straight : Straight ρ k

pub piece : (ρ : Route) (n : ℕ) → ρ.source.address < 65536 → ρ.to < 65536 → Piece ρ n (straight_of ρ n)
unfolding straight_of
piece ρ n source target =
    let there = reach_of 65536 ρ.to_down ρ.to in
    let here = reach_of 65536 (decrement ρ.source.mode) ρ.source.address in
    when_each (Piece ρ n) ρ.hold
    (λ held. record {
      some = λ h. omega (arith, h, some_within 65536 ρ.to_down ρ.to target);
      most = omega arith;
      straight = record { target = reach_within 65536 ρ.to_down ρ.to (min n there) target (omega arith); source = λ e. never (sym held ∙ e) };
    })
    (λ steps. record {
      some = λ h. omega (arith, h, some_within 65536 ρ.to_down ρ.to target, some_within 65536 (decrement ρ.source.mode) ρ.source.address source);
      most = omega arith;
      straight = record {
        target = reach_within 65536 ρ.to_down ρ.to (min (min n there) here) target (omega arith);
        source = λ e. reach_within 65536 (decrement ρ.source.mode) ρ.source.address (min (min n there) here) source (omega arith);
      };
    })

-- its bytes, held or moved from place to place
module _ (ρ : Route) (m : List ℕ) (n : ℕ) (s : Straight ρ n) where
  pub held_bytes : ρ.hold ≡ true → (l : List ℕ) → l ≡ carried (place_of ρ.to_down ρ.to) (λ (j : ℕ). ρ.source.address) m n → l ≡ carried_along ρ m n
  unfolding carried_along address_after
  held_bytes hold l e =
      e ∙ carried_same _ _ _ _ m n (placed 16 ρ.to_down ρ.to n s.target) (λ j h. sym (when_hit _ _ _ hold))

  pub moved_bytes : ρ.hold ≡ false → (l : List ℕ) → l ≡ carried (place_of ρ.to_down ρ.to) (place_of (decrement ρ.source.mode) ρ.source.address) m n → l ≡ carried_along ρ m n
  unfolding carried_along address_after
  moved_bytes steps l e =
      e
      ∙ carried_same _ _ _ _ m n (placed 16 ρ.to_down ρ.to n s.target)
      (λ j h. placed 16 (decrement ρ.source.mode) ρ.source.address n (s.source steps) j h ∙ sym (when_miss _ _ _ steps))

-- the bytes behind a piece are those of the route farther on
held_on : (hold down : Bool) (a j i : ℕ) → when hold (when hold a (steps 16 down a j)) (steps 16 down (when hold a (steps 16 down a j)) i) ≡ when hold a (steps 16 down a (j + i))
unfolding when
held_on true down a j i = refl
held_on false down a j i = steps_on 16 down a j i

pub route_on : (ρ : Route) (m : List ℕ) (j k : ℕ) → carried_along (farther ρ j) (carried_along ρ m j) k ≡ carried_along ρ m (j + k)
unfolding carried_along address_after
route_on ρ m j k =
    carried_same _ _ _ _ _ k (λ i h. steps_on 16 ρ.to_down ρ.to j i) (λ i h. held_on ρ.hold (decrement ρ.source.mode) ρ.source.address j i)
    ∙ carried_on _ _ m j k

pub route_none : (ρ : Route) (m : List ℕ) → carried_along ρ m 0 ≡ m
unfolding carried_along carried
route_none ρ m = refl

pub route_length : (ρ : Route) (m : List ℕ) (n : ℕ) → length (carried_along ρ m n) ≡ length m
unfolding carried_along
route_length ρ m n = length_carried _ _ m n

-- What is left of a route gives what the whole does.
pub record Moving (ρ₀ : Route) (m₀ : List ℕ) (n : ℕ) (ρ : Route) (m : List ℕ) (left : ℕ) : Type 0 where
  pub same : carried_along ρ m left ≡ carried_along ρ₀ m₀ n
  pub size : length m ≡ 65536
  pub source : ρ.source.address < 65536
  pub target : ρ.to < 65536

pub moving_piece : {ρ₀ : Route} {m₀ : List ℕ} {n : ℕ} {ρ : Route} {m : List ℕ} {left : ℕ} (k : ℕ) → Moving ρ₀ m₀ n ρ m left → k ≡ straight_of ρ left → Piece ρ left k
moving_piece k g e = rw e (piece _ _ g.source g.target)

-- a route farther on is a good one, and none is needed where nothing is left
pub moving_on : (ρ₀ : Route) (m₀ : List ℕ) (n : ℕ) (ρ : Route) (m : List ℕ) (left k : ℕ) (m' : List ℕ) (ρ' : Route)
    → Moving ρ₀ m₀ n ρ m left → k ≤ left → m' ≡ carried_along ρ m k → ρ' ≡ farther ρ k → Moving ρ₀ m₀ n ρ' m' (left - k)
unfolding address_after
moving_on ρ₀ m₀ n ρ m left k m' ρ' g h em eρ =
    let sum : k + (left - k) ≡ left = omega arith in
    rw (em, eρ)
    (record {
      same = route_on ρ m k (left - k) ∙ ap (carried_along ρ m) sum ∙ g.same;
      size = route_length ρ m k ∙ g.size;
      source = when_both (λ (x : ℕ). x < 65536) ρ.hold g.source (steps_below 16 (decrement ρ.source.mode) ρ.source.address k);
      target = steps_below 16 ρ.to_down ρ.to k;
    })

pub moving_over : (ρ₀ : Route) (m₀ : List ℕ) (n : ℕ) (ρ : Route) (m : List ℕ) (left k : ℕ) (m' : List ℕ)
    → Moving ρ₀ m₀ n ρ m left → k ≤ left → m' ≡ carried_along ρ m k → left - k ≡ 0 → Moving ρ₀ m₀ n ρ m' (left - k)
moving_over ρ₀ m₀ n ρ m left k m' g h em z =
    let all : k ≡ left = omega arith in
    rw em
    (record {
      same = ap (carried_along ρ (carried_along ρ m k)) z ∙ route_none ρ (carried_along ρ m k) ∙ ap (carried_along ρ m) all ∙ g.same;
      size = route_length ρ m k ∙ g.size;
      source = g.source;
      target = g.target;
    })

pub moving_end : (ρ₀ : Route) (m₀ : List ℕ) (n : ℕ) (ρ : Route) (m : List ℕ) (left : ℕ) → Moving ρ₀ m₀ n ρ m left → left ≡ 0 → m ≡ carried_along ρ₀ m₀ n
moving_end ρ₀ m₀ n ρ m left g e = sym (route_none ρ m) ∙ ap (carried_along ρ m) (sym e) ∙ g.same

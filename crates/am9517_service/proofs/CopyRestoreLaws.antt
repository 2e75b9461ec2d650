-- The bytes of memory-to-memory where channel 0 is restored: those of its area up to there, and from there on those of its base, again and again.
use Prim.Native.Nat.{ℕ, ◌+◌, ◌-◌, ◌%◌, ◌≤◌, ◌<◌, min}
use mathlib.Core.Path.{◌≡◌, refl, sym, ap, ◌∙◌}
use mathlib.Core.Bool.{Bool, true, false, ◌||◌}
use mathlib.Core.List.{List}
use native.Mathlib.Omega.{arith}
use native.Mathlib.Nat.{mod-lt}
use lib.Dec.{eqb, ltb}
use lib.ListN.{length, get_or, set}
use borrow.Author.Tests.{eqb-true, ltb-true, ltb-false}
use Rattle.words.specs.Choice.{when}
use Rattle.words.specs.Steps.{steps}
use Rattle.words.specs.Spans.{carried, Within}
use Rattle.am9517.specs.Modes.{autoinitialize, decrement}
use Rattle.am9517.specs.declared.Channel.{Channel}
use Rattle.am9517_service.specs.declared.copies.Route.{Route}
use Rattle.am9517_service.specs.ClosedLegs.{address_after}
use Rattle.am9517_service.specs.Copy.{source_after}
use Rattle.am9517_service.specs.ClosedCopies.{source_on, restored, restores, carried_by, carried_along, straight_of, farther, begun, beginning_again, route_of, last_byte}
use Rattle.am9517_service.specs.Needs.{Straight, Again}
use Rattle.words.proofs.ChoiceLaws.{when_both, when_each, when_hit, when_same, never}
use Rattle.words.proofs.StepLaws.{steps_none, steps_on, steps_below}
use Rattle.words.proofs.SpreadLaws.{carried_same, carried_on}
use Rattle.am9517_service.proofs.TransferLaws.{address_after_none}
use Rattle.am9517_service.proofs.CopyPieceLaws.{Piece, piece, route_length}
use Rattle.am9517_service.proofs.CopySourceLaws.{source_none, source_add, on_none, on_add, source_on_lem, source_restored, source_again, source_left}

-- the addresses of the route's target
abbrev goals : Route → ℕ → ℕ
goals ρ = steps 16 ρ.to_down ρ.to

-- A route d bytes on, whose source has gone o bytes from where it began.
abbrev along : Route → ℕ → ℕ → Route
along ρ o d = record { hold = ρ.hold; source = source_on ρ.hold ρ.source o; to = goals ρ d; to_down = ρ.to_down }

-- After some bytes: `until` more, and the source begins again; `left` more, and all are laid.
pub record Laying (ρ₀ : Route) (area n : ℕ) (m₀ : List ℕ) (ρ : Route) (m : List ℕ) (until left : ℕ) : Type 0 where
  pub below : ρ₀.source.address < 65536
  pub small : ρ₀.source.count < 65536
  pub goal : ρ₀.to < 65536
  pub some : 0 < until
  pub most : until ≤ area
  pub fewer : left ≤ n
  pub far : area - until ≤ n - left
  pub route : ρ ≡ along ρ₀ (area - until) (n - left)
  pub size : length m ≡ 65536
  pub same : (from : ℕ → ℕ) → Again ρ₀ area n from → m ≡ carried (goals ρ₀) from m₀ (n - left)
  pub next : (from : ℕ → ℕ) → Again ρ₀ area n from → (i : ℕ) → n - left + i < n → from (n - left + i) ≡ from (area - until + i)

-- its next piece
pub record Stretch (ρ : Route) (until left k : ℕ) : Type 0 where
  pub some : 0 < k
  pub most : k ≤ left
  pub within : k ≤ until
  pub straight : Straight ρ k

straight_fewer : (ρ : Route) (n k : ℕ) → k ≤ n → Straight ρ n → Straight ρ k
straight_fewer ρ n k h s =
    record {
      target = record { up = λ e. omega (arith, s.target.up e); back = λ e. ((s.target.back e).0, omega (arith, (s.target.back e).1)) };
      source = λ e. let w = s.source e in record { up = λ g. omega (arith, w.up g); back = λ g. ((w.back g).0, omega (arith, (w.back g).1)) };
    }

pub laying_start : (ρ₀ : Route) (area n : ℕ) (m₀ : List ℕ) → ρ₀.source.address < 65536 → ρ₀.source.count < 65536 → ρ₀.to < 65536 → 0 < area → length m₀ ≡ 65536
    → Laying ρ₀ area n m₀ ρ₀ m₀ area n
unfolding carried
laying_start ρ₀ area n m₀ below small goal h size =
    let no : area - area ≡ 0 = omega arith in
    let none : n - n ≡ 0 = omega arith in
    record {
      below = below;
      small = small;
      goal = goal;
      some = h;
      most = omega arith;
      fewer = omega arith;
      far = omega arith;
      route =
          sym (ap (λ (o : ℕ). along ρ₀ o (n - n)) no ∙ ap (along ρ₀ 0) none
          ∙ ap (λ (x : Channel). record { hold = ρ₀.hold; source = x; to = goals ρ₀ 0; to_down = ρ₀.to_down }) (on_none ρ₀.hold ρ₀.source below small)
          ∙ ap (λ (a : ℕ). record { hold = ρ₀.hold; source = ρ₀.source; to = a; to_down = ρ₀.to_down }) (steps_none 16 ρ₀.to_down ρ₀.to goal));
      size = size;
      same = λ from again. ap (carried (goals ρ₀) from m₀) (sym none);
      next = λ from again i l. ap (λ (k : ℕ). from (k + i)) none ∙ ap (λ (k : ℕ). from (k + i)) (sym no);
    }

module _ {ρ₀ : Route} {area n : ℕ} {m₀ : List ℕ} {ρ : Route} {m : List ℕ} {until left : ℕ} (g : Laying ρ₀ area n m₀ ρ m until left) where
  abbrev o : ℕ
  o = area - until

  abbrev d : ℕ
  d = n - left

  source_there : ρ.source.address < 65536
  unfolding address_after
  source_there = rw g.route (when_both (λ (x : ℕ). x < 65536) ρ₀.hold g.below (steps_below 16 (decrement ρ₀.source.mode) ρ₀.source.address o))

  target_there : ρ.to < 65536
  target_there = rw g.route (steps_below 16 ρ₀.to_down ρ₀.to d)

  one_within : (down : Bool) (a : ℕ) → a < 65536 → Within down a 1 65536
  one_within down a h = record { up = λ e. omega arith; back = λ e. (h, omega arith) }

  pub laying_piece : 0 < left → (each : Bool) (k : ℕ) → k ≡ when each 1 (min (straight_of ρ left) until) → Stretch ρ until left k
  laying_piece h each k e =
      let p : Piece ρ left (straight_of ρ left) = piece ρ left source_there target_there in
      rw e
      (when_both (Stretch ρ until left) each
      (record {
        some = omega arith;
        most = h;
        within = g.some;
        straight = record { target = one_within ρ.to_down ρ.to target_there; source = λ free. one_within (decrement ρ.source.mode) ρ.source.address source_there };
      })
      (record {
        some = omega (arith, p.some h, g.some);
        most = omega (arith, p.most);
        within = omega arith;
        straight = straight_fewer ρ (straight_of ρ left) (min (straight_of ρ left) until) (omega arith) p.straight;
      }))

  module _ (k : ℕ) (s : Stretch ρ until left k) (m' : List ℕ) (em : m' ≡ carried_along ρ m k) where
    done_more : d + k ≡ n - (left - k)
    done_more = omega (arith, s.most, g.fewer)

    -- the piece comes from where it should
    comes_from : (from : ℕ → ℕ) → Again ρ₀ area n from → (j : ℕ) → j < k → (source_on (along ρ₀ o d).hold (along ρ₀ o d).source j).address ≡ from (d + j)
    comes_from from a j l =
        ap (λ (x : Channel). x.address) (on_add ρ₀.hold ρ₀.source o j)
        ∙ sym (a.within (o + j) (omega (arith, s.within, g.most)))
        ∙ sym (g.next from a j (omega (arith, s.most, g.fewer)))

    laid : (from : ℕ → ℕ) → Again ρ₀ area n from → m' ≡ carried (goals ρ₀) from m₀ (n - (left - k))
    unfolding carried_along
    laid from a =
        em
        ∙ ap (λ (x : Route). carried_along x m k) g.route
        ∙ carried_same _ _ _ _ m k (λ j l. steps_on 16 ρ₀.to_down ρ₀.to d j) (comes_from from a)
        ∙ ap (λ (x : List ℕ). carried (λ (i : ℕ). goals ρ₀ (d + i)) (λ (i : ℕ). from (d + i)) x k) (g.same from a)
        ∙ carried_on (goals ρ₀) from m₀ d k
        ∙ ap (carried (goals ρ₀) from m₀) done_more

    whole : length m' ≡ 65536
    whole = ap (λ (l : List ℕ). length l) em ∙ route_length ρ m k ∙ g.size

    went : (o' : ℕ) → o' ≡ o + k → (ρ' : Route) → ρ' ≡ farther ρ k → ρ' ≡ along ρ₀ o' (n - (left - k))
    went o' eo ρ' er =
        er
        ∙ ap (λ (x : Route). farther x k) g.route
        ∙ ap (λ (x : Channel). record { hold = ρ₀.hold; source = x; to = steps 16 ρ₀.to_down (goals ρ₀ d) k; to_down = ρ₀.to_down }) (on_add ρ₀.hold ρ₀.source o k ∙ ap (source_on ρ₀.hold ρ₀.source) (sym eo))
        ∙ ap (λ (a : ℕ). record { hold = ρ₀.hold; source = source_on ρ₀.hold ρ₀.source o'; to = a; to_down = ρ₀.to_down }) (steps_on 16 ρ₀.to_down ρ₀.to d k ∙ ap (goals ρ₀) done_more)

    onward : (from : ℕ → ℕ) → Again ρ₀ area n from → (i : ℕ) → n - (left - k) + i < n → from (n - (left - k) + i) ≡ from (o + k + i)
    onward from a i l =
        let e : n - (left - k) + i ≡ d + (k + i) = omega (arith, s.most, g.fewer) in
        let e' : o + (k + i) ≡ o + k + i = omega arith in
        ap from e ∙ g.next from a (k + i) (omega (arith, e)) ∙ ap from e'

    pub laying_on : (ρ' : Route) → ρ' ≡ farther ρ k → 0 < until - k → Laying ρ₀ area n m₀ ρ' m' (until - k) (left - k)
    laying_on ρ' er more =
        let gone : area - (until - k) ≡ o + k = omega (arith, s.within, g.most) in
        record {
          below = g.below;
          small = g.small;
          goal = g.goal;
          some = more;
          most = omega (arith, g.most);
          fewer = omega (arith, g.fewer);
          far = omega (arith, gone, g.far, done_more);
          route = went (area - (until - k)) gone ρ' er;
          size = whole;
          same = laid;
          next = λ from a i l. onward from a i l ∙ ap (λ (x : ℕ). from (x + i)) (sym gone);
        }

    pub laying_again : (ρ' : Route) → ρ' ≡ farther ρ k → until - k ≡ 0 → Laying ρ₀ area n m₀ (begun ρ' ρ₀.source) m' area (left - k)
    laying_again ρ' er none =
        let no : area - area ≡ 0 = omega arith in
        let full : o + k ≡ area = omega (arith, s.within, g.most) in
        record {
          below = g.below;
          small = g.small;
          goal = g.goal;
          some = omega (arith, g.some, g.most);
          most = omega arith;
          fewer = omega (arith, g.fewer);
          far = omega arith;
          route =
              ap (λ (x : Route). begun x ρ₀.source) (went (o + k) refl ρ' er)
              ∙ ap (λ (x : Channel). record { hold = ρ₀.hold; source = x; to = goals ρ₀ (n - (left - k)); to_down = ρ₀.to_down }) (sym (on_none ρ₀.hold ρ₀.source g.below g.small) ∙ ap (source_on ρ₀.hold ρ₀.source) (sym no));
          size = whole;
          same = laid;
          next = λ from a i l.
              let e : i ≡ area - area + i = omega arith in
              onward from a i l
              ∙ ap (λ (x : ℕ). from (x + i)) full
              ∙ a.again i (omega (arith, l, full, g.far, done_more))
              ∙ ap from e;
        }

  pub laying_end : left ≡ 0 → (from : ℕ → ℕ) → Again ρ₀ area n from → m ≡ carried (goals ρ₀) from m₀ n
  laying_end z from a = let all : n - left ≡ n = omega arith in g.same from a ∙ ap (carried (goals ρ₀) from m₀) all

-- a byte by itself
pub one_along : (ρ : Route) (m : List ℕ) (n : ℕ) → n ≡ 1 → ρ.source.address < 65536 → ρ.to < 65536 → set m ρ.to (get_or m ρ.source.address 0) ≡ carried_along ρ m n
unfolding carried_along carried address_after
one_along ρ m n one below goal =
    let from : ρ.source.address ≡ when ρ.hold ρ.source.address (steps 16 (decrement ρ.source.mode) ρ.source.address 0) =
    sym (ap (when ρ.hold ρ.source.address) (steps_none 16 (decrement ρ.source.mode) ρ.source.address below) ∙ when_same ρ.hold ρ.source.address) in
    rw one
    (ap (λ (a : ℕ). set m a (get_or m ρ.source.address 0)) (sym (steps_none 16 ρ.to_down ρ.to goal))
    ∙ ap (λ (a : ℕ). set m (goals ρ 0) (get_or m a 0)) from)

-- where none before the last restores it
few_before : (ch : Channel) (n : ℕ) → restores ch n ≡ false → autoinitialize ch.mode ≡ true → n ≤ ch.count + 1
unfolding restores
few_before ch n h t = omega (arith, ltb-false (ch.count + 1) n (sym (when_hit (autoinitialize ch.mode) (ltb (ch.count + 1) n) false t) ∙ h))

pub along_by : (hold : Bool) (source target : Channel) (m : List ℕ) (n : ℕ) → source.address < 65536 → source.count < 65536 → restores source n ≡ false
    → carried_along (route_of hold source target) m n ≡ carried_by (route_of hold source target) m n
unfolding carried_along carried_by
along_by hold source target m n below small h =
    carried_same _ _ _ _ m n (λ j l. refl)
    (λ j l. ap (λ (x : Channel). x.address) (sym (source_on_lem hold source below small j (λ t. omega (arith, few_before source n h t)))))

-- the byte of one transfer alone
pub one_carried : (hold : Bool) (source target : Channel) (m : List ℕ) (n : ℕ) → n ≡ 1 → target.address < 65536
    → set m target.address (get_or m source.address 0) ≡ carried_by (route_of hold source target) m n
unfolding carried_by carried
one_carried hold source target m n one below =
    rw one
    (ap (λ (x : Channel). set m target.address (get_or m x.address 0)) (sym (source_none hold source))
    ∙ ap (λ (a : ℕ). set m a (get_or m (source_after hold source 0).address 0)) (sym (steps_none 16 (decrement target.mode) target.address below)))

pub one_moved : (hold : Bool) (source target : Channel) (m : List ℕ) (n : ℕ) → n ≡ 1 → get_or m source.address 0 ≡ last_byte (route_of hold source target) m n
unfolding carried_by carried
one_moved hold source target m n one = rw one (ap (λ (x : Channel). get_or m x.address 0) (sym (source_none hold source)))

-- Where one before the last restores it: up to there, and from there on.
module _ (hold : Bool) (source target : Channel) (m : List ℕ) (n : ℕ) (few : n ≤ 65536) (h : restores source n ≡ true)
    (below : source.address < 65536) (small : source.count < 65536) (base : source.base_address < 65536) (last : source.base_count < 65536) where
  abbrev first : ℕ
  first = source.count + 1

  abbrev ρ : Route
  ρ = route_of hold source target

  abbrev ρ' : Route
  ρ' = beginning_again ρ first

  abbrev area : ℕ
  area = when ρ'.hold 65536 (source.base_count + 1)

  -- where channel 0 stands before each transfer, and before each from there on
  abbrev stands : ℕ → ℕ
  stands j = (source_after hold source j).address

  abbrev begins : ℕ → ℕ
  begins j = (source_after hold (restored source) j).address

  auto : autoinitialize source.mode ≡ true
  unfolding restores
  auto = when_each (λ (b : Bool). b ≡ true → autoinitialize source.mode ≡ true) (autoinitialize source.mode) (λ t b. t) (λ f b. never (sym b)) h

  pub first_below : first < n
  unfolding restores
  first_below = ltb-true first n (sym (when_hit (autoinitialize source.mode) (ltb first n) false auto) ∙ h)

  first_again : Again ρ first first stands
  first_again =
      record {
        within = λ j l. ap (λ (x : Channel). x.address) (source_on_lem hold source below small j (λ t. omega arith));
        again = λ j l. absurd (omega arith);
      }

  left_address : (j : ℕ) → begins j ≡ (source_on hold (restored source) (j % (source.base_count + 1))).address
  left_address j = ap (λ (x : Channel). x.address) (source_left hold source auto base last j)

  -- one held address, or an area of one byte
  held_at : ρ'.hold ≡ true → (j : ℕ) → begins j ≡ source.base_address
  held_at held j = left_address j ∙ when_each (λ (a : ℕ). a ≡ source.base_address) hold (λ t. refl) (λ f. still f)
    where
      still : hold ≡ false → address_after (restored source) (j % (source.base_count + 1)) ≡ source.base_address
      still f =
          let one : source.base_count ≡ 0 = eqb-true _ _ (ap (λ (b : Bool). b || eqb source.base_count 0) (sym f) ∙ held) in
          let few : j % (source.base_count + 1) < source.base_count + 1 = mod-lt j (omega arith) in
          let none : j % (source.base_count + 1) ≡ 0 = omega (arith, one, few) in
          ap (address_after (restored source)) none ∙ address_after_none (restored source) base

  base_again : Again ρ' area (n - first) begins
  base_again =
      when_each (λ (a : ℕ). Again ρ' a (n - first) begins) ρ'.hold
      (λ held. record {
        within = λ j l. held_at held j ∙ sym (when_hit ρ'.hold source.base_address (address_after (restored source) j) held);
        again = λ j l. absurd (omega (arith, few));
      })
      (λ free. record {
        within = λ j l.
            ap (λ (x : Channel). x.address) (source_on_lem hold (restored source) base last j (λ t. omega arith))
            ∙ ap (λ (b : Bool). when b source.base_address (address_after (restored source) j)) (unheld free);
        again = λ j l. ap (λ (x : Channel). x.address) (source_again hold source auto base last j);
      })
    where
      unheld : ρ'.hold ≡ false → hold ≡ ρ'.hold
      unheld free = go hold free
        where
          go : (b : Bool) → b || eqb source.base_count 0 ≡ false → b ≡ b || eqb source.base_count 0
          go true e = refl
          go false e = sym e

  pub restoring : (m₁ m₂ : List ℕ) → ((from : ℕ → ℕ) → Again ρ first first from → m₁ ≡ carried (goals ρ) from m first)
      → ((from : ℕ → ℕ) → Again ρ' area (n - first) from → m₂ ≡ carried (goals ρ') from m₁ (n - first)) → m₂ ≡ carried_by ρ m n
  unfolding carried_by
  restoring m₁ m₂ e₁ e₂ =
      let sum : first + (n - first) ≡ n = omega (arith, first_below) in
      e₂ begins base_again
      ∙ carried_same _ _ _ _ m₁ (n - first) (λ j l. steps_on 16 ρ.to_down ρ.to first j)
      (λ j l. ap (λ (x : Channel). x.address) (ap (λ (x : Channel). source_after hold x j) (sym (source_restored hold source below small auto)) ∙ source_add hold source first j))
      ∙ ap (λ (x : List ℕ). carried (λ (i : ℕ). goals ρ (first + i)) (λ (i : ℕ). stands (first + i)) x (n - first)) (e₁ stands first_again)
      ∙ carried_on (goals ρ) stands m first (n - first)
      ∙ ap (carried (goals ρ) stands m) sum

  -- told by the parts of the function
  pub restoring_by : (x : Route) → x ≡ ρ → (x' : Route) → x' ≡ beginning_again x first → (size : ℕ) → size ≡ when x'.hold 65536 (x'.source.count + 1)
      → (m₁ m₂ : List ℕ) → ((from : ℕ → ℕ) → Again x first first from → m₁ ≡ carried (goals x) from m first)
      → ((from : ℕ → ℕ) → Again x' size (n - first) from → m₂ ≡ carried (goals x') from m₁ (n - first)) → m₂ ≡ carried_by ρ m n
  restoring_by x e x' e' size es m₁ m₂ e₁ e₂ =
      restoring m₁ m₂ (rw e at e₁) (rw (es, e', e) at e₂)

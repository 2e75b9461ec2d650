-- Turns on bare numbers: a channel of one chip between the other channels of its chip, which rotates, and the other chip, which gets the bus
-- only where this one had it last.
use Prim.Native.Nat.{ℕ, suc, ◌+◌, ◌*◌, ◌/◌, ◌≤◌, ◌<◌}
use mathlib.Core.Path.{◌≡◌, refl, sym, ap, ◌∙◌}
use mathlib.Core.Bool.{Bool, true, false}
use mathlib.Core.List.{List, [], ◌∷◌, ◌++◌}
use native.Mathlib.Omega.{arith}
use lib.Dec.{eqb}
use lib.ListN.{length}
use borrow.Author.Tests.{eqb-true, eqb-false, eq-eqb, ne_eqb}
use Rattle.words.specs.Choice.{when}
use Rattle.demands.specs.Lists.{count}
use Rattle.demands.proofs.Turns.{place, Turns, over as alone-over, then, lead_bound}

-- Chip w, whose lowest channel is low, last one granted: its own channel e stands no later than n in its order, and becomes the lowest; or
-- another's channel is served, which had to wait for w.
pub data BoardTurns (w n : ℕ) : ℕ → ℕ → List ℕ → Type 0 where
  over : {low last : ℕ} → BoardTurns w n low last []
  own_turn : {low last e : ℕ} {es : List ℕ} → low < 4 → e < 4 → place low e ≤ place low n → BoardTurns w n e w es → BoardTurns w n low last ((4 * w + e) ∷ es)
  other_turn : {low last v x : ℕ} {es : List ℕ} → last ≡ w → ¬ (v ≡ w) → ((d : ℕ) → d < 4 → ¬ (x ≡ 4 * w + d)) → BoardTurns w n low v es → BoardTurns w n low last (x ∷ es)

-- one more if this chip had the bus last
abbrev turn : ℕ → ℕ → ℕ
turn w last = when (eqb last w) 1 0

turn_own : (w : ℕ) → turn w w ≡ 1
unfolding when
turn_own w = rw (eq-eqb w w refl)

turn_last : (w last : ℕ) → last ≡ w → turn w last ≡ 1
turn_last w last e = rw e (turn_own w)

turn_other : (w v : ℕ) → ¬ (v ≡ w) → turn w v ≡ 0
unfolding when
turn_other w v h = rw (ne_eqb v w h)

turn_most : (w last : ℕ) → turn w last ≤ 1
unfolding when
turn_most w last = go (eqb last w)
  where
    go : (t : Bool) → when t 1 0 ≤ 1
    go true = omega arith
    go false = omega arith

count_none : (c : ℕ) → count c [] ≡ 0
unfolding count
count_none c = refl

count_same : (c : ℕ) (es : List ℕ) → count c (c ∷ es) ≡ suc (count c es)
unfolding count when
count_same c es = rw (eq-eqb c c refl) (omega arith)

count_other : (c x : ℕ) (es : List ℕ) → ¬ (x ≡ c) → count c (x ∷ es) ≡ count c es
unfolding count when
count_other c x es h = rw (ne_eqb x c h) (omega arith)

place_falls : (low e c : ℕ) → low < 4 → e < 4 → c < 4 → place low e ≤ place low c → ¬ (e ≡ c) → place e c + place low e + 1 ≡ place low c
place_falls low e c hl he hc h n = omega arith

module _ (w n : ℕ) (small : n < 4) where
  abbrev c : ℕ
  c = 4 * w + n

  -- grants are at most eight for each of its own, two for each place before it in its chip's order, and one for the other chip
  length_bound : {low last : ℕ} {es : List ℕ} → BoardTurns w n low last es → length es ≤ 8 * count c es + 2 * place low n + turn w last
  length_bound over = omega arith
  length_bound (own_turn {low = low} {last = last} {e = e} {es = es} hl he h ts) = go (length_bound ts) (eqb e n) refl
    where
      go : length es ≤ 8 * count c es + 2 * place e n + turn w w → (t : Bool) → eqb e n ≡ t → length ((4 * w + e) ∷ es) ≤ 8 * count c ((4 * w + e) ∷ es) + 2 * place low n + turn w last
      go ih true q =
          let same : e ≡ n = eqb-true e n q in
          let more : count c ((4 * w + e) ∷ es) ≡ suc (count c es) = ap (λ (k : ℕ). count c ((4 * w + k) ∷ es)) same ∙ count_same c es in
          let high : place e n ≤ 3 = omega arith in
          omega (arith, ih, more, high, turn_own w)
      go ih false q =
          let other : ¬ (e ≡ n) = eqb-false e n q in
          let none : count c ((4 * w + e) ∷ es) ≡ count c es = count_other c (4 * w + e) es (λ z. other (omega (arith, z))) in
          let falls = place_falls low e n hl he small h other in
          omega (arith, ih, none, falls, turn_own w)
  length_bound (other_turn {low = low} {last = last} {v = v} {x = x} {es = es} el hv hx ts) =
      omega (arith, length_bound ts, count_other c x es (hx n small), turn_last w last el, turn_other w v hv)

  turns_prefix : {low last : ℕ} (some rest : List ℕ) → BoardTurns w n low last (some ++ rest) → BoardTurns w n low last some
  turns_prefix [] rest ts = over
  turns_prefix {low = low} {last = last} (_ ∷ some) rest (own_turn {e = e} hl he h ts) = own_turn hl he h (turns_prefix {low = e} {last = w} some rest ts)
  turns_prefix {low = low} {last = last} (x ∷ some) rest (other_turn {v = v} el hv hx ts) = other_turn el hv hx (turns_prefix {low = low} {last = v} some rest ts)

  place_most : (low : ℕ) → place low n ≤ 3
  place_most low = omega arith

  -- the same of any stretch, wherever it begins
  stretch_bound : {low last : ℕ} (past some rest : List ℕ) → BoardTurns w n low last (past ++ (some ++ rest)) → length some ≤ 8 * count c some + 7
  stretch_bound {low = low} {last = last} [] some rest ts = omega (arith, length_bound (turns_prefix some rest ts), place_most low, turn_most w last)
  stretch_bound {low = low} {last = last} (_ ∷ past) some rest (own_turn {e = e} hl he h ts) = stretch_bound {low = e} {last = w} past some rest ts
  stretch_bound {low = low} {last = last} (_ ∷ past) some rest (other_turn {v = v} el hv hx ts) = stretch_bound {low = low} {last = v} past some rest ts

  -- its own chip's channels by themselves: turns of that chip
  abbrev mine : {low last : ℕ} {es : List ℕ} → BoardTurns w n low last es → List ℕ
  mine over = []
  mine (own_turn {e = e} hl he h ts) = e ∷ mine ts
  mine (other_turn el hv hx ts) = mine ts

  mine_turns : {low last : ℕ} {es : List ℕ} (ts : BoardTurns w n low last es) → Turns n low (mine ts)
  mine_turns over = alone-over
  mine_turns (own_turn hl he h ts) = then hl he h (mine_turns ts)
  mine_turns (other_turn el hv hx ts) = mine_turns ts

  mine_count : (d : ℕ) → d < 4 → {low last : ℕ} {es : List ℕ} (ts : BoardTurns w n low last es) → count (4 * w + d) es ≡ count d (mine ts)
  mine_count d hd over = count_none (4 * w + d) ∙ sym (count_none d)
  mine_count d hd (own_turn {e = e} {es = es} hl he h ts) = go (mine_count d hd ts) (eqb e d) refl
    where
      go : count (4 * w + d) es ≡ count d (mine ts) → (t : Bool) → eqb e d ≡ t → count (4 * w + d) ((4 * w + e) ∷ es) ≡ count d (e ∷ mine ts)
      go ih true q =
          let same : e ≡ d = eqb-true e d q in
          ap (λ (k : ℕ). count (4 * w + d) ((4 * w + k) ∷ es)) same ∙ count_same (4 * w + d) es ∙ ap suc ih ∙ sym (count_same d (mine ts)) ∙ ap (λ (k : ℕ). count d (k ∷ mine ts)) (sym same)
      go ih false q =
          let other : ¬ (e ≡ d) = eqb-false e d q in
          count_other (4 * w + d) (4 * w + e) es (λ z. other (omega (arith, z))) ∙ ih ∙ sym (count_other d e (mine ts) other)
  mine_count d hd (other_turn {x = x} {es = es} el hv hx ts) = count_other (4 * w + d) x es (hx d hd) ∙ mine_count d hd ts

  pub turns_share : {low last : ℕ} (es : List ℕ) → BoardTurns w n low last es → length es / 8 ≤ count c es
  turns_share {low = low} {last = last} es ts = omega (arith, length_bound ts, place_most low, turn_most w last)

  pub turns_turn : {low last : ℕ} (es : List ℕ) → BoardTurns w n low last es → (past some rest : List ℕ) → es ≡ past ++ (some ++ rest) → count c some ≡ 0 → length some ≤ 7
  turns_turn es ts past some rest same none = omega (arith, stretch_bound past some rest (rw same at ts))

  pub turns_lead : {low last : ℕ} (es : List ℕ) → BoardTurns w n low last es → (d : ℕ) → d < 4 → ¬ (d ≡ n) → count (4 * w + d) es ≤ count c es + 1
  turns_lead es ts d hd ne = let l = (lead_bound n small d ne (mine_turns ts)).most in omega (arith, l, mine_count d hd ts, mine_count n small ts)

-- Rotation on bare numbers: channels served in turns, each of which becomes the lowest.
use Prim.Native.Nat.{ℕ, suc, ◌+◌, ◌*◌, ◌%◌, ◌≤◌, ◌<◌}
use mathlib.Core.Path.{◌≡◌, refl, sym, ◌∙◌, ap}
use mathlib.Core.Bool.{Bool, true, false}
use mathlib.Core.List.{List, [], ◌∷◌, ◌++◌}
use native.Mathlib.Omega.{arith}
use lib.Dec.{eqb}
use lib.ListN.{length}
use borrow.Author.Tests.{eqb-true, eqb-false}
use Rattle.words.specs.Choice.{when}
use Rattle.demands.specs.Lists.{count}
use Rattle.demands.specs.Fairness.{Fair}

-- how many channels stand before c in the order that begins after the lowest: c - low - 1, going round by four
abbrev pub place : ℕ → ℕ → ℕ
place low c = (c + 3 * low + 3) % 4

-- Each channel served stands no later than c in the order, and becomes the lowest.
pub data Turns (c : ℕ) : ℕ → List ℕ → Type 0 where
  over : {low : ℕ} → Turns c low []
  then : {low e : ℕ} {es : List ℕ} → low < 4 → e < 4 → place low e ≤ place low c → Turns c e es → Turns c low (e ∷ es)

-- c is the first in the list, or it is not
pub data Head (c e : ℕ) : Type 0 where
  itself : e ≡ c → ((es : List ℕ) → count c (e ∷ es) ≡ suc (count c es)) → Head c e
  another : ¬ (e ≡ c) → ((es : List ℕ) → count c (e ∷ es) ≡ count c es) → Head c e

head_of : (c e : ℕ) (t : Bool) → eqb e c ≡ t → Head c e
unfolding count when
head_of c e true h = itself (eqb-true _ _ h) (λ es. rw h (omega arith))
head_of c e false h = another (eqb-false _ _ h) (λ es. rw h (omega arith))

head : (c e : ℕ) → Head c e
head c e = head_of c e (eqb e c) refl

count_none : (c : ℕ) → count c [] ≡ 0
unfolding count
count_none c = refl

-- a grant to another, e, brings c nearer
pub record Nearer (low e c : ℕ) : Type 0 where
  pub before : place low e < place low c
  pub falls : place e c + place low e + 1 ≡ place low c

place_falls : (low e c : ℕ) → low < 4 → e < 4 → c < 4 → place low e ≤ place low c → ¬ (e ≡ c) → Nearer low e c
place_falls low e c hl he hc h n = record { before = omega arith; falls = omega arith }

-- and nobody who stood behind c gets before it
place_behind : (low e c d : ℕ) → low < 4 → e < 4 → c < 4 → place low e < place low c → place low c ≤ place low d → place e c ≤ place e d
place_behind low e c d hl he hc h b = omega arith

-- whoever was served is last
place_last : (e c : ℕ) → place e c ≤ place e e
place_last e c = omega arith

module _ (c : ℕ) (small : c < 4) where
  -- n grants are at most four for each of its own, and the places before it
  pub length_bound : {low : ℕ} {es : List ℕ} → Turns c low es → length es ≤ 4 * count c es + place low c
  length_bound over = omega arith
  length_bound (then {low = low} {e = e} {es = es} hl he h ts) =
      let ih = length_bound ts in
      elim (head c e) [
        | itself same n ↦ omega (arith, ih, n es)
        | another other n ↦ omega (arith, ih, n es, place_falls low e c hl he small h other)
      ]

  turns_prefix : {low : ℕ} (others rest : List ℕ) → Turns c low (others ++ rest) → Turns c low others
  turns_prefix [] rest ts = over
  turns_prefix (e ∷ others) rest (then hl he h ts) = then hl he h (turns_prefix others rest ts)

  -- the same of any stretch, wherever it begins
  pub stretch_bound : {low : ℕ} (past others rest : List ℕ) → Turns c low (past ++ (others ++ rest)) → length others ≤ 4 * count c others + 3
  stretch_bound [] others rest ts = omega (arith, length_bound (turns_prefix others rest ts))
  stretch_bound (e ∷ past) others rest (then hl he h ts) = stretch_bound past others rest ts

  -- d leads by one at most, and not at all while it stands behind c
  pub record Lead (d low : ℕ) (es : List ℕ) : Type 0 where
    pub most : count d es ≤ count c es + 1
    pub behind : place low c ≤ place low d → count d es ≤ count c es

  lead_on : (d low e : ℕ) (es : List ℕ) → low < 4 → e < 4 → place low e ≤ place low c → ¬ (d ≡ c) → Lead d e es → Head c e → Head d e → Lead d low (e ∷ es)
  lead_on d low e es hl he h n ih (itself same k) (itself same' k') = absurd (n (sym same' ∙ same))
  lead_on d low e es hl he h n ih (itself same k) (another other k') =
      record { most = omega (arith, k es, k' es, ih.most); behind = λ b. omega (arith, k es, k' es, ih.most) }
  lead_on d low e es hl he h n ih (another other k) (itself same k') =
      let level : count d es ≤ count c es = ih.behind (rw (← same) (place_last e c)) in
      let nearer = place_falls low e c hl he small h other in
      record { most = omega (arith, k es, k' es); behind = λ b. absurd (omega (arith, nearer, ap (place low) same)) }
  lead_on d low e es hl he h n ih (another other k) (another other' k') =
      let nearer = place_falls low e c hl he small h other in
      record {
        most = omega (arith, k es, k' es, ih.most);
        behind = λ b. omega (arith, k es, k' es, ih.behind (place_behind low e c d hl he small nearer.before b));
      }

  pub lead_bound : (d : ℕ) → ¬ (d ≡ c) → {low : ℕ} {es : List ℕ} → Turns c low es → Lead d low es
  lead_bound d n over = let z = count_none d in record { most = omega arith; behind = λ h. omega arith }
  lead_bound d n (then {low = low} {e = e} {es = es} hl he h ts) = lead_on d low e es hl he h n (lead_bound d n ts) (head c e) (head d e)

  pub turns_fair : {low : ℕ} (es : List ℕ) → Turns c low es → Fair c es
  turns_fair es ts =
      record {
        share = omega (arith, length_bound ts);
        turn = λ past others rest same zero_of. omega (arith, stretch_bound past others rest (rw same at ts));
        lead = λ d n. (lead_bound d n ts).most;
      }

-- Bytes put one after another: one more, the same places by other words, and a front and a rest.
use Prim.Native.Nat.{ℕ, zero, suc, ◌+◌, ◌-◌, ◌≤◌, ◌<◌}
use mathlib.Core.Path.{◌≡◌, refl, sym, ap, ◌∙◌}
use mathlib.Core.Bool.{Bool, true, false}
use mathlib.Core.List.{List}
use native.Mathlib.Omega.{arith}
use native.Mathlib.Numerals.{add-one}
use lib.ListN.{length, get_or, set, length-set}
use lib.Dec.{eqb}
use lib.Seq.{get_or-set_same, get_or-set_other}
use borrow.Author.Tests.{eqb-true, eqb-false}
use Rattle.words.specs.Spans.{spread, carried}

module _ (to from : ℕ → ℕ) (src dst : List ℕ) where
  pub length_spread : (n : ℕ) → length (spread to from src dst n) ≡ length dst
  unfolding spread
  length_spread zero = refl
  length_spread (suc n) = simp length-set (length_spread n)

  -- a turn of a copying loop
  pub spread_more : (j a b : ℕ) → to j ≡ a → from j ≡ b → (l : List ℕ) → l ≡ spread to from src dst j → set l a (get_or src b 0) ≡ spread to from src dst (j + 1)
  unfolding spread
  spread_more j a b ea eb l h = rw (h, ← ea, ← eb, add-one j)

-- the same places told by other functions
pub spread_same : (to from to' from' : ℕ → ℕ) (src dst : List ℕ) (n : ℕ) → ((j : ℕ) → j < n → to j ≡ to' j) → ((j : ℕ) → j < n → from j ≡ from' j) → spread to from src dst n ≡ spread to' from' src dst n
unfolding spread
spread_same to from to' from' src dst zero ht hf = refl
spread_same to from to' from' src dst (suc n) ht hf =
    rw (spread_same to from to' from' src dst n (λ j h. ht j (omega arith)) (λ j h. hf j (omega arith)), ht n (omega arith), hf n (omega arith))

-- a front of j, then a rest of k
pub spread_on : (to from : ℕ → ℕ) (src dst : List ℕ) (j k : ℕ) → spread (λ (i : ℕ). to (j + i)) (λ (i : ℕ). from (j + i)) src (spread to from src dst j) k ≡ spread to from src dst (j + k)
unfolding spread
spread_on to from src dst j zero = let e : j ≡ j + 0 = omega arith in ap (spread to from src dst) e
spread_on to from src dst j (suc k) =
    let e : suc (j + k) ≡ j + suc k = omega arith in
    ap (λ (l : List ℕ). set l (to (j + k)) (get_or src (from (j + k)) 0)) (spread_on to from src dst j k) ∙ ap (spread to from src dst) e

-- bytes put in two pieces
pub spread_pieces : (to from to₁ from₁ to₂ from₂ : ℕ → ℕ) (src dst one two : List ℕ) (j n : ℕ) → j ≤ n
    → one ≡ spread to₁ from₁ src dst j → two ≡ spread to₂ from₂ src one (n - j)
    → ((i : ℕ) → i < j → to₁ i ≡ to i) → ((i : ℕ) → i < j → from₁ i ≡ from i)
    → ((i : ℕ) → i < n - j → to₂ i ≡ to (j + i)) → ((i : ℕ) → i < n - j → from₂ i ≡ from (j + i))
    → two ≡ spread to from src dst n
spread_pieces to from to₁ from₁ to₂ from₂ src dst one two j n h e₁ e₂ t₁ f₁ t₂ f₂ =
    let sum : j + (n - j) ≡ n = omega arith in
    let front : one ≡ spread to from src dst j = e₁ ∙ spread_same to₁ from₁ to from src dst j t₁ f₁ in
    e₂
    ∙ ap (λ (l : List ℕ). spread to₂ from₂ src l (n - j)) front
    ∙ spread_same to₂ from₂ (λ (i : ℕ). to (j + i)) (λ (i : ℕ). from (j + i)) src (spread to from src dst j) (n - j) t₂ f₂
    ∙ spread_on to from src dst j (n - j)
    ∙ ap (spread to from src dst) sum

module _ (to from : ℕ → ℕ) (m : List ℕ) where
  pub length_carried : (n : ℕ) → length (carried to from m n) ≡ length m
  unfolding carried
  length_carried zero = refl
  length_carried (suc n) = simp length-set (length_carried n)

  pub carried_more : (j a b : ℕ) → to j ≡ a → from j ≡ b → (l : List ℕ) → l ≡ carried to from m j → set l a (get_or l b 0) ≡ carried to from m (j + 1)
  unfolding carried
  carried_more j a b ea eb l h = rw (h, ← ea, ← eb, add-one j)

  -- the byte moved last stands where it was put
  pub carried_last : (j : ℕ) → to j < length m → get_or (carried to from m (suc j)) (to j) 0 ≡ get_or (carried to from m j) (from j) 0
  unfolding carried
  carried_last j h = get_or-set_same (carried to from m j) (to j) (get_or (carried to from m j) (from j) 0) 0 (rw (length_carried j) h)

pub carried_same : (to from to' from' : ℕ → ℕ) (m : List ℕ) (n : ℕ) → ((j : ℕ) → j < n → to j ≡ to' j) → ((j : ℕ) → j < n → from j ≡ from' j) → carried to from m n ≡ carried to' from' m n
unfolding carried
carried_same to from to' from' m zero ht hf = refl
carried_same to from to' from' m (suc n) ht hf =
    rw (carried_same to from to' from' m n (λ j h. ht j (omega arith)) (λ j h. hf j (omega arith)), ht n (omega arith), hf n (omega arith))

pub carried_on : (to from : ℕ → ℕ) (m : List ℕ) (j k : ℕ) → carried (λ (i : ℕ). to (j + i)) (λ (i : ℕ). from (j + i)) (carried to from m j) k ≡ carried to from m (j + k)
unfolding carried
carried_on to from m j zero = let e : j ≡ j + 0 = omega arith in ap (carried to from m) e
carried_on to from m j (suc k) =
    let e : suc (j + k) ≡ j + suc k = omega arith in
    ap (λ (l : List ℕ). set l (to (j + k)) (get_or l (from (j + k)) 0)) (carried_on to from m j k) ∙ ap (carried to from m) e

-- A copying loop after j of n bytes, and that it ends as it should.
pub record Copying (to from : ℕ → ℕ) (src dst₀ : List ℕ) (n : ℕ) (dst : List ℕ) (j : ℕ) : Type 0 where
  pub is : dst ≡ spread to from src dst₀ j
  pub most : j ≤ n
  pub size : length dst ≡ length dst₀

module _ (to from : ℕ → ℕ) (src dst₀ : List ℕ) (n : ℕ) where
  pub copying_start : Copying to from src dst₀ n dst₀ 0
  unfolding spread
  copying_start = record { is = refl; most = omega arith; size = refl }

  pub copying_on : (dst : List ℕ) (j a b : ℕ) → a ≡ to j → b ≡ from j → j < n → Copying to from src dst₀ n dst j → Copying to from src dst₀ n (set dst a (get_or src b 0)) (j + 1)
  copying_on dst j a b ea eb h g =
      record { is = spread_more to from src dst₀ j a b (sym ea) (sym eb) dst g.is; most = omega arith; size = simp length-set g.size }

  pub copying_end : (dst : List ℕ) (j : ℕ) → n ≤ j → Copying to from src dst₀ n dst j → dst ≡ spread to from src dst₀ n
  copying_end dst j h g = let e : j ≡ n = omega (arith, g.most) in g.is ∙ ap (spread to from src dst₀) e

pub record Carrying (to from : ℕ → ℕ) (m₀ : List ℕ) (n : ℕ) (m : List ℕ) (j : ℕ) : Type 0 where
  pub is : m ≡ carried to from m₀ j
  pub most : j ≤ n
  pub size : length m ≡ length m₀

module _ (to from : ℕ → ℕ) (m₀ : List ℕ) (n : ℕ) where
  pub carrying_start : Carrying to from m₀ n m₀ 0
  unfolding carried
  carrying_start = record { is = refl; most = omega arith; size = refl }

  pub carrying_on : (m : List ℕ) (j a b : ℕ) → a ≡ to j → b ≡ from j → j < n → Carrying to from m₀ n m j → Carrying to from m₀ n (set m a (get_or m b 0)) (j + 1)
  carrying_on m j a b ea eb h g =
      record { is = carried_more to from m₀ j a b (sym ea) (sym eb) m g.is; most = omega arith; size = simp length-set g.size }

  pub carrying_end : (m : List ℕ) (j : ℕ) → n ≤ j → Carrying to from m₀ n m j → m ≡ carried to from m₀ n
  carrying_end m j h g = let e : j ≡ n = omega (arith, g.most) in g.is ∙ ap (carried to from m₀) e

-- a byte put anywhere leaves a place that holds it already
pub put_same : (l : List ℕ) (i k v : ℕ) → i < length l → get_or l k 0 ≡ v → get_or (set l i v) k 0 ≡ v
put_same l i k v h e = go (eqb i k) refl
  where
    go : (t : Bool) → eqb i k ≡ t → get_or (set l i v) k 0 ≡ v
    go true g = rw (← eqb-true i k g) (get_or-set_same l i v 0 h)
    go false g = get_or-set_other l i k v 0 (λ (x : k ≡ i). eqb-false i k g (sym x)) ∙ e

-- Laws of ordered grounds.
use Prim.Native.Nat.{ℕ, ◌<◌}
use mathlib.Core.Path.{◌≡◌, refl, sym, ap, ◌∙◌}
use mathlib.Core.Bool.{Bool, true, false}
use mathlib.Core.List.{List, [], ◌∷◌}
use native.Mathlib.Omega.{arith}
use lib.Dec.{eqb}
use borrow.Author.Tests.{ne_eqb}
use Rattle.words.specs.Choice.{when}
use Rattle.words.specs.Grounds.{Ground, ◌if◌, first}
use Rattle.words.proofs.ChoiceLaws.{when_over}

-- a refusal that did not come: its ground failed, and none came after it
pub record Passed (t : Bool) (rest : ℕ) : Type 0 where
  pub test : t ≡ false
  pub next : rest ≡ 0

pub passed : (t : Bool) (n rest : ℕ) → 0 < n → when t n rest ≡ 0 → Passed t rest
unfolding when
passed true n rest h e = absurd (omega arith)
passed false n rest h e = record { test = refl; next = e }

-- a function of what the first ground that holds gives
abbrev pub overs : {A B : Type 0} → (A → B) → List (Ground A) → List (Ground B)
overs f [] = []
overs f (g ∷ gs) = f g.gives if g.holds ∷ overs f gs

firsts_over : {A B : Type 0} (f : A → B) (gs : List (Ground A)) (x : A) → first (overs f gs) (f x) ≡ f (first gs x)
unfolding first
firsts_over f [] x = refl
firsts_over f (g ∷ gs) x = when_over f g.holds (λ e. refl) (λ e. firsts_over f gs x)

pub first_over : {A B : Type 0} (f : A → B) (gs : List (Ground A)) (x y : A) → y ≡ first gs x → first (overs f gs) (f x) ≡ f y
first_over f gs x y e = firsts_over f gs x ∙ ap f (sym e)

-- Where each gives a number that isn't 0, what they give by themselves tells whether what stands behind them decides.
abbrev pub Numbered : List (Ground ℕ) → Type 0
Numbered [] = Unit {0}
Numbered (g ∷ gs) = (0 < g.gives) × Numbered gs

pub first_else : (gs : List (Ground ℕ)) → Numbered gs → (r : ℕ) → first gs r ≡ when (eqb (first gs 0) 0) r (first gs 0)
unfolding first when
first_else [] h r = refl
first_else (g ∷ gs) h r = go (first_else gs h.1 r) g.holds
  where
    go : first gs r ≡ when (eqb (first gs 0) 0) r (first gs 0) → (t : Bool) → when t g.gives (first gs r) ≡ when (eqb (when t g.gives (first gs 0)) 0) r (when t g.gives (first gs 0))
    go e true = rw (ne_eqb g.gives 0 (λ z. omega (arith, z, h.0)))
    go e false = e

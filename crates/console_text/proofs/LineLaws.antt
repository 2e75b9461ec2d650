-- Laws of words of a line.
use Prim.Native.Nat.{ℕ, ◌-◌, ◌≤◌, ◌<◌}
use mathlib.Core.Path.{◌≡◌, refl}
use mathlib.Core.List.{List, [], ◌∷◌}
use native.Mathlib.Omega.{arith}
use lib.ListN.{length, get_or}
use borrow.Author.Tests.{eq-eqb, ne_eqb}
use Rattle.words.specs.Choice.{when}
use Rattle.console_text.specs.Lines.{end_of}

-- An empty line, one with a carriage return at its end, and one with another character there.
pub end_none : (s : List ℕ) → length s < 1 → (length s ≡ end_of s) × (length s ≤ length s)
unfolding end_of when
end_none [] h = (refl, omega arith)
end_none (x ∷ xs) h = absurd (omega arith)

pub end_cut : (s : List ℕ) → get_or s (length s - 1) 0 ≡ 13 → (length s - 1 ≡ end_of s) × (length s - 1 ≤ length s)
unfolding end_of when
end_cut s e = (simp (eq-eqb _ _ e), omega arith)

pub end_whole : (s : List ℕ) → (get_or s (length s - 1) 0 ≡ 13 → ⊥) → (length s ≡ end_of s) × (length s ≤ length s)
unfolding end_of when
end_whole s e = (simp (ne_eqb _ _ e), omega arith)

-- Laws of what run and round answer.
use Prim.Native.Nat.{ℕ, ◌+◌, ◌≤◌, ◌<◌}
use mathlib.Core.Path.{◌≡◌, refl, sym, ap, ◌∙◌}
use native.Mathlib.Omega.{arith}
use mathlib.Core.List.{List, [], ◌∷◌, ◌++◌}
use lib.ListN.{length, get_or, drop}
use Rattle.console_text.specs.Text.{codes, Page, put}
use Rattle.console_text.specs.Numbers.{decimal_text}
use Rattle.console_text.proofs.TextLaws.{put_none, put_append, drop_next, drop_end}
use Rattle.console_arrays.specs.Services.{behind_commas, services_text}

-- numbers behind commas: a turn of the loop, its end, and the list with the number before them
module _ (p r : Page) (s : List ℕ) (i : ℕ) where
  pub commas_turn : (q : Page) → i < length s → q ≡ put p (codes "," ++ decimal_text (get_or s i 0)) → put p (behind_commas (drop i s)) ≡ r
      → put q (behind_commas (drop (i + 1) s)) ≡ r
  unfolding behind_commas
  commas_turn q h e was =
      let n = get_or s i 0 in
      ap (λ (x : Page). put x (behind_commas (drop (i + 1) s))) e
      ∙ sym (put_append p (codes "," ++ decimal_text n) (behind_commas (drop (i + 1) s)))
      ∙ (rw (drop_next s i h) at was)

  pub commas_end : length s ≤ i → put p (behind_commas (drop i s)) ≡ r → p ≡ r
  unfolding behind_commas
  commas_end h was = sym (put_none p) ∙ (rw (drop_end s i h) at was)

-- an empty list of services, and one that has a first number
pub services_none : (s : List ℕ) → length s ≡ 0 → codes " services=" ≡ services_text s
unfolding services_text
services_none [] h = refl
services_none (n ∷ ns) h = absurd (omega arith)

pub services_some : (s : List ℕ) → (length s ≡ 0 → ⊥) → codes " services=" ++ decimal_text (get_or s 0 0) ++ behind_commas (drop 1 s) ≡ services_text s
unfolding services_text
services_some [] h = absurd (h refl)
services_some (n ∷ ns) h = refl

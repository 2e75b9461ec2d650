-- Laws of a row's test.
use Prim.Native.Nat.{ℕ}
use mathlib.Core.Path.{◌≡◌, refl}
use mathlib.Core.Bool.{true, false}
use mathlib.Core.List.{List}
use borrow.Author.Tests.{eq-eqb, ne_eqb}
use Rattle.words.specs.Choice.{◌and◌}
use Rattle.console_text.specs.Text.{same}
use Rattle.console_text.specs.Commands.{is_form}

module _ (name word : List ℕ) (n k : ℕ) where
  pub form_hit : n ≡ k → same name word ≡ true → is_form name n word k ≡ true
  unfolding is_form ◌and◌
  form_hit e s = rw (eq-eqb _ _ e, s) refl

  pub form_other_name : n ≡ k → same name word ≡ false → is_form name n word k ≡ false
  unfolding is_form ◌and◌
  form_other_name e s = rw (eq-eqb _ _ e, s) refl

  pub form_other_words : (n ≡ k → ⊥) → is_form name n word k ≡ false
  unfolding is_form ◌and◌
  form_other_words e = rw (ne_eqb _ _ e) refl

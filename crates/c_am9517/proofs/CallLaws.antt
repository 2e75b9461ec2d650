-- What an operation says that has no value.
use Prim.Native.Nat.{ℕ}
use mathlib.Core.Path.{◌≡◌, sym, ap}
use Rattle.am9517.specs.Answers.{refusal_number, outcome}
use Rattle.am9517.specs.declared.Controller.{Controller}
use Rattle.c_told.specs.Numbers.{told}
use Rattle.c_told.proofs.NumberLaws.{no_value}
use Rattle.c_am9517.specs.Host.{left, call_of}
use Rattle.std.proofs.Common.{None}

pub number_only : (n : ℕ) (was next : Controller)
    → left (outcome n was next None).controller (told (refusal_number (outcome n was next None).answer) 0) ≡ call_of (outcome n was next None)
unfolding outcome
number_only n was next =
    ap (λ (v : ℕ). left (outcome n was next None).controller (told (refusal_number (outcome n was next None).answer) v)) (sym (no_value n))

use mathlib.Core.Path.{◌≡◌, refl}
use mathlib.Core.Bool.{true}
use Prim.Native.Nat.{ℕ}
use mathlib.Core.List.{List, [], ◌∷◌}
use Rattle.words.specs.Choice.{when}
use Rattle.words.specs.Grounds.{first}
use Rattle.am9517.specs.Serving.{picked_from}
use Rattle.am9517.proofs.ModeLaws.{every}
use Rattle.am9517.proofs.TableLaws.{ruled}
use Rattle.am9517.proofs.ServingLaws.{picked_from_entry}
use Rattle.am9517.proofs.serving.picked_from.Goals as goal

-- the code's table
firsts : List (List ℕ)
firsts =
    (4 ∷ 0 ∷ 1 ∷ 1 ∷ 2 ∷ 2 ∷ 1 ∷ 1 ∷ 3 ∷ 3 ∷ 1 ∷ 1 ∷ 2 ∷ 2 ∷ 1 ∷ 1 ∷ [])
    ∷ (4 ∷ 0 ∷ 1 ∷ 0 ∷ 2 ∷ 2 ∷ 2 ∷ 2 ∷ 3 ∷ 3 ∷ 3 ∷ 3 ∷ 2 ∷ 2 ∷ 2 ∷ 2 ∷ [])
    ∷ (4 ∷ 0 ∷ 1 ∷ 0 ∷ 2 ∷ 0 ∷ 1 ∷ 0 ∷ 3 ∷ 3 ∷ 3 ∷ 3 ∷ 3 ∷ 3 ∷ 3 ∷ 3 ∷ [])
    ∷ (4 ∷ 0 ∷ 1 ∷ 0 ∷ 2 ∷ 0 ∷ 1 ∷ 0 ∷ 3 ∷ 0 ∷ 1 ∷ 0 ∷ 2 ∷ 0 ∷ 1 ∷ 0 ∷ [])
    ∷ []

-- the test over the whole table, which the checker computes
by_the_rule : ruled picked_from 4 16 firsts ≡ true
unfolding ruled every picked_from first when firsts
by_the_rule = refl

pub returns : goal.returns
unfolding ruled every picked_from first when firsts
returns c = picked_from_entry firsts c.before.args.last c.before.args.set refl

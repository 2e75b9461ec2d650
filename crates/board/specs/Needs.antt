-- What a register access comes to, whatever it does: for a private contract (src/access.rt). No rule stands here.
use Rattle.std.specs.Prelude.{◌≡◌, ℕ, Option, not, List, ◌∷◌, ltb}
use Rattle.words.specs.Grounds.{Ground, ◌if◌}
use Rattle.am9517.specs.Ranges.{valid}
use Rattle.am9517.specs.Refusals.{refusal, busy}
use Rattle.am9517.specs.Answers.{outcome}
use Rattle.am9517.specs.declared.Controller.{Controller}
use Rattle.am9517.specs.declared.Outcome.{Outcome}
use Rattle.board.specs.declared.Board.{Board}
use Rattle.board.specs.declared.BoardOutcome.{BoardOutcome}
use Rattle.board.specs.Chips.{chip, with_chip, addressed, own}
use Rattle.board.specs.Refusals.{access_grounds}
use Rattle.board.specs.Answers.{board_outcome}

-- what a controller refuses by itself, of one of its own registers
abbrev pub own_grounds : Controller → ℕ → List (Ground ℕ) → List (Ground ℕ)
own_grounds c r rest = 1 if not (valid c) ∷ 2 if ltb 15 (own r) ∷ 3 if busy c ∷ rest

-- what it gives that refuses by those grounds and the rest, and else leaves and tells so
abbrev pub Does : (Outcome → Type 0) → ℕ → (Controller → List (Ground ℕ)) → (Controller → Controller) → (Controller → Option ℕ) → Controller → Type 0
Does gives r rest next told c = (o : Outcome) → gives o → o ≡ outcome (refusal (own_grounds c r (rest c))) c (next c) (told c)

-- the board's own grounds stand in front; the rest is the controller's that is addressed
abbrev pub Accesses : (Controller → Outcome → Type 0) → Board → ℕ → BoardOutcome → Type 0
Accesses gives b r x =
    let c = chip b (addressed r) in
    (rest : Controller → List (Ground ℕ)) (next : Controller → Controller) (told : Controller → Option ℕ) → Does (gives c) r rest next told c
    → x ≡ board_outcome (refusal (access_grounds b r (own_grounds c r (rest c)))) b (with_chip b (addressed r) (next c)) (told c)

-- Laws of what is said of a command.
use mathlib.Core.Path.{◌≡◌, ap}
use Rattle.console_text.specs.Text.{Page}
use Rattle.console_chip.specs.Answers.{Said}

-- what it is on the same, and a page
pub said_so : {A : Type 0} (a : A) (p q : Page) → p ≡ q → ◌≡◌ {A = Said A} (record { next = a; page = p }) (record { next = a; page = q })
said_so a p q e = ap (λ (x : Page). record { next = a; page = x }) e

use mathlib.Core.Path.{◌≡◌}
use lib.IntN.{ℤ}
use mir.Syntax.{w32}
use mir.Val.{to_z, of_z}
use mathlib.Core.Path.{sym, ap, ◌∙◌}
use Prim.Native.Nat.{ℕ}
use lib.IntN.{pos}
use Rattle.c_am9517.specs.Numbers.{judge_told_of}
use borrow.Author.Rules.{rules}
use Rattle.c_am9517.proofs.numbers.judge_told_of.Goals as goal

pub returns-in-Accepted : goal.returns-in-Accepted
returns-in-Accepted c = sym (ap (judge_told_of c.args.size) c.in-Accepted.is)

pub returns-in-Wrong : goal.returns-in-Wrong
returns-in-Wrong c =
    let e = c.in-Wrong.error in
    let z : to_z w32 (of_z w32 e) ≡ e = search rules in
    ap (λ (x : ℤ). record { refusal = 0; error = x; right = c.in-Wrong.at }) z ∙ sym (ap (judge_told_of c.args.size) c.in-Wrong.is)

pub returns-in-Refused : goal.returns-in-Refused
returns-in-Refused c = ap (λ (n : ℕ). record { refusal = n; error = pos 0; right = 0 }) (c.wide.ensures.0 ∙ c.number.ensures) ∙ sym (ap (judge_told_of c.args.size) c.in-Refused.is)

use native.Mathlib.Omega.{arith}
use Rattle.words.proofs.ChoiceLaws.{when_le}
use Rattle.am9517.proofs.serving.set_of.Goals as goal

pub overflow_add-result : goal.overflow_add-result
overflow_add-result c =
    let at-when = c.before in let entry = at-when.before in
    rw (at-when.when.ensures, c.when-2.ensures) (omega (arith, when_le entry.args.first 1, when_le entry.args.second 2))

pub overflow_add-result-2 : goal.overflow_add-result-2
overflow_add-result-2 c =
    let at-when2 = c.before in let at-when = at-when2.before in let entry = at-when.before in
    rw (at-when.when.ensures, at-when2.when-2.ensures, c.when-3.ensures) (omega (arith, when_le entry.args.first 1, when_le entry.args.second 2, when_le entry.args.third 4))

pub overflow_add-result-3 : goal.overflow_add-result-3
overflow_add-result-3 c =
    let at-when3 = c.before in let at-when2 = at-when3.before in let at-when = at-when2.before in let entry = at-when.before in
    rw (at-when.when.ensures, at-when2.when-2.ensures, at-when3.when-3.ensures, c.when-4.ensures) (omega (arith, when_le entry.args.first 1, when_le entry.args.second 2, when_le entry.args.third 4, when_le entry.args.fourth 8))

pub returns : goal.returns
returns c =
    let at-when3 = c.before in let at-when2 = at-when3.before in let at-when = at-when2.before in
    rw (at-when.when.ensures, at-when2.when-2.ensures, at-when3.when-3.ensures, c.when-4.ensures)

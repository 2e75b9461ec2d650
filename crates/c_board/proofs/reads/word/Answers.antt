use native.Mathlib.Omega.{arith}
use Rattle.words.specs.Choice.{when}
use mathlib.Core.Path.{◌≡◌}
use Rattle.c_board.proofs.reads.word.Goals as goal

pub returns-in-0 : goal.returns-in-0
unfolding when
returns-in-0 c = rw c.in-0.is

pub returns-in-1 : goal.returns-in-1
unfolding when
returns-in-1 c = rw c.in-1.is

pub returns-in-2 : goal.returns-in-2
unfolding when
returns-in-2 c = rw c.in-2.is

pub returns-in-3 : goal.returns-in-3
unfolding when
returns-in-3 c = rw c.in-3.is

pub returns-in-4 : goal.returns-in-4
unfolding when
returns-in-4 c = rw c.in-4.is

pub returns-in-5 : goal.returns-in-5
unfolding when
returns-in-5 c = rw c.in-5.is

pub returns-in-6 : goal.returns-in-6
unfolding when
returns-in-6 c = rw c.in-6.is

pub returns-in_default : goal.returns-in_default
unfolding when
returns-in_default c =
    let seven : c.args.reg ≡ 7 = omega (arith, c.requires) in
    rw seven

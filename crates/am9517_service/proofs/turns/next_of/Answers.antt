use native.Mathlib.Omega.{arith}
use Rattle.am9517.proofs.RangeLaws.{fields}
use Rattle.am9517.proofs.ServingLaws.{picked_most}
use Rattle.am9517_service.proofs.TurnLaws.{next_own}
use Rattle.am9517_service.proofs.turns.next_of.Goals as goal

pub bounds-nexts-last : goal.bounds-nexts-last
bounds-nexts-last c = omega (arith, (fields c.before.before.args.rota.controller c.before.before.requires.1).lowest)

pub returns : goal.returns
returns c =
    let e = next_own c.args.rota c.requires.0 c.requires.1 in (e, omega (arith, e, picked_most c.args.rota.controller))

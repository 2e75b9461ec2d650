use native.Mathlib.Omega.{arith}
use Rattle.am9517.specs.Serving.{active, requests, status}
use Rattle.am9517.proofs.ServingLaws.{set_most, requests_set, no_requests}
use Rattle.am9517.proofs.Controller.status.Goals as goal

pub overflow_mul-result : goal.overflow_mul-result
overflow_mul-result c = rw c.before.before.active_set-active.ensures (omega (arith, set_most (active c.before.before.before.args.self)))

pub overflow_add-result : goal.overflow_add-result
overflow_add-result c =
    let at-active-set = c.before.before.before in let at_pre = at-active-set.before in
    rw at-active-set.active_set-active.ensures (omega (arith, at_pre.requires, set_most (active at_pre.args.self)))

pub returns-then-self-eq0 : goal.returns-then-self-eq0
unfolding status
returns-then-self-eq0 c =
    let at-if1 = c.before in let at-active-set = at-if1.before.before in let entry = at-active-set.before in
    rw (at-active-set.active_set-active.ensures, no_requests entry.args.self at-if1.if-self-eq0.true)

pub overflow_mul-result-2 : goal.overflow_mul-result-2
overflow_mul-result-2 c =
    let at-block-set = c.before in let at-active-set = at-block-set.before.before.before in let entry = at-active-set.before in
    rw (at-active-set.active_set-active.ensures, at-block-set.block_set.ensures, requests_set entry.args.self) (omega (arith, set_most (requests entry.args.self)))

pub overflow_add-result-2 : goal.overflow_add-result-2
overflow_add-result-2 c =
    let at-block-set = c.before.before in let at-active-set = at-block-set.before.before.before in let entry = at-active-set.before in
    rw (at-active-set.active_set-active.ensures, at-block-set.block_set.ensures, requests_set entry.args.self) (omega (arith, entry.requires, set_most (requests entry.args.self)))

pub returns : goal.returns
unfolding status
returns c =
    let at-block-set = c.before.before in let at-active-set = at-block-set.before.before.before in let entry = at-active-set.before in
    rw (at-active-set.active_set-active.ensures, at-block-set.block_set.ensures, requests_set entry.args.self)

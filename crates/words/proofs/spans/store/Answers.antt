use Rattle.words.proofs.SpreadLaws.{spread_same, spread_pieces}
use Rattle.words.proofs.SpanLaws.{pieces, within_front, front_is, front_first}
use Rattle.words.specs.Spans.{spread}
use native.Mathlib.Omega.{arith}
use mathlib.Core.Path.{◌≡◌, ap, ◌∙◌}
use Rattle.words.proofs.spans.store.Goals as goal

pub copy-requires : goal.copy-requires
copy-requires c =
    let at-min = c.before in let at-reach = at-min.before in let at_pre = at-reach.before.before.before in
    let p = pieces _ _ _ _ _ _ at_pre.requires.0 at_pre.requires.1 at-reach.reach.ensures at-min.min-first.ensures in (p.front, within_front _ _ _ (omega (arith, p.most, at_pre.requires.2)))

pub copy-requires-then-first-n : goal.copy-requires-then-first-n
copy-requires-then-first-n c =
    let at_copy = c.before.before.before.before.before in let at-min = at_copy.before.before in let at-reach = at-min.before in
    let at_pre = at-reach.before.before.before in
    let p = pieces _ _ _ _ _ _ at_pre.requires.0 at_pre.requires.1 at-reach.reach.ensures at-min.min-first.ensures in (rw (at_copy.copy.auto.dst, c.wrapped_to.ensures) p.back, within_front _ _ _ (omega (arith, p.most, at_pre.requires.2)))

pub returns-then-first-n : goal.returns-then-first-n
returns-then-first-n c =
    let at-copy2 = c.before.before in let at-wrapped-to = at-copy2.before in let at-if1 = at-wrapped-to.before.before in
    let at_copy = at-if1.before.before.before in let at-min = at_copy.before.before in let at-reach = at-min.before in
    let at_pre = at-reach.before.before.before in
    λ w e. let p = pieces _ _ _ _ _ _ at_pre.requires.0 at_pre.requires.1 at-reach.reach.ensures at-min.min-first.ensures in spread_pieces _ _ _ _ _ _ _ _ _ _ _ _ p.most at_copy.copy.ensures (rw at-wrapped-to.wrapped_to.ensures at at-copy2.copy-then-first-n.ensures) (p.here w e) (λ i h. front_first i) (p.next w e at-if1.if-first-n.true) (λ i h. front_is _ i)

pub returns-else-first-n : goal.returns-else-first-n
returns-else-first-n c =
    let at_copy = c.before.before.before in let at-min = at_copy.before.before in let at-reach = at-min.before in
    let at_pre = at-reach.before.before.before in
    λ w e. let p = pieces _ _ _ _ _ _ at_pre.requires.0 at_pre.requires.1 at-reach.reach.ensures at-min.min-first.ensures in let all : at-min.min-first.result ≡ at_pre.args.n = omega (arith, p.most) in at_copy.copy.ensures ∙ spread_same _ _ _ _ _ _ _ (p.here w e) (λ i h. front_first i) ∙ ap (spread _ _ _ _) all

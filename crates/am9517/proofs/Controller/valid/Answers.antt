use mathlib.Core.Path.{sym, ◌∙◌}
use native.Mathlib.Omega.{arith}
use Rattle.words.specs.Choice.{◌and◌}
use Rattle.am9517.specs.Ranges.{valid}
use Rattle.am9517.specs.ClosedMasks.{flags, others}
use Rattle.am9517.proofs.MaskLaws.{Bytes, idle_told, open_is}
use Rattle.am9517.proofs.Controller.valid.Goals as goal
use Rattle.am9517.proofs.Controller.valid.Goals.{Start}

flag-bytes : (c : Start) → Bytes (flags c.args.self)
flag-bytes c =
    let g = c.well_formed in
    (omega (arith, g), (omega (arith, g), (omega (arith, g), (omega (arith, g), (omega (arith, g), (omega (arith, g), (omega (arith, g), (omega (arith, g), tt))))))))

other_bytes : (c : Start) → Bytes (others c.args.self)
other_bytes c = (omega (arith, c.well_formed), (omega (arith, c.well_formed), (omega (arith, c.well_formed), (omega (arith, c.well_formed), tt))))

pub returns-then-not-modes_valid : goal.returns-then-not-modes_valid
unfolding valid ◌and◌
returns-then-not-modes_valid c = simp (sym c.before.modes_valid.ensures, c.if-not-modes_valid.true)

pub returns-then-flags-others : goal.returns-then-flags-others
returns-then-flags-others c =
    let at_others = c.before in let at-flags = at_others.before in let at-if1 = at-flags.before in let at-modes-valid = at-if1.before in
    let entry = at-modes-valid.before in
    let s = entry in
    sym (idle_told s.args.self (flag-bytes s) (other_bytes s) (sym at-modes-valid.modes_valid.ensures ∙ at-if1.if-not-modes_valid.false) (rw (sym at-flags.flags-flags.ensures, sym at_others.others.ensures) c.if-flags-others.true))

pub returns : goal.returns
returns c =
    let at-if2 = c.before.before.before in let at_others = at-if2.before in let at-flags = at_others.before in let at-if1 = at-flags.before in
    let at-modes-valid = at-if1.before in let entry = at-modes-valid.before in
    let s = entry in
    rw (at-flags.flags-flags.ensures, at_others.others.ensures)
    (open_is s.args.self (flag-bytes s) (other_bytes s) (sym at-modes-valid.modes_valid.ensures ∙ at-if1.if-not-modes_valid.false) (rw (sym at-flags.flags-flags.ensures, sym at_others.others.ensures) at-if2.if-flags-others.false))

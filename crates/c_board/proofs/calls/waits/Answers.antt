use mathlib.Core.Path.{◌∙◌}
use Rattle.c_board.proofs.CallLaws.{number_only, waits_of_none, waits_of_one}
use Rattle.c_board.proofs.calls.waits.Goals as goal

pub returns-then-valid-names_none : goal.returns-then-valid-names_none
returns-then-valid-names_none c =
    let at-names-none = c.before in let at-valid = at-names-none.before in let entry = at-valid.before in
    waits_of_none entry.args.b _ _ _ _ at-valid.valid.ensures at-names-none.names_none.ensures c.if-valid-names_none.true

pub returns : goal.returns
returns c =
    let at-waits = c.before in let at-chip-of = at-waits.before in let at-if1 = at-chip-of.before in let at-names-none = at-if1.before in
    let at-valid = at-names-none.before in let entry = at-valid.before in
    rw (c.done_of.ensures, at-waits.waits.ensures.0, at-chip-of.chip_of.ensures) (number_only _ _ _ ∙ waits_of_one entry.args.b _ _ _ _ at-valid.valid.ensures at-names-none.names_none.ensures at-if1.if-valid-names_none.false)

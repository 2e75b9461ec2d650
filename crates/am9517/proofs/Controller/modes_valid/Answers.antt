use Rattle.am9517.proofs.ModeLaws.{modes_apart}
use Rattle.am9517.proofs.Controller.modes_valid.Goals as goal

pub returns : goal.returns
returns c =
    let at-mode-refused3 = c.before in let at-mode-refused2 = at-mode-refused3.before in let at-mode-refused = at-mode-refused2.before in
    let entry = at-mode-refused.before in
    rw (at-mode-refused.mode_refused.ensures, at-mode-refused2.mode_refused-2.ensures, at-mode-refused3.mode_refused-3.ensures, c.mode_refused-4.ensures) (modes_apart entry.args.self)

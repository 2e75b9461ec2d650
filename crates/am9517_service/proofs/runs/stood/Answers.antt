use Rattle.am9517_service.proofs.AnswerLaws.{stood_ended, stood_open, stood_as}
use mathlib.Core.Path.{◌∙◌, ap}
use mathlib.Core.Bool.{not}
use Rattle.am9517_service.proofs.runs.stood.Goals as goal
use Rattle.am9517_service.proofs.runs.stood.Goals.{then-not-stays_open, else-not-stays_open}

pub returns : goal.returns
returns c =
    let e = c.args in
    λ m room. rw c.no_counts.ensures (stood_as e.c _ _ _ c.stays_open.ensures (elim c.if-not-stays_open.branch [
      | then-not-stays_open w ↦ stood_ended e.c e.i e.ch c.requires.1 _ _ (ap not w.if-not-stays_open.true) (w.next-is ∙ w.ended-next.ensures)
      | else-not-stays_open w ↦ stood_open e.c e.i e.ch c.requires.1 _ _ (ap not w.if-not-stays_open.false) w.next-is
    ]) m room)

use mathlib.Core.Path.{◌∙◌, ap}
use Rattle.logs.specs.Judge.{same}
use Rattle.logs.proofs.RecordLaws.{same_is, none_there, flagged, unflagged}
use mathlib.Core.Path.{◌∙◌}
use lib.ListN.{length-drop}
use Rattle.logs.proofs.records.goes_on.Goals as goal

pub returns-then-log-at-lt8 : goal.returns-then-log-at-lt8
returns-then-log-at-lt8 c =
    none_there _ _ _ _ (rw (length-drop c.args.at c.args.log.now) c.if-log-at-lt8.true)

pub returns-then-r-ne0 : goal.returns-then-r-ne0
returns-then-r-ne0 c =
    flagged _ _ _ _ (rw (length-drop c.args.at c.args.log.now) c.if-log-at-lt8.false) _ c.record_at-r.ensures c.if-r-ne0.true

pub returns : goal.returns
returns c =
    c.eq.ensures ∙ same_is c.record_at-r.result c.record_by.result ∙ ap (same c.record_at-r.result) c.record_by.ensures ∙ unflagged _ _ _ _ (rw (length-drop c.args.at c.args.log.now) c.if-log-at-lt8.false) _ c.record_at-r.ensures c.if-r-ne0.false

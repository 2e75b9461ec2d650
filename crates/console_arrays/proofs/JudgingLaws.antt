-- Laws of what judge answers.
use Prim.Native.Nat.{ℕ}
use mathlib.Core.Path.{◌≡◌}
use mathlib.Core.List.{List}
use Rattle.logs.specs.Answers.{JudgeGiven, judge_given}
use Rattle.logs.specs.declared.Judged.{Judged}
use Rattle.console_text.specs.Text.{Page, put}
use Rattle.console_arrays.specs.Services.{Seen, serving}
use Rattle.am9517.specs.declared.Controller.{Controller}
use Rattle.console_arrays.specs.Judging.{verdict_text, judge_service}

pub judged_so : (j : Judged) (m room : List ℕ) (p q : Page) (records : ℕ) (g : JudgeGiven) → judge_given j m ≡ g
    → q ≡ put p (verdict_text records j.verdict)
    → ◌≡◌ {A = Seen Controller} (record { next = j.controller; used = 0; written = 0; memory = m; room = room; page = q }) (serving p (judge_service room records g))
unfolding judge_service
judged_so j m room p q records g e t = rw (← e, t)

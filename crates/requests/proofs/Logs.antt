-- What document 02's A8 says of judged logs.
use Prim.Native.Nat.{ℕ, zero, suc, ◌/◌}
use mathlib.Core.Path.{refl, sym}
use mathlib.Core.List.{List, [], ◌∷◌}
use lib.Dec.{eqb}
use lib.ListN.{length, drop}
use Rattle.am9517.specs.Refusals.{refusal}
use Rattle.am9517.specs.declared.Controller.{Controller}
use Rattle.am9517_service.specs.Answers.{run_grounds}
use Rattle.words.specs.Choice.{when}
use Rattle.am9517_service.specs.World.{start_of}
use Rattle.logs.specs.Record.{record_in}
use Rattle.logs.specs.Judge.{next_run, tells_eop, is_right, Found, judged, signed}
use Rattle.logs.specs.Answers.{JudgeGiven, told, judged_of}
use Rattle.words.proofs.ChoiceLaws.{when_both}
use Rattle.logs.proofs.KeepLaws.{judged_keeps}
use Rattle.logs.proofs.AnswerLaws.{refused_by, stated}
use Rattle.demands.proofs.Refusals.{refused_some}
use Rattle.requests.specs.Logs.{Refuses, Keeps, LogsJudged}
use Rattle.requests.proofs.LastLaws.{Lasts, lasts_then, run_lasts}
use Rattle.requests.proofs.LogFirstLaws.{first_wrong, nothing_back, error_told, error_in_range}
use Rattle.requests.proofs.LogPartLaws.{in_parts}
use Rattle.requests.proofs.HonestLaws.{honest}
use Rattle.requests.proofs.SoundLaws.{sound}
use Rattle.requests.proofs.TellLaws.{record_tells}
use Rattle.requests.proofs.LogSizeLaws.{log_counted, none_judged, silent_judged}

refuses : (c : Controller) (m log : List ℕ) → Refuses c m log
refuses c m log = record { refused = λ h. sym (refused_by c m log _ (refused_some _ h)); number = (stated c m log _ _ refl).1 }

-- the edition and the wait states, record by record
judged_lasts : (n : ℕ) (c : Controller) (m log : List ℕ) → Lasts c (judged n c m log).controller
unfolding judged next_run
judged_lasts zero c m log = (refl, refl)
judged_lasts (suc n) c m log =
    let r = record_in log in
    let next = (next_run c m r.byte (tells_eop r)).world in
    when_both (λ (f : Found). Lasts c f.controller) (is_right c m r)
    (lasts_then c next.controller (judged n next.controller next.memory (drop 8 log)).controller (run_lasts 1 _ _ (start_of c m (0 ∷ []))) (judged_lasts n next.controller next.memory (drop 8 log)))
    (refl, refl)

keeps : (c : Controller) (m log : List ℕ) → Keeps c (judged_of c m log)
unfolding judged_of told
keeps c m log =
    let lasts = when_both (λ (g : JudgeGiven). Lasts c g.judged.controller) (eqb (refusal (run_grounds c m)) 0) (judged_lasts (length log / 8) c m log) (refl, refl) in
    record { ranges = λ v. (judged_keeps c m log v).0; lowest = λ v. (judged_keeps c m log v).1; edition = lasts.0; waits = lasts.1 }

pub logs_judged : LogsJudged
unfolding signed when
logs_judged =
    record {
      refuses = refuses;
      tells = record_tells;
      counted = log_counted;
      honest = honest;
      sound = sound;
      empty = none_judged;
      silent = silent_judged;
      first = first_wrong;
      accepted = nothing_back;
      errors = error_told;
      ranges = error_in_range;
      ends = (refl, refl, refl, refl);
      parts = in_parts;
      keeps = keeps;
    }

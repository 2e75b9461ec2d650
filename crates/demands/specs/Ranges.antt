-- Ranges are kept: refusal 1 meets only a state that was put together out of its ranges.
use Rattle.std.specs.Prelude.{ℕ, ◌≡◌, true, List, ◌∷◌}
use Rattle.am9517.specs.Editions.{number_of}
use Rattle.am9517.specs.State.{fresh}
use Rattle.am9517.specs.Ranges.{valid}
use Rattle.am9517.specs.declared.Controller.{Controller}
use Rattle.am9517.specs.declared.Edition.{Edition}
use Rattle.am9517_sheet.specs.declared.forms.Form.{Form}
use Rattle.demands.specs.Operations.{Op, SheetReading, next, after_all, said}

pub record RangesKept : Type 0 where
  -- A state in its ranges is in them after every operation, accepted or refused;
  pub kept : (s : Controller) (op : Op) → valid s ≡ true → valid (next s op) ≡ true
  -- a sheet that is read gives a state in its ranges, whatever state the reader had.
  pub read : (s : Controller) (form : Form) (bytes : List ℕ) → said s (SheetReading form bytes) ≡ 0 → valid (next s (SheetReading form bytes)) ≡ true
  -- So a controller that began fresh, of either edition, is never refused by 1, whatever was called before,
  pub from_fresh : (e : Edition) (ops : List Op) (op : Op) → ¬ (said (after_all (fresh (number_of e)) ops) op ≡ 1)
  -- nor is one that began with a sheet that was read.
  pub from_sheet : (s : Controller) (form : Form) (bytes : List ℕ) (ops : List Op) (op : Op)
      → said s (SheetReading form bytes) ≡ 0
      → ¬ (said (after_all s (SheetReading form bytes ∷ ops)) op ≡ 1)

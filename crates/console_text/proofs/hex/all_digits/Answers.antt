use Rattle.std.proofs.Common.{rules, tests, is_some, ◌∙◌}
use Rattle.std.proofs.lemmas.Iterator.{YieldsList-from_slice}
use Rattle.std.proofs.lemmas.Iterator.Search.{all_from_yields_List}
use Rattle.console_text.specs.Numbers.{digit_in}
use Rattle.console_text.proofs.NumberLaws.{digits_said}
use Rattle.console_text.proofs.hex.all_digits.Goals as goal

pub returns : goal.returns
returns c =
    all_from_yields_List (λ x. is_some (digit_in 16 x)) _ _ _ c.all.ensures.ran (YieldsList-from_slice c.args.s.now cc) (λ x b q k. search (rules, tests))
    ∙ digits_said 16 c.args.s.now

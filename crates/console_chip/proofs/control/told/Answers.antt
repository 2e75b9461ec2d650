use Rattle.console_text.specs.Text.{page, put}
use Rattle.console_text.specs.Hex.{bytes_in}
use Rattle.console_text.proofs.TextLaws.{put_both, stands_whole}
use Rattle.console_text.proofs.HexLaws.{bytes_length}
use Rattle.am9517_sheet.specs.declared.forms.Form.TheVariants.{Two}
use Rattle.am9517_sheet.specs.Body.{state_of}
use Rattle.std.proofs.Common.{◌≡◌, ℕ, ◌++◌, ap, ◌∙◌, arith, length-append}
use Rattle.console_chip.proofs.control.told.Goals as goal

pub returns : goal.returns
returns c =
    let s = c.args in
    let all : page _ _ ≡ put _ (s.front.now ++ bytes_in s.digits.now) = put_both _ _ _ _ _ c.text-next.ensures c.store.ensures in
    c.state_of.ensures ∙ ap (state_of Two) (stands_whole _ _ _ _ all (omega (arith, bytes_length s.digits.now, length-append {A = ℕ}, c.requires)))

use Rattle.console_chip.specs.Sheets.{bytes_within}
use Rattle.console_text.specs.Hex.{bytes_in}
use Rattle.console_text.proofs.HexLaws.{bytes_length}
use Rattle.console_text.proofs.TextLaws.{stands_in_front}
use Rattle.words.specs.Choice.{when}
use Rattle.std.proofs.Common.{◌≡◌, ℕ, ◌/◌, length, take, refl, sym, ap, ◌∙◌, arith}
use borrow.Author.Tests.{le-leb}
use Rattle.console_chip.proofs.sheets.bytes_of.Goals as goal

pub returns : goal.returns
unfolding bytes_within when
returns c =
    let digits = c.args.digits.now in
    let kept = c.store.new.out in
    let front : take (length digits / 2) kept ≡ bytes_in digits = ap (λ (k : ℕ). take k kept) (sym (bytes_length digits)) ∙ stands_in_front _ _ _ _ c.store.ensures (omega (arith, bytes_length digits, c.if-spare-n.false)) in
    simp (le-leb _ _ c.if-spare-n.false, sym c.is_bytes.ensures ∙ c.if-not-is_bytes.false, front) refl

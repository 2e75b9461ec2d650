use Rattle.console_text.proofs.TextLaws.{put_both, put_one_lem}
use Rattle.console_dump.specs.Dump.{address_text}
use Rattle.words.specs.Choice.{when}
use borrow.Author.Tests.{lt-ltb, le-ltb}
use mathlib.Core.Path.{sym, ◌∙◌}
use Rattle.console_dump.proofs.address.Goals as goal

pub returns-then-a-lt65536 : goal.returns-then-a-lt65536
unfolding address_text when
returns-then-a-lt65536 c = simp (lt-ltb _ _ c.if-a-lt65536.true) c.hex.ensures

pub returns : goal.returns
unfolding address_text when
returns c =
    simp (le-ltb _ _ c.if-a-lt65536.false) (put_both _ _ _ _ _ (c.byte-next.ensures ∙ sym (put_one_lem _ _)) c.hex-2.ensures)

use Rattle.console_text.specs.Text.{page, put}
use Rattle.console_text.specs.Hex.{hex_text}
use Rattle.std.proofs.Common.{◌≡◌, take}
use Rattle.console_text.proofs.page.hex.Given as goal

abbrev pub invariant-loop-b : goal.invariant-loop-b
invariant-loop-b l = page l.out l.next ≡ put (page l.initial.out l.at) (hex_text (take l.b-index l.bytes))

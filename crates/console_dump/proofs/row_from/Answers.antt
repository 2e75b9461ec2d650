use Rattle.console_text.specs.Text.{page, put}
use Rattle.console_dump.specs.Dump.{row_text}
use Rattle.console_dump.proofs.DumpLaws.{last_row}
use lib.ListN.{take, drop}
use native.Mathlib.Omega.{arith}
use Prim.Native.Nat.{ℕ, ◌+◌, ◌-◌}
use mathlib.Core.List.{List}
use mathlib.Core.Path.{◌≡◌, ap, ◌∙◌}
use Rattle.console_dump.proofs.row_from.Goals as goal

pub returns-then-bytes-from-lt16 : goal.returns-then-bytes-from-lt16
returns-then-bytes-from-lt16 c = let s = c.args in c.row.ensures ∙ ap (λ (x : List ℕ). put (page s.out.now s.at) (row_text s.a x)) (last_row s.bytes.now s.from (omega arith))

pub returns : goal.returns
returns c = let s = c.args in let e : s.from + 16 - s.from ≡ 16 = omega arith in c.row-2.ensures ∙ ap (λ (n : ℕ). put (page s.out.now s.at) (row_text s.a (take n (drop s.from s.bytes.now)))) e

use lib.ListN.{length, drop}
use mathlib.Core.Path.{◌≡◌}
use Prim.Native.Nat.{◌+◌, ◌*◌, ◌-◌, ◌/◌}
use Rattle.console_text.specs.Text.{page, put}
use Rattle.console_dump.specs.Dump.{more_rows}
use Rattle.console_dump.proofs.rows.Given as goal

abbrev pub invariant-loop-k : goal.invariant-loop-k
invariant-loop-k l =
    put (page l.out l.next) (more_rows ((length l.bytes + 15) / 16 - l.k) (l.a + 16 * l.k) (drop (16 * l.k) l.bytes))
    ≡ put (page l.initial.out l.initial.next) (more_rows ((length l.bytes + 15) / 16 - 1) (l.a + 16) (drop 16 l.bytes))

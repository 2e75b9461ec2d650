use Rattle.console_dump.proofs.DumpLaws.{dump_none}
use mathlib.Core.Path.{sym, ap, ◌∙◌}
use Rattle.console_text.specs.Text.{page, put}
use Rattle.console_dump.specs.Dump.{dump_at}
use Rattle.words.specs.Choice.{when}
use borrow.Author.Tests.{le-leb, lt-leb}
use lib.ListN.{length}
use native.Mathlib.Omega.{arith}
use Prim.Native.Nat.{◌+◌, ◌-◌}
use mathlib.Core.Path.{◌≡◌}
use Rattle.console_dump.proofs.dump_at.Goals as goal

pub returns-then-array-a : goal.returns-then-array-a
unfolding dump_at when
returns-then-array-a c = let s = c.args in simp (lt-leb (s.a + s.n) (length s.array.now) (omega arith)) c.error.ensures

pub returns-then-array-a-2 : goal.returns-then-array-a-2
unfolding dump_at when
returns-then-array-a-2 c = let s = c.args in simp (lt-leb (s.a + s.n) (length s.array.now) (omega arith)) c.error-then-array-a-2.ensures

pub returns-then-n-eq0 : goal.returns-then-n-eq0
returns-then-n-eq0 c =
    let s = c.args in c.text.ensures ∙ ap (put (page s.out.now s.at)) (sym (dump_none s.array.now s.a s.n (omega arith) c.if-n-eq0.true))

pub returns : goal.returns
unfolding dump_at when
returns c = let s = c.args in let e : s.a + s.n - s.a ≡ s.n = omega arith in simp (le-leb (s.a + s.n) (length s.array.now) (omega arith)) (rw e at c.rows.ensures)

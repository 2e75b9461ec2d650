use Rattle.console_arrays.proofs.ArrayLaws.{front_end}
use mathlib.Core.Path.{◌≡◌}
use Prim.Native.Nat.{◌-◌}
use native.Mathlib.Omega.{arith}
use Rattle.console_arrays.proofs.queue.Queue.with_room.Goals as goal

pub returns : goal.returns
returns c =
    let s = c.args.self in
    let all : s.to - s.from - 0 ≡ s.to - s.from = omega arith in
    (rw all (front_end _ _ s.from _ (omega arith) c.copy_within.ensures.after), omega arith)

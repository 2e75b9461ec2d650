use Prim.Native.Nat.{ℕ, ◌-◌}
use mathlib.Core.Path.{◌≡◌, refl, ap, ◌∙◌}
use native.Mathlib.Omega.{arith}
use lib.ListN.{take}
use Rattle.console_text.specs.Text.{page, put}
use Rattle.console_arrays.specs.Arrays.{peek_text}
use Rattle.console_commands.proofs.arrays.room_shown.Goals as goal

pub returns : goal.returns
returns c =
    let s = c.before.before.before.before.before.before.before.before.before.args in
    let size = s.console.size in
    let all : size - 0 ≡ size = omega arith in
    (refl, c.before.before.peek-next.ensures ∙ ap (λ (k : ℕ). put (page s.out.now s.at) (peek_text (take k s.room.now) s.one.now s.two.now)) all)

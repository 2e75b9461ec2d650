-- Who requests is who is entitled with nothing masked and nothing disabled.
use Prim.Native.Nat.{ℕ, ◌*◌, ◌/◌}
use mathlib.Core.Path.{◌≡◌, refl}
use mathlib.Core.Bool.{Bool, true, false, ◌&&◌}
use native.Mathlib.Omega.{arith}
use Rattle.words.specs.Bits.{bit}
use Rattle.am9517.specs.Fields.{put, Mask, Command}
use Rattle.am9517.specs.Serving.{active, request_counts, requests, entitled, set_of}
use Rattle.am9517.specs.declared.Controller.{Controller}

abbrev pub unhindered : Controller → Controller
unhindered c = put (put c Mask 0) Command (64 * (c.command / 64))

and_true : (a : Bool) → a && true ≡ a
and_true true = refl
and_true false = refl

unhindered_entitled : (c : Controller) (n : ℕ) → bit 0 n ≡ 0 → entitled (unhindered c) n ≡ requests c n
unfolding entitled requests active request_counts
unhindered_entitled c n free =
    let on : bit (64 * (c.command / 64)) 2 ≡ 0 = omega arith in
    let level : bit (64 * (c.command / 64)) 6 ≡ bit c.command 6 = omega arith in
    simp (on, level, free, and_true)

pub requesting : (c : Controller) → set_of (entitled (unhindered c)) ≡ set_of (requests c)
unfolding set_of
requesting c = simp (unhindered_entitled c 0 refl, unhindered_entitled c 1 refl, unhindered_entitled c 2 refl, unhindered_entitled c 3 refl)

-- What a grant answers in a state that is idle and in range, and that a service granted there can be run.
use Prim.Native.Nat.{ℕ, ◌<◌}
use mathlib.Core.Path.{◌≡◌, refl}
use mathlib.Core.Bool.{true, false}
use mathlib.Core.List.{List}
use native.Mathlib.Omega.{arith}
use lib.ListN.{length}
use borrow.Author.Tests.{eq-eqb, ne_eqb, eqb-false}
use Rattle.words.specs.Choice.{when}
use Rattle.words.specs.Grounds.{first}
use Rattle.am9517.specs.Ranges.{valid}
use Rattle.am9517.specs.Refusals.{refusal, grant_grounds}
use Rattle.am9517.specs.Serving.{picked, granted}
use Rattle.am9517.specs.Answers.{outcome, grant_of}
use Rattle.am9517.specs.declared.Controller.{Controller}
use Rattle.std.proofs.Common.{Some, Ok}
use Rattle.am9517_service.specs.Answers.{run_grounds}
use Rattle.am9517_service.specs.Round.{nobody}
use Rattle.am9517.proofs.RangeLaws.{ranges, of_ranges}
use Rattle.am9517.proofs.KeepLaws.{granted_kept}
use Rattle.am9517.proofs.ServingLaws.{picked_most}

pub granted_open : (c : Controller) (n : ℕ) → (granted c n).in_service ≡ 1
unfolding granted
granted_open c n = refl

pub granted_waits : (c : Controller) (n : ℕ) → (granted c n).waits ≡ c.waits
unfolding granted
granted_waits c n = refl

granted_busy : (c : Controller) (n : ℕ) → (granted c n).in_service ≡ 0 → ⊥
granted_busy c n e = omega (arith, granted_open c n)

-- somebody is one of the four
pub picked_below : (c : Controller) → nobody c ≡ false → picked c < 4
picked_below c h = omega (arith, picked_most c, eqb-false (picked c) 4 h)

module _ (c : Controller) (v : valid c ≡ true) (i : c.in_service ≡ 0) (some : nobody c ≡ false) where
  grant_number : refusal (grant_grounds c) ≡ 0
  unfolding refusal first when
  grant_number = simp (v, eq-eqb _ _ i, some)

  pub grant_some : grant_of c ≡ record { controller = granted c (picked c); answer = Ok (Some (picked c)) }
  unfolding outcome when
  grant_some = rw grant_number refl

  -- a granted service is never refused its run
  pub granted_runs : (m : List ℕ) → length m ≡ 65536 → refusal (run_grounds (granted c (picked c)) m) ≡ 0
  unfolding refusal first when
  granted_runs m size =
      let good : valid (granted c (picked c)) ≡ true = of_ranges _ (granted_kept c (ranges c v) (picked c) (picked_below c some)) in
      simp (good, eq-eqb _ _ size, ne_eqb _ _ (granted_busy c (picked c)))

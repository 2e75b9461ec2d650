-- What a run answers: refused, or the run of its open service.
use Prim.Native.Nat.{ℕ, zero, suc, ◌%◌, ◌<◌}
use mathlib.Core.Path.{◌≡◌, refl, sym, ap, ◌∙◌}
use mathlib.Core.Bool.{Bool, true, false, not}
use mathlib.Core.List.{List, [], ◌∷◌}
use native.Mathlib.Omega.{arith}
use native.Mathlib.Nat.{zero-add}
use lib.ListN.{length, get_or, set}
use borrow.Author.Tests.{ne_eqb, eqb-true, not-true, not-false}
use Rattle.words.specs.Choice.{when}
use Rattle.words.specs.Grounds.{first}
use Rattle.am9517.specs.State.{ended}
use Rattle.am9517.specs.Fields.{blank, channel, make, field, with_channel}
use Rattle.am9517.specs.Refusals.{refused, refusal}
use Rattle.am9517.specs.declared.Channel.{Channel}
use Rattle.am9517.specs.declared.Controller.{Controller}
use Rattle.am9517.specs.declared.refusals.Refusal.{Refusal}
use Rattle.am9517_service.specs.declared.Reason.{Reason}
use Rattle.am9517_service.specs.declared.Counts.{Counts}
use Rattle.am9517_service.specs.Counts.{none, plus}
use Rattle.am9517_service.specs.World.{start_of, stop}
use Rattle.am9517_service.specs.Run.{run_of}
use Rattle.am9517_service.specs.Answers.{given, stopped, run_grounds, ran_of}
use Rattle.am9517_service.specs.ClosedSpans.{stays_open}
use Rattle.words.proofs.ChoiceLaws.{when_hit, when_miss}
use Rattle.words.proofs.GroundLaws.{passed}
use Rattle.am9517.proofs.RangeLaws.{fields}
use Rattle.am9517.proofs.RefusalLaws.{taken}
use Rattle.std.proofs.Common.{Some, Ok, Err}

pub run_refused : (c : Controller) (m d r : List ℕ) (limit eop : ℕ) (why : Refusal) → refused (refusal (run_grounds c m)) ≡ Some why
    → ran_of c m d r limit eop ≡ given (record { controller = c; answer = Err why; counts = none }) m r
unfolding ran_of when
run_refused c m d r limit eop why h = let t = taken (refusal (run_grounds c m)) why h in simp (ne_eqb _ 0 t.0, t.1)

pub run_accepted : (c : Controller) (m d r : List ℕ) (limit eop : ℕ) → refusal (run_grounds c m) ≡ 0 → ran_of c m d r limit eop ≡ stopped (run_of limit eop d (start_of c m r))
unfolding ran_of when
run_accepted c m d r limit eop e = simp e

-- an accepted run has a serving channel and a whole memory
pub record Open (c : Controller) (m : List ℕ) : Type 0 where
  pub serving : c.serving < 4
  pub memory : length m ≡ 65536

pub run_open : (c : Controller) (m : List ℕ) → refusal (run_grounds c m) ≡ 0 → Open c m
unfolding refusal first
run_open c m e =
    let good = passed _ _ _ (omega arith) e in
    let size = passed _ _ _ (omega arith) good.next in
    record { serving = omega (arith, (fields c (not-false _ good.test)).serving); memory = eqb-true _ _ (not-false _ size.test) }

pub serving_is : (c : Controller) → c.serving < 4 → c.serving % 4 ≡ c.serving
serving_is c h = omega arith

-- an element put back as it was
pub set_here : (l : List Channel) (n : ℕ) → set l n (get_or l n blank) ≡ l
set_here [] n = refl
set_here (x ∷ xs) zero = refl
set_here (x ∷ xs) (suc n) = ap (λ (l : List Channel). x ∷ l) (set_here xs n)

-- a service that makes no transfer leaves the controller as it was, or ended
module _ (c : Controller) (i : ℕ) (ch : Channel) (here : ch ≡ channel c i) (x : Controller) (stays : Bool) where
  back : (y : Controller) → x ≡ y → y.channels ≡ c.channels → with_channel x i ch ≡ y
  back y e k = ap (λ (z : Controller). with_channel z i ch) e ∙ ap (λ (l : List Channel). make l (field y)) (rw (k, here) (set_here c.channels i))

  pub stood_ended : not stays ≡ true → x ≡ ended c → with_channel x i ch ≡ when stays c (ended c)
  stood_ended s e = back (ended c) e refl ∙ sym (when_miss _ _ _ (not-true stays s))

  pub stood_open : not stays ≡ false → x ≡ c → with_channel x i ch ≡ when stays c (ended c)
  stood_open s e = back c e refl ∙ sym (when_hit _ _ _ (not-false stays s))

pub stood_as : (c x : Controller) (why : Reason) (stays : Bool) → stays ≡ stays_open why → x ≡ when stays c (ended c) → (m room : List ℕ)
    → given (record { controller = x; answer = Ok why; counts = none }) m room ≡ stopped (stop (start_of (when (stays_open why) c (ended c)) m room) why)
unfolding stopped
stood_as c x why stays e h m room = rw (← e) (ap (λ (y : Controller). given (record { controller = y; answer = Ok why; counts = none }) m room) h)

pub none_plus : (k : Counts) → plus none k ≡ k
none_plus k = simp zero-add

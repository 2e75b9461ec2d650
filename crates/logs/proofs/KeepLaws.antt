-- A record more, right or wrong; and what good records keep.
use Prim.Native.Nat.{ℕ, zero, suc, ◌/◌}
use mathlib.Core.Path.{◌≡◌, refl, sym, ap, ◌∙◌, subst}
use mathlib.Core.Bool.{Bool, true, false}
use mathlib.Core.List.{List, [], ◌∷◌}
use native.Mathlib.Omega.{arith}
use lib.Dec.{eqb}
use lib.IntN.{pos}
use lib.ListN.{length, drop}
use borrow.Author.Tests.{eqb-true, eqb-false, not-true, not-false}
use Rattle.words.specs.Grounds.{first}
use Rattle.am9517.specs.Ranges.{valid}
use Rattle.am9517.specs.Refusals.{refusal, busy}
use Rattle.am9517.specs.declared.Controller.{Controller}
use Rattle.am9517_service.specs.World.{start_of}
use Rattle.am9517_service.specs.Answers.{run_grounds}
use Rattle.words.proofs.ChoiceLaws.{when_hit, when_miss, both}
use Rattle.words.proofs.GroundLaws.{passed}
use Rattle.am9517.proofs.RangeLaws.{Ranges, ranges, of_ranges, and_left}
use Rattle.am9517_service.proofs.KeepLaws.{run_left_lem, run_counted}
use Rattle.logs.specs.declared.Record.{Record}
use Rattle.logs.specs.Record.{record_in}
use Rattle.logs.specs.Judge.{next_run, transfers, tells_eop, is_right, error_of, Found, found, behind, judged}
use Rattle.logs.specs.Answers.{JudgeGiven, told, judged_of}

-- the state and the memory behind a record
abbrev pub state_behind : Controller → List ℕ → Record → Controller
state_behind c m r = (next_run c m r.byte (tells_eop r)).world.controller

abbrev pub memory_behind : Controller → List ℕ → Record → List ℕ
memory_behind c m r = (next_run c m r.byte (tells_eop r)).world.memory

-- a record, right or wrong
module _ (more : ℕ) (c : Controller) (m log : List ℕ) where
  pub judged_right : is_right c m (record_in log) ≡ true
      → judged (suc more) c m log ≡ behind 8 (judged more (state_behind c m (record_in log)) (memory_behind c m (record_in log)) (drop 8 log))
  unfolding judged
  judged_right e = when_hit _ _ _ e

  pub judged_wrong : is_right c m (record_in log) ≡ false → judged (suc more) c m log ≡ found c m 0 (error_of c m (record_in log))
  unfolding judged
  judged_wrong e = when_miss _ _ _ e

pub judged_none : (c : Controller) (m log : List ℕ) → judged 0 c m log ≡ found c m 0 (pos 0)
unfolding judged
judged_none c m log = refl

-- Good records keep the ranges, the lowest channel and the memory's size.
pub record Good (lowest : ℕ) (c : Controller) (m : List ℕ) : Type 0 where
  pub ranges : Ranges c
  pub low : c.lowest ≡ lowest
  pub size : length m ≡ 65536

right_busy : (c : Controller) (m : List ℕ) (r : Record) → is_right c m r ≡ true → busy c ≡ true
unfolding is_right transfers
right_busy c m r e = and_left _ _ (both _ _ e).left

good_next : (lowest : ℕ) (c : Controller) (m : List ℕ) (r : Record) → Good lowest c m → is_right c m r ≡ true → Good lowest (state_behind c m r) (memory_behind c m r)
unfolding next_run
good_next lowest c m r G e =
    let w = start_of c m (0 ∷ []) in
    let some : c.in_service ≡ 0 → ⊥ = eqb-false _ _ (not-true _ (right_busy c m r e)) in
    let left = run_left_lem 1 _ (r.byte ∷ []) w G.ranges (omega (arith, G.ranges.fields.in_service, some)) in
    record {
      ranges = left.ranges;
      low = left.lowest ∙ G.low;
      size =
          (run_counted 65536 1 c.waits (r.byte ∷ []) 1 _ w
          (record { memory_length = G.size; room_length = refl; used = omega arith; written = omega arith; transfers = omega arith; slow = refl; states = λ h. omega arith })
          ).memory_length;
    }

pub judged_good : (lowest n : ℕ) (c : Controller) (m log : List ℕ) → Good lowest c m → Good lowest (judged n c m log).controller (judged n c m log).memory
judged_good lowest zero c m log G = subst (λ (f : Found). Good lowest f.controller f.memory) (sym (judged_none c m log)) G
judged_good lowest (suc n) c m log G = go (λ H. judged_good lowest n (state_behind c m (record_in log)) (memory_behind c m (record_in log)) (drop 8 log) H) (is_right c m (record_in log)) refl
  where
    go : (Good lowest (state_behind c m (record_in log)) (memory_behind c m (record_in log))
        → Good lowest (judged n (state_behind c m (record_in log)) (memory_behind c m (record_in log)) (drop 8 log)).controller (judged n (state_behind c m (record_in log)) (memory_behind c m (record_in log)) (drop 8 log)).memory)
        → (t : Bool) → is_right c m (record_in log) ≡ t → Good lowest (judged (suc n) c m log).controller (judged (suc n) c m log).memory
    go rest true e = subst (λ (f : Found). Good lowest f.controller f.memory) (sym (judged_right n c m log e)) (rest (good_next lowest c m (record_in log) G e))
    go rest false e = subst (λ (f : Found). Good lowest f.controller f.memory) (sym (judged_wrong n c m log e)) G

pub good_start : (c : Controller) (m : List ℕ) → refusal (run_grounds c m) ≡ 0 → Good c.lowest c m
unfolding refusal first
good_start c m free =
    let good = passed _ _ _ (omega arith) free in
    let size = passed _ _ _ (omega arith) good.next in
    record { ranges = ranges c (not-false _ good.test); low = refl; size = eqb-true _ _ (not-false _ size.test) }

pub opened : (c : Controller) (m : List ℕ) → refusal (run_grounds c m) ≡ 0 → c.in_service ≡ 1
unfolding refusal first
opened c m free =
    let good = passed _ _ _ (omega arith) free in
    let size = passed _ _ _ (omega arith) good.next in
    let busy = passed _ _ _ (omega arith) size.next in
    let some : c.in_service ≡ 0 → ⊥ = eqb-false _ _ busy.test in
    omega (arith, (ranges c (not-false _ good.test)).fields.in_service, some)

-- so does judging a log, whatever is found of it
pub judged_keeps : (c : Controller) (m log : List ℕ) → valid c ≡ true → (valid (judged_of c m log).judged.controller ≡ true) × ((judged_of c m log).judged.controller.lowest ≡ c.lowest)
unfolding judged_of told
judged_keeps c m log v = go (eqb (refusal (run_grounds c m)) 0) refl
  where
    go : (t : Bool) → eqb (refusal (run_grounds c m)) 0 ≡ t → (valid (judged_of c m log).judged.controller ≡ true) × ((judged_of c m log).judged.controller.lowest ≡ c.lowest)
    go true e =
        let G = judged_good c.lowest (length log / 8) c m log (good_start c m (eqb-true _ _ e)) in
        let is = when_hit _ _ _ e in
        (ap (λ (g : JudgeGiven). valid g.judged.controller) is ∙ of_ranges _ G.ranges, ap (λ (g : JudgeGiven). g.judged.controller.lowest) is ∙ G.low)
    go false e = let is = when_miss _ _ _ e in (ap (λ (g : JudgeGiven). valid g.judged.controller) is ∙ v, ap (λ (g : JudgeGiven). g.judged.controller.lowest) is)

-- A log judged in parts.
use Prim.Native.Nat.{ℕ, zero, suc, ◌+◌, ◌*◌, ◌/◌, ◌<◌}
use mathlib.Core.Path.{◌≡◌, refl, sym, ap, ◌∙◌, subst}
use mathlib.Core.Bool.{Bool, true, false, not}
use mathlib.Core.List.{List, [], ◌∷◌, ◌++◌}
use native.Mathlib.Omega.{arith}
use lib.Dec.{eqb}
use lib.IntN.{pos}
use lib.ListN.{length, get_or, drop, length-append}
use lib.Seq.{drop_at}
use borrow.Author.Tests.{eqb-true, eqb-false}
use Rattle.words.specs.Choice.{when}
use Rattle.words.specs.Grounds.{first}
use Rattle.am9517.specs.Refusals.{refusal, busy}
use Rattle.am9517.specs.declared.Controller.{Controller}
use Rattle.am9517_service.specs.Answers.{run_grounds}
use Rattle.am9517.proofs.RangeLaws.{of_ranges}
use Rattle.logs.specs.declared.Verdict.{Verdict}
use Rattle.logs.specs.declared.Verdict.TheVariants.{Wrong}
use Rattle.logs.specs.Judge.{transfers, Found, found, behind, judged}
use Rattle.logs.specs.Answers.{JudgeGiven, judged_of, verdict_of}
use Rattle.logs.proofs.JudgeLaws.{judged_still}
use Rattle.logs.proofs.KeepLaws.{Good, judged_good, good_start}
use Rattle.requests.specs.Logs.{verdict, state, says, further, Parts}
use Rattle.requests.proofs.JudgedLaws.{judged_alike, reached, judged_both}
use Rattle.requests.proofs.VerdictLaws.{all_right, one_wrong, said_all, said_wrong, at_all, given_is}

good_free : (c : Controller) (m : List ℕ) (l : ℕ) → Good l c m → c.in_service ≡ 1 → refusal (run_grounds c m) ≡ 0
unfolding refusal first when
good_free c m l G b = simp (of_ranges c G.ranges, G.size, b)

-- the front of two parts
front : (a b : List ℕ) (i : ℕ) → i < length a → get_or (a ++ b) i 0 ≡ get_or a i 0
front [] b i h = absurd (omega arith)
front (x ∷ xs) b zero h = refl
front (x ∷ xs) b (suc i) h = front xs b i (omega arith)

-- a verdict so many bytes further on
verdict_behind : (n size : ℕ) (f : Found) → verdict_of (n + size) (behind n f) ≡ further n (verdict_of size f)
verdict_behind n size f = go (eqb f.place size) refl
  where
    go : (t : Bool) → eqb f.place size ≡ t → verdict_of (n + size) (behind n f) ≡ further n (verdict_of size f)
    go true e =
        let same = eqb-true _ _ e in
        said_all (n + size) (behind n f) (omega (arith, same)) ∙ ap (further n) (sym (said_all size f same))
    go false e =
        let apart = eqb-false _ _ e in
        said_wrong (n + size) (behind n f) (λ z. apart (omega arith)) ∙ ap (further n) (sym (said_wrong size f apart))

module _ (c : Controller) (m a b : List ℕ) (free : refusal (run_grounds c m) ≡ 0) (whole : length a ≡ 8 * (length a / 8)) where
  abbrev na : ℕ
  na = length a / 8

  abbrev nb : ℕ
  nb = length b / 8

  abbrev fa : Found
  fa = at_all c m a

  first_part : judged na c m (a ++ b) ≡ fa
  first_part = judged_alike na c m (a ++ b) a (λ i l. front a b i (omega (arith, whole)))

  records : length (a ++ b) / 8 ≡ na + nb
  records = rw (length-append a b) (omega (arith, whole))

  abbrev fb : Found
  fb = judged nb fa.controller fa.memory b

  -- the first part is right
  all_on : fa.place ≡ length a → at_all c m (a ++ b) ≡ behind (length a) fb
  all_on e =
      let here : fa.place ≡ 8 * na = e ∙ whole in
      ap (λ (n : ℕ). judged n c m (a ++ b)) records
      ∙ (judged_both na nb c m (a ++ b)).on (ap (λ (f : Found). f.place) first_part ∙ here)
      ∙ ap (λ (f : Found). behind (8 * na) (judged nb f.controller f.memory (drop (8 * na) (a ++ b)))) first_part
      ∙ ap (λ (l : List ℕ). behind (8 * na) (judged nb fa.controller fa.memory l)) (drop_at a b (8 * na) whole)
      ∙ ap (λ (n : ℕ). behind n fb) (sym whole)

  all_off : (fa.place ≡ length a → ⊥) → at_all c m (a ++ b) ≡ fa
  all_off h =
      ap (λ (n : ℕ). judged n c m (a ++ b)) records
      ∙ (judged_both na nb c m (a ++ b)).off (λ e. h (sym (ap (λ (f : Found). f.place) first_part) ∙ e ∙ sym whole))
      ∙ first_part

  open_on : fa.place ≡ length a → fa.controller.in_service ≡ 1
      → let h = judged_of fa.controller fa.memory b in judged_of c m (a ++ b) ≡ says (state h) (further (length a) (verdict h)) h.memory
  open_on e i =
      let free' = good_free fa.controller fa.memory c.lowest (judged_good c.lowest na c m a (good_start c m free)) i in
      let later : judged_of fa.controller fa.memory b ≡ says fb.controller (verdict_of (length b) fb) fb.memory = given_is fa.controller fa.memory b free' in
      given_is c m (a ++ b) free
      ∙ ap (λ (f : Found). says f.controller (verdict_of (length (a ++ b)) f) f.memory) (all_on e)
      ∙ ap (λ (n : ℕ). says fb.controller (verdict_of n (behind (length a) fb)) fb.memory) (length-append a b)
      ∙ ap (λ (v : Verdict). says fb.controller v fb.memory) (verdict_behind (length a) (length b) fb)
      ∙ ap (λ (h : JudgeGiven). says (state h) (further (length a) (verdict h)) h.memory) (sym later)

  ended_on : fa.place ≡ length a → fa.controller.in_service ≡ 0 → (length b ≡ 0 → ⊥) → judged_of c m (a ++ b) ≡ says fa.controller (Wrong (length a) (pos 0)) fa.memory
  unfolding transfers
  ended_on e i some =
      let quiet : busy fa.controller ≡ false = ap (λ (n : ℕ). not (eqb n 0)) i in
      let none : fb ≡ found fa.controller fa.memory 0 (pos 0) = judged_still nb fa.controller fa.memory b (λ x t. simp quiet) in
      let place : length a + 0 ≡ length a = omega arith in
      let all : at_all c m (a ++ b) ≡ found fa.controller fa.memory (length a) (pos 0) =
      all_on e ∙ ap (behind (length a)) none ∙ ap (λ (n : ℕ). found fa.controller fa.memory n (pos 0)) place in
      given_is c m (a ++ b) free
      ∙ ap (λ (f : Found). says f.controller (verdict_of (length (a ++ b)) f) f.memory) all
      ∙ ap (λ (v : Verdict). says fa.controller v fa.memory) (said_wrong (length (a ++ b)) _ (λ z. some (omega (arith, z, length-append a b))))

  wrong_on : (fa.place ≡ length a → ⊥) → judged_of c m (a ++ b) ≡ judged_of c m a
  wrong_on h =
      let R = reached na c m a in
      given_is c m (a ++ b) free
      ∙ ap (λ (f : Found). says f.controller (verdict_of (length (a ++ b)) f) f.memory) (all_off h)
      ∙ ap (λ (v : Verdict). says fa.controller v fa.memory) (
      said_wrong (length (a ++ b)) fa (λ z. h (omega (arith, z, length-append a b, R.place, R.most))) ∙ sym (said_wrong (length a) fa h))
      ∙ sym (given_is c m a free)

  pub in_parts : Parts c m a b (judged_of c m a)
  in_parts =
      subst (Parts c m a b) (sym (given_is c m a free))
      (record {
        opened = λ v i. open_on (all_right (length a) fa v) i;
        ended = λ v i s. ended_on (all_right (length a) fa v) i s;
        wrong = λ at error v. wrong_on (one_wrong (length a) fa at error v).2 ∙ given_is c m a free;
      })

-- Judging so many records: where it gets to, what is before that place, and what a longer log adds.
use Prim.Native.Nat.{ℕ, zero, suc, ◌+◌, ◌*◌, ◌/◌, ◌≤◌, ◌<◌}
use mathlib.Core.Path.{◌≡◌, refl, sym, ap, ◌∙◌, subst}
use mathlib.Core.Bool.{Bool, true, false}
use mathlib.Core.List.{List}
use native.Mathlib.Omega.{arith}
use lib.IntN.{pos}
use lib.ListN.{get_or, drop}
use lib.Seq.{get_or-drop, drop-drop}
use Rattle.am9517.specs.declared.Controller.{Controller}
use Rattle.logs.specs.declared.Record.{Record}
use Rattle.logs.specs.Record.{record_in}
use Rattle.logs.proofs.KeepLaws.{state_behind, memory_behind, judged_right, judged_wrong, judged_none}
use Rattle.logs.specs.Judge.{is_right, error_of, Found, found, behind, judged}

-- Where it gets to: behind so many whole records, and either behind all, with no error, or at one that is wrong, with its error.
pub record Reached (n : ℕ) (log : List ℕ) (f : Found) : Type 0 where
  pub records : ℕ
  pub place : f.place ≡ 8 * records
  pub most : records ≤ n
  pub all : records ≡ n → f.error ≡ pos 0
  pub wrong : records < n → is_right f.controller f.memory (record_in (drop f.place log)) ≡ false
  pub error : records < n → f.error ≡ error_of f.controller f.memory (record_in (drop f.place log))

reached_behind : (n : ℕ) (log : List ℕ) (f : Found) → Reached n (drop 8 log) f → Reached (suc n) log (behind 8 f)
reached_behind n log f R =
    let there : record_in (drop f.place (drop 8 log)) ≡ record_in (drop (8 + f.place) log) = ap record_in (drop-drop f.place 8 log) in
    record {
      records = suc R.records;
      place = omega (arith, R.place);
      most = omega (arith, R.most);
      all = λ e. R.all (omega arith);
      wrong = λ h. sym (ap (is_right f.controller f.memory) there) ∙ R.wrong (omega arith);
      error = λ h. R.error (omega arith) ∙ ap (error_of f.controller f.memory) there;
    }

pub reached : (n : ℕ) (c : Controller) (m log : List ℕ) → Reached n log (judged n c m log)
reached zero c m log =
    subst (λ (f : Found). Reached zero log f) (sym (judged_none c m log))
    (record { records = 0; place = refl; most = omega arith; all = λ e. refl; wrong = λ h. absurd (omega arith); error = λ h. absurd (omega arith) })
reached (suc n) c m log = go (reached n (state_behind c m (record_in log)) (memory_behind c m (record_in log)) (drop 8 log)) (is_right c m (record_in log)) refl
  where
    go : Reached n (drop 8 log) (judged n (state_behind c m (record_in log)) (memory_behind c m (record_in log)) (drop 8 log)) → (t : Bool) → is_right c m (record_in log) ≡ t
        → Reached (suc n) log (judged (suc n) c m log)
    go rest true e = subst (λ (f : Found). Reached (suc n) log f) (sym (judged_right n c m log e)) (reached_behind n log _ rest)
    go rest false e =
        subst (λ (f : Found). Reached (suc n) log f) (sym (judged_wrong n c m log e))
        (record { records = 0; place = refl; most = omega arith; all = λ z. absurd (omega arith); wrong = λ h. e; error = λ h. refl })

-- Only so many records are read: of a log that begins alike the same is judged.
same_record : (x y : List ℕ) → ((i : ℕ) → i < 8 → get_or x i 0 ≡ get_or y i 0) → record_in x ≡ record_in y
same_record x y h =
    simp (h 0 (omega arith), h 1 (omega arith), h 2 (omega arith), h 3 (omega arith), h 4 (omega arith), h 5 (omega arith), h 6 (omega arith), h 7 (omega arith))

pub judged_alike : (n : ℕ) (c : Controller) (m x y : List ℕ) → ((i : ℕ) → i < 8 * n → get_or x i 0 ≡ get_or y i 0) → judged n c m x ≡ judged n c m y
judged_alike zero c m x y h = judged_none c m x ∙ sym (judged_none c m y)
judged_alike (suc n) c m x y h = go (λ b l. judged_alike n b l (drop 8 x) (drop 8 y) rest) (is_right c m (record_in x)) refl
  where
    first : record_in x ≡ record_in y
    first = same_record x y (λ i l. h i (omega arith))

    rest : (i : ℕ) → i < 8 * n → get_or (drop 8 x) i 0 ≡ get_or (drop 8 y) i 0
    rest i l = get_or-drop 8 x i 0 ∙ h (8 + i) (omega arith) ∙ sym (get_or-drop 8 y i 0)

    go : ((b : Controller) (l : List ℕ) → judged n b l (drop 8 x) ≡ judged n b l (drop 8 y)) → (t : Bool) → is_right c m (record_in x) ≡ t → judged (suc n) c m x ≡ judged (suc n) c m y
    go again true e =
        judged_right n c m x e
        ∙ ap (λ (r : Record). behind 8 (judged n (state_behind c m r) (memory_behind c m r) (drop 8 x))) first
        ∙ ap (behind 8) (again (state_behind c m (record_in y)) (memory_behind c m (record_in y)))
        ∙ sym (judged_right n c m y (ap (is_right c m) (sym first) ∙ e))
    go again false e =
        judged_wrong n c m x e ∙ ap (λ (r : Record). found c m 0 (error_of c m r)) first ∙ sym (judged_wrong n c m y (ap (is_right c m) (sym first) ∙ e))

behind_none : (f : Found) → f ≡ behind 0 f
behind_none f = ap (λ (n : ℕ). found f.controller f.memory n f.error) (omega arith)

behind_both : (a b n : ℕ) (f : Found) → a + b ≡ n → behind a (behind b f) ≡ behind n f
behind_both a b n f e = ap (λ (k : ℕ). found f.controller f.memory k f.error) (omega arith)

-- So many records and then so many more: where the first are all right, the others are judged from there, else the first have decided.
pub record Both (a b : ℕ) (c : Controller) (m log : List ℕ) : Type 0 where
  pub on : (judged a c m log).place ≡ 8 * a
      → judged (a + b) c m log ≡ behind (8 * a) (judged b (judged a c m log).controller (judged a c m log).memory (drop (8 * a) log))
  pub off : ((judged a c m log).place ≡ 8 * a → ⊥) → judged (a + b) c m log ≡ judged a c m log

module _ (a b : ℕ) (c : Controller) (m log : List ℕ) where
  abbrev c' : Controller
  c' = state_behind c m (record_in log)

  abbrev m' : List ℕ
  m' = memory_behind c m (record_in log)

  abbrev f : Found
  f = judged a c' m' (drop 8 log)

  one_more : suc a + b ≡ suc (a + b)
  one_more = omega arith

  both_right : Both a b c' m' (drop 8 log) → is_right c m (record_in log) ≡ true → Both (suc a) b c m log
  both_right B e =
      let first = judged_right a c m log e in
      let all = ap (λ (k : ℕ). judged k c m log) one_more ∙ judged_right (a + b) c m log e in
      record {
        on = λ h.
            let there : f.place ≡ 8 * a = omega (arith, sym (ap (λ (g : Found). g.place) first) ∙ h) in
            let far : 8 + 8 * a ≡ 8 * suc a = omega arith in
            all
            ∙ ap (behind 8) (B.on there)
            ∙ behind_both 8 (8 * a) (8 * suc a) (judged b f.controller f.memory (drop (8 * a) (drop 8 log))) (omega arith)
            ∙ ap (λ (l : List ℕ). behind (8 * suc a) (judged b f.controller f.memory l)) (drop-drop (8 * a) 8 log ∙ ap (λ (k : ℕ). drop k log) far)
            ∙ ap (λ (g : Found). behind (8 * suc a) (judged b g.controller g.memory (drop (8 * suc a) log))) (sym first);
        off = λ h. all ∙ ap (behind 8) (B.off (λ there. h (ap (λ (g : Found). g.place) first ∙ omega (arith, there)))) ∙ sym first;
      }

  both_wrong : is_right c m (record_in log) ≡ false → Both (suc a) b c m log
  both_wrong e =
      let first = judged_wrong a c m log e in
      record {
        on = λ h. let z : 0 ≡ 8 * suc a = sym (ap (λ (g : Found). g.place) first) ∙ h in absurd (omega arith);
        off = λ h. ap (λ (k : ℕ). judged k c m log) one_more ∙ judged_wrong (a + b) c m log e ∙ sym first;
      }

pub judged_both : (a b : ℕ) (c : Controller) (m log : List ℕ) → Both a b c m log
judged_both zero b c m log =
    let none = judged_none c m log in
    record {
      on = λ h.
          ap (λ (k : ℕ). judged k c m log) (omega arith) ∙ behind_none (judged b c m log) ∙ ap (λ (g : Found). behind (8 * 0) (judged b g.controller g.memory (drop (8 * 0) log))) (sym none);
      off = λ h. absurd (h (ap (λ (g : Found). g.place) none));
    }
judged_both (suc a) b c m log = go (judged_both a b (state_behind c m (record_in log)) (memory_behind c m (record_in log)) (drop 8 log)) (is_right c m (record_in log)) refl
  where
    go : Both a b (state_behind c m (record_in log)) (memory_behind c m (record_in log)) (drop 8 log) → (t : Bool) → is_right c m (record_in log) ≡ t → Both (suc a) b c m log
    go B true e = both_right a b c m log B e
    go B false e = both_wrong a b c m log e

-- What stands before the place is right by itself.
abbrev Before : ℕ → Controller → List ℕ → List ℕ → Found → Type 0
Before n c m log f = judged (f.place / 8) c m log ≡ found f.controller f.memory f.place (pos 0)

pub judged_before : (n : ℕ) (c : Controller) (m log : List ℕ) → Before n c m log (judged n c m log)
judged_before zero c m log = subst (Before zero c m log) (sym (judged_none c m log)) (judged_none c m log)
judged_before (suc n) c m log = go (judged n c' m' (drop 8 log)) (judged_before n c' m' (drop 8 log)) (is_right c m (record_in log)) refl refl
  where
    c' : Controller
    c' = state_behind c m (record_in log)

    m' : List ℕ
    m' = memory_behind c m (record_in log)

    go : (f : Found) → Before n c' m' (drop 8 log) f → (t : Bool) → is_right c m (record_in log) ≡ t → judged n c' m' (drop 8 log) ≡ f → Before (suc n) c m log (judged (suc n) c m log)
    go f h true e is =
        let more : (8 + f.place) / 8 ≡ suc (f.place / 8) = omega arith in
        subst (Before (suc n) c m log) (sym (judged_right n c m log e ∙ ap (behind 8) is)) (ap (λ (k : ℕ). judged k c m log) more ∙ judged_right (f.place / 8) c m log e ∙ ap (behind 8) h)
    go f h false e is = subst (Before (suc n) c m log) (sym (judged_wrong n c m log e)) (judged_none c m log)

-- A trailer is accepted behind its body, and what is accepted there is the trailer.
use Prim.Native.Nat.{ℕ, ◌+◌, ◌<◌, ◌≤◌}
use mathlib.Core.Path.{◌≡◌, sym, ap, ◌∙◌}
use mathlib.Core.Bool.{not, false}
use mathlib.Core.List.{List, [], ◌∷◌, ◌++◌}
use native.Mathlib.Omega.{arith}
use lib.Dec.{eqb}
use lib.ListN.{length, take, drop}
use lib.Seq.{take-append_seam}
use borrow.Author.Tests.{eqb-true, eq-eqb, not-false}
use Rattle.words.specs.Choice.{when}
use Rattle.words.specs.Bytes.{word_of}
use Rattle.words.specs.Grounds.{first}
use Rattle.am9517_sheet.specs.declared.forms.Form.{Form}
use Rattle.am9517_sheet.specs.Bytes.{word, total, placed}
use Rattle.am9517_sheet.specs.Form.{number, body_size, sheet_size}
use Rattle.am9517_sheet.specs.Trailer.{end_mark, trailer_of, with_trailer, trailer_grounds}
use Rattle.words.proofs.GroundLaws.{passed}
use Rattle.am9517_sheet.proofs.BytesLaws.{stored_next, placed_stands, word_whole, word_low, word_high, word_behind_lem, word_at_seam}

module _ (form : Form) where
  -- a body is stored, and then the trailer of what stands there
  pub sealed : (body out one two : List ℕ) (start : ℕ) → start + sheet_size form ≤ length out → length body ≡ body_size form → one ≡ placed out start body
      → two ≡ placed one (start + body_size form) (trailer_of form (take (body_size form) (drop start one))) → two ≡ placed out start (with_trailer form body)
  sealed body out one two start h size e1 e2 =
      let stands = placed_stands out one body start (body_size form) (omega arith) size e1 in
      stored_next out one two body (trailer_of form body) start (start + body_size form) (omega arith) e1 (ap (λ (k : ℕ). start + k) (sym size))
      (e2 ∙ ap (λ (l : List ℕ). placed one (start + body_size form) (trailer_of form l)) stands)

  pub trailer_accepted : (body : List ℕ) (r : ℕ) → length body ≡ body_size form → first (trailer_grounds form (with_trailer form body)) r ≡ r
  unfolding first when
  trailer_accepted body r size =
      let t = trailer_of form body in
      let sum : word (body ++ t) (length body + 4) ≡ total (take (length body) (body ++ t)) =
      word_behind_lem body t 4 ∙ word_whole (total body) ∙ ap total (sym (take-append_seam body t)) in
      rw (sym size)
      (simp (
        eq-eqb _ _ (word_behind_lem body t 6),
        eq-eqb _ _ (word_at_seam body t ∙ word_whole (number form)),
        eq-eqb _ _ (word_behind_lem body t 2 ∙ word_whole (length body)),
        eq-eqb _ _ sum,
      ))

  -- What an accepted trailer says; r is what is refused after it.
  pub record Told (sheet : List ℕ) (r : ℕ) : Type 0 where
    pub mark : word sheet (body_size form + 6) ≡ end_mark
    pub said : word sheet (body_size form) ≡ number form
    pub distance : word sheet (body_size form + 2) ≡ body_size form
    pub sum : word sheet (body_size form + 4) ≡ total (take (body_size form) sheet)
    pub rest : r ≡ 0

  same_of : (a b : ℕ) → not (eqb a b) ≡ false → a ≡ b
  same_of a b e = eqb-true _ _ (not-false _ e)

  pub trailer_told : (sheet : List ℕ) (r : ℕ) → first (trailer_grounds form sheet) r ≡ 0 → Told sheet r
  unfolding first
  trailer_told sheet r e =
      let mark = passed _ _ _ (omega arith) e in
      let said = passed _ _ _ (omega arith) mark.next in
      let back = passed _ _ _ (omega arith) said.next in
      let sum = passed _ _ _ (omega arith) back.next in
      record {
        mark = same_of _ _ mark.test;
        said = same_of _ _ said.test;
        distance = same_of _ _ back.test;
        sum = same_of _ _ sum.test;
        rest = sum.next;
      }

  -- eight bytes that say what a body's trailer says are the trailer
  pub trailer_bytes : (body : List ℕ) (a b c d e f g h : ℕ) → a < 256 → c < 256 → e < 256 → g < 256
      → word_of a b ≡ number form → word_of c d ≡ length body → word_of e f ≡ total body → word_of g h ≡ end_mark
      → trailer_of form body ≡ a ∷ b ∷ c ∷ d ∷ e ∷ f ∷ g ∷ h ∷ []
  trailer_bytes body a b c d e f g h ha hc he hg ef ed es em =
      let eg : g ≡ 0x44 = omega arith in
      let eh : h ≡ 0x4D = omega arith in
      rw (← ef, ← ed, ← es, eg, eh) (simp (word_low, word_high))

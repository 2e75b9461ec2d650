-- Laws of gathering a line, and of answering it.
use Prim.Native.Nat.{ℕ, suc, ◌+◌, ◌-◌, ◌≤◌, ◌<◌}
use Rattle.std.specs.Prelude.{min, Some, None}
use Rattle.std.specs.List.{position, position_or_len}
use mathlib.Core.Path.{◌≡◌, refl, sym, ap, ◌∙◌}
use mathlib.Core.Bool.{Bool, true, false, cond}
use mathlib.Core.List.{List, [], ◌∷◌}
use native.Mathlib.Omega.{arith}
use lib.Dec.{ltb, leb, eqb}
use lib.ListN.{length, take, drop}
use borrow.Author.Tests.{le-ltb, lt-ltb, ltb-true, ltb-false, leb-true, leb-false}
use Rattle.words.specs.Choice.{when}
use Rattle.words.proofs.PartLaws.{tail_all}
use Rattle.console_text.specs.Text.{Page, put_byte, put}
use Rattle.console_text.specs.Lines.{end_of, said_in}
use Rattle.console_text.proofs.TextLaws.{put_none, put_next, drop_end}
use Rattle.console_commands.specs.Holding.{Held}
use Rattle.console_commands.specs.Doings.{erred, execute_of}
use Rattle.console_session.specs.Script.{Gathered, gather_from, answer_of}

-- Characters up to the first newline, and what is gathered of them at once.
abbrev line_length : List ℕ → ℕ
line_length bs = position_or_len (λ (b : ℕ). eqb b 10) bs

abbrev pub so_far : Page → ℕ → Bool → Gathered
so_far p taken ended = record { page = p; taken = taken; ended = ended }

abbrev gathered_to : Page → List ℕ → ℕ → ℕ → Bool → Gathered
gathered_to p bs i n true = so_far (put p (take n bs)) (i + n + 1) true
gathered_to p bs i n false = so_far (put p bs) (i + length bs) false

-- behind a character that is no newline
character_gathered : (b : ℕ) (bs : List ℕ) (p : Page) (i n : ℕ) (t : Bool) → ltb n (length bs) ≡ t
    → gathered_to (put_byte p b) bs (i + 1) n t ≡ gathered_to p (b ∷ bs) i (1 + n) (ltb (1 + n) (length (b ∷ bs)))
character_gathered b bs p i n true e =
    let step : 1 + n ≡ suc n = omega arith in
    let sum : i + 1 + n + 1 ≡ i + suc n + 1 = omega arith in
    let less : n < length bs = ltb-true _ _ e in
    rw (step, lt-ltb (suc n) (length (b ∷ bs)) (omega arith), sum, put_next p b (take n bs)) refl
character_gathered b bs p i n false e =
    let sum : i + 1 + length bs ≡ i + length (b ∷ bs) = omega arith in
    let more : length bs ≤ n = ltb-false _ _ e in
    rw (le-ltb (1 + n) (length (b ∷ bs)) (omega arith), sum, put_next p b bs) refl

byte_gathered : (b : ℕ) (bs : List ℕ) (p : Page) (i : ℕ)
    → ((q : Page) (k : ℕ) → gather_from q bs k ≡ gathered_to q bs k (line_length bs) (ltb (line_length bs) (length bs))) → (t : Bool) → eqb b 10 ≡ t
    → gather_from p (b ∷ bs) i ≡ gathered_to p (b ∷ bs) i (line_length (b ∷ bs)) (ltb (line_length (b ∷ bs)) (length (b ∷ bs)))
unfolding gather_from when
byte_gathered b bs p i on true e =
    let sum : i + 1 ≡ i + 0 + 1 = omega arith in
    rw (e, lt-ltb 0 (length (b ∷ bs)) (omega arith), put_none p) (ap (λ (k : ℕ). so_far p k true) sum)
byte_gathered b bs p i on false e = rw e (on (put_byte p b) (i + 1) ∙ character_gathered b bs p i (line_length bs) _ refl)

all_gathered : (bs : List ℕ) (p : Page) (i : ℕ) → gather_from p bs i ≡ gathered_to p bs i (line_length bs) (ltb (line_length bs) (length bs))
unfolding gather_from
all_gathered [] p i = let sum : i ≡ i + 0 = omega arith in rw (put_none p) (ap (λ (k : ℕ). so_far p k false) sum)
all_gathered (b ∷ bs) p i = byte_gathered b bs p i (all_gathered bs) (eqb b 10) refl

-- where there is a newline among them, and where there is none
gathered_where : (p : Page) (bs : List ℕ) (i n k : ℕ) (t : Bool) → cond t (Some n) None ≡ Some k
    → gathered_to p bs i n t ≡ record { page = put p (take k bs); taken = i + k + 1; ended = true }
gathered_where p bs i n k true e = let same : n ≡ k = cc in rw same refl
gathered_where p bs i n k false e = let z : ◌≡◌ {A = ℕ} 0 1 = cc in absurd (omega arith)

gathered_nowhere : (p : Page) (bs : List ℕ) (i n : ℕ) (t : Bool) → cond t (Some n) None ≡ None
    → gathered_to p bs i n t ≡ record { page = put p bs; taken = i + length bs; ended = false }
gathered_nowhere p bs i n true e = let z : ◌≡◌ {A = ℕ} 0 1 = cc in absurd (omega arith)
gathered_nowhere p bs i n false e = refl

-- what is left of a part from a place on
module _ (from : ℕ) (part : List ℕ) where
  left_most : (t : Bool) → leb from (length part) ≡ t → drop (min from (length part)) part ≡ drop from part
  left_most true e = let same : min from (length part) ≡ from = omega (arith, leb-true _ _ e) in ap (λ (k : ℕ). drop k part) same
  left_most false e =
      let most : min from (length part) ≡ length part = omega (arith, leb-false _ _ e) in
      ap (λ (k : ℕ). drop k part) most ∙ drop_end part (length part) (omega arith) ∙ sym (drop_end part from (omega (arith, leb-false _ _ e)))

  pub left_from : (m : ℕ) → m ≡ min from (length part) → take (length part - m) (drop m part) ≡ drop from part
  left_from m e = tail_all m part ∙ ap (λ (k : ℕ). drop k part) e ∙ left_most _ refl

module _ (p : Page) (part : List ℕ) (from : ℕ) where
  pub gather_newline : (k : ℕ) → position (λ (b : ℕ). eqb b 10) (drop from part) ≡ Some k
      → gather_from p (drop from part) from ≡ record { page = put p (take k (drop from part)); taken = from + k + 1; ended = true }
  gather_newline k e = all_gathered (drop from part) p from ∙ gathered_where p (drop from part) from _ k _ e

  pub gather_end : position (λ (b : ℕ). eqb b 10) (drop from part) ≡ None
      → gather_from p (drop from part) from ≡ record { page = put p (drop from part); taken = from + length (drop from part); ended = false }
  gather_end e = all_gathered (drop from part) p from ∙ gathered_nowhere p (drop from part) from _ _ e

-- A line that is too long, and one that is not.
module _ (standing : Bool) (line : List ℕ) (h : Held) (shown : List ℕ) where
  pub too_long : 200000 < end_of line → answer_of line standing h shown ≡ erred h
  unfolding answer_of when
  too_long l = rw (lt-ltb _ _ l)

  pub answered : (n : ℕ) → end_of line ≤ 200000 → n ≡ said_in line → execute_of (take (n - 0) (drop 0 line)) standing h shown ≡ answer_of line standing h shown
  unfolding answer_of when
  answered n l e =
      let none : n - 0 ≡ said_in line = omega arith in
      rw (le-ltb _ _ l) (ap (λ (k : ℕ). execute_of (take k line) standing h shown) none)

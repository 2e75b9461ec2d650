-- A script that comes in any parts does what its lines do.
use Prim.Native.Nat.{ℕ, ◌+◌, ◌-◌, ◌≤◌, ◌<◌}
use mathlib.Core.Path.{◌≡◌, refl, sym, ap, ◌∙◌}
use mathlib.Core.Bool.{Bool, true, false}
use mathlib.Core.List.{List, [], ◌∷◌, ◌++◌, append-nil, append_assoc}
use native.Mathlib.Omega.{arith}
use lib.Dec.{ltb, leb, eqb}
use lib.ListN.{length, get_or, take, length-append}
use lib.Seq.{length-take-le, take_all, take-append-le}
use borrow.Author.Tests.{le-ltb, ltb-true, ltb-false, leb-true, leb-false}
use Rattle.words.specs.Choice.{when}
use Rattle.words.proofs.ChoiceLaws.{when_both}
use Rattle.console_text.specs.Text.{codes}
use Rattle.console_text.specs.Lines.{end_of}
use Rattle.console_commands.specs.Holding.{Held, Said}
use Rattle.console_session.specs.Script.{Cut, cut_of, lines_of, answer_of, lines_do, Way, answering, keeping, going, part_does, parts_do, before, comes_to, joined, ScriptInParts}
use Rattle.console_session.proofs.GatherLaws.{too_long}

-- what is kept of a line
abbrev kept : List ℕ → List ℕ
kept line = take 200002 line

-- a carriage return at its end is one character
end_near : (s : List ℕ) → length s - 1 ≤ end_of s
unfolding end_of
end_near s = when_both (λ (n : ℕ). length s - 1 ≤ n) (eqb (get_or s (length s - 1) 0) 13) (omega arith) (omega arith)

-- of a line that is too long enough is kept to know that
kept_same : (u : List ℕ) (h : Held) (shown : List ℕ) → answer_of (kept u) true h shown ≡ answer_of u true h shown
kept_same u h shown = go (leb (length u) 200002) refl
  where
    go : (b : Bool) → leb (length u) 200002 ≡ b → answer_of (kept u) true h shown ≡ answer_of u true h shown
    go true e = ap (λ (x : List ℕ). answer_of x true h shown) (take_all 200002 u (leb-true _ _ e))
    go false e =
        let long : 200002 < length u = leb-false _ _ e in
        let size : length (kept u) ≡ 200002 = length-take-le 200002 u (omega arith) in
        too_long true (kept u) h shown (omega (arith, end_near (kept u))) ∙ sym (too_long true u h shown (omega (arith, end_near u)))

kept_on : (u : List ℕ) (b : ℕ) → keeping (kept u) b ≡ kept (u ++ (b ∷ []))
unfolding keeping when
kept_on u b = go (ltb (length u) 200002) refl
  where
    go : (t : Bool) → ltb (length u) 200002 ≡ t → keeping (kept u) b ≡ kept (u ++ (b ∷ []))
    go true e =
        let short : length u < 200002 = ltb-true _ _ e in
        rw (take_all 200002 u (omega arith), e) (sym (take_all 200002 (u ++ (b ∷ [])) (omega (arith, length-append u (b ∷ [])))))
    go false e =
        let long : 200002 ≤ length u = ltb-false _ _ e in
        let size : length (kept u) ≡ 200002 = length-take-le 200002 u (omega arith) in
        rw (le-ltb (length (kept u)) 200002 (omega arith)) (sym (take-append-le 200002 u (b ∷ []) (omega arith)))

kept_none : kept [] ≡ []
kept_none = take_all 200002 [] (omega arith)

module _ (tells : ℕ → List ℕ) where
  -- on the way, with u come of the line
  abbrev way : List ℕ → ℕ → Held → List ℕ → Way
  way u n h text = record { line = kept u; count = n; holding = h; text = text }

  -- where that leads
  abbrev arrived : Cut → ℕ → Held → List ℕ → Way
  arrived c n h text =
      let s = lines_do tells n c.lines h in
      way c.rest (n + length c.lines) s.holding (text ++ s.text)

  abbrev Arrives : List ℕ → Type 0
  Arrives bs = (u : List ℕ) (n : ℕ) (h : Held) (text : List ℕ) → part_does tells (way u n h text) bs ≡ arrived (cut_of u bs) n h text

  byte_arrives : (b : ℕ) (bs : List ℕ) → Arrives bs → (t : Bool) → eqb b 10 ≡ t → Arrives (b ∷ bs)
  unfolding part_does cut_of lines_do when
  byte_arrives b bs on true e u n h text =
      let s = answer_of u true h (tells n) in
      let c = cut_of [] bs in
      let t = lines_do tells (n + 1) c.lines s.holding in
      let count : n + 1 + length c.lines ≡ n + length (u ∷ c.lines) = omega arith in
      rw e
      (ap (λ (x : Said). part_does tells (answering (way u n h text) x) bs) (kept_same u h (tells n))
      ∙ ap (λ (x : List ℕ). part_does tells (record { line = x; count = n + 1; holding = s.holding; text = text ++ s.text }) bs) (sym kept_none)
      ∙ on [] (n + 1) s.holding (text ++ s.text)
      ∙ ap (λ (k : ℕ). way c.rest k t.holding (text ++ s.text ++ t.text)) count
      ∙ ap (λ (x : List ℕ). way c.rest (n + length (u ∷ c.lines)) t.holding x) (append_assoc text s.text t.text))
  byte_arrives b bs on false e u n h text =
      rw e
      (ap (λ (x : List ℕ). part_does tells (record { line = x; count = n; holding = h; text = text }) bs) (kept_on u b)
      ∙ on (u ++ (b ∷ [])) n h text)

  none_arrives : Arrives []
  unfolding part_does cut_of lines_do
  none_arrives u n h text =
      let none : n ≡ n + 0 = omega arith in
      ap (λ (x : List ℕ). way u n h x) (sym (append-nil text)) ∙ ap (λ (k : ℕ). way u k h (text ++ [])) none

  part_arrives : (bs : List ℕ) → Arrives bs
  part_arrives [] = none_arrives
  part_arrives (b ∷ bs) = byte_arrives b bs (part_arrives bs) (eqb b 10) refl

  -- a part behind a part
  byte_behind : (b : ℕ) (xs ys : List ℕ) → ((w : Way) → part_does tells w (xs ++ ys) ≡ part_does tells (part_does tells w xs) ys)
      → (t : Bool) → eqb b 10 ≡ t → (w : Way) → part_does tells w (b ∷ xs ++ ys) ≡ part_does tells (part_does tells w (b ∷ xs)) ys
  unfolding part_does when
  byte_behind b xs ys on true e w = rw e (on (answering w (answer_of w.line true w.holding (tells w.count))))
  byte_behind b xs ys on false e w = rw e (on (going w b))

  part_behind : (xs ys : List ℕ) (w : Way) → part_does tells w (xs ++ ys) ≡ part_does tells (part_does tells w xs) ys
  unfolding part_does
  part_behind [] ys w = refl
  part_behind (b ∷ xs) ys w = byte_behind b xs ys (part_behind xs ys) (eqb b 10) refl w

  parts_joined : (parts : List (List ℕ)) (ys : List ℕ) (w : Way) → part_does tells (parts_do tells w parts) ys ≡ part_does tells w (joined parts ++ ys)
  unfolding parts_do joined
  parts_joined [] ys w = refl
  parts_joined (part ∷ parts) ys w =
      parts_joined parts ys (part_does tells w part)
      ∙ sym (part_behind part (joined parts ++ ys) w)
      ∙ ap (part_does tells w) (sym (append_assoc part (joined parts) ys))

pub script_in_parts : ScriptInParts
unfolding lines_of
script_in_parts tells h parts =
    ap comes_to
    (parts_joined tells parts (codes "\n") (before h)
    ∙ ap (λ (x : List ℕ). part_does tells (record { line = x; count = 0; holding = h; text = [] }) (joined parts ++ codes "\n")) (sym kept_none)
    ∙ part_arrives tells (joined parts ++ codes "\n") [] 0 h [])

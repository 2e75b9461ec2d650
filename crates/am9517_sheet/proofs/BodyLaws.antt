-- A state and its body.
use Prim.Native.Nat.{ℕ, ◌+◌, ◌≤◌}
use mathlib.Core.Path.{◌≡◌, refl, sym, ap, ◌∙◌}
use mathlib.Core.Bool.{Bool, true, false}
use mathlib.Core.List.{List, [], ◌∷◌, ◌++◌, map, append_assoc}
use native.Mathlib.Omega.{arith}
use lib.Dec.{eqb}
use lib.ListN.{length, get_or, take, drop, length-append, length-drop}
use lib.Seq.{take-add, get_or-drop}
use borrow.Author.Tests.{eqb-true}
use Rattle.am9517.specs.Fields.{blank, channel, make, but, field, Edition, Waits}
use Rattle.am9517.specs.declared.Channel.{Channel}
use Rattle.am9517.specs.declared.Controller.{Controller}
use Rattle.am9517_sheet.specs.declared.forms.Form.{Form}
use Rattle.am9517_sheet.specs.declared.forms.Form.TheVariants.{One, Two}
use Rattle.am9517_sheet.specs.Bytes.{total, placed, OfBytes}
use Rattle.am9517_sheet.specs.ClosedSums.{sixteen_of}
use Rattle.am9517_sheet.specs.Form.{front, behind, channels_at, body_size}
use Rattle.am9517_sheet.specs.Body.{channel_bytes, channels_bytes, body_of, exceeds, state_of}
use Rattle.words.proofs.ChoiceLaws.{never}
use Rattle.am9517_sheet.proofs.BytesLaws.{total_append, stored_next, word_whole, word_low, word_high, first_cells}

-- a list of four is its four elements
four : (cs : List Channel) → length cs ≡ 4 → get_or cs 0 blank ∷ get_or cs 1 blank ∷ get_or cs 2 blank ∷ get_or cs 3 blank ∷ [] ≡ cs
four [] h = absurd (omega arith)
four (a ∷ []) h = absurd (omega arith)
four (a ∷ b ∷ []) h = absurd (omega arith)
four (a ∷ b ∷ c ∷ []) h = absurd (omega arith)
four (a ∷ b ∷ c ∷ d ∷ []) h = refl
four (a ∷ b ∷ c ∷ d ∷ e ∷ cs) h = absurd (omega arith)

-- What is seen of each form by itself: a line each.
-- its sizes
pub body_fits : (form : Form) → body_size form ≤ 256
body_fits One = omega arith
body_fits Two = omega arith

front_length : (form : Form) (s : Controller) → length (map (field s) (front form)) ≡ channels_at form
front_length One s = refl
front_length Two s = refl

pub body_length : (form : Form) (s : Controller) → length (body_of form s) ≡ body_size form
unfolding body_of
body_length One s = refl
body_length Two s = refl

-- a state of edition 0 without wait states has all of it a place in form 1, any other has not
pub zero_within : (s : Controller) → s.edition ≡ 0 → s.waits ≡ 0 → exceeds One s ≡ false
unfolding exceeds
zero_within s e w = rw (e, w)

within_zero : (s : Controller) → exceeds One s ≡ false → (s.edition ≡ 0) × (s.waits ≡ 0)
unfolding exceeds
within_zero s h = go (eqb s.waits 0) (eqb s.edition 0) refl refl
  where
    go : (w e : Bool) → eqb s.waits 0 ≡ w → eqb s.edition 0 ≡ e → (s.edition ≡ 0) × (s.waits ≡ 0)
    go true true ew ee = (eqb-true _ _ ee, eqb-true _ _ ew)
    go true false ew ee = never (rw (ew, ee) at h)
    go false e ew ee = never (rw ew at h)

pub other_exceeds : (s : Controller) → ((s.edition ≡ 0) × (s.waits ≡ 0) → ⊥) → exceeds One s ≡ true
other_exceeds s h = go (exceeds One s) refl
  where
    go : (t : Bool) → exceeds One s ≡ t → exceeds One s ≡ true
    go true e = e
    go false e = absurd (h (within_zero s e))

-- the state that a state's body tells, whatever stands behind it
pub state_of_body : (form : Form) (s : Controller) (rest : List ℕ) → length s.channels ≡ 4 → exceeds form s ≡ false → state_of form (body_of form s ++ rest) ≡ s
unfolding state_of body_of exceeds
state_of_body One s rest h e =
    let none = within_zero s e in
    let told : ℕ → ℕ → List Channel → Controller = λ edition waits cs. make cs (but (but (field s) Edition edition) Waits waits) in
    simp word_whole
    (ap (told 0 0) (four s.channels h) ∙ ap (λ (edition : ℕ). told edition 0 s.channels) (sym none.0) ∙ ap (λ (waits : ℕ). told s.edition waits s.channels) (sym none.1))
state_of_body Two s rest h e = simp word_whole (ap (λ (cs : List Channel). make cs (field s)) (four s.channels h))

-- the state that a body tells has nothing that has no place there
pub told_within : (form : Form) (xs : List ℕ) → exceeds form (state_of form xs) ≡ false
unfolding exceeds state_of
told_within One xs = refl
told_within Two xs = refl

-- the fields before its channels, told
front_told : (form : Form) (xs : List ℕ) → body_size form ≤ length xs → map (field (state_of form xs)) (front form) ≡ take (channels_at form) xs
unfolding state_of
front_told One xs h = refl
front_told Two xs h = sym (first_cells 2 xs (omega arith))

-- its sum: the bytes before its channels, and three times sixteen
pub body_sum : (form : Form) (b : List ℕ) → body_size form ≤ length b
    → total (take (channels_at form) b) + sixteen_of (drop (channels_at form) b) 0 + sixteen_of (drop (channels_at form) b) 16 + sixteen_of (drop (channels_at form) b) 32 ≡ total (take (body_size form) b)
unfolding total
body_sum form b h =
    let at = channels_at form in
    let core : total (take 48 (drop at b)) ≡ sixteen_of (drop at b) 0 + sixteen_of (drop at b) 16 + sixteen_of (drop at b) 32 =
    ap total (first_cells 48 (drop at b) (omega (arith, length-drop at b))) ∙ omega arith in
    omega (arith, core, ap total (take-add at 48 b), total_append (take at b) (take 48 (drop at b)))

-- the body of the state that bytes tell is the first of them
core_of_state : (form : Form) (xs : List ℕ) → OfBytes xs → body_size form ≤ length xs
    → channels_bytes (state_of form xs) ++ map (field (state_of form xs)) behind ≡ take 48 (drop (channels_at form) xs)
unfolding state_of
core_of_state form xs byte h =
    let at = channels_at form in
    let bytes : OfBytes (drop at xs) = λ i. rw (get_or-drop at xs i 0) (byte _) in
    simp (word_low, word_high, bytes) (sym (first_cells 48 (drop at xs) (omega (arith, length-drop at xs))))

pub body_of_state : (form : Form) (xs : List ℕ) → OfBytes xs → body_size form ≤ length xs → body_of form (state_of form xs) ≡ take (body_size form) xs
unfolding body_of
body_of_state form xs byte h =
    ap (λ (l : List ℕ). l ++ (channels_bytes (state_of form xs) ++ map (field (state_of form xs)) behind)) (front_told form xs h)
    ∙ ap (λ (l : List ℕ). take (channels_at form) xs ++ l) (core_of_state form xs byte h)
    ∙ sym (take-add (channels_at form) 48 xs)

-- four channels, and the fields behind them, stored one behind the other
pub channels_stored : (s : Controller) (out b0 b1 b2 b3 : List ℕ) (at a1 a2 a3 : ℕ) → at + 36 ≤ length out
    → b0 ≡ placed out at (channel_bytes (channel s 0)) → a1 ≡ at + 9 → b1 ≡ placed b0 a1 (channel_bytes (channel s 1)) → a2 ≡ a1 + 9
    → b2 ≡ placed b1 a2 (channel_bytes (channel s 2)) → a3 ≡ a2 + 9 → b3 ≡ placed b2 a3 (channel_bytes (channel s 3)) → b3 ≡ placed out at (channels_bytes s)
channels_stored s out b0 b1 b2 b3 at a1 a2 a3 h g0 h1 g1 h2 g2 h3 g3 =
    let p0 = channel_bytes (channel s 0) in
    let p1 = channel_bytes (channel s 1) in
    let p2 = channel_bytes (channel s 2) in
    let two = stored_next out b0 b1 p0 p1 at a1 (omega arith) g0 h1 g1 in
    let three = stored_next out b1 b2 (p0 ++ p1) p2 at a2 (omega arith) two (omega arith) g2 in
    stored_next out b2 b3 (p0 ++ p1 ++ p2) (channel_bytes (channel s 3)) at a3 (omega arith) three (omega arith) g3

pub body_stored : (form : Form) (s : Controller) (out one two three : List ℕ) (start at to : ℕ) → start + body_size form ≤ length out
    → one ≡ placed out start (map (field s) (front form)) → at ≡ start + channels_at form → two ≡ placed one at (channels_bytes s) → to ≡ at + 36
    → three ≡ placed two to (map (field s) behind) → three ≡ placed out start (body_of form s)
unfolding body_of
body_stored form s out one two three start at to h e1 ea e2 et e3 =
    let fields = map (field s) (front form) in
    let size = front_length form s in
    let both = stored_next out one two fields (channels_bytes s) start at (omega arith) e1 (omega arith) e2 in
    stored_next out two three (fields ++ channels_bytes s) (map (field s) behind) start to (omega (arith, length-append fields (channels_bytes s))) both (omega (arith, length-append fields (channels_bytes s))) e3
    ∙ ap (placed out start) (append_assoc fields (channels_bytes s) (map (field s) behind))

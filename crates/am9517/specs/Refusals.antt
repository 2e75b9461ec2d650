-- Document 01, "Refusal numbers": the grounds of each operation, in its order.
use Rattle.std.specs.Prelude.{ℕ, Option, Some, None, Result, Ok, Err, Bool, not, ◌&&◌, List, [], ◌∷◌, ltb, leb, eqb}
use Rattle.words.specs.Grounds.{Ground, ◌if◌, first}
use Rattle.am9517.specs.Editions.{is_intel}
use Rattle.am9517.specs.Modes.{mode_refused}
use Rattle.am9517.specs.Ranges.{valid}
use Rattle.am9517.specs.Serving.{picked}
use Rattle.am9517.specs.declared.Controller.{Controller}
use Rattle.am9517.specs.declared.refusals.Refusal.{Refusal}
use Rattle.am9517.specs.declared.refusals.Refusal.TheVariants.{Range, TooLarge, InService, Register, Mode, NobodyEntitled, Memory, NoService, Slice, EndMark, FormNumber, Distance, Sum, StoredRange, NoPlace}
use Rattle.words.specs.Choice.{when}

-- 1 "the state breaks a range of the sheet section"; 2 "register number over 15, pins over 15 ..";
-- 3 "register access, grant or round during a service"; 4 "read of 9, A, B, C, E, F, or write of E";
-- 5 "mode byte with bits 3-2 = 11 and bits 7-6 not 11"; 6 "grant with no entitled channel".
-- "When several hold: write 1, 2, 3, 4, 5; read 1, 2, 3, 4; pins 1, 2; reset 1; grant 1, 3, 6 .."

-- the paper's number of each
abbrev pub number_of : Refusal → ℕ
number_of Range = 1
number_of TooLarge = 2
number_of InService = 3
number_of Register = 4
number_of Mode = 5
number_of NobodyEntitled = 6
number_of Memory = 7
number_of NoService = 8
number_of Slice = 9
number_of EndMark = 10
number_of FormNumber = 11
number_of Distance = 12
number_of Sum = 13
number_of StoredRange = 14
number_of NoPlace = 15

-- the refusal of a number from 1 to 15
unfoldable pub numbered : ℕ → Refusal
numbered n =
    when (eqb n 1) Range (when (eqb n 2) TooLarge (when (eqb n 3) InService (when (eqb n 4) Register (when (eqb n 5) Mode
    (when (eqb n 6) NobodyEntitled (when (eqb n 7) Memory (when (eqb n 8) NoService (when (eqb n 9) Slice (when (eqb n 10) EndMark
    (when (eqb n 11) FormNumber (when (eqb n 12) Distance (when (eqb n 13) Sum (when (eqb n 14) StoredRange NoPlace)))))))))))))

-- none where the number is 0
unfoldable pub refused : ℕ → Option Refusal
refused n = when (eqb n 0) None (Some (numbered n))

-- what is given unless a number refuses it, and the number that such an answer says, 0 for none
abbrev pub unless : {A : Type 0} → ℕ → A → Result A Refusal
unless n a = when (eqb n 0) (Ok a) (Err (numbered n))

abbrev pub number_in : {A : Type 0} → Result A Refusal → ℕ
number_in (Ok a) = 0
number_in (Err r) = number_of r

-- the number of the first ground that holds; 0 where none does
unfoldable pub refusal : List (Ground ℕ) → ℕ
refusal gs = first gs 0

-- no service is open
abbrev pub idle : Controller → Bool
idle s = eqb s.in_service 0

-- "during a service"
abbrev pub busy : Controller → Bool
busy s = not (idle s)

-- "read of 9, A, B, C, E, F"
abbrev pub unreadable : ℕ → Bool
unreadable r = leb 9 r && not (eqb r 0xD)

-- "or write of E"; document 02, A2, of the Intel edition: "Refusal 4 no longer covers that write there."
abbrev pub unwritable : ℕ → ℕ → Bool
unwritable edition r = eqb r 0xE && not (is_intel edition)

abbrev pub write_grounds : Controller → ℕ → ℕ → List (Ground ℕ)
write_grounds s r b =
    1 if not (valid s) ∷ 2 if ltb 15 r ∷ 3 if busy s ∷ 4 if unwritable s.edition r ∷ 5 if (eqb r 0xB && mode_refused b) ∷ []

abbrev pub read_grounds : Controller → ℕ → List (Ground ℕ)
read_grounds s r = 1 if not (valid s) ∷ 2 if ltb 15 r ∷ 3 if busy s ∷ 4 if unreadable r ∷ []

-- "Pins may change during a service": no ground 3
abbrev pub pins_grounds : Controller → ℕ → List (Ground ℕ)
pins_grounds s p = 1 if not (valid s) ∷ 2 if ltb 15 p ∷ []

abbrev pub reset_grounds : Controller → List (Ground ℕ)
reset_grounds s = 1 if not (valid s) ∷ []

-- document 02, A3: wait states are "set by its own call when idle (refusals 1, 3)"
abbrev pub waits_grounds : Controller → List (Ground ℕ)
waits_grounds s = 1 if not (valid s) ∷ 3 if busy s ∷ []

abbrev pub grant_grounds : Controller → List (Ground ℕ)
grant_grounds s = 1 if not (valid s) ∷ 3 if busy s ∷ 6 if eqb (picked s) 4 ∷ []

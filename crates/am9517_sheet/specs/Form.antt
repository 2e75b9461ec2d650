-- What a form decides: its number, the fields that stand before the channels, and those that have no place. A new form is a line in each.
use Rattle.std.specs.Prelude.{ℕ, ◌+◌, ◌*◌, List, [], ◌∷◌, length}
use Rattle.am9517.specs.Fields.{Field, Command, Tc, Request, Mask, Temporary, FlipFlop, Pins, Lowest, InService, Serving, LatchFull, Latch, Edition, Waits}
use Rattle.am9517_sheet.specs.declared.forms.Form.{Form}
use Rattle.am9517_sheet.specs.declared.forms.Form.TheVariants.{One, Two}

-- the other of the two
abbrev pub other : Form → Form
other One = Two
other Two = One

-- "Trailer, 8 bytes: 01, 00, .."; document 02, A5: "the trailer says form 2"
abbrev pub number : Form → ℕ
number One = 1
number Two = 2

-- the fields before the channels, in the order of their places; document 02, A5: "edition (0 or 1), waits, then the 48 bytes of form 1"
abbrev pub front : Form → List Field
front One = []
front Two = Edition ∷ Waits ∷ []

-- the fields that have no place in it: document 02, A2, "Form 1 has no place for the edition"; A3, "A state with waits can't go into form 1";
-- A5, "Our archive must hold editions and waits": in form 2 none
abbrev pub missing : Form → List Field
missing One = Edition ∷ Waits ∷ []
missing Two = []

-- those behind the channels, the same in every form: "36 command; 37 TC; 38 request; 39 mask; 40 temporary; 41 flip-flop; 42 pins;
-- 43 lowest; 44 in service; 45 serving; 46 latch full; 47 latch"
abbrev pub behind : List Field
behind = Command ∷ Tc ∷ Request ∷ Mask ∷ Temporary ∷ FlipFlop ∷ Pins ∷ Lowest ∷ InService ∷ Serving ∷ LatchFull ∷ Latch ∷ []

-- where the channels begin; from there on, where channel n begins ("9 bytes each, 0 to 35"), and what stands behind channel 3
abbrev pub channels_at : Form → ℕ
channels_at form = length (front form)

abbrev pub channel_place : ℕ → ℕ
channel_place n = 9 * n

-- "Body, 48 bytes" with no field before the channels; with its trailer "the last 56 bytes". A5: "Form 2 has a 50-byte body", "so 58 bytes".
abbrev pub body_size : Form → ℕ
body_size form = channels_at form + (channel_place 4 + length behind)

abbrev pub sheet_size : Form → ℕ
sheet_size form = body_size form + 8

-- The bytes of a state in a form, and the state that a body of that form tells.
use Rattle.std.specs.Prelude.{ℕ, ◌+◌, Bool, false, not, ◌||◌, cond, List, [], ◌∷◌, ◌++◌, map, eqb, get_or, drop}
use Rattle.am9517.specs.Fields.{Field, tag, field, make, channel}
use Rattle.am9517.specs.declared.Channel.{Channel}
use Rattle.am9517.specs.declared.Controller.{Controller}
use Rattle.am9517_sheet.specs.declared.forms.Form.{Form}
use Rattle.am9517_sheet.specs.Bytes.{word_bytes, word}
use Rattle.am9517_sheet.specs.Form.{front, missing, behind, channels_at, channel_place}

-- "per channel base address, current address, base count, current count, mode (9 bytes each, 0 to 35)"
abbrev pub channel_bytes : Channel → List ℕ
channel_bytes c =
    word_bytes c.base_address ++ word_bytes c.address ++ word_bytes c.base_count ++ word_bytes c.count ++ (c.mode ∷ [])

-- the channel that the nine bytes from place k on tell
abbrev pub channel_at : List ℕ → ℕ → Channel
channel_at b k =
    record {
      base_address = word b k;
      address = word b (k + 2);
      base_count = word b (k + 4);
      count = word b (k + 6);
      mode = get_or b (k + 8) 0;
    }

abbrev pub channels_bytes : Controller → List ℕ
channels_bytes s = channel_bytes (channel s 0) ++ channel_bytes (channel s 1) ++ channel_bytes (channel s 2) ++ channel_bytes (channel s 3)

-- the fields before the channels, the channels, the fields behind them
unfoldable pub body_of : Form → Controller → List ℕ
body_of form s = map (field s) (front form) ++ (channels_bytes s ++ map (field s) behind)

-- field f, where these fields have a byte each from place k on; `other` where it is none of them
abbrev pub field_in : List Field → ℕ → List ℕ → Field → ℕ → ℕ
field_in [] k b f other = other
field_in (g ∷ gs) k b f other = cond (eqb (tag g) (tag f)) (get_or b k 0) (field_in gs (k + 1) b f other)

-- one of these fields isn't zero
abbrev pub any_set : List Field → Controller → Bool
any_set [] s = false
any_set (f ∷ fs) s = any_set fs s || not (eqb (field s f) 0)

-- the state has something in a field that has no place in the form
unfoldable pub exceeds : Form → Controller → Bool
exceeds form s = any_set (missing form) s

-- the state that a body tells, in its ranges or not: a field without a place in the form is 0
unfoldable pub state_of : Form → List ℕ → Controller
state_of form b =
    let core = drop (channels_at form) b in
    make
    (channel_at core (channel_place 0) ∷ channel_at core (channel_place 1) ∷ channel_at core (channel_place 2) ∷ channel_at core (channel_place 3) ∷ [])
    (λ (f : Field). field_in behind (channel_place 4) core f (field_in (front form) 0 b f 0))

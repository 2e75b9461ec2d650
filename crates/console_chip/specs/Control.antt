-- What each command on the controller answers.
use Rattle.std.specs.Prelude.{ℕ, ◌*◌, Bool, List, ◌∷◌, ◌++◌, eqb, length}
use Rattle.words.specs.Choice.{when, ◌and◌}
use Rattle.am9517.specs.State.{fresh}
use Rattle.am9517.specs.Answers.{write_of, read_of, pins_of, waits_of}
use Rattle.am9517.specs.declared.Controller.{Controller}
use Rattle.am9517_sheet.specs.declared.forms.Form.TheVariants.{One, Two}
use Rattle.am9517_sheet.specs.Form.{body_size}
use Rattle.am9517_sheet.specs.Body.{body_of, state_of}
use Rattle.console_text.specs.Text.{codes}
use Rattle.console_text.specs.Numbers.{number_of}
use Rattle.console_text.specs.Hex.{hex_text, is_bytes, bytes_in}
use Rattle.console_chip.specs.declared.answers.ValueKind.TheVariants.{Byte}
use Rattle.console_chip.specs.Answers.{Reply, reply, error_reply, outcome_reply, ok_text, numbered, word_most}

abbrev pub state_text : Controller → List ℕ
state_text c = codes "state " ++ hex_text (body_of One c)

-- "100 digits: edition, waits (00 before A3), the 48 body bytes; no range check": the body of form 2
abbrev pub full_text : Controller → List ℕ
full_text c = codes "full " ++ hex_text (body_of Two c)

-- "a fresh state of edition E, 0 (also when E is missing) Am9517A or 1 Intel; E over 1 is `error`"
abbrev pub fresh_reply : Controller → List ℕ → Reply Controller
fresh_reply c edition = numbered (number_of 1 edition) (λ (e : ℕ). reply (fresh e) ok_text) (error_reply c)

abbrev pub write_reply : Controller → List ℕ → List ℕ → Reply Controller
write_reply c reg byte =
    numbered (number_of word_most reg)
    (λ (r : ℕ). numbered (number_of 255 byte) (λ (b : ℕ). outcome_reply Byte (write_of c r b)) (error_reply c))
    (error_reply c)

abbrev pub read_reply : Controller → List ℕ → Reply Controller
read_reply c reg = numbered (number_of word_most reg) (λ (r : ℕ). outcome_reply Byte (read_of c r)) (error_reply c)

abbrev pub pins_reply : Controller → List ℕ → Reply Controller
pins_reply c levels = numbered (number_of word_most levels) (λ (p : ℕ). outcome_reply Byte (pins_of c p)) (error_reply c)

-- "N over 255 is `error`"
abbrev pub waits_reply : Controller → List ℕ → Reply Controller
waits_reply c states = numbered (number_of 255 states) (λ (n : ℕ). outcome_reply Byte (waits_of c n)) (error_reply c)

-- the word is a byte string of n bytes
unfoldable pub says_bytes : List ℕ → ℕ → Bool
says_bytes digits n = is_bytes digits and eqb (length digits) (2 * n)

-- "`state HEX` sets the 48 and leaves edition and waits"
abbrev pub state_reply : Controller → List ℕ → Reply Controller
state_reply c digits = when (says_bytes digits (body_size One)) (reply (state_of Two (c.edition ∷ c.waits ∷ bytes_in digits)) ok_text) (error_reply c)

-- "the state is now these 50 bytes, taken with no range check"
abbrev pub full_reply : Controller → List ℕ → Reply Controller
full_reply c digits = when (says_bytes digits (body_size Two)) (reply (state_of Two (bytes_in digits)) ok_text) (error_reply c)

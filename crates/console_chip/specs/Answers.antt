-- The answers' texts, and what a command gives: the next controller, or whatever else it is on, and a text.
use Rattle.std.specs.Prelude.{ℕ, List, [], ◌∷◌, ◌++◌, Option, Some, None, Ok, Err}
use Rattle.am9517.specs.declared.Controller.{Controller}
use Rattle.am9517.specs.Answers.{Answer}
use Rattle.am9517.specs.declared.Outcome.{Outcome}
use Rattle.console_text.specs.Text.{codes, Page, page, put}
use Rattle.console_text.specs.Numbers.{decimal_text}
use Rattle.console_text.specs.Hex.{hex_text, bytes_text}
use Rattle.console_chip.specs.declared.answers.Spoken.{Spoken}
use Rattle.console_chip.specs.declared.answers.ValueKind.{ValueKind}
use Rattle.console_chip.specs.declared.answers.ValueKind.TheVariants.{Byte, Channel}
use Rattle.am9517.specs.Refusals.{number_of}
use Rattle.am9517.specs.declared.refusals.Refusal.{Refusal}

abbrev pub ok_text : List ℕ
ok_text = codes "ok"

abbrev pub error_text : List ℕ
error_text = codes "error"

abbrev pub refused_text : Refusal → List ℕ
refused_text r = codes "refused " ++ decimal_text (number_of r)

abbrev pub channel_text : ℕ → List ℕ
channel_text n = codes "channel " ++ decimal_text n

abbrev pub byte_text : ℕ → List ℕ
byte_text b = codes "byte 0x" ++ hex_text (b ∷ [])

abbrev pub bytes_answer : List ℕ → List ℕ
bytes_answer bs = codes "bytes " ++ bytes_text bs

-- a value is a channel granted, or a byte read
unfoldable pub value_text : ValueKind → ℕ → List ℕ
value_text Byte v = byte_text v
value_text Channel v = channel_text v

unfoldable pub answer_text : ValueKind → Answer → List ℕ
answer_text kind (Ok None) = ok_text
answer_text kind (Ok (Some v)) = value_text kind v
answer_text kind (Err r) = refused_text r

-- What a command gives: what it is on, as it is next, and the answer.
pub record Reply (A : Type 0) : Type 0 where
  pub next : A
  pub text : List ℕ

abbrev pub reply : {A : Type 0} → A → List ℕ → Reply A
reply a t = record { next = a; text = t }

-- "error, nothing changed"
abbrev pub error_reply : {A : Type 0} → A → Reply A
error_reply a = reply a error_text

abbrev pub outcome_reply : ValueKind → Outcome → Reply Controller
outcome_reply kind o = reply o.controller (answer_text kind o.answer)

-- by what a word says, as a number that fits its place, if it says one
unfoldable pub numbered : {B A : Type 0} → Option B → (B → A) → A → A
numbered (Some n) f other = f n
numbered None f other = other

-- "REG, P, LIMIT, EOP and K take any number below 2^32"
abbrev pub word_most : ℕ
word_most = 4294967295

-- What is said of a command: what it is on, as it is next, and the page with the answer.
pub record Said (A : Type 0) : Type 0 where
  pub next : A
  pub page : Page

abbrev pub said : {A : Type 0} → Spoken A → List ℕ → Said A
said r out = record { next = r.next; page = page out r.at }

abbrev pub saying : {A : Type 0} → Page → Reply A → Said A
saying p r = record { next = r.next; page = put p r.text }

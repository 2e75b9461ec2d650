-- The commands on the memory, the device's queue and the device's room.
use Rattle.std.specs.Prelude.{ℕ, ◌+◌, ◌-◌, ◌/◌, ◌≤◌, ◌≡◌, Bool, List, ◌++◌, leb, length, take, drop, replicate}
use Rattle.words.specs.Choice.{when, ◌and◌}
use Rattle.console_text.specs.Text.{Page, page, put}
use Rattle.console_text.specs.Numbers.{number_of}
use Rattle.console_text.specs.Hex.{is_bytes, bytes_in}
use Rattle.console_chip.specs.Answers.{ok_text, error_text, bytes_answer, numbered, word_most}

-- "N bytes are lent from now on (0 to 65,537)"
abbrev pub lent_of : ℕ → List ℕ → ℕ
lent_of lent size = numbered (number_of 65537 size) (λ (n : ℕ). n) lent

abbrev pub lent_text : List ℕ → List ℕ
lent_text size = numbered (number_of 65537 size) (λ (n : ℕ). ok_text) error_text

-- n bytes of an array from place a on: "A place is out of an array where ADDR + N is more than its length; N may be 0."
unfoldable pub bytes_at : List ℕ → ℕ → ℕ → List ℕ
bytes_at array a n = when (leb (a + n) (length array)) (bytes_answer (take n (drop a array))) error_text

abbrev pub peek_text : List ℕ → List ℕ → List ℕ → List ℕ
peek_text array place count =
    numbered (number_of word_most place) (λ (a : ℕ). numbered (number_of word_most count) (λ (n : ℕ). bytes_at array a n) error_text) error_text

-- the bytes of a word have their place in an array of this length from place a on
unfoldable pub has_place : ℕ → ℕ → List ℕ → Bool
has_place size a digits = is_bytes digits and leb (a + length digits / 2) size

-- What a command does to an array, and its answer.
pub record Changed : Type 0 where
  pub array : List ℕ
  pub text : List ℕ

abbrev pub changed : List ℕ → List ℕ → Changed
changed a t = record { array = a; text = t }

-- What is seen of it: the array, and the page with the answer.
pub record Shown : Type 0 where
  pub array : List ℕ
  pub page : Page

abbrev pub shown : List ℕ → Page → Shown
shown a p = record { array = a; page = p }

abbrev pub showing : Page → Changed → Shown
showing p c = shown c.array (put p c.text)

-- done or not: the array with the bytes from place a on and "ok", or as it was and "error"
unfoldable pub poked_at : List ℕ → List ℕ → ℕ → Changed
poked_at array digits a =
    when (has_place (length array) a digits)
    (changed (put (page array a) (bytes_in digits)).bytes ok_text)
    (changed array error_text)

abbrev pub poke_of : List ℕ → List ℕ → List ℕ → Changed
poke_of array place digits = numbered (number_of word_most place) (poked_at array digits) (changed array error_text)

-- The bytes that an array holds from one place up to another: the device's queue.
abbrev pub held : List ℕ → ℕ → ℕ → List ℕ
held array from to = take (to - from) (drop from array)

-- "appended to the queue; more than 70,000 in all: error, nothing appended"
unfoldable pub appended : List ℕ → List ℕ → Changed
appended queue bytes = when (leb (length queue + length bytes) 70000) (changed (queue ++ bytes) ok_text) (changed queue error_text)

unfoldable pub feed_of : List ℕ → List ℕ → Changed
feed_of queue digits = when (is_bytes digits) (appended queue (bytes_in digits)) (changed queue error_text)

-- "N copies of BYTE appended to the queue"
abbrev pub fill_of : List ℕ → List ℕ → List ℕ → Changed
fill_of queue count byte =
    numbered (number_of word_most count)
    (λ (n : ℕ). numbered (number_of 255 byte) (λ (b : ℕ). appended queue (replicate n b)) (changed queue error_text))
    (changed queue error_text)

-- "the room is now N bytes, each equal to BYTE"
abbrev pub room_of : List ℕ → List ℕ → List ℕ → Changed
room_of room count byte =
    numbered (number_of 70000 count)
    (λ (n : ℕ). numbered (number_of 255 byte) (λ (b : ℕ). changed (replicate n b) ok_text) (changed room error_text))
    (changed room error_text)

-- "write position 0": of the room that is made; an error leaves the position
abbrev pub position_of : ℕ → List ℕ → List ℕ → ℕ
position_of written count byte =
    numbered (number_of 70000 count) (λ (n : ℕ). numbered (number_of 255 byte) (λ (b : ℕ). 0) written) written

-- What ends at this place lies in its array, which has place for 70,000 bytes.
pub record LiesIn (end : ℕ) (array : List ℕ) : Type 0 where
  pub inside : end ≤ length array
  pub deep : 70000 ≤ length array

-- The queue with a place for n more bytes: before it, it holds what it held.
pub record Grown (place from to n : ℕ) (array bytes : List ℕ) : Type 0 where
  pub kept : held array from place ≡ bytes
  pub behind : from ≤ place
  pub longer : to ≡ place + n
  pub inside : to ≤ length array

-- An array after a command that changes it: the queue from one place up to another, or the room with its write position; it holds
-- what the command says, and the page has the answer.
pub record Queued (from to : ℕ) (array : List ℕ) (p : Page) (c : Shown) : Type 0 where
  pub holds : shown (held array from to) p ≡ c
  pub ordered : from ≤ to
  pub inside : to ≤ length array

pub record Roomed (written size : ℕ) (array : List ℕ) (p : Page) (c : Shown) (position : ℕ) : Type 0 where
  pub holds : shown (take size array) p ≡ c
  pub behind : written ≡ position
  pub ordered : written ≤ size
  pub inside : size ≤ length array

-- Document 01, "Who may be served".
use Rattle.std.specs.Prelude.{ℕ, ◌+◌, ◌*◌, ◌%◌, Bool, not, ◌&&◌, ◌||◌, [], ◌∷◌, eqb}
use Rattle.words.specs.Choice.{when}
use Rattle.words.specs.Grounds.{◌if◌, first}
use Rattle.words.specs.Bits.{bit}
use Rattle.am9517.specs.Fields.{channel, put, Lowest, InService, Serving, LatchFull, Latch}
use Rattle.am9517.specs.Modes.{disabled, rotating, is_block}
use Rattle.am9517.specs.declared.Controller.{Controller}

-- "A line is active when its pin differs from command bit 6."
unfoldable pub active : Controller → ℕ → Bool
active s n = not (eqb (bit s.pins n) (bit s.command 6))

-- ".. its request bit is set and its mode is block (*ruling*: elsewhere the bit is kept and not counted)."
unfoldable pub request_counts : Controller → ℕ → Bool
request_counts s n = eqb (bit s.request n) 1 && is_block (channel s n).mode

-- "A channel requests when its line is active, or its request bit is set and its mode is block .."
unfoldable pub requests : Controller → ℕ → Bool
requests s n = active s n || request_counts s n

-- "It is entitled when command bit 2 is 0 and either its line is active and its mask bit 0, or its request bit counts
-- (software requests can't be masked)."
unfoldable pub entitled : Controller → ℕ → Bool
entitled s n = not (disabled s.command) && (active s n && eqb (bit s.mask n) 0 || request_counts s n)

-- four bits that say for which channels f holds
unfoldable pub set_of : (ℕ → Bool) → ℕ
set_of f = when (f 0) 1 0 + when (f 1) 2 0 + when (f 2) 4 0 + when (f 3) 8 0

-- "8 read: status. Bits 0-3 the TC bits, cleared by this read; bits 4-7 the requesting channels, masked or not."
unfoldable pub status : Controller → ℕ
status s = s.tc + 16 * set_of (requests s)

-- "fixed order 0, 1, 2, 3, or, rotating, from the one after the lowest, going round": the channel that is asked last,
abbrev pub last_asked : Controller → ℕ
last_asked s = when (rotating s.command) s.lowest 3

-- and who is asked k-th, from 0
abbrev pub asked : ℕ → ℕ → ℕ
asked last k = (last + 1 + k) % 4

-- the entitled channels, as four bits
abbrev pub entitled_set : Controller → ℕ
entitled_set s = set_of (entitled s)

-- "A grant takes the first entitled channel": the first of the set, by the channel asked last; 4 where there is none
unfoldable pub picked_from : ℕ → ℕ → ℕ
picked_from last set =
    first (
    asked last 0 if eqb (bit set (asked last 0)) 1
    ∷ asked last 1 if eqb (bit set (asked last 1)) 1
    ∷ asked last 2 if eqb (bit set (asked last 2)) 1
    ∷ asked last 3 if eqb (bit set (asked last 3)) 1
    ∷ []) 4

unfoldable pub picked : Controller → ℕ
picked s = picked_from (last_asked s) (entitled_set s)

-- "Under rotation the granted channel becomes lowest at the grant; a fixed grant leaves the lowest as it is (*ruling*).
-- The latch is emptied."
unfoldable pub granted : Controller → ℕ → Controller
granted s n =
    let t = put s Lowest (when (rotating s.command) n s.lowest) in
    put (put (put (put t InService 1) Serving n) LatchFull 0) Latch 0

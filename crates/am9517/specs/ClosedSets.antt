-- Closed forms for loops: the entitled channels told of sets of four bits. No rule stands here; that they give what Serving.antt
-- says is shown in proofs/ServingLaws.antt.
use Rattle.std.specs.Prelude.{ℕ, ◌-◌, not, ◌&&◌}
use Rattle.std.specs.Int.Bits.{bit_and, bit_or}
use Rattle.am9517.specs.Fields.{channel}
use Rattle.am9517.specs.Modes.{disabled, is_block}
use Rattle.am9517.specs.Serving.{active, set_of}
use Rattle.am9517.specs.declared.Controller.{Controller}

-- the channels that their line entitles, unless masked
unfoldable pub lines_of : Controller → ℕ
lines_of s = set_of (λ n. not (disabled s.command) && active s n)

-- the channels that their request bit entitles, if set
unfoldable pub blocks_of : Controller → ℕ
blocks_of s = set_of (λ n. not (disabled s.command) && is_block (channel s n).mode)

-- the entitled channels, of these two sets, mask and request bits
unfoldable pub entitled_of : ℕ → ℕ → ℕ → ℕ → ℕ
entitled_of lines blocks mask request = bit_or (bit_and lines (255 - mask)) (bit_and blocks request)

-- How far a leg of a service goes and why it stops there, in closed form. What a run is, Run.antt says.
use Rattle.std.specs.Prelude.{ℕ, ◌+◌, Bool, true, false, not, ◌&&◌, ◌||◌, eqb, leb, min}
use Rattle.words.specs.Choice.{when}
use Rattle.am9517.specs.Modes.{is_demand, is_single, is_cascade}
use Rattle.am9517.specs.declared.Channel.{Channel}
use Rattle.am9517_service.specs.declared.Reason.{Reason}
use Rattle.am9517_service.specs.declared.Reason.TheVariants.{Ended, Dropped, Cascade, Limit, Short}
use Rattle.am9517_service.specs.declared.spans.Span.{Span}
use Rattle.am9517_service.specs.Transfer.{writes, reads}

-- the transfers up to the one that ends the service: at a single one's first, at TC, or at EOP
unfoldable pub until_end : Bool → ℕ → ℕ → ℕ
until_end once count eop = when once 1 (when (eqb eop 0) (count + 1) (min eop (count + 1)))

-- the transfers that the device's bytes or its room last for
unfoldable pub stock_of : Channel → ℕ → ℕ → ℕ
stock_of ch bytes space = when (writes ch) bytes (when (reads ch) space 65536)

abbrev pub span : ℕ → Reason → Span
span n why = record { transfers = n; why = why }

-- why a service stops before its end
unfoldable pub halt : ℕ → ℕ → Reason
halt limit stock = when (leb limit stock) Limit Short

-- how far a leg goes whose line is active or not, which finds this many device bytes and this much room
unfoldable pub span_of : Channel → Bool → ℕ → ℕ → ℕ → ℕ → Span
span_of ch active bytes space limit eop =
    let stock = stock_of ch bytes space in
    let most = until_end (is_single ch.mode) ch.count eop in
    when ((is_demand ch.mode || is_cascade ch.mode) && not active) (span 0 Dropped)
    (when (is_cascade ch.mode) (span 0 Cascade)
    (when (leb most (min limit stock)) (span most Ended) (span (min limit stock) (halt limit stock))))

abbrev pub stays_open : Reason → Bool
stays_open Ended = false
stays_open Dropped = false
stays_open Cascade = true
stays_open Limit = true
stays_open Short = true

-- how far a leg of memory-to-memory goes
unfoldable pub copy_span : ℕ → ℕ → ℕ → Span
copy_span count limit eop = let most = until_end false count eop in when (leb most limit) (span most Ended) (span limit Limit)

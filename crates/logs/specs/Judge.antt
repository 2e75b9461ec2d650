-- "Given a state in service and a memory, accept exactly the logs whose every record is what the rules do next, taking device bytes
-- and EOP from the log. Otherwise hand back the part of the vendor's log that begins at the first wrong record .."
use Rattle.std.specs.Prelude.{ℕ, zero, suc, ◌+◌, ◌-◌, ◌%◌, Bool, ◌&&◌, List, [], ◌∷◌, eqb, ltb, ℤ, pos, negsuc, drop}
use Rattle.words.specs.Choice.{when, ◌and◌}
use Rattle.words.specs.Bits.{bit}
use Rattle.am9517.specs.Refusals.{busy}
use Rattle.am9517.specs.declared.Controller.{Controller}
use Rattle.am9517_service.specs.World.{start_of, Stop}
use Rattle.am9517_service.specs.Run.{run_of}
use Rattle.logs.specs.declared.Record.{Record}
use Rattle.logs.specs.Record.{record_in, first_address, record_of}

-- what the rules do next: the run of one transfer that finds this device byte and room for one, and meets external EOP or not
unfoldable pub next_run : Controller → List ℕ → ℕ → Bool → Stop
next_run c m device eop = run_of 1 (when eop 1 0) (device ∷ []) (start_of c m (0 ∷ []))

-- they make a transfer: the record is not "one after the end of service, or one where the rules make no transfer (line dropped, cascade)"
unfoldable pub transfers : Controller → List ℕ → ℕ → Bool → Bool
transfers c m device eop = busy c && eqb (next_run c m device eop).world.counts.transfers 1

-- "taking device bytes and EOP from the log": EOP is flag bit 1, the device's byte the data byte
abbrev pub tells_eop : Record → Bool
tells_eop r = eqb (bit r.flags 1) 1

-- two records are the same
unfoldable pub same : Record → Record → Bool
same r s =
    eqb r.channel s.channel
    and eqb r.kind s.kind
    and eqb r.address s.address
    and eqb r.second s.second
    and eqb r.byte s.byte
    and eqb r.flags s.flags

-- a record "is what the rules do next"
unfoldable pub is_right : Controller → List ℕ → Record → Bool
is_right c m r = transfers c m r.byte (tells_eop r) and same r (record_of c m r.byte (tells_eop r))

-- "claimed minus right first address modulo 65,536"
abbrev pub apart : ℕ → ℕ → ℕ
apart claimed right = (claimed + 65536 - right) % 65536

-- "as a signed number, -32,768 to 32,767": pos d is d, negsuc d is -(d + 1)
unfoldable pub signed : ℕ → ℤ
signed d = when (ltb d 32768) (pos d) (negsuc (65535 - d))

-- a wrong record "with its address error"; where the rules make no transfer it "counts as wrong with error 0"
unfoldable pub error_of : Controller → List ℕ → Record → ℤ
error_of c m r = when (transfers c m r.byte (tells_eop r)) (signed (apart r.address (first_address c))) (pos 0)

-- what is found: "Memory is left as the good records made it; state by the same rule"; the place where the part that is handed back
-- begins, and its address error
pub record Found : Type 0 where
  pub controller : Controller
  pub memory : List ℕ
  pub place : ℕ
  pub error : ℤ

abbrev pub found : Controller → List ℕ → ℕ → ℤ → Found
found c m place error = record { controller = c; memory = m; place = place; error = error }

-- the same behind so many bytes
abbrev pub behind : ℕ → Found → Found
behind n f = found f.controller f.memory (n + f.place) f.error

-- a log of so many whole records, judged. "A cut record .. counts as wrong with error 0": what is left behind the whole ones is handed back.
-- "An honest log that stops early is accepted": nothing is left, and nothing is handed back
unfoldable pub judged : ℕ → Controller → List ℕ → List ℕ → Found
judged zero c m log = found c m 0 (pos 0)
judged (suc more) c m log =
    let r = record_in log in
    let next = (next_run c m r.byte (tells_eop r)).world in
    when (is_right c m r) (behind 8 (judged more next.controller next.memory (drop 8 log))) (found c m 0 (error_of c m r))

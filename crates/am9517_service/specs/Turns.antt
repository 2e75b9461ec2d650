-- One service of a round at a time: what a call of serve gives, what it asks, and what it keeps. What the service is, Round.antt says.
use Rattle.std.specs.Prelude.{ℕ, ◌+◌, ◌^◌, ◌≤◌, ◌<◌, ◌≡◌, true, false, List, [], ◌++◌, length, take}
use Rattle.am9517.specs.Ranges.{valid}
use Rattle.am9517.specs.declared.Controller.{Controller}
use Rattle.am9517_service.specs.declared.Counts.{Counts}
use Rattle.am9517_service.specs.declared.turns.Rota.{Rota}
use Rattle.am9517_service.specs.declared.turns.Served.{Served}
use Rattle.am9517_service.specs.Counts.{plus}
use Rattle.am9517_service.specs.Bounds.{most_transfers, most_states}
use Rattle.am9517_service.specs.Round.{course, nobody, run_next, is_ended}
use Rattle.am9517_service.specs.ClosedRounds.{facts_of, nexts_of}

-- a controller, and what it tells of itself
abbrev pub rota_of : Controller → Rota
rota_of c = record { controller = c; facts = facts_of c; nexts = nexts_of (facts_of c) c.mask c.request }

pub record ServedGiven : Type 0 where
  pub served : Served
  pub memory : List ℕ
  pub room : List ℕ

abbrev pub served_given : Served → List ℕ → List ℕ → ServedGiven
served_given x m r = record { served = x; memory = m; room = r }

-- the next service of a round over this controller, with these counts so far; how many services were begun plays no part in it
unfoldable pub served_of : Controller → Counts → List ℕ → List ℕ → List ℕ → ServedGiven
served_of c was m d r =
    let s = run_next (course c m r [] was) d in
    let w = s.world in
    served_given
    (record { rota = rota_of w.controller; why = s.reason; counts = plus was w.counts })
    w.memory (take was.written r ++ w.room)

-- Somebody of an idle controller in range is entitled, and what the service may count fits its type.
pub record Ready (ρ : Rota) (n : Counts) (m d r : List ℕ) : Type 0 where
  pub own : ρ ≡ rota_of ρ.controller
  pub range : valid ρ.controller ≡ true
  pub idle : ρ.controller.in_service ≡ 0
  pub some : nobody ρ.controller ≡ false
  pub memory : length m ≡ 65536
  pub used : n.used ≤ length d
  pub written : n.written ≤ length r
  pub transfers : n.transfers + most_transfers < 2 ^ 64
  pub states : n.states + most_states < 2 ^ 64

-- What a service x keeps of that, with device bytes d and so much room, and how far it counts: a caller's loop needs no more.
pub record Serves (ρ : Rota) (n : Counts) (d : List ℕ) (size : ℕ) (x : Served) (m r : List ℕ) : Type 0 where
  pub own : x.rota ≡ rota_of x.rota.controller
  pub range : valid x.rota.controller ≡ true
  pub idle : is_ended x.why ≡ true → x.rota.controller.in_service ≡ 0
  pub waits : x.rota.controller.waits ≡ ρ.controller.waits
  pub memory : length m ≡ 65536
  pub room : length r ≡ size
  pub used : x.counts.used ≤ length d
  pub used_on : n.used ≤ x.counts.used
  pub written : x.counts.written ≤ size
  pub written_on : n.written ≤ x.counts.written
  pub transfers : x.counts.transfers ≤ n.transfers + most_transfers
  pub states : x.counts.states ≤ n.states + most_states

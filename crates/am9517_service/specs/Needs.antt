-- What the private functions of src/ ask of their callers.
use Rattle.std.specs.Prelude.{ℕ, ◌+◌, ◌≤◌, ◌<◌, ◌≡◌, true, false, List, length}
use Rattle.words.specs.Spans.{Within}
use Rattle.am9517.specs.Modes.{decrement}
use Rattle.am9517.specs.Ranges.{valid}
use Rattle.am9517.specs.Serving.{picked}
use Rattle.am9517.specs.declared.Channel.{Channel}
use Rattle.am9517_service.specs.declared.copies.Route.{Route}
use Rattle.am9517_service.specs.declared.turns.Rota.{Rota}
use Rattle.am9517_service.specs.Bounds.{most_transfers}
use Rattle.am9517_service.specs.Transfer.{writes, reads}
use Rattle.am9517_service.specs.ClosedCopies.{source_on}
use Rattle.am9517_service.specs.Turns.{rota_of}

-- bytes and room for n transfers
pub record Stocked (ch : Channel) (m d r : List ℕ) (n : ℕ) : Type 0 where
  pub memory : length m ≡ 65536
  pub most : n ≤ most_transfers
  pub bytes : writes ch ≡ true → n ≤ length d
  pub space : reads ch ≡ true → n ≤ length r

-- no address of n bytes along a route turns over
pub record Straight (ρ : Route) (n : ℕ) : Type 0 where
  pub target : Within ρ.to_down ρ.to n 65536
  pub source : ρ.hold ≡ false → Within (decrement ρ.source.mode) ρ.source.address n 65536

-- the addresses that n bytes come from, where the source of a route begins again after each `area` of them
pub record Again (ρ : Route) (area n : ℕ) (from : ℕ → ℕ) : Type 0 where
  pub within : (j : ℕ) → j < area → from j ≡ (source_on ρ.hold ρ.source j).address
  pub again : (j : ℕ) → area + j < n → from (area + j) ≡ from j

-- channel i of an idle rota in range is the next one
pub record Chosen (ρ : Rota) (i : ℕ) : Type 0 where
  pub own : ρ ≡ rota_of ρ.controller
  pub range : valid ρ.controller ≡ true
  pub idle : ρ.controller.in_service ≡ 0
  pub next : i ≡ picked ρ.controller
  pub below : i < 4

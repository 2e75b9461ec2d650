-- Demand 3: under rotation nobody waits for more than three others. "Demand 3 speaks of grants as the section "Who may be served" makes
-- them": those that `grant` itself answers (told, below).
use Rattle.std.specs.Prelude.{ℕ, ◌+◌, ◌/◌, ◌≤◌, ◌<◌, ◌≡◌, true, List, [], ◌∷◌, ◌++◌, length}
use Rattle.am9517.specs.Modes.{rotating}
use Rattle.am9517.specs.Serving.{entitled}
use Rattle.am9517.specs.declared.Controller.{Controller}
use Rattle.demands.specs.Lists.{All, count}
use Rattle.demands.specs.Operations.{Op, Write, Read, Pins, Reset, Waits, Grant, Run, Round, SheetWriting, SheetReading, Converting, next, said}
use Rattle.demands.specs.Grants.{Granted, grants, channels}
use Rattle.demands.specs.Rounds.{calls, reported, calls_of, spelled}

-- reset, master clear (a write of register 13) and sheet reading
abbrev pub Restarts : Op → Type 0
Restarts (Write r b) = r ≡ 13
Restarts (Read r) = ⊥
Restarts (Pins p) = ⊥
Restarts Reset = Unit
Restarts (Waits n) = ⊥
Restarts Grant = ⊥
Restarts (Run m d r limit eop) = ⊥
Restarts (Round m d r k) = ⊥
Restarts (SheetWriting form out) = ⊥
Restarts (SheetReading form bytes) = Unit
Restarts (Converting to source out) = ⊥

-- An operation of a trace, called in state s: none of these three, or refused.
abbrev pub Traced : Controller → Op → Type 0
Traced s op = Restarts op → ¬ (said s op ≡ 0)

-- operations of a trace, called one after the other from state s on
abbrev pub Trace : Controller → List Op → Type 0
Trace s [] = Unit
Trace s (op ∷ ops) = Traced s op × Trace (next s op) ops

-- rotation is on, and channel c is entitled
pub record Contends (c : ℕ) (g : Granted) : Type 0 where
  pub rotation : rotating g.before.command ≡ true
  pub entitled : entitled g.before c ≡ true

-- Channel c is served fairly in these grants:
pub record Fair (c : ℕ) (served : List ℕ) : Type 0 where
  -- of n grants it gets at least n divided by 4, rounded down;
  pub share : length served / 4 ≤ count c served
  -- in every stretch of successive grants in which it is not served there are at most three;
  pub turn : (past others rest : List ℕ) → served ≡ past ++ (others ++ rest) → count c others ≡ 0 → length others ≤ 3
  -- and no other channel gets more than one above its number.
  pub lead : (d : ℕ) → ¬ (d ≡ c) → count d served ≤ count c served + 1

-- Whatever is called from whatever state, accepted or refused, in whatever order, rounds among it, but for an accepted reset, master
-- clear or sheet reading: in any stretch of successive grants, cut where you like, inside a round too, a channel that contends at each is served fairly.
-- Document 02, A2: "Demand 3 reads the same for both": the state is any, of either edition.
abbrev pub Demand3 : Type 0
Demand3 =
    (s : Controller) (ops : List Op) (c : ℕ) (past window rest : List Granted)
    → c < 4
    → Trace s ops
    → grants s (spelled s ops) ≡ past ++ (window ++ rest)
    → All (Contends c) window
    → Fair c (channels window)

-- Channel c is served fairly by what a round reports: at least a quarter of all, and led by one at most.
pub record FairReport (c : ℕ) (services : ℕ → ℕ) : Type 0 where
  pub share : (services 0 + services 1 + services 2 + services 3) / 4 ≤ services c
  pub lead : (d : ℕ) → ¬ (d ≡ c) → services d ≤ services c + 1

-- A round in which channel c contends at each grant reports so.
abbrev pub Demand3Reported : Type 0
Demand3Reported =
    (s : Controller) (m d r : List ℕ) (k c : ℕ)
    → c < 4
    → All (Contends c) (grants s (calls s m d r k))
    → FairReport c (reported s m d r k)

-- An operation of a trace that makes no grant keeps the lowest channel.
abbrev pub LowestKept : Type 0
LowestKept = (s : Controller) (op : Op) → Traced s op → grants s (calls_of s op) ≡ [] → (next s op).lowest ≡ s.lowest

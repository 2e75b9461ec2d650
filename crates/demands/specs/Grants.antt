-- The grants that operations make, in their order: what demand 3 speaks of.
use Rattle.std.specs.Prelude.{ℕ, List, [], ◌∷◌, ◌++◌, map, Some, None, Ok, Err}
use Rattle.am9517.specs.Answers.{grant_of}
use Rattle.am9517.specs.declared.Controller.{Controller}
use Rattle.am9517.specs.Answers.{Answer}
use Rattle.demands.specs.Operations.{Op, Write, Read, Pins, Reset, Waits, Grant, Run, Round, SheetWriting, SheetReading, Converting, next}

-- A grant: the state that it was made in, and the channel that it went to.
pub record Granted : Type 0 where
  pub before : Controller
  pub channel : ℕ

-- the grant that this answer of `grant` tells of; a refusal is none
abbrev pub told : Controller → Answer → List Granted
told s (Ok None) = []
told s (Ok (Some n)) = record { before = s; channel = n } ∷ []
told s (Err r) = []

-- the grant that a call makes; a round stands for its calls (Rounds.antt)
abbrev pub made : Controller → Op → List Granted
made s (Write r b) = []
made s (Read r) = []
made s (Pins p) = []
made s Reset = []
made s (Waits n) = []
made s Grant = told s (grant_of s).answer
made s (Run m d r limit eop) = []
made s (Round m d r k) = []
made s (SheetWriting form out) = []
made s (SheetReading form bytes) = []
made s (Converting to source out) = []

-- the grants made, in order, when these operations are called one after the other from state s on
abbrev pub grants : Controller → List Op → List Granted
grants s [] = []
grants s (op ∷ ops) = made s op ++ grants (next s op) ops

-- the channels that they went to
abbrev pub channels : List Granted → List ℕ
channels gs = map (λ (g : Granted). g.channel) gs

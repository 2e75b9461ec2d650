-- What an accepted run leaves: its service open or over, as the reason says, and memory and room of the size that was lent.
use Rattle.std.specs.Prelude.{ℕ, ◌≡◌, List, length, Ok}
use Rattle.am9517.specs.declared.Controller.{Controller}
use Rattle.am9517_service.specs.declared.Reason.{Reason}
use Rattle.am9517_service.specs.declared.Reason.TheVariants.{Ended, Dropped, Cascade, Limit, Short}
use Rattle.am9517_service.specs.Answers.{ran_of}
use Rattle.demands.specs.Operations.{Run, next, said}

-- in service behind a run that stopped so: "service ends, "dropped""; "cascade: stop, "cascade"; service stays open"; "limit reached: stop,
-- "limit"; service stays open"; "stop, "short"; service stays open"; "These ends are "ended"."
abbrev pub open_behind : Reason → ℕ
open_behind Ended = 0
open_behind Dropped = 0
open_behind Cascade = 1
open_behind Limit = 1
open_behind Short = 1

pub record Stops (s : Controller) (m d r : List ℕ) (limit eop : ℕ) : Type 0 where
  -- It answers with a reason,
  pub reason : Reason
  pub answer : (ran_of s m d r limit eop).ran.answer ≡ Ok reason
  -- and leaves the service open or over, as that says.
  pub service : (next s (Run m d r limit eop)).in_service ≡ open_behind reason
  -- "However a service ends, the serving channel, the latch and its full mark become zero."
  pub zeros : open_behind reason ≡ 0
      → ((next s (Run m d r limit eop)).serving ≡ 0) × ((next s (Run m d r limit eop)).latch ≡ 0) × ((next s (Run m d r limit eop)).latch_full ≡ 0)

pub record StopsAsSaid : Type 0 where
  -- An accepted run stops so, whatever it is lent;
  pub stops : (s : Controller) (m d r : List ℕ) (limit eop : ℕ) → said s (Run m d r limit eop) ≡ 0 → Stops s m d r limit eop
  -- and a run, accepted or refused, hands memory and room back in their size.
  pub memory : (s : Controller) (m d r : List ℕ) (limit eop : ℕ) → length (ran_of s m d r limit eop).memory ≡ length m
  pub room : (s : Controller) (m d r : List ℕ) (limit eop : ℕ) → length (ran_of s m d r limit eop).room ≡ length r

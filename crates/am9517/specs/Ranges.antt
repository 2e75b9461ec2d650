-- Document 01, "The stored sheet": the ranges of a state. One that breaks a range is refused by 1.
use Rattle.std.specs.Prelude.{ℕ, ◌%◌, Bool, not, ◌&&◌, ◌||◌, leb, eqb}
use Rattle.words.specs.Choice.{◌and◌}
use Rattle.am9517.specs.Fields.{channel}
use Rattle.am9517.specs.Modes.{mode_refused}
use Rattle.am9517.specs.declared.Controller.{Controller}

-- "Ranges: mode bits 1-0 zero and not refused by 5"
unfoldable pub mode_valid : ℕ → Bool
mode_valid m = eqb (m % 4) 0 and not (mode_refused m)

unfoldable pub modes_valid : Controller → Bool
modes_valid s =
    mode_valid (channel s 0).mode and mode_valid (channel s 1).mode and mode_valid (channel s 2).mode and mode_valid (channel s 3).mode

-- "37, 38, 39, 42 at most 15; 41, 44, 46 at most 1; 43, 45 at most 3"; and the edition, whose place is in form 2, at most 1: it is one of two
unfoldable pub fields_valid : Controller → Bool
fields_valid s =
    leb s.tc 15
    and leb s.request 15
    and leb s.mask 15
    and leb s.pins 15
    and leb s.flip_flop 1
    and leb s.in_service 1
    and leb s.latch_full 1
    and leb s.lowest 3
    and leb s.serving 3
    and leb s.edition 1

-- "idle means 45, 46, 47 zero; 46 zero means 47 zero"
unfoldable pub service_valid : Controller → Bool
service_valid s =
    (not (eqb s.in_service 0) || eqb s.serving 0 && eqb s.latch_full 0 && eqb s.latch 0)
    and (not (eqb s.latch_full 0) || eqb s.latch 0)

unfoldable pub valid : Controller → Bool
valid s = modes_valid s and fields_valid s and service_valid s

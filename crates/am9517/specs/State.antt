-- Document 01, "The controller's state".
use Rattle.std.specs.Prelude.{ℕ, [], ◌∷◌}
use Rattle.am9517.specs.declared.Controller.{Controller}
use Rattle.am9517.specs.Fields.{Field, make, but, put, blank, Command, Tc, Request, Mask, Temporary, FlipFlop, Lowest, InService, Serving, LatchFull, Latch, Edition}

-- "A fresh state is all zero but for the mask (15) and lowest channel (3)." And but for its edition: "chosen when a state is made"
abbrev pub fresh : ℕ → Controller
fresh edition = make (blank ∷ blank ∷ blank ∷ blank ∷ []) (but (but (but (λ (f : Field). 0) Mask 15) Lowest 3) Edition edition)

-- "However a service ends, the serving channel, the latch and its full mark become zero."
abbrev pub ended : Controller → Controller
ended s = put (put (put (put s InService 0) Serving 0) LatchFull 0) Latch 0

-- "Reset clears command, TC bits, request bits, temporary byte and flip-flop, sets all mask bits and ends any service (000);
-- lowest becomes 3; addresses, counts, modes and pins stay (*ruling*)." So does the edition, "kept in it through reset",
-- and so do the wait states, "unchanged by reset"
abbrev pub cleared : Controller → Controller
cleared s =
    let t = put (put (put (put (put s Command 0) Tc 0) Request 0) Temporary 0) FlipFlop 0 in
    put (ended (put t Mask 15)) Lowest 3

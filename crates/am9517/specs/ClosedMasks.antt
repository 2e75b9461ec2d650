-- Fields of a state asked at once, as one number: for private contracts (src/ranges.rt). No rule stands here.
use Rattle.std.specs.Prelude.{ℕ, ◌+◌, ◌*◌, List, [], ◌∷◌}
use Rattle.am9517.specs.declared.Controller.{Controller}

-- the number of these bytes, the first lowest
unfoldable pub joined : List ℕ → ℕ
joined [] = 0
joined (b ∷ bs) = joined bs * 256 + b

-- the fields that lie side by side
abbrev pub flags : Controller → List ℕ
flags s = s.tc ∷ s.request ∷ s.mask ∷ s.pins ∷ s.in_service ∷ s.serving ∷ s.latch_full ∷ s.latch ∷ []

abbrev pub others : Controller → List ℕ
others s = s.lowest ∷ s.flip_flop ∷ s.edition ∷ s.temporary ∷ []

abbrev pub flags_of : Controller → ℕ
flags_of s = joined (flags s)

abbrev pub others_of : Controller → ℕ
others_of s = joined (others s)

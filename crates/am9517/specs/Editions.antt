-- Document 02, A2, "The Intel sheet": the editions, and what tells them apart.
use Rattle.std.specs.Prelude.{ℕ, Bool, eqb}
use Rattle.am9517.specs.declared.Edition.{Edition}
use Rattle.am9517.specs.declared.Edition.TheVariants.{Am9517A, Intel8237A}

-- "The other lines' boards carry Intel 8237A parts. We need this edition beside ours": the byte of a state that tells its edition
abbrev pub number_of : Edition → ℕ
number_of Am9517A = 0
number_of Intel8237A = 1

-- "There, ..": asked by a write of register E (Refusals) and where external EOP is met (am9517_service, Ends), and nowhere else
abbrev pub is_intel : ℕ → Bool
is_intel edition = eqb edition 1

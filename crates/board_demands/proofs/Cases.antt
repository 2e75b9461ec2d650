-- The round that shows demand 3's numbers on the board tight: past the test of the memory's length it is computed.
use Prim.Native.Nat.{ℕ, ◌+◌, ◌-◌, ◌%◌}
use mathlib.Core.Path.{◌≡◌, refl, sym, ap, subst, ◌∙◌}
use mathlib.Core.Bool.{false, not, cond}
use mathlib.Core.List.{List, [], ◌∷◌}
use lib.Dec.{ltb}
use lib.ListN.{length}
use borrow.Author.Tests.{eq-eqb}
use Rattle.words.specs.Choice.{when, ◌and◌}
use Rattle.words.specs.Grounds.{first}
use Rattle.words.specs.Bits.{with_bit}
use Rattle.words.specs.Steps.{stride, step}
use Rattle.am9517.specs.Fields.{make, but, field, Lowest}
use Rattle.am9517.specs.Ranges.{mode_valid, modes_valid, fields_valid, service_valid, valid}
use Rattle.am9517.specs.Serving.{active, request_counts, entitled, set_of, picked_from, picked, granted}
use Rattle.am9517.specs.Refusals.{refusal}
use Rattle.am9517.specs.declared.Channel.{Channel}
use Rattle.am9517.specs.declared.Controller.{Controller}
use Rattle.am9517_service.specs.World.{memory_to_memory}
use Rattle.am9517_service.specs.Stops.{dropped, short, stops}
use Rattle.am9517_service.specs.States.{pace, needs_s1, cost}
use Rattle.am9517_service.specs.Transfer.{moved}
use Rattle.am9517_service.specs.Ends.{counting, single}
use Rattle.am9517_service.specs.Run.{transferred, run_of}
use Rattle.am9517_service.specs.Round.{run_next}
use Rattle.am9517_service.specs.Answers.{wrong_size}
use Rattle.board.specs.declared.Chip.TheVariants.{Second}
use Rattle.board.specs.Bus.{winner_of, quiet}
use Rattle.board.specs.Ranges.{pair_valid}
use Rattle.board.specs.Refusals.{board_round_grounds}
use Rattle.board.specs.Round.{board_beginning, with_service}
use Rattle.demands.specs.Lists.{All, none, also}
use Rattle.board_demands.specs.Operations.{Round}
use Rattle.board_demands.specs.Grants.{BoardGranted, round_grants, made, channels}
use Rattle.board_demands.specs.Fairness.{Contends}
use Rattle.board_demands.specs.Cases.{crowded, crowded_board, BoardTight}
use Rattle.words.proofs.ChoiceLaws.{when_hit}

round_free : (m : List ℕ) → length m ≡ 65536 → refusal (board_round_grounds crowded_board m 8) ≡ 0
unfolding when ◌and◌ first mode_valid modes_valid fields_valid service_valid valid pair_valid refusal
round_free m h = let e : wrong_size m ≡ false = ap not (eq-eqb _ _ h) in simp e

-- a crowded chip after so many services, from channel 0 on: those served have made one transfer, and the one served last is lowest
abbrev after : ℕ → Controller
after n =
    let made : ℕ → ℕ = λ i. cond (ltb i n) 1 0 in
    let one : ℕ → Channel = λ i. record { base_address = 0; address = made i; base_count = 99; count = 99 - made i; mode = 0x40 } in
    make (one 0 ∷ one 1 ∷ one 2 ∷ one 3 ∷ []) (but (field crowded) Lowest ((n + 3) % 4))

-- a grant to channel n, after so many services of either chip
abbrev to : ℕ → ℕ → ℕ → ℕ → BoardGranted
to i j last n = record { before = record { first = after i; second = after j; granted_last = last }; channel = n }

abbrev eight : List BoardGranted
eight = to 0 0 1 0 ∷ to 1 0 0 4 ∷ to 1 1 1 1 ∷ to 2 1 0 5 ∷ to 2 2 1 2 ∷ to 3 2 0 6 ∷ to 3 3 1 3 ∷ to 4 3 0 7 ∷ []

eight_made : (m d r : List ℕ) → round_grants 8 d (board_beginning crowded_board m r) ≡ eight
unfolding
    when ◌and◌ first with_bit stride step active request_counts entitled set_of picked_from picked granted memory_to_memory dropped short stops
    pace needs_s1 cost moved counting single transferred run_of run_next winner_of quiet with_service round_grants
eight_made m d r = refl

eight_contend : All (Contends Second 3) eight
unfolding active request_counts entitled
eight_contend =
    also (record { rotation = refl; entitled = refl })
    (also (record { rotation = refl; entitled = refl })
    (also (record { rotation = refl; entitled = refl })
    (also (record { rotation = refl; entitled = refl })
    (also (record { rotation = refl; entitled = refl })
    (also (record { rotation = refl; entitled = refl })
    (also (record { rotation = refl; entitled = refl }) (also (record { rotation = refl; entitled = refl }) none)))))))

pub board_tight : BoardTight
board_tight m d r h =
    let is : made crowded_board (Round m d r 8) ≡ eight = when_hit _ _ _ (eq-eqb _ _ (round_free m h)) ∙ eight_made m d r in
    (subst (All (Contends Second 3)) (sym is) eight_contend, ap channels is)

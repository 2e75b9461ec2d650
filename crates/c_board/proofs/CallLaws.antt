-- What an operation says that has no value, and what a call does with the number of a chip.
use Prim.Native.Nat.{ℕ}
use mathlib.Core.Path.{◌≡◌, sym, ap}
use mathlib.Core.Bool.{Bool, true, false, ◌&&◌}
use Rattle.words.specs.Choice.{◌and◌}
use Rattle.words.proofs.ChoiceLaws.{when_hit, when_miss}
use Rattle.am9517.specs.Answers.{refusal_number}
use Rattle.board.specs.declared.Board.{Board}
use Rattle.board.specs.Ranges.{pair_valid}
use Rattle.board.specs.Answers.{board_outcome, board_waits_of}
use Rattle.c_told.specs.Numbers.{told}
use Rattle.c_told.proofs.NumberLaws.{no_value}
use Rattle.c_board.specs.Host.{left, call_of, names_none, chip_of, waits_call_of}
use Rattle.std.proofs.Common.{None}

pub number_only : (n : ℕ) (was next : Board)
    → left (board_outcome n was next None).board (told (refusal_number (board_outcome n was next None).answer) 0) ≡ call_of (board_outcome n was next None)
unfolding board_outcome
number_only n was next =
    ap (λ (v : ℕ). left (board_outcome n was next None).board (told (refusal_number (board_outcome n was next None).answer) v)) (sym (no_value n))

-- the code's test, where `good` is what it found of the pair and `none` of the number
test_is : (b : Board) (which : ℕ) (good none hit : Bool) → good ≡ pair_valid b → none ≡ names_none which → good && none ≡ hit
    → (pair_valid b and names_none which) ≡ hit
unfolding ◌and◌
test_is b which good none hit e h t = rw (sym e, sym h) t

pub waits_of_none : (b : Board) (which states : ℕ) (good none : Bool) → good ≡ pair_valid b → none ≡ names_none which → good && none ≡ true
    → left b (told 2 0) ≡ waits_call_of b which states
unfolding waits_call_of
waits_of_none b which states good none e h t = sym (when_hit _ _ _ (test_is b which good none true e h t))

pub waits_of_one : (b : Board) (which states : ℕ) (good none : Bool) → good ≡ pair_valid b → none ≡ names_none which → good && none ≡ false
    → call_of (board_waits_of b (chip_of which) states) ≡ waits_call_of b which states
unfolding waits_call_of
waits_of_one b which states good none e h t = sym (when_miss _ _ _ (test_is b which good none false e h t))

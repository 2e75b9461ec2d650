-- The services that a round reports are its grants.
use Prim.Native.Nat.{ℕ, zero, suc, ◌+◌, ◌<◌}
use mathlib.Core.Path.{◌≡◌, refl, sym, ap, ◌∙◌}
use mathlib.Core.Bool.{Bool, true, false, not}
use mathlib.Core.List.{List, [], ◌∷◌}
use native.Mathlib.Omega.{arith}
use lib.Dec.{eqb}
use lib.ListN.{length, get_or, set, length-set}
use lib.Seq.{get_or-set_same, get_or-set_other}
use borrow.Author.Tests.{eqb-true, eqb-false}
use Rattle.words.specs.Choice.{when}
use Rattle.words.specs.Grounds.{◌if◌, first}
use Rattle.am9517.specs.Refusals.{refusal}
use Rattle.am9517.specs.Serving.{picked}
use Rattle.am9517_service.specs.Round.{RoundAnswer}
use Rattle.am9517_service.specs.Round.{is_ended}
use Rattle.board.specs.declared.Board.{Board}
use Rattle.board.specs.declared.Chip.{Chip}
use Rattle.board.specs.declared.Chip.TheVariants.{First, Second}
use Rattle.board.specs.Chips.{channel_of}
use Rattle.board.specs.Bus.{winner, winning, winning_channel, quiet}
use Rattle.board.specs.Refusals.{board_round_grounds}
use Rattle.board.specs.Round.{BoardCourse, board_beginning, service_next, with_service, after_service, BoardClose, board_close, board_round_of}
use Rattle.board.specs.RoundAnswers.{board_closed, board_rounded_of}
use Rattle.demands.specs.Lists.{count}
use Rattle.board.proofs.OutcomeLaws.{picked_few, winner_wants}
use Rattle.board_demands.specs.Grants.{granted, round_grants, channels}
use Rattle.board_demands.specs.Fairness.{BoardReports}
use Rattle.std.proofs.Common.{Ok, Err}
use Rattle.am9517.specs.Refusals.{numbered}
use Rattle.am9517_service.specs.declared.RoundEnd.TheVariants.{Quiet, Stopped}

plus_none : (x : ℕ) → x + 0 ≡ x
plus_none x = omega arith

-- one more at place j
one_more : (l : List ℕ) (j n : ℕ) → j < length l → get_or (set l j (get_or l j 0 + 1)) n 0 ≡ get_or l n 0 + when (eqb j n) 1 0
unfolding when
one_more l j n h = go (eqb j n) refl
  where
    go : (t : Bool) → eqb j n ≡ t → get_or (set l j (get_or l j 0 + 1)) n 0 ≡ get_or l n 0 + when t 1 0
    go true e = rw (← eqb-true j n e) (get_or-set_same l j (get_or l j 0 + 1) 0 h)
    go false e = get_or-set_other l j n (get_or l j 0 + 1) 0 (λ z. eqb-false j n e (sym z)) ∙ sym (plus_none (get_or l n 0))

few : (which : Chip) (p : ℕ) → p < 4 → channel_of which p < 8
few First p h = omega arith
few Second p h = omega arith

channel_few : (b : Board) → quiet b ≡ false → winning_channel b < 8
channel_few b h = let nz = eqb-false (picked (winning b)) 4 (winner_wants b h) in few (winner b) (picked (winning b)) (omega (arith, picked_few (winning b), nz))

-- one service more: its channel, and no other
begun : (w : BoardCourse) (d : List ℕ) → quiet w.board ≡ false → length w.services ≡ 8 → (n : ℕ)
    → get_or (after_service w d).services n 0 ≡ get_or w.services n 0 + when (eqb (winning_channel w.board) n) 1 0
unfolding with_service
begun w d h size n = one_more w.services (winning_channel w.board) n (omega (arith, channel_few w.board h, size))

grown : (w : BoardCourse) (d : List ℕ) → length (after_service w d).services ≡ length w.services
unfolding with_service
grown w d = length-set w.services _ _

counted : (n left : ℕ) (d : List ℕ) (w : BoardCourse) → length w.services ≡ 8
    → get_or (board_round_of left d w).course.services n 0 ≡ get_or w.services n 0 + count n (channels (round_grants left d w))
unfolding board_round_of round_grants first when count
counted n zero d w size = omega arith
counted n (suc left) d w size =
    go (quiet w.board) (not (is_ended (service_next w d).reason)) refl (counted n left d (after_service w d) (kept size))
  where
    kept : length w.services ≡ 8 → length (after_service w d).services ≡ 8
    kept e = grown w d ∙ e

    go : (q t : Bool) → quiet w.board ≡ q
        → get_or (board_round_of left d (after_service w d)).course.services n 0 ≡ get_or (after_service w d).services n 0 + count n (channels (round_grants left d (after_service w d)))
        → get_or (first (board_close w (Ok Quiet) if q ∷ []) (first (board_close (after_service w d) (Ok (Stopped (service_next w d).reason)) if t ∷ []) (board_round_of left d (after_service w d)))).course.services n 0
        ≡ get_or w.services n 0 + count n (channels (first ([] if q ∷ []) (granted w.board (winning_channel w.board) ∷ first ([] if t ∷ []) (round_grants left d (after_service w d)))))
    go true t eq ih = omega arith
    go false true eq ih = omega (arith, begun w d eq size n)
    go false false eq ih = omega (arith, ih, begun w d eq size n)

nothing : (j : ℕ) → ◌≡◌ {A = ℕ} (get_or (0 ∷ 0 ∷ 0 ∷ 0 ∷ 0 ∷ 0 ∷ 0 ∷ 0 ∷ []) j 0) 0
nothing zero = refl
nothing (suc zero) = refl
nothing (suc (suc zero)) = refl
nothing (suc (suc (suc zero))) = refl
nothing (suc (suc (suc (suc zero)))) = refl
nothing (suc (suc (suc (suc (suc zero))))) = refl
nothing (suc (suc (suc (suc (suc (suc zero)))))) = refl
nothing (suc (suc (suc (suc (suc (suc (suc zero))))))) = refl
nothing (suc (suc (suc (suc (suc (suc (suc (suc j)))))))) = refl

closed_services : (x : BoardClose) → (board_closed x).rounded.services ≡ x.course.services
unfolding board_closed
closed_services x = refl

module _ (b : Board) (m d r : List ℕ) (k n : ℕ) where
  abbrev w : BoardCourse
  w = board_beginning b m r

  accepted : get_or (board_closed (board_round_of k d w)).rounded.services n 0 ≡ count n (channels (round_grants k d w))
  accepted =
      let all : get_or (board_round_of k d w).course.services n 0 ≡ count n (channels (round_grants k d w)) = omega (arith, counted n k d w refl, nothing n) in
      ap (λ (l : List ℕ). get_or l n 0) (closed_services (board_round_of k d w)) ∙ all

  refused : (a : RoundAnswer) → get_or (board_closed (board_close w a)).rounded.services n 0 ≡ count n (channels [])
  unfolding count
  refused a = ap (λ (l : List ℕ). get_or l n 0) (closed_services (board_close w a)) ∙ nothing n

  reported_by : (t : Bool) (a : RoundAnswer)
      → get_or (when t (board_closed (board_round_of k d w)) (board_closed (board_close w a))).rounded.services n 0 ≡ count n (channels (when t (round_grants k d w) []))
  unfolding when
  reported_by true a = accepted
  reported_by false a = refused a

pub board_reports : BoardReports
unfolding board_rounded_of
board_reports b m d r k n = reported_by b m d r k n (eqb (refusal (board_round_grounds b m k)) 0) (Err (numbered (refusal (board_round_grounds b m k))))

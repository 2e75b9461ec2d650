-- A run on the board is the open service's.
use Prim.Native.Nat.{ℕ}
use mathlib.Core.Path.{◌≡◌, refl, sym, ap, ◌∙◌}
use mathlib.Core.Bool.{Bool, true, false, ◌||◌}
use mathlib.Core.List.{List}
use native.Mathlib.Omega.{arith}
use borrow.Author.Tests.{ne_eqb, not-false, not-true}
use Rattle.words.specs.Choice.{when}
use Rattle.words.specs.Grounds.{first}
use Rattle.am9517.specs.Ranges.{valid}
use Rattle.am9517.specs.Refusals.{number_of, refused, refusal, idle, busy}
use Rattle.am9517.specs.declared.refusals.Refusal.{Refusal}
use Rattle.am9517_service.specs.declared.Counts.{Counts}
use Rattle.am9517_service.specs.Counts.{none}
use Rattle.am9517.specs.declared.Controller.{Controller}
use Rattle.am9517_service.specs.declared.Ran.{Ran}
use Rattle.am9517_service.specs.Answers.{given, run_refusal_number, wrong_size, run_grounds, ran_of}
use Rattle.board.specs.declared.Board.{Board}
use Rattle.board.specs.declared.BoardRan.{BoardRan}
use Rattle.board.specs.declared.Chip.{Chip}
use Rattle.board.specs.declared.Chip.TheVariants.{First, Second}
use Rattle.board.specs.Chips.{chip}
use Rattle.board.specs.Ranges.{serves}
use Rattle.board.specs.Refusals.{board_run_grounds}
use Rattle.board.specs.Runs.{server, board_given, ran_on, served_by, board_ran_of}
use Rattle.words.proofs.GroundLaws.{passed}
use Rattle.board.proofs.RefusalLaws.{taken, few, number_back}
use Rattle.std.proofs.Common.{Some, Err}
use Rattle.board.proofs.OutcomeLaws.{Pair, pair, each}

pub refused_run : (b : Board) (m d r : List ℕ) (limit eop : ℕ) (x : Refusal) → refused (refusal (board_run_grounds b m)) ≡ Some x → (n : Counts) → n ≡ none
    → (board_given (record { board = b; answer = Err x; counts = n }) m r ≡ board_ran_of b m d r limit eop) × (run_refusal_number (Err x) ≡ refusal (board_run_grounds b m))
unfolding board_ran_of when
refused_run b m d r limit eop x h n e =
    let gs = board_run_grounds b m in
    let t = taken (refusal gs) x h in
    (simp (ne_eqb (refusal gs) 0 t.0, t.1, e), ap number_of t.1 ∙ number_back (refusal gs) (few gs refl) t.0)

-- the one whose service is open is busy
pub server_busy : (b : Board) → serves b ≡ true → busy (chip b (server b)) ≡ true
unfolding server when
server_busy b h = go (busy b.first) refl h
  where
    go : (x : Bool) → busy b.first ≡ x → (x || busy b.second) ≡ true → busy (chip b (when x First Second)) ≡ true
    go true ex e = ex
    go false ex e = e

pub record Running (b : Board) (m : List ℕ) : Type 0 where
  pub pair : Pair b
  pub size : wrong_size m ≡ false
  pub serving : serves b ≡ true

pub run_passed : (b : Board) (m : List ℕ) (n : ℕ) → n ≡ refusal (board_run_grounds b m) → n ≡ 0 → Running b m
unfolding refusal first
run_passed b m n e z =
    let good = passed _ _ _ (omega arith) (sym e ∙ z) in
    let size = passed _ _ _ (omega arith) good.next in
    let some = passed _ _ _ (omega arith) size.next in
    record { pair = pair b (not-false _ good.test); size = size.test; serving = not-false _ some.test }

chip_runs : (c : Controller) (m : List ℕ) → valid c ≡ true → wrong_size m ≡ false → busy c ≡ true → refusal (run_grounds c m) ≡ 0
unfolding refusal first when
chip_runs c m v s h = let o : idle c ≡ false = not-true (idle c) h in simp (v, s, o)

pub ran_is : (b : Board) (m d r : List ℕ) (limit eop n : ℕ) → n ≡ refusal (board_run_grounds b m) → n ≡ 0 → (which : Chip) → which ≡ server b → (c : Controller) → c ≡ chip b which
    → (x : Ran) (m' r' : List ℕ) → given x m' r' ≡ ran_of c m d r limit eop → run_refusal_number x.answer ≡ refusal (run_grounds c m) → (y : BoardRan) → y ≡ ran_on b which x
    → (board_given y m' r' ≡ board_ran_of b m d r limit eop) × (run_refusal_number y.answer ≡ refusal (board_run_grounds b m))
unfolding board_ran_of when
ran_is b m d r limit eop n e z which ew c ec x m' r' ex en y ey =
    let g = run_passed b m n e z in
    let free : refusal (board_run_grounds b m) ≡ 0 = sym e ∙ z in
    let own : refusal (run_grounds c m) ≡ 0 = rw (ec, ew) (chip_runs (chip b (server b)) m (each b g.pair (server b)) g.size (server_busy b g.serving)) in
    let there : served_by b which (given x m' r') ≡ served_by b (server b) (ran_of (chip b (server b)) m d r limit eop) =
    ap (served_by b which) ex ∙ rw (ec, ew) refl in
    (ap (λ (k : BoardRan). board_given k m' r') ey ∙ there ∙ rw free refl, ap (λ (k : BoardRan). run_refusal_number k.answer) ey ∙ en ∙ own ∙ sym free)

-- Demand 2 for the pair: each contract is an equation of the answer and all that is lent, so two outcomes that meet it are equal.
use mathlib.Core.Path.{◌≡◌, sym, ap, ◌∙◌, refl}
use Rattle.am9517_sheet.specs.declared.forms.Form.TheVariants.{One, Two}
use Rattle.am9517_sheet.specs.Sheet.{Stored}
use Rattle.board.specs.Answers.{board_write_of, board_read_of, board_pins_of, board_reset_of, board_grant_of}
use Rattle.board.specs.Runs.{BoardGiven, board_ran_of}
use Rattle.board.specs.RoundAnswers.{BoardRoundGiven, board_rounded_of}
use Rattle.c_told.specs.Numbers.{told, Saved, saved}
use Rattle.c_board.specs.Host.{look_of, entitled_of, Left, left, call_of, waits_call_of, save_call_of, load_call_of, RunLeft, run_left, run_call_of, RoundLeft, round_left, round_call_of}
use Rattle.board_demands.specs.Outcomes.{OneOutcomeOfBoard, OneOutcomeOfBoardCalls}

-- two values that both equal a third
same : {A : Type 0} {x y v : A} → x ≡ v → y ≡ v → x ≡ y
same p q = p ∙ sym q

pub one_outcome_of_board : OneOutcomeOfBoard
one_outcome_of_board =
    record {
      fresh = record { free = λ κs a. tt; single = λ κs a x y l l' p q. (same p q, refl) };
      write = record { free = λ κs a. tt; single = λ κs a x y l l' p q. (same p.0 q.0, refl) };
      read = record { free = λ κs a. tt; single = λ κs a x y l l' p q. (same p.0 q.0, refl) };
      pins = record { free = λ κs a. tt; single = λ κs a x y l l' p q. (same p.0 q.0, refl) };
      reset = record { free = λ κs a. tt; single = λ κs a x y l l' p q. (same p.0 q.0, refl) };
      waits = record { free = λ κs a. tt; single = λ κs a x y l l' p q. (same p.0 q.0, refl) };
      grant = record { free = λ κs a. tt; single = λ κs a x y l l' p q. (same p.0 q.0, refl) };
      valid = record { free = λ κs a. tt; single = λ κs a x y l l' p q. (same p q, refl) };
      run = record { free = λ κs a. tt; single = λ κs a x y l l' p q. (ap (λ (g : BoardGiven). g.ran) (same p.0 q.0), ap (λ (g : BoardGiven). (tt, (g.memory, (tt, (g.room, (tt, (tt, tt))))))) (same p.0 q.0)) };
      round = record { free = λ κs a. tt; single = λ κs a x y l l' p q. (ap (λ (g : BoardRoundGiven). g.rounded) (same p.0 q.0), ap (λ (g : BoardRoundGiven). (tt, (g.memory, (tt, (g.room, (tt, tt)))))) (same p.0 q.0)) };
      write_sheet = record { free = λ κs a. tt; single = λ κs a x y l l' p q. (ap (λ (s : Stored). s.answer) (same p.0 q.0), ap (λ (s : Stored). (tt, (tt, (tt, (s.bytes, tt))))) (same p.0 q.0)) };
      read_sheet = record { free = λ κs a. tt; single = λ κs a x y l l' p q. (same p.0 q.0, refl) };
      c_version = record { free = λ κs a. tt; single = λ κs a x y l l' p q. (same p q, refl) };
      c_fresh = record { free = λ κs a. tt; single = λ κs a x y l l' p q. (same p q, refl) };
    }

pub one_outcome_of_board_calls : OneOutcomeOfBoardCalls
one_outcome_of_board_calls =
    record {
      c_check = record {
        promise = λ κs a r e. r ≡ (look_of a.0.now 0).refusal;
        entered = λ M 𝓤 𝓛 mem run κs a. tt;
        free = λ M 𝓤 𝓛 mem run κs a g. refl;
        says = λ M 𝓤 𝓛 mem run κs a g r e. refl;
        single = λ κs a x y l l' p q. (same p q, refl);
      };
      c_write = record {
        promise = λ κs a r e. left e.0.now (told r 0) ≡ call_of (board_write_of a.0.now a.1.0 a.1.1.0);
        entered = λ M 𝓤 𝓛 mem run κs a. tt;
        free = λ M 𝓤 𝓛 mem run κs a g. refl;
        says = λ M 𝓤 𝓛 mem run κs a g r e. refl;
        single = λ κs a x y l l' p q. (ap (λ (g : Left). g.said.refusal) (same p q), ap (λ (g : Left). (g.board, (tt, (tt, tt)))) (same p q));
      };
      c_read = record {
        promise = λ κs a r e. left e.0.now r ≡ call_of (board_read_of a.0.now a.1.0);
        entered = λ M 𝓤 𝓛 mem run κs a. tt;
        free = λ M 𝓤 𝓛 mem run κs a g. refl;
        says = λ M 𝓤 𝓛 mem run κs a g r e. refl;
        single = λ κs a x y l l' p q. (ap (λ (g : Left). g.said) (same p q), ap (λ (g : Left). (g.board, (tt, tt))) (same p q));
      };
      c_pins = record {
        promise = λ κs a r e. left e.0.now (told r 0) ≡ call_of (board_pins_of a.0.now a.1.0);
        entered = λ M 𝓤 𝓛 mem run κs a. tt;
        free = λ M 𝓤 𝓛 mem run κs a g. refl;
        says = λ M 𝓤 𝓛 mem run κs a g r e. refl;
        single = λ κs a x y l l' p q. (ap (λ (g : Left). g.said.refusal) (same p q), ap (λ (g : Left). (g.board, (tt, tt))) (same p q));
      };
      c_reset = record {
        promise = λ κs a r e. left e.0.now (told r 0) ≡ call_of (board_reset_of a.0.now);
        entered = λ M 𝓤 𝓛 mem run κs a. tt;
        free = λ M 𝓤 𝓛 mem run κs a g. refl;
        says = λ M 𝓤 𝓛 mem run κs a g r e. refl;
        single = λ κs a x y l l' p q. (ap (λ (g : Left). g.said.refusal) (same p q), ap (λ (g : Left). (g.board, tt)) (same p q));
      };
      c_waits = record {
        promise = λ κs a r e. left e.0.now (told r 0) ≡ waits_call_of a.0.now a.1.0 a.1.1.0;
        entered = λ M 𝓤 𝓛 mem run κs a. tt;
        free = λ M 𝓤 𝓛 mem run κs a g. refl;
        says = λ M 𝓤 𝓛 mem run κs a g r e. refl;
        single = λ κs a x y l l' p q. (ap (λ (g : Left). g.said.refusal) (same p q), ap (λ (g : Left). (g.board, (tt, (tt, tt)))) (same p q));
      };
      c_grant = record {
        promise = λ κs a r e. left e.0.now r ≡ call_of (board_grant_of a.0.now);
        entered = λ M 𝓤 𝓛 mem run κs a. tt;
        free = λ M 𝓤 𝓛 mem run κs a g. refl;
        says = λ M 𝓤 𝓛 mem run κs a g r e. refl;
        single = λ κs a x y l l' p q. (ap (λ (g : Left). g.said) (same p q), ap (λ (g : Left). (g.board, tt)) (same p q));
      };
      c_entitled = record {
        promise = λ κs a r e. r ≡ look_of a.0.now (entitled_of a.0.now);
        entered = λ M 𝓤 𝓛 mem run κs a. tt;
        free = λ M 𝓤 𝓛 mem run κs a g. refl;
        says = λ M 𝓤 𝓛 mem run κs a g r e. refl;
        single = λ κs a x y l l' p q. (same p q, refl);
      };
      c_run = record {
        promise = λ κs a r e. run_left e.0.now r e.1.0.now e.1.1.1.0.now ≡ run_call_of (board_ran_of a.0.now a.1.0.now a.1.1.0.now a.1.1.1.0.now a.1.1.1.1.0 a.1.1.1.1.1.0);
        entered = λ M 𝓤 𝓛 mem run κs a. tt;
        free = λ M 𝓤 𝓛 mem run κs a g. refl;
        says = λ M 𝓤 𝓛 mem run κs a g r e. refl;
        single = λ κs a x y l l' p q. (ap (λ (g : RunLeft). g.said) (same p q), ap (λ (g : RunLeft). (g.board, (g.memory, (tt, (g.room, (tt, (tt, tt))))))) (same p q));
      };
      c_round = record {
        promise = λ κs a r e. round_left e.0.now r e.1.0.now e.1.1.1.0.now ≡ round_call_of (board_rounded_of a.0.now a.1.0.now a.1.1.0.now a.1.1.1.0.now a.1.1.1.1.0);
        entered = λ M 𝓤 𝓛 mem run κs a. tt;
        free = λ M 𝓤 𝓛 mem run κs a g. refl;
        says = λ M 𝓤 𝓛 mem run κs a g r e. refl;
        single = λ κs a x y l l' p q. (ap (λ (g : RoundLeft). g.said) (same p q), ap (λ (g : RoundLeft). (g.board, (g.memory, (tt, (g.room, (tt, tt)))))) (same p q));
      };
      c_save = record {
        promise = λ κs a r e. saved r e.1.1.0.now ≡ save_call_of One a.0.now a.1.0 a.1.1.0.now;
        entered = λ M 𝓤 𝓛 mem run κs a. tt;
        free = λ M 𝓤 𝓛 mem run κs a g. refl;
        says = λ M 𝓤 𝓛 mem run κs a g r e. refl;
        single = λ κs a x y l l' p q. (ap (λ (g : Saved). g.refusal) (same p q), ap (λ (g : Saved). (tt, (tt, (g.sheet, tt)))) (same p q));
      };
      c_load = record {
        promise = λ κs a r e. left e.0.now (told r 0) ≡ load_call_of One a.0.now a.1.0 a.1.1.0.now;
        entered = λ M 𝓤 𝓛 mem run κs a. tt;
        free = λ M 𝓤 𝓛 mem run κs a g. refl;
        says = λ M 𝓤 𝓛 mem run κs a g r e. refl;
        single = λ κs a x y l l' p q. (ap (λ (g : Left). g.said.refusal) (same p q), ap (λ (g : Left). (g.board, (tt, (tt, tt)))) (same p q));
      };
      c_save2 = record {
        promise = λ κs a r e. saved r e.1.1.0.now ≡ save_call_of Two a.0.now a.1.0 a.1.1.0.now;
        entered = λ M 𝓤 𝓛 mem run κs a. tt;
        free = λ M 𝓤 𝓛 mem run κs a g. refl;
        says = λ M 𝓤 𝓛 mem run κs a g r e. refl;
        single = λ κs a x y l l' p q. (ap (λ (g : Saved). g.refusal) (same p q), ap (λ (g : Saved). (tt, (tt, (g.sheet, tt)))) (same p q));
      };
      c_load2 = record {
        promise = λ κs a r e. left e.0.now (told r 0) ≡ load_call_of Two a.0.now a.1.0 a.1.1.0.now;
        entered = λ M 𝓤 𝓛 mem run κs a. tt;
        free = λ M 𝓤 𝓛 mem run κs a g. refl;
        says = λ M 𝓤 𝓛 mem run κs a g r e. refl;
        single = λ κs a x y l l' p q. (ap (λ (g : Left). g.said.refusal) (same p q), ap (λ (g : Left). (g.board, (tt, (tt, tt)))) (same p q));
      };
    }

-- Demand 2, one outcome: each contract is an equation of the answer and all that is lent, so two outcomes that meet it are equal.
use contract.Lifetimes.{lft_at}
use contract.BorrowLft.{◌⊑◌, ⊑_static}
use mathlib.Core.Path.{subst, ◌≡◌, refl, sym, ap, ◌∙◌}
use Prim.Native.Nat.{ℕ}
use mathlib.Core.List.{List}
use Rattle.am9517.specs.Serving.{entitled, set_of, status}
use Rattle.am9517.specs.Answers.{write_of, read_of, pins_of, reset_of, waits_of, grant_of}
use Rattle.am9517_service.specs.Answers.{Given, ran_of}
use Rattle.am9517_service.specs.RoundAnswers.{RoundGiven, rounded_of}
use Rattle.am9517_service.specs.Turns.{ServedGiven}
use lib.ListN.{length}
use Rattle.logs.specs.Answers.{JudgeGiven, judged_of}
use Rattle.am9517_sheet.specs.declared.forms.Form.TheVariants.{One, Two}
use Rattle.am9517_sheet.specs.Sheet.{Stored, sheet_write_of, sheet_read_of}
use Rattle.c_told.specs.Numbers.{told, Saved, saved, save_of}
use Rattle.c_am9517.specs.Host.{look_of, Left, left, call_of, load_of, RunLeft, run_left, run_call_of, RoundLeft, round_left, round_call_of, JudgeLeft, judge_left, judge_call_of}
use Rattle.demands.specs.Outcomes.{OneOutcome, OneOutcomeOfCalls, OneOutcomeWhereAsked}

-- two values that both equal a third
same : {A : Type 0} {x y v : A} → x ≡ v → y ≡ v → x ≡ y
same p q = p ∙ sym q

pub one_outcome_lem : OneOutcome
one_outcome_lem =
    record {
      bit = record { free = λ κs a. tt; single = λ κs a x y l l' p q. (same p q, refl) };
      is_set = record { free = λ κs a. tt; single = λ κs a x y l l' p q. (same p q, refl) };
      with_bit = record { free = λ κs a. tt; single = λ κs a x y l l' p q. (same p q, refl) };
      word_of = record { free = λ κs a. tt; single = λ κs a x y l l' p q. (same p q, refl) };
      low_byte = record { free = λ κs a. tt; single = λ κs a x y l l' p q. (same p q, refl) };
      high_byte = record { free = λ κs a. tt; single = λ κs a x y l l' p q. (same p q, refl) };
      byte_of = record { free = λ κs a. tt; single = λ κs a x y l l' p q. (same p q, refl) };
      with_byte = record { free = λ κs a. tt; single = λ κs a x y l l' p q. (same p q, refl) };
      when = λ T laws copies clones dict stays. record { free = λ κs a. subst (λ l. lft_at 1 0 tt κs ⊑ l) (sym stays) (⊑_static (lft_at 1 0 tt κs)); single = λ κs a x y l l' p q. (same p q, refl) };
      step = record { free = λ κs a. tt; single = λ κs a x y l l' p q. (same p q, refl) };
      steps = record { free = λ κs a. tt; single = λ κs a x y l l' p q. (same p q, refl) };
      memory_to_memory_bit = record { free = λ κs a. tt; single = λ κs a x y l l' p q. (same p q, refl) };
      address_hold = record { free = λ κs a. tt; single = λ κs a x y l l' p q. (same p q, refl) };
      disabled = record { free = λ κs a. tt; single = λ κs a x y l l' p q. (same p q, refl) };
      compressed = record { free = λ κs a. tt; single = λ κs a x y l l' p q. (same p q, refl) };
      rotating = record { free = λ κs a. tt; single = λ κs a x y l l' p q. (same p q, refl) };
      active_low = record { free = λ κs a. tt; single = λ κs a x y l l' p q. (same p q, refl) };
      is_write = record { free = λ κs a. tt; single = λ κs a x y l l' p q. (same p q, refl) };
      is_read = record { free = λ κs a. tt; single = λ κs a x y l l' p q. (same p q, refl) };
      autoinitialize = record { free = λ κs a. tt; single = λ κs a x y l l' p q. (same p q, refl) };
      decrement = record { free = λ κs a. tt; single = λ κs a x y l l' p q. (same p q, refl) };
      is_demand = record { free = λ κs a. tt; single = λ κs a x y l l' p q. (same p q, refl) };
      is_single = record { free = λ κs a. tt; single = λ κs a x y l l' p q. (same p q, refl) };
      is_block = record { free = λ κs a. tt; single = λ κs a x y l l' p q. (same p q, refl) };
      is_cascade = record { free = λ κs a. tt; single = λ κs a x y l l' p q. (same p q, refl) };
      edition_number = record { free = λ κs a. tt; single = λ κs a x y l l' p q. (same p q, refl) };
      is_intel = record { free = λ κs a. tt; single = λ κs a x y l l' p q. (same p q, refl) };
      refusal_number = record { free = λ κs a. tt; single = λ κs a x y l l' p q. (same p q, refl) };
      fresh = record { free = λ κs a. tt; single = λ κs a x y l l' p q. (same p q, refl) };
      write = record { free = λ κs a. tt; single = λ κs a x y l l' p q. (same p.0 q.0, refl) };
      read = record { free = λ κs a. tt; single = λ κs a x y l l' p q. (same p.0 q.0, refl) };
      pins = record { free = λ κs a. tt; single = λ κs a x y l l' p q. (same p.0 q.0, refl) };
      waits = record { free = λ κs a. tt; single = λ κs a x y l l' p q. (same p.0 q.0, refl) };
      reset = record { free = λ κs a. tt; single = λ κs a x y l l' p q. (same p.0 q.0, refl) };
      grant = record { free = λ κs a. tt; single = λ κs a x y l l' p q. (same p.0 q.0, refl) };
      valid = record { free = λ κs a. tt; single = λ κs a x y l l' p q. (same p q, refl) };
      active = record { free = λ κs a. tt; single = λ κs a x y l l' p q. (same p q, refl) };
      entitled_set = record { free = λ κs a. tt; single = λ κs a x y l l' p q. (same p q, refl) };
      picked = record { free = λ κs a. tt; single = λ κs a x y l l' p q. (same p q, refl) };
      lines = record { free = λ κs a. tt; single = λ κs a x y l l' p q. (same p q, refl) };
      blocks = record { free = λ κs a. tt; single = λ κs a x y l l' p q. (same p q, refl) };
      entitled_of = record { free = λ κs a. tt; single = λ κs a x y l l' p q. (same p q, refl) };
      picked_from = record { free = λ κs a. tt; single = λ κs a x y l l' p q. (same p q, refl) };
      ended = record { free = λ κs a. tt; single = λ κs a x y l l' p q. (same p q, refl) };
      bits_after = record { free = λ κs a. tt; single = λ κs a x y l l' p q. (same p q, refl) };
      channel_after = record { free = λ κs a. tt; single = λ κs a x y l l' p q. (same p q, refl) };
      run_refusal = record { free = λ κs a. tt; single = λ κs a x y l l' p q. (same p q, refl) };
      run = record { free = λ κs a. tt; single = λ κs a x y l l' p q. (ap (λ (g : Given). g.ran) (same p.0 q.0), ap (λ (g : Given). (tt, (g.memory, (tt, (g.room, (tt, (tt, tt))))))) (same p.0 q.0)) };
      round = record { free = λ κs a. tt; single = λ κs a x y l l' p q. (ap (λ (g : RoundGiven). g.rounded) (same p.0 q.0), ap (λ (g : RoundGiven). (tt, (g.memory, (tt, (g.room, (tt, tt)))))) (same p.0 q.0)) };
      is_copy = record { free = λ κs a. tt; single = λ κs a x y l l' p q. (same p q, refl) };
      bits_of = record { free = λ κs a. tt; single = λ κs a x y l l' p q. (same p q, refl) };
      is_ended = record { free = λ κs a. tt; single = λ κs a x y l l' p q. (same p q, refl) };
      rota_of = record { free = λ κs a. tt; single = λ κs a x y l l' p q. (same p q, refl) };
      sheet_write = record { free = λ κs a. tt; single = λ κs a x y l l' p q. (ap (λ (s : Stored). s.answer) (same p.0 q.0), ap (λ (s : Stored). (tt, (tt, (s.bytes, tt)))) (same p.0 q.0)) };
      sheet_read = record { free = λ κs a. tt; single = λ κs a x y l l' p q. (same p.0 q.0, refl) };
      sheet_convert = record { free = λ κs a. tt; single = λ κs a x y l l' p q. (ap (λ (s : Stored). s.answer) (same p.0 q.0), ap (λ (s : Stored). (tt, (tt, (s.bytes, tt)))) (same p.0 q.0)) };
      body_of = record { free = λ κs a. tt; single = λ κs a x y l l' p q. (same p q, refl) };
      state_of = record { free = λ κs a. tt; single = λ κs a x y l l' p q. (same p q, refl) };
      judge = record { free = λ κs a. tt; single = λ κs a x y l l' p q. (ap (λ (g : JudgeGiven). g.judged) (same p.0 q.0), ap (λ (g : JudgeGiven). (tt, (g.memory, (tt, tt)))) (same p.0 q.0)) };
      handed_back = λ κs a x y e e'. (tt, λ p q. same p q);
      record_bytes = record { free = λ κs a. tt; single = λ κs a x y l l' p q. (same p q, refl) };
      record_in = record { free = λ κs a. tt; single = λ κs a x y l l' p q. (same p q, refl) };
      next_record = record { free = λ κs a. tt; single = λ κs a x y l l' p q. (same p q, refl) };
      version = record { free = λ κs a. tt; single = λ κs a x y l l' p q. (same p q, refl) };
      wide = record { free = λ κs a. tt; single = λ κs a x y l l' p q. (same p.0 q.0, refl) };
      edition_byte = record { free = λ κs a. tt; single = λ κs a x y l l' p q. (same p q, refl) };
      requesting_set = record { free = λ κs a. tt; single = λ κs a x y l l' p q. (same p q, refl) };
      told_of = record { free = λ κs a. tt; single = λ κs a x y l l' p q. (same p q, refl) };
      sheet_number = record { free = λ κs a. tt; single = λ κs a x y l l' p q. (same p q, refl) };
      round_pair = record { free = λ κs a. tt; single = λ κs a x y l l' p q. (same p q, refl) };
      run_told_of = record { free = λ κs a. tt; single = λ κs a x y l l' p q. (same p q, refl) };
      c_version = record { free = λ κs a. tt; single = λ κs a x y l l' p q. (same p q, refl) };
      c_fresh = record { free = λ κs a. tt; single = λ κs a x y l l' p q. (same p q, refl) };
      c_forward = record { free = λ κs a. tt; single = λ κs a x y l l' p q. (ap (λ (g : Saved). g.refusal) (same p q), ap (λ (g : Saved). (tt, (g.sheet, tt))) (same p q)) };
      c_back = record { free = λ κs a. tt; single = λ κs a x y l l' p q. (ap (λ (g : Saved). g.refusal) (same p q), ap (λ (g : Saved). (tt, (g.sheet, tt))) (same p q)) };
    }

pub one_outcome_of_calls : OneOutcomeOfCalls
one_outcome_of_calls =
    record {
      c_check = record {
        promise = λ κs a r e. r ≡ (look_of a.0.now 0).refusal;
        entered = λ M 𝓤 𝓛 mem run κs a. tt;
        free = λ M 𝓤 𝓛 mem run κs a g. refl;
        says = λ M 𝓤 𝓛 mem run κs a g r e. refl;
        single = λ κs a x y l l' p q. (same p q, refl);
      };
      c_write = record {
        promise = λ κs a r e. left e.0.now (told r 0) ≡ call_of (write_of a.0.now a.1.0 a.1.1.0);
        entered = λ M 𝓤 𝓛 mem run κs a. tt;
        free = λ M 𝓤 𝓛 mem run κs a g. refl;
        says = λ M 𝓤 𝓛 mem run κs a g r e. refl;
        single = λ κs a x y l l' p q. (ap (λ (g : Left). g.said.refusal) (same p q), ap (λ (g : Left). (g.chip, (tt, (tt, tt)))) (same p q));
      };
      c_read = record {
        promise = λ κs a r e. left e.0.now r ≡ call_of (read_of a.0.now a.1.0);
        entered = λ M 𝓤 𝓛 mem run κs a. tt;
        free = λ M 𝓤 𝓛 mem run κs a g. refl;
        says = λ M 𝓤 𝓛 mem run κs a g r e. refl;
        single = λ κs a x y l l' p q. (ap (λ (g : Left). g.said) (same p q), ap (λ (g : Left). (g.chip, (tt, tt))) (same p q));
      };
      c_pins = record {
        promise = λ κs a r e. left e.0.now (told r 0) ≡ call_of (pins_of a.0.now a.1.0);
        entered = λ M 𝓤 𝓛 mem run κs a. tt;
        free = λ M 𝓤 𝓛 mem run κs a g. refl;
        says = λ M 𝓤 𝓛 mem run κs a g r e. refl;
        single = λ κs a x y l l' p q. (ap (λ (g : Left). g.said.refusal) (same p q), ap (λ (g : Left). (g.chip, (tt, tt))) (same p q));
      };
      c_waits = record {
        promise = λ κs a r e. left e.0.now (told r 0) ≡ call_of (waits_of a.0.now a.1.0);
        entered = λ M 𝓤 𝓛 mem run κs a. tt;
        free = λ M 𝓤 𝓛 mem run κs a g. refl;
        says = λ M 𝓤 𝓛 mem run κs a g r e. refl;
        single = λ κs a x y l l' p q. (ap (λ (g : Left). g.said.refusal) (same p q), ap (λ (g : Left). (g.chip, (tt, tt))) (same p q));
      };
      c_reset = record {
        promise = λ κs a r e. left e.0.now (told r 0) ≡ call_of (reset_of a.0.now);
        entered = λ M 𝓤 𝓛 mem run κs a. tt;
        free = λ M 𝓤 𝓛 mem run κs a g. refl;
        says = λ M 𝓤 𝓛 mem run κs a g r e. refl;
        single = λ κs a x y l l' p q. (ap (λ (g : Left). g.said.refusal) (same p q), ap (λ (g : Left). (g.chip, tt)) (same p q));
      };
      c_grant = record {
        promise = λ κs a r e. left e.0.now r ≡ call_of (grant_of a.0.now);
        entered = λ M 𝓤 𝓛 mem run κs a. tt;
        free = λ M 𝓤 𝓛 mem run κs a g. refl;
        says = λ M 𝓤 𝓛 mem run κs a g r e. refl;
        single = λ κs a x y l l' p q. (ap (λ (g : Left). g.said) (same p q), ap (λ (g : Left). (g.chip, tt)) (same p q));
      };
      c_entitled = record {
        promise = λ κs a r e. r ≡ look_of a.0.now (set_of (entitled a.0.now));
        entered = λ M 𝓤 𝓛 mem run κs a. tt;
        free = λ M 𝓤 𝓛 mem run κs a g. refl;
        says = λ M 𝓤 𝓛 mem run κs a g r e. refl;
        single = λ κs a x y l l' p q. (same p q, refl);
      };
      c_status = record {
        promise = λ κs a r e. r ≡ look_of a.0.now (status a.0.now);
        entered = λ M 𝓤 𝓛 mem run κs a. tt;
        free = λ M 𝓤 𝓛 mem run κs a g. refl;
        says = λ M 𝓤 𝓛 mem run κs a g r e. refl;
        single = λ κs a x y l l' p q. (same p q, refl);
      };
      c_run = record {
        promise = λ κs a r e. run_left e.0.now r e.1.0.now e.1.1.1.0.now ≡ run_call_of (ran_of a.0.now a.1.0.now a.1.1.0.now a.1.1.1.0.now a.1.1.1.1.0 a.1.1.1.1.1.0);
        entered = λ M 𝓤 𝓛 mem run κs a. tt;
        free = λ M 𝓤 𝓛 mem run κs a g. refl;
        says = λ M 𝓤 𝓛 mem run κs a g r e. refl;
        single = λ κs a x y l l' p q. (ap (λ (g : RunLeft). g.said) (same p q), ap (λ (g : RunLeft). (g.chip, (g.memory, (tt, (g.room, (tt, (tt, tt))))))) (same p q));
      };
      c_round = record {
        promise = λ κs a r e. round_left e.0.now r e.1.0.now e.1.1.1.0.now ≡ round_call_of (rounded_of a.0.now a.1.0.now a.1.1.0.now a.1.1.1.0.now a.1.1.1.1.0);
        entered = λ M 𝓤 𝓛 mem run κs a. tt;
        free = λ M 𝓤 𝓛 mem run κs a g. refl;
        says = λ M 𝓤 𝓛 mem run κs a g r e. refl;
        single = λ κs a x y l l' p q. (ap (λ (g : RoundLeft). g.said) (same p q), ap (λ (g : RoundLeft). (g.chip, (g.memory, (tt, (g.room, (tt, tt)))))) (same p q));
      };
      c_judge = record {
        promise = λ κs a r e. judge_left e.0.now r e.1.0.now ≡ judge_call_of (length a.1.1.0.now) (judged_of a.0.now a.1.0.now a.1.1.0.now);
        entered = λ M 𝓤 𝓛 mem run κs a. tt;
        free = λ M 𝓤 𝓛 mem run κs a g. refl;
        says = λ M 𝓤 𝓛 mem run κs a g r e. refl;
        single = λ κs a x y l l' p q. (ap (λ (g : JudgeLeft). g.said) (same p q), ap (λ (g : JudgeLeft). (g.chip, (g.memory, (tt, tt)))) (same p q));
      };
      c_save = record {
        promise = λ κs a r e. saved r e.1.0.now ≡ save_of (sheet_write_of One a.0.now a.1.0.now);
        entered = λ M 𝓤 𝓛 mem run κs a. tt;
        free = λ M 𝓤 𝓛 mem run κs a g. refl;
        says = λ M 𝓤 𝓛 mem run κs a g r e. refl;
        single = λ κs a x y l l' p q. (ap (λ (g : Saved). g.refusal) (same p q), ap (λ (g : Saved). (tt, (g.sheet, tt))) (same p q));
      };
      c_load = record {
        promise = λ κs a r e. left e.0.now (told r 0) ≡ load_of (sheet_read_of One a.0.now a.1.0.now);
        entered = λ M 𝓤 𝓛 mem run κs a. tt;
        free = λ M 𝓤 𝓛 mem run κs a g. refl;
        says = λ M 𝓤 𝓛 mem run κs a g r e. refl;
        single = λ κs a x y l l' p q. (ap (λ (g : Left). g.said.refusal) (same p q), ap (λ (g : Left). (g.chip, (tt, tt))) (same p q));
      };
      c_save2 = record {
        promise = λ κs a r e. saved r e.1.0.now ≡ save_of (sheet_write_of Two a.0.now a.1.0.now);
        entered = λ M 𝓤 𝓛 mem run κs a. tt;
        free = λ M 𝓤 𝓛 mem run κs a g. refl;
        says = λ M 𝓤 𝓛 mem run κs a g r e. refl;
        single = λ κs a x y l l' p q. (ap (λ (g : Saved). g.refusal) (same p q), ap (λ (g : Saved). (tt, (g.sheet, tt))) (same p q));
      };
      c_load2 = record {
        promise = λ κs a r e. left e.0.now (told r 0) ≡ load_of (sheet_read_of Two a.0.now a.1.0.now);
        entered = λ M 𝓤 𝓛 mem run κs a. tt;
        free = λ M 𝓤 𝓛 mem run κs a g. refl;
        says = λ M 𝓤 𝓛 mem run κs a g r e. refl;
        single = λ κs a x y l l' p q. (ap (λ (g : Left). g.said.refusal) (same p q), ap (λ (g : Left). (g.chip, (tt, tt))) (same p q));
      };
    }

pub one_outcome_where_asked_lem : OneOutcomeWhereAsked
one_outcome_where_asked_lem =
    record {
      reach = record { single = λ κs a h x y l l' p q. (same p q, refl) };
      store = λ w. record { single = λ κs a h x y l l' p q. (refl, ap (λ (m : List ℕ). (m, (tt, (tt, (tt, (tt, tt)))))) (same (p w h.1) (q w h.1))) };
      load = λ w. record { single = λ κs a h x y l l' p q. (refl, ap (λ (m : List ℕ). (tt, (tt, (tt, (m, (tt, tt)))))) (same (p w h.1) (q w h.1))) };
      carry = record { single = λ κs a h x y l l' p q. (refl, ap (λ (m : List ℕ). (m, (tt, (tt, (tt, (tt, (tt, tt))))))) (same p q)) };
      fill = record { single = λ κs a h x y l l' p q. (refl, ap (λ (m : List ℕ). (m, (tt, (tt, (tt, (tt, tt)))))) (same p q)) };
      next_of = record { single = λ κs a h x y l l' p q. (same p.0 q.0, refl) };
      serve = record { single = λ κs a h x y l l' p q. (ap (λ (g : ServedGiven). g.served) (same p.0 q.0), ap (λ (g : ServedGiven). (tt, (tt, (g.memory, (tt, (g.room, tt)))))) (same p.0 q.0)) };
    }

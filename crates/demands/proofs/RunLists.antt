-- What runs give one behind the other, whoever runs: the memory, the room behind the last byte written, the totals, and the answer of a round of them.
use Prim.Native.Nat.{ℕ, zero, suc, ◌+◌}
use mathlib.Core.Path.{◌≡◌, refl, sym, ◌∙◌, ap}
use mathlib.Core.Bool.{Bool}
use mathlib.Core.List.{List, [], ◌∷◌, ◌++◌, append_assoc}
use native.Mathlib.Omega.{arith}
use native.Mathlib.Nat.{add-zero, add_assoc, zero-add, suc-add}
use lib.ListN.{length, take, drop, take-append-drop}
use lib.Seq.{take-nil, drop-nil}
use Rattle.am9517_service.specs.declared.Counts.{Counts}
use Rattle.am9517_service.specs.declared.Reason.{Reason}
use Rattle.am9517_service.specs.Round.{RoundAnswer}
use Rattle.am9517_service.specs.Counts.{none, plus}
use Rattle.am9517_service.specs.World.{Stop}
use Rattle.am9517_service.specs.Answers.{Given, stopped}
use Rattle.demands.specs.Rounds.{memory_behind, room_behind, sums, last_answer, closing}
use Rattle.std.proofs.Common.{Ok}

plus_none : (k : Counts) → plus k none ≡ k
plus_none k = simp add-zero

plus_assoc : (a b c : Counts) → plus (plus a b) c ≡ plus a (plus b c)
plus_assoc a b c = simp add_assoc

pub none_plus : (k : Counts) → plus none k ≡ k
none_plus k = simp zero-add

-- a list whose tail from a on was replaced by one as long: what stands up to n behind a, and what stands behind that
take_more : (a n : ℕ) (l s : List ℕ) → length s ≡ length (drop a l) → take (a + n) (take a l ++ s) ≡ take a l ++ take n s
take_more zero n l s h = ap (λ (k : ℕ). take k s) (zero-add n)
take_more (suc a) n [] [] h = take-nil (suc a + n) ∙ sym (take-nil n)
take_more (suc a) n [] (x ∷ s) h = absurd (omega (arith, h))
take_more (suc a) n (y ∷ l) s h = ap (λ (k : ℕ). take k (y ∷ (take a l ++ s))) (suc-add a n) ∙ ap (λ (r : List ℕ). y ∷ r) (take_more a n l s h)

pub drop_more : (a n : ℕ) (l s : List ℕ) → length s ≡ length (drop a l) → drop n s ≡ drop (a + n) (take a l ++ s)
drop_more zero n l s h = ap (λ (k : ℕ). drop k s) (sym (zero-add n))
drop_more (suc a) n [] [] h = drop-nil n ∙ sym (drop-nil (suc a + n))
drop_more (suc a) n [] (x ∷ s) h = absurd (omega (arith, h))
drop_more (suc a) n (y ∷ l) s h = drop_more a n l s h ∙ ap (λ (k : ℕ). drop k (y ∷ (take a l ++ s))) (sym (suc-add a n))

-- From memory m, room r and totals t on, behind a run that stopped by e, these runs come to that memory, room, totals and answer.
pub record Come (m r : List ℕ) (t : Counts) (e : Reason) (m' r' : List ℕ) (t' : Counts) (a : RoundAnswer) (done : Bool) (gs : List Given) : Type 0 where
  pub memory : m' ≡ memory_behind m gs
  pub room : r' ≡ take t.written r ++ room_behind (drop t.written r) gs
  pub totals : t' ≡ plus t (sums gs)
  pub answers : a ≡ closing (last_answer (Ok e) gs) done

-- no run
pub come_nowhere : (m r : List ℕ) (t : Counts) (e : Reason) (a : RoundAnswer) (done : Bool) → a ≡ closing (Ok e) done → Come m r t e m r t a done []
come_nowhere m r t e a done is = record { memory = refl; room = sym (take-append-drop t.written r); totals = sym (plus_none t); answers = is }

-- one run, handed the room behind the last byte written, and then these
pub come_on : (m r : List ℕ) (t : Counts) (e : Reason) (x : Stop) (m' r' : List ℕ) (t' : Counts) (a : RoundAnswer) (done : Bool) (gs : List Given)
    → length x.world.room ≡ length (drop t.written r)
    → Come x.world.memory (take t.written r ++ x.world.room) (plus t x.world.counts) x.reason m' r' t' a done gs
    → Come m r t e m' r' t' a done (stopped x ∷ gs)
unfolding stopped
come_on m r t e x m' r' t' a done gs long c =
    let done = take t.written r in
    let n = x.world.counts.written in
    record {
      memory = c.memory;
      room =
          c.room
          ∙ ap (λ (z : List ℕ). z ++ room_behind (drop (t.written + n) (done ++ x.world.room)) gs) (take_more t.written n r x.world.room long)
          ∙ ap (λ (z : List ℕ). (done ++ take n x.world.room) ++ room_behind z gs) (sym (drop_more t.written n r x.world.room long))
          ∙ append_assoc done (take n x.world.room) (room_behind (drop n x.world.room) gs);
      totals = c.totals ∙ plus_assoc t x.world.counts (sums gs);
      answers = c.answers;
    }

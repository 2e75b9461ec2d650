use mathlib.Core.Bool.{false}
use mathlib.Core.List.{[]}
use mathlib.Core.Path.{◌≡◌, sym, ◌∙◌}
use Rattle.std.proofs.Common.{Option, Some, None}
use Rattle.words.proofs.ChoiceLaws.{never}
use Rattle.am9517.specs.Refusals.{refusal}
use Rattle.am9517.specs.declared.refusals.Refusal.{Refusal}
use Rattle.board.proofs.RefusalLaws as refusals
use Rattle.board.specs.Chips.{chip, other}
use Rattle.board.specs.Refusals.{access_grounds}
use Rattle.board.proofs.AccessLaws.{free, asked, accesses_on, accesses_not}
use Rattle.board.proofs.Board.accessed.Goals as goal
use Rattle.board.proofs.Board.accessed.Goals.{in-First, in-Second, then-free-next, else-free-next, in-None+in-First-which, in-None+in-Second-which, in-Some}

-- nothing is no refusal
nothing : {A : Type 0} (y : Refusal) → ◌≡◌ {A = Option Refusal} None (Some y) → A
nothing y e = let k : ⊥ = cc in absurd k

pub returns : goal.returns
returns g c =
    let found = c.addressed-which in
    let b = c.args.self in
    let r = c.args.reg in
    -- the other controller is asked, whichever it is
    let other_free : c.match-which.free ≡ free (chip b (other found.result)) = elim c.match-which.branch [
      | in-First w ↦ simp (w.free-is, w.valid.ensures, w.in-First.is)
      | in-Second w ↦ simp (w.free-is, w.valid-in-Second.ensures, w.in-Second.is)
    ] in
    -- and the board, where that isn't enough
    let open_so : c.if-free-next.refusal ≡ None → asked c.match-which.free b r ≡ false → refusal (access_grounds b r []) ≡ 0 = elim c.if-free-next.branch [
      | then-free-next w ↦ λ n e. never (sym w.if-free-next.true ∙ e)
      | else-free-next w ↦ λ n e. refusals.free _ w.access_refusal-refusal.result w.access_refusal-refusal.ensures (λ y h. nothing y (sym n ∙ w.refusal-is ∙ h))
    ] in
    elim c.match-refusal.branch [
      | in-None+in-First-which w ↦ accesses_on (λ k o. g.F.FnOnce.post c.args.access (k, tt) o) b r _ _ _ _ _ found.ensures other_free (open_so w.in-None.is) w.chip_of.ensures w.access-done.ensures (simp (w.next-is, w.answer-is, w.in-First-which.is))
      | in-None+in-Second-which w ↦ accesses_on (λ k o. g.F.FnOnce.post c.args.access (k, tt) o) b r _ _ _ _ _ found.ensures other_free (open_so w.in-None.is) w.chip_of.ensures w.access-done.ensures (simp (w.next-is, w.answer-is, w.in-Second-which.is))
      | in-Some w ↦ elim c.if-free-next.branch [
        | then-free-next v ↦ nothing _ (sym v.refusal-is ∙ w.in-Some.is)
        | else-free-next v ↦ accesses_not (λ k o. g.F.FnOnce.post c.args.access (k, tt) o) b r _ _ (sym v.access_refusal-refusal.ensures ∙ sym v.refusal-is ∙ w.in-Some.is) (simp (w.next-is, w.answer-is))
      ]
    ]

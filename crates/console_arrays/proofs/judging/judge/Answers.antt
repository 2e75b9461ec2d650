use Rattle.console_arrays.proofs.JudgingLaws.{judged_so}
use Rattle.console_arrays.specs.Judging.{verdict_text}
use Rattle.logs.specs.Answers.{judged_of}
use Rattle.console_text.specs.Text.{page, put}
use Rattle.console_text.proofs.HexLaws.{bytes_length}
use Rattle.console_text.proofs.TextLaws.{stands_in_front}
use Rattle.console_text.specs.Hex.{bytes_in}
use Rattle.words.specs.Choice.{when}
use borrow.Author.Tests.{le-leb, lt-leb}
use lib.ListN.{length, take}
use native.Mathlib.Omega.{arith}
use mathlib.Core.Path.{◌≡◌, sym, ap, ◌∙◌}
use Prim.Native.Nat.{ℕ, ◌-◌, ◌/◌}
use Rattle.console_arrays.proofs.judging.judge.Goals as goal

pub returns-then-spare-n : goal.returns-then-spare-n
unfolding when
returns-then-spare-n c = λ room. simp (lt-leb _ _ c.if-spare-n.true) (c.unserved.ensures _ room)

pub returns-then-not-is_bytes : goal.returns-then-not-is_bytes
unfolding when
returns-then-not-is_bytes c =
    λ room. simp (le-leb _ _ c.if-spare-n.false, sym c.is_bytes.ensures ∙ c.if-not-is_bytes.true) (c.unserved-then-not-is_bytes.ensures _ room)

pub returns : goal.returns
unfolding when
returns c =
    let s = c.args in
    let digits = s.digits.now in
    let kept = c.store.new.out in
    let found = c.judge-found.result in
    let size : length digits / 2 - 0 ≡ length (bytes_in digits) = omega (arith, bytes_length digits) in
    let front : take (length digits / 2 - 0) kept ≡ bytes_in digits = ap (λ (k : ℕ). take k kept) size ∙ stands_in_front _ _ _ _ c.store.ensures (omega (arith, bytes_length digits)) in
    let records = ap (λ (k : ℕ). put (page s.out.now s.at) (verdict_text (k / 8) found.verdict)) (sym (bytes_length digits)) in
    λ room. simp (le-leb _ _ c.if-spare-n.false, sym c.is_bytes.ensures ∙ c.if-not-is_bytes.false)
    (judged_so found _ room _ _ _ _ (c.judge-found.ensures.0 ∙ ap (judged_of s.c s.memory.now) front) (c.verdict_said-next.ensures ∙ records))

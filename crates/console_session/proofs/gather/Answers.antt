use Rattle.std.proofs.Common.{◌≡◌, sym, ap, ◌∙◌, rules, tests, drop, take, length, ◌-◌, ◌+◌, ℕ, List, true, false}
use Rattle.std.proofs.lemmas.Iterator.{YieldsList-from_slice}
use Rattle.std.proofs.lemmas.Iterator.Search.{position_from_yields_List}
use Rattle.std.specs.List.{position}
use lib.Dec.{eqb}
use Rattle.console_text.specs.Text.{Page, page, put}
use Rattle.console_session.proofs.GatherLaws.{so_far, left_from, gather_newline, gather_end}
use Rattle.console_session.proofs.gather.Goals as goal

pub returns-in-Some : goal.returns-in-Some
returns-in-Some c =
    let part = c.args.part.now in
    let from = c.args.from in
    let n = c.in-Some.n in
    let p = page c.args.line.now c.args.length in
    let rest = take (length part - c.min.result) (drop c.min.result part) in
    let left : rest ≡ drop from part = left_from from part _ c.min.ensures in
    let found : c.position.result ≡ position (λ (b : ℕ). eqb b 10) rest = position_from_yields_List (λ (b : ℕ). eqb b 10) _ _ c.position.result c.position.ensures.ran (YieldsList-from_slice _ c.iter.ensures.rest) (λ x b q k. search (rules, tests)) in
    ap (λ (q : Page). so_far q (from + n + 1) true) (c.text.ensures ∙ ap (λ (l : List ℕ). put p (take n l)) left)
    ∙ sym (gather_newline p part from n (ap (position (λ (b : ℕ). eqb b 10)) (sym left) ∙ sym found ∙ c.in-Some.is))

pub returns-in-None : goal.returns-in-None
returns-in-None c =
    let part = c.args.part.now in
    let from = c.args.from in
    let p = page c.args.line.now c.args.length in
    let rest = take (length part - c.min.result) (drop c.min.result part) in
    let left : rest ≡ drop from part = left_from from part _ c.min.ensures in
    let found : c.position.result ≡ position (λ (b : ℕ). eqb b 10) rest = position_from_yields_List (λ (b : ℕ). eqb b 10) _ _ c.position.result c.position.ensures.ran (YieldsList-from_slice _ c.iter.ensures.rest) (λ x b q k. search (rules, tests)) in
    ap (λ (q : Page). so_far q (from + length rest) false) c.text-in-None.ensures
    ∙ ap (λ (l : List ℕ). so_far (put p l) (from + length l) false) left
    ∙ sym (gather_end p part from (ap (position (λ (b : ℕ). eqb b 10)) (sym left) ∙ sym found ∙ c.in-None.is))

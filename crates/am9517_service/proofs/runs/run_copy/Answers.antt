use Rattle.am9517_service.proofs.CopyLegLaws.{CopyLed, copy_led, copy_answer}
use Rattle.am9517_service.specs.Answers.{stopped}
use Rattle.am9517_service.specs.ClosedSpans.{copy_span}
use Rattle.am9517.specs.Fields.{channel}
use Rattle.am9517_service.specs.World.{memory_to_memory}
use Rattle.am9517.specs.declared.Controller.{Controller}
use Rattle.am9517_service.specs.declared.spans.Span.{Span}
use mathlib.Core.Bool.{true}
use native.Mathlib.Omega.{arith}
use mathlib.Core.List.{List, []}
use mathlib.Core.Path.{◌≡◌, sym, ap, ◌∙◌}
use Prim.Native.Nat.{ℕ, ◌+◌, ◌<◌}
use Rattle.am9517_service.proofs.runs.run_copy.Goals as goal

-- the span s of the service of k, whose channel behind i, that is channel 1, takes the bytes
module _
    (k : Controller)
    (limit eop : ℕ)
    (m2m : memory_to_memory k ≡ true)
    (i : ℕ)
    (z : i ≡ 0)
    (lo : (channel k (i + 1)).address < 65536)
    (hi : (channel k (i + 1)).count < 65536)
    (s : Span)
    (e : s ≡ copy_span (channel k (i + 1)).count limit eop) where
  -- the channel beside channel 0 is channel 1
  aside : channel k (i + 1) ≡ channel k 1
  aside = ap (λ (j : ℕ). channel k (j + 1)) z

  below : (channel k 1).address < 65536
  below = rw (sym aside) lo

  small : (channel k 1).count < 65536
  small = rw (sym aside) hi

  spanned : s ≡ copy_span (channel k 1).count limit eop
  spanned = rw (sym aside) e

  led : (m d room : List ℕ) → CopyLed k m d room limit eop m2m below small s
  led m d room = copy_led k m d room _ _ m2m below small _ spanned

pub stood-requires : goal.stood-requires
stood-requires c = (omega (arith, c.requires.1), rw c.requires.1 c.requires.2)

pub returns-then-n-eq0 : goal.returns-then-n-eq0
returns-then-n-eq0 c = λ d room. c.stood.ensures _ room ∙ ap stopped (sym ((led c.args.c c.args.limit c.args.eop_at c.requires.0 c.args.i c.requires.1 c.sixteen_bits.ensures.0 c.sixteen_bits.ensures.1 _ c.copy_span-s.ensures _ d room).stood c.if-n-eq0.true))

pub copy_bytes-byte-requires : goal.copy_bytes-byte-requires
copy_bytes-byte-requires c = (c.requires.3, omega (arith, c.if-n-eq0.false), (led c.args.c c.args.limit c.args.eop_at c.requires.0 c.args.i c.requires.1 c.sixteen_bits.ensures.0 c.sixteen_bits.ensures.1 _ c.copy_span-s.ensures [] [] []).most)

pub copy_leg-l-requires : goal.copy_leg-l-requires
copy_leg-l-requires c = (omega (arith, c.if-n-eq0.false), (led c.args.c c.args.limit c.args.eop_at c.requires.0 c.args.i c.requires.1 c.sixteen_bits.ensures.0 c.sixteen_bits.ensures.1 _ c.copy_span-s.ensures [] [] []).most)

pub after_copy-requires : goal.after_copy-requires
after_copy-requires c = c.requires.1

pub copied_counts-requires : goal.copied_counts-requires
copied_counts-requires c =
    let h = (led c.args.c c.args.limit c.args.eop_at c.requires.0 c.args.i c.requires.1 c.sixteen_bits.ensures.0 c.sixteen_bits.ensures.1 _ c.copy_span-s.ensures [] [] []).most in
    rw c.no_counts.ensures (h, omega (arith, h), omega arith)

pub returns : goal.returns
returns c =
    λ d room. copy_answer c.args.c _ d room _ _ c.requires.0 (below c.args.c c.args.limit c.args.eop_at c.requires.0 c.args.i c.requires.1 c.sixteen_bits.ensures.0 c.sixteen_bits.ensures.1 _ c.copy_span-s.ensures) (small c.args.c c.args.limit c.args.eop_at c.requires.0 c.args.i c.requires.1 c.sixteen_bits.ensures.0 c.sixteen_bits.ensures.1 _ c.copy_span-s.ensures) _ (spanned c.args.c c.args.limit c.args.eop_at c.requires.0 c.args.i c.requires.1 c.sixteen_bits.ensures.0 c.sixteen_bits.ensures.1 _ c.copy_span-s.ensures) (omega (arith, c.if-n-eq0.false)) _ c.requires.2 _ (aside c.args.c c.args.limit c.args.eop_at c.requires.0 c.args.i c.requires.1 c.sixteen_bits.ensures.0 c.sixteen_bits.ensures.1 _ c.copy_span-s.ensures) _ c.address_hold-hold.ensures _ c.bits_of.ensures _ c.copy_leg-l.ensures _ c.copy_bytes-byte.ensures.value _ c.copy_bytes-byte.ensures.memory _ c.stays_open-stays.ensures _ c.after_copy.ensures _ c.no_counts.ensures _ c.copied_counts.ensures _ c.ran.ensures

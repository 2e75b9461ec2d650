-- The transfer that may end a service, by registers, and what it leaves.
use Prim.Native.Nat.{ℕ, ◌<◌}
use mathlib.Core.Path.{◌≡◌, refl, sym, ap, ◌∙◌}
use mathlib.Core.Bool.{Bool, true, false}
use mathlib.Core.List.{List, [], ◌∷◌}
use lib.Dec.{eqb}
use lib.ListN.{length, get_or}
use Rattle.words.specs.Choice.{when}
use Rattle.am9517.specs.Fields.{channel}
use Rattle.am9517.specs.declared.Controller.{Controller}
use Rattle.am9517_service.specs.World.{World, start_of, memory_to_memory}
use Rattle.am9517_service.specs.Ends.{counting, reaches_tc, single}
use Rattle.words.proofs.ChoiceLaws.{when_hit, when_miss}
use Rattle.am9517_service.proofs.RunLaws.{transferred_copied}
use Rattle.logs.specs.declared.registers.Service.{Service}
use Rattle.logs.specs.declared.registers.Registers.{Registers}
use Rattle.logs.specs.Judge.{next_run}
use Rattle.logs.specs.ClosedRegisters.{service_of, registers_of, with_registers, copies, stepped_by, stored_by, last_by, flows}
use Rattle.logs.proofs.NextLaws.{after, next_controller, next_memory}
use Rattle.logs.proofs.RegisterLaws as registers

module _ (c : Controller) (four : length c.channels ≡ 4) (here : c.serving < 4) (m : List ℕ) (byte : ℕ) where
  abbrev s : Service
  s = service_of c

  abbrev g : Registers
  g = registers_of c

  -- the byte that it moves, if it moves one
  abbrev carried : ℕ
  carried = when (copies s) (get_or m g.address 0) byte

  -- from the registers as they are
  abbrev now : Controller
  now = with_registers c g

  made : ((after c m byte).controller ≡ with_registers c (stepped_by s g carried)) × ((after c m byte).memory ≡ stored_by s g m carried)
  made = go (memory_to_memory c) refl
    where
      back : c ≡ now
      back = sym (registers.as_it_is c)

      go : (t : Bool) → memory_to_memory c ≡ t → ((after c m byte).controller ≡ with_registers c (stepped_by s g carried)) × ((after c m byte).memory ≡ stored_by s g m carried)
      go true ic =
          let is : get_or m g.address 0 ≡ carried = sym (when_hit _ _ _ (registers.copies_is c ∙ ic)) in
          let same : after c m byte ≡ after now m carried =
          transferred_copied 0 (byte ∷ []) (start_of c m (0 ∷ [])) ic ∙ sym (transferred_copied 0 (carried ∷ []) (start_of c m (0 ∷ [])) ic) ∙ ap (λ (y : Controller). after y m carried) back in (
            ap (λ (w : World). w.controller) same ∙ registers.copied_controller c four here g m carried ic is,
            ap (λ (w : World). w.memory) same ∙ registers.copied_memory c four here g m carried ic is,
          )
      go false nc =
          let is : byte ≡ carried = sym (when_miss _ _ _ (registers.copies_is c ∙ nc)) in
          let same : after c m byte ≡ after now m carried = ap (after c m) is ∙ ap (λ (y : Controller). after y m carried) back in (
            ap (λ (w : World). w.controller) same ∙ registers.moved_controller c four here g m carried nc,
            ap (λ (w : World). w.memory) same ∙ registers.moved_memory c four here g m carried nc,
          )

  tc_is : eqb g.count 0 ≡ reaches_tc c
  tc_is = ap (λ (n : ℕ). eqb n 0) (sym (registers.count_same c four here g) ∙ ap (λ (y : Controller). (channel y (counting y)).count) (registers.as_it_is c))

  -- so made, it is the run of one transfer
  pub last_made : flows c ≡ true → (eop : Bool) (s' : Service) (g' on : Registers) (b : ℕ) (x r : Controller) (l : List ℕ) → s' ≡ service_of c → g' ≡ registers_of c
      → b ≡ when (copies s') (get_or m g'.address 0) byte → l ≡ stored_by s' g' m b → on ≡ stepped_by s' g' b → x ≡ with_registers c on
      → r ≡ last_by x (eqb g'.count 0) eop s'.once → (r ≡ (next_run c m byte eop).world.controller) × (l ≡ (next_run c m byte eop).world.memory)
  last_made f eop s' g' on b x r l es eg eb el eo ex er =
      let moved : b ≡ carried = eb ∙ ap (λ (t : Service). when (copies t) (get_or m g'.address 0) byte) es ∙ ap (λ (h : Registers). when (copies s) (get_or m h.address 0) byte) eg in
      let stepped : on ≡ stepped_by s g carried = eo ∙ ap (λ (t : Service). stepped_by t g' b) es ∙ ap (λ (h : Registers). stepped_by s h b) eg ∙ ap (stepped_by s g) moved in (
        er
            ∙ ap (λ (t : Service). last_by x (eqb g'.count 0) eop t.once) es
            ∙ ap (λ (h : Registers). last_by x (eqb h.count 0) eop (single c)) eg
            ∙ ap (λ (t : Bool). last_by x t eop (single c)) tc_is
            ∙ ap (λ (y : Controller). last_by y (reaches_tc c) eop (single c)) (ex ∙ ap (with_registers c) stepped ∙ sym made.0)
            ∙ sym (next_controller c m byte f eop),
        el
            ∙ ap (λ (t : Service). stored_by t g' m b) es
            ∙ ap (λ (h : Registers). stored_by s h m b) eg
            ∙ ap (stored_by s g m) moved
            ∙ sym made.1
            ∙ sym (next_memory c m byte f eop),
      )

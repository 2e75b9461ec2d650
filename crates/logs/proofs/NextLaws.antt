-- What the rules do next: one transfer where the service flows, and none where it doesn't.
use Prim.Native.Nat.{ℕ}
use mathlib.Core.Path.{◌≡◌, refl, sym, ap, ◌∙◌}
use mathlib.Core.Bool.{Bool, true, false, not, ◌&&◌, ◌||◌}
use mathlib.Core.List.{List, [], ◌∷◌}
use lib.Dec.{eqb}
use lib.ListN.{set}
use Rattle.words.specs.Choice.{when}
use Rattle.words.specs.Grounds.{first}
use Rattle.am9517.specs.Fields.{channel}
use Rattle.am9517.specs.Modes.{address_hold, is_write, is_read, is_cascade}
use Rattle.am9517.specs.Serving.{active}
use Rattle.am9517.specs.State.{ended}
use Rattle.am9517.specs.Refusals.{busy}
use Rattle.am9517.specs.declared.Channel.{Channel}
use Rattle.am9517.specs.declared.Controller.{Controller}
use Rattle.am9517_service.specs.declared.Reason.TheVariants.{Limit}
use Rattle.am9517_service.specs.World.{World, start_of, Stop, stop, memory_to_memory, serving_channel}
use Rattle.am9517_service.specs.Stops.{dropped, short, stops}
use Rattle.am9517_service.specs.Transfer.{stepped, moved}
use Rattle.am9517_service.specs.Copy.{source_next, copied}
use Rattle.am9517_service.specs.Ends.{reaches_tc, finished, after_tc_or_eop, single, ends}
use Rattle.am9517_service.specs.Run.{transferred, run_of}
use Rattle.words.proofs.ChoiceLaws.{when_both, when_each, when_over, never}
use Rattle.am9517.proofs.KeepLaws.{modes_kept}
use Rattle.am9517_service.proofs.RunLaws.{Free, Gives, run_stop, stops_dropped, stops_cascade, stops_limit, stops_none}
use Rattle.am9517_service.proofs.RunWayLaws.{neither_left, neither_right}
use Rattle.am9517_service.proofs.CopySourceLaws.{source_next_mode}
use Rattle.am9517_service.proofs.CopyLegLaws.{serving_0}
use Rattle.logs.specs.Judge.{next_run, transfers}
use Rattle.logs.specs.ClosedRegisters.{flows}

-- whether a service flows depends on pins, command, serving channel and its mode alone
pub record Alike (c x : Controller) : Type 0 where
  pub pins : x.pins ≡ c.pins
  pub command : x.command ≡ c.command
  pub serving : x.serving ≡ c.serving
  pub mode : (serving_channel x).mode ≡ (serving_channel c).mode

module _ (c x : Controller) (a : Alike c x) where
  pub copy_alike : memory_to_memory x ≡ memory_to_memory c
  unfolding memory_to_memory
  copy_alike = simp (a.command, a.serving)

  pub dropped_alike : dropped x ≡ dropped c
  unfolding dropped active
  dropped_alike = rw a.mode (simp (a.pins, a.command, a.serving))

  pub cascade_alike : is_cascade (serving_channel x).mode ≡ is_cascade (serving_channel c).mode
  cascade_alike = ap is_cascade a.mode

  pub flows_alike : flows x ≡ flows c
  unfolding flows
  flows_alike = simp (copy_alike, dropped_alike, cascade_alike)

-- TC and EOP end the service
pub over_idle : (x : Controller) (tc eop : Bool) → (after_tc_or_eop x tc eop).in_service ≡ 0
unfolding after_tc_or_eop finished
over_idle x tc eop = when_both (λ (y : Controller). y.in_service ≡ 0) (memory_to_memory x) refl refl

-- One transfer, of a device byte and with room for one.
module _ (c : Controller) (m : List ℕ) (byte : ℕ) where
  abbrev before : World
  before = start_of c m (0 ∷ [])

  abbrev pub after : World
  after = transferred before (byte ∷ [])

  pub after_made : after.counts.transfers ≡ 1
  unfolding transferred copied moved
  after_made = when_both (λ (v : World). v.counts.transfers ≡ 1) (memory_to_memory c) refl refl

  abbrev sent : Channel
  sent = source_next (address_hold c.command) (channel c 0)

  sent_mode : sent.mode ≡ (channel c 0).mode
  sent_mode = source_next_mode (address_hold c.command) (channel c 0)

  pub after_alike : Alike c after.controller
  unfolding transferred copied moved memory_to_memory
  after_alike =
      when_each (λ (v : World). Alike c v.controller) (memory_to_memory c)
      (λ ic. record { pins = refl; command = refl; serving = refl; mode = rw (serving_0 c ic) (modes_kept (set c.channels 0 sent) 1 0 (stepped (channel c 1)) (sym (modes_kept c.channels 0 1 sent sent_mode)) ∙ modes_kept c.channels 0 0 sent sent_mode) })
      (λ nc. record { pins = refl; command = refl; serving = refl; mode = modes_kept c.channels c.serving c.serving _ refl })

  -- nothing stops it
  supplied : short before (byte ∷ []) ≡ false
  unfolding short
  supplied = neither (is_write (serving_channel c).mode) (is_read (serving_channel c).mode)
    where
      neither : (w r : Bool) → w && false || r && false ≡ false
      neither true true = refl
      neither true false = refl
      neither false true = refl
      neither false false = refl

  module _ (f : flows c ≡ true) where
    free_run : memory_to_memory c ≡ false → dropped c || is_cascade (serving_channel c).mode ≡ false
    unfolding flows
    free_run nc = no_more (memory_to_memory c) _ nc f
      where
        no_more : (t u : Bool) → t ≡ false → t || not u ≡ true → u ≡ false
        no_more true u e h = never e
        no_more false true e h = sym h
        no_more false false e h = refl

    stops_free : Free (stops before (byte ∷ []) 1)
    unfolding stops first when
    stops_free x = go (memory_to_memory c) refl
      where
        go : (t : Bool) → memory_to_memory c ≡ t → first (stops before (byte ∷ []) 1) x ≡ x
        go true ic = simp ic
        go false nc = let d = free_run nc in stops_none before (byte ∷ []) 1 nc (neither_left _ _ d) (neither_right (dropped c) _ d) refl supplied x

    stops_behind : Gives (stops after (byte ∷ []) 0) (stop after Limit)
    unfolding stops first when
    stops_behind x = go (memory_to_memory c) refl
      where
        go : (t : Bool) → memory_to_memory c ≡ t → first (stops after (byte ∷ []) 0) x ≡ stop after Limit
        go true ic = simp (copy_alike c _ after_alike ∙ ic)
        go false nc =
            let d = free_run nc in
            stops_limit after (byte ∷ []) 0 (copy_alike c _ after_alike ∙ nc) (dropped_alike c _ after_alike ∙ neither_left _ _ d)
            (cascade_alike c _ after_alike ∙ neither_right (dropped c) _ d) refl x

    -- the run of one transfer is that transfer, and the end that it meets
    pub next_is : (eop : Bool) → next_run c m byte eop ≡ first (ends c after (when eop 1 0)) (stop after Limit)
    unfolding next_run run_of
    next_is eop = stops_free _ ∙ ap (λ (s : Stop). first (ends c after (when eop 1 0)) s) (stops_behind _)

    -- a transfer that meets no end leaves the service open
    pub next_on_lem : reaches_tc c ≡ false → single c ≡ false → next_run c m byte false ≡ stop after Limit
    unfolding first when
    next_on_lem t s = next_is false ∙ simp (t, s, after_made)

    -- it is one transfer
    pub next_made : (eop : Bool) → (next_run c m byte eop).world.counts.transfers ≡ 1
    unfolding first
    next_made eop =
        ap (λ (s : Stop). s.world.counts.transfers) (next_is eop)
        ∙ when_both (λ (s : Stop). s.world.counts.transfers ≡ 1) (reaches_tc c || eqb after.counts.transfers (when eop 1 0)) after_made
        (when_both (λ (s : Stop). s.world.counts.transfers ≡ 1) (single c) after_made after_made)

    met_is : (eop : Bool) → eqb after.counts.transfers (when eop 1 0) ≡ eop
    unfolding when
    met_is true = simp after_made
    met_is false = simp after_made

    -- what it leaves, by what it meets
    pub next_controller : (eop : Bool)
        → (next_run c m byte eop).world.controller ≡ when (reaches_tc c || eop) (after_tc_or_eop after.controller (reaches_tc c) eop) (when (single c) (ended after.controller) after.controller)
    unfolding first
    next_controller eop =
        let left : Stop → Controller = λ (s : Stop). s.world.controller in
        ap left (next_is eop)
        ∙ sym (when_over left (reaches_tc c || eqb after.counts.transfers (when eop 1 0)) (λ e. refl) (λ e. when_over left (single c) (λ g. refl) (λ g. refl)))
        ∙ ap (λ (e : Bool). when (reaches_tc c || e) (after_tc_or_eop after.controller (reaches_tc c) e) (when (single c) (ended after.controller) after.controller)) (met_is eop)

    pub next_memory : (eop : Bool) → (next_run c m byte eop).world.memory ≡ after.memory
    unfolding first
    next_memory eop =
        ap (λ (s : Stop). s.world.memory) (next_is eop)
        ∙ when_both (λ (s : Stop). s.world.memory ≡ after.memory) (reaches_tc c || eqb after.counts.transfers (when eop 1 0)) refl
        (when_both (λ (s : Stop). s.world.memory ≡ after.memory) (single c) refl refl)

    pub next_last : (eop : Bool) → reaches_tc c || eop || single c ≡ true → (next_run c m byte eop).world.controller.in_service ≡ 0
    next_last eop h =
        ap (λ (x : Controller). x.in_service) (next_controller eop)
        ∙ when_each Idle (reaches_tc c || eop) (λ e. over_idle after.controller (reaches_tc c) eop)
        (λ e. when_each Idle (single c) (λ g. refl) (λ g. never (sym h ∙ ap (λ (t : Bool). t || single c) e ∙ g)))
      where
        Idle : Controller → Type 0
        Idle x = x.in_service ≡ 0

  -- where it doesn't flow, none is made
  module _ (f : flows c ≡ false) where
    still : (memory_to_memory c ≡ false) × (dropped c || is_cascade (serving_channel c).mode ≡ true)
    unfolding flows
    still = parts (memory_to_memory c) (dropped c || is_cascade (serving_channel c).mode) f
      where
        parts : (t u : Bool) → t || not u ≡ false → (t ≡ false) × (u ≡ true)
        parts true u e = never e
        parts false true e = (refl, refl)
        parts false false e = never e

    pub next_none : (eop : Bool) → (next_run c m byte eop).world.counts.transfers ≡ 0
    unfolding next_run
    next_none eop = go (dropped c) refl still.1
      where
        go : (t : Bool) → dropped c ≡ t → dropped c || is_cascade (serving_channel c).mode ≡ true → (run_of 1 (when eop 1 0) (byte ∷ []) before).world.counts.transfers ≡ 0
        go true d u = ap (λ (s : Stop). s.world.counts.transfers) (run_stop _ (byte ∷ []) before 1 _ (stops_dropped before (byte ∷ []) 1 still.0 d))
        go false d u = ap (λ (s : Stop). s.world.counts.transfers) (run_stop _ (byte ∷ []) before 1 _ (stops_cascade before (byte ∷ []) 1 still.0 d (rw d at u)))

-- the rules make a transfer exactly where the open service flows
pub transfers_is : (c : Controller) (m : List ℕ) (byte : ℕ) (eop : Bool) → busy c ≡ true → transfers c m byte eop ≡ flows c
unfolding transfers
transfers_is c m byte eop b = go (flows c) refl
  where
    go : (t : Bool) → flows c ≡ t → busy c && eqb (next_run c m byte eop).world.counts.transfers 1 ≡ t
    go true f = simp (b, next_made c m byte f eop)
    go false f = simp (b, next_none c m byte f eop)

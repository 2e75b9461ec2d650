-- Laws of what the console holds.
use Prim.Native.Nat.{ℕ, ◌-◌, ◌≤◌}
use Rattle.std.specs.Prelude.{Option, Some, None}
use mathlib.Core.Path.{◌≡◌, refl, sym, ap, subst, ◌∙◌}
use mathlib.Core.Bool.{Bool, true, false}
use mathlib.Core.List.{List}
use native.Mathlib.Omega.{arith}
use lib.Dec.{ltb}
use lib.ListN.{length, take}
use borrow.Author.Tests.{leb-true, le-leb, le-ltb, ltb-false}
use Rattle.words.specs.Choice.{when}
use Rattle.words.proofs.ChoiceLaws.{both, both_hold}
use Rattle.am9517.specs.declared.Controller.{Controller}
use Rattle.board.specs.declared.Board.{Board}
use Rattle.console_text.specs.Text.{Page, page, put}
use Rattle.console_text.specs.Numbers.{number_of}
use Rattle.console_text.proofs.NumberLaws.{number_fits}
use Rattle.console_chip.specs.Answers.{Reply, numbered}
use Rattle.console_arrays.specs.Arrays.{lent_of, held, Changed, Shown, shown, showing, Queued, Roomed}
use Rattle.console_commands.specs.Holding.{having, fresh_console, said, stands, holds, left, leaving}
use Rattle.console_commands.specs.Doings.{controlled, boarded, lending, remembering, queueing, rooming, further}
use Rattle.console_commands.specs.Needs.{Lies, Standing, with_queue, with_room, with_lent, with_controller, with_board, after_service}
use Rattle.console_commands.specs.declared.Console.{Console}
use Rattle.console_commands.specs.declared.holding.Executed.{Executed}

-- what holds where the test does, and the other way round
module _ (c : Console) (memory queue room spare : ℕ) where
  pub standing : stands c memory queue room spare ≡ true → Standing c memory queue room × (100000 ≤ spare)
  unfolding stands
  standing e =
      let all = both _ _ e in
      let lent = both _ _ all.left in
      let rest = both _ _ all.right in
      let ordered = both _ _ rest.left in
      let queued = both _ _ ordered.right in
      let last = both _ _ rest.right in
      let placed = both _ _ last.left in
      let roomed = both _ _ placed.right in (
        record {
          lent = leb-true _ _ lent.left;
          whole = leb-true _ _ lent.right;
          queued = record { ordered = leb-true _ _ ordered.left; inside = leb-true _ _ queued.left; deep = leb-true _ _ queued.right };
          roomed = record { ordered = leb-true _ _ placed.left; inside = leb-true _ _ roomed.left; deep = leb-true _ _ roomed.right };
        },
        leb-true _ _ last.right,
      )

  pub stands_so : Standing c memory queue room → 100000 ≤ spare → stands c memory queue room spare ≡ true
  unfolding stands
  stands_so s h =
      both_hold (both_hold (le-leb _ _ s.lent) (le-leb _ _ s.whole))
      (both_hold (both_hold (le-leb _ _ s.queued.ordered) (both_hold (le-leb _ _ s.queued.inside) (le-leb _ _ s.queued.deep)))
      (both_hold (both_hold (le-leb _ _ s.roomed.ordered) (both_hold (le-leb _ _ s.roomed.inside) (le-leb _ _ s.roomed.deep))) (le-leb _ _ h)))

-- "N bytes are lent from now on (0 to 65,537)": no more than there are
lent_most : (lent m : ℕ) (size : List ℕ) → lent ≤ m → 65537 ≤ m → lent_of lent size ≤ m
unfolding numbered
lent_most lent m size h w = go (number_of 65537 size) refl
  where
    go : (x : Option ℕ) → number_of 65537 size ≡ x → numbered x (λ (n : ℕ). n) lent ≤ m
    go (Some n) e = omega (arith, number_fits 65537 n size e)
    go None e = h

-- a place further on stays before the last
pub further_most : (from n last : ℕ) → from ≤ last → further from n last ≤ last
unfolding further when
further_most from n last h = go (ltb (last - from) n) refl
  where
    go : (b : Bool) → ltb (last - from) n ≡ b → further from n last ≤ last
    go true e = rw (le-ltb last from h, e) (omega arith)
    go false e = let l = ltb-false (last - from) n e in rw (le-ltb last from h, e) (omega arith)

-- A command leaves what is held as it was, or with another part of it. First the controller and what goes with it.
module _ (c : Console) (p : Page) where
  module _ (m q room : List ℕ) (r : Executed) (out : List ℕ) where
    pub stays_so : (t : List ℕ) → r.console ≡ c → page out r.at ≡ put p t → left r m q room out ≡ leaving p (said (holds c m q room) t)
    stays_so t e d =
        ap (λ (x : Console). record { holding = holds x m q room; page = page out r.at }) e
        ∙ ap (λ (x : Page). record { holding = holds c m q room; page = x }) d

    pub controlled_so : (y : Reply Controller) → r.console ≡ with_controller c y.next → page out r.at ≡ put p y.text
        → left r m q room out ≡ leaving p (controlled (holds c m q room) y)
    controlled_so y e d =
        ap (λ (x : Console). record { holding = holds x m q room; page = page out r.at }) e
        ∙ ap (λ (x : Page). record { holding = holds (with_controller c y.next) m q room; page = x }) d

    pub boarded_so : (y : Reply Board) → r.console ≡ with_board c y.next → page out r.at ≡ put p y.text
        → left r m q room out ≡ leaving p (boarded (holds c m q room) y)
    boarded_so y e d =
        ap (λ (x : Console). record { holding = holds x m q room; page = page out r.at }) e
        ∙ ap (λ (x : Page). record { holding = holds (with_board c y.next) m q room; page = x }) d

    pub lent_so : (n : ℕ) (t : List ℕ) → r.console ≡ with_lent c n → page out r.at ≡ put p t
        → left r m q room out ≡ leaving p (lending (holds c m q room) n t)
    lent_so n t e d =
        ap (λ (x : Console). record { holding = holds x m q room; page = page out r.at }) e
        ∙ ap (λ (x : Page). record { holding = holds (with_lent c n) m q room; page = x }) d

  -- the memory
  pub poked_so : (m q room new out : List ℕ) (at : ℕ) (y : Changed) → shown new (page out at) ≡ showing p y
      → left (record { console = c; at = at }) new q room out ≡ leaving p (remembering (holds c m q room) y)
  poked_so m q room new out at y e =
      ap (λ (s : Shown). record { holding = holds c s.array q room; page = s.page }) e

  -- the queue
  pub queued_so : (m q room new out : List ℕ) (r : Executed) (y : Changed) → r.console ≡ with_queue c r
      → Queued r.console.start r.console.end new (page out r.at) (showing p y)
      → left r m new room out ≡ leaving p (queueing (holds c m q room) y)
  queued_so m q room new out r y e s =
      ap (λ (x : Console). record { holding = holds x m new room; page = page out r.at }) e
      ∙ ap (λ (s : Shown). record { holding = having c.controller c.board m c.lent s.array (take c.size room) c.written; page = s.page }) s.holds

  -- the room and its write position
  pub roomed_so : (m q room new out : List ℕ) (r : Executed) (y : Changed) (n : ℕ) → r.console ≡ with_room c r
      → Roomed r.console.written r.console.size new (page out r.at) (showing p y) n → left r m q new out ≡ leaving p (rooming (holds c m q room) y n)
  roomed_so m q room new out r y n e s =
      let queue = held q c.start c.end in
      ap (λ (x : Console). record { holding = holds x m q new; page = page out r.at }) e
      ∙ ap (λ (k : ℕ). record { holding = having c.controller c.board m c.lent queue (take r.console.size new) k; page = page out r.at }) s.behind
      ∙ ap (λ (s : Shown). record { holding = having c.controller c.board m c.lent queue s.array n; page = s.page }) s.holds

-- And it still lies in the arrays.
module _ (c : Console) (memory queue room : ℕ) (s : Standing c memory queue room) where
  module _ (next : Console) where
    pub stays_standing : next ≡ c → Standing next memory queue room
    stays_standing e = subst (λ (x : Console). Standing x memory queue room) (sym e) s

    -- where its parts do
    parts_standing : (d : Console) → d.lent ≤ memory → Lies d.start d.end queue → Lies d.written d.size room → next ≡ d
        → Standing next memory queue room
    parts_standing d l q r e =
        subst (λ (x : Console). Standing x memory queue room) (sym e) (record { lent = l; whole = s.whole; queued = q; roomed = r })

    pub controlled_standing : (d : Controller) → next ≡ with_controller c d → Standing next memory queue room
    controlled_standing d e = parts_standing (with_controller c d) s.lent s.queued s.roomed e

    pub boarded_standing : (d : Board) → next ≡ with_board c d → Standing next memory queue room
    boarded_standing d e = parts_standing (with_board c d) s.lent s.queued s.roomed e

    pub lent_standing : (size : List ℕ) → next ≡ with_lent c (lent_of c.lent size) → Standing next memory queue room
    lent_standing size e =
        let most = lent_most c.lent memory size s.lent s.whole in
        parts_standing (with_lent c (lent_of c.lent size)) most s.queued s.roomed e

    pub served_standing : (k : Controller) (b : Board) (used written : ℕ) → next ≡ after_service c k b used written → Standing next memory queue room
    served_standing k b used written e =
        let start = further_most c.start used c.end s.queued.ordered in
        let place = further_most c.written written c.size s.roomed.ordered in
        parts_standing (after_service c k b used written) s.lent
        (record { ordered = start; inside = s.queued.inside; deep = s.queued.deep })
        (record { ordered = place; inside = s.roomed.inside; deep = s.roomed.deep }) e

  module _ (r : Executed) (new out : List ℕ) (y : Shown) where
    pub queued_standing : length new ≡ queue → r.console ≡ with_queue c r
        → Queued r.console.start r.console.end new (page out r.at) y → Standing r.console memory queue room
    queued_standing l e g =
        let lies : Lies r.console.start r.console.end queue = record { ordered = g.ordered; inside = omega (arith, g.inside); deep = s.queued.deep } in
        parts_standing r.console (with_queue c r) s.lent lies s.roomed e

    pub roomed_standing : (n : ℕ) → length new ≡ room → r.console ≡ with_room c r
        → Roomed r.console.written r.console.size new (page out r.at) y n → Standing r.console memory queue room
    roomed_standing n l e g =
        let lies : Lies r.console.written r.console.size room = record { ordered = g.ordered; inside = omega (arith, g.inside); deep = s.roomed.deep } in
        parts_standing r.console (with_room c r) s.lent s.queued lies e

-- a fresh console stands where the arrays are large enough
pub fresh_stands : (memory queue room spare : ℕ) → 65537 ≤ memory → 70000 ≤ queue → 70000 ≤ room → 100000 ≤ spare
    → stands fresh_console memory queue room spare ≡ true
fresh_stands memory queue room spare m q r s =
    stands_so fresh_console memory queue room spare
    (record {
      lent = omega arith;
      whole = m;
      queued = record { ordered = omega arith; inside = omega arith; deep = q };
      roomed = record { ordered = omega arith; inside = omega arith; deep = r };
    })
    s

-- How many transfers are made: the transfer that ends a service, and what the device's bytes and its room last for.
use Prim.Native.Nat.{ℕ, ◌+◌, ◌-◌, ◌≤◌, ◌<◌, min}
use mathlib.Core.Path.{◌≡◌, refl, sym, ◌∙◌}
use mathlib.Core.Bool.{Bool, true, false}
use mathlib.Core.List.{List}
use native.Mathlib.Omega.{arith}
use lib.Dec.{eqb}
use lib.ListN.{length}
use borrow.Author.Tests.{eqb-true, eqb-false, eq-eqb, ne_eqb}
use Rattle.words.specs.Choice.{when}
use Rattle.am9517.specs.Modes.{transfer_bits, is_write, is_read}
use Rattle.am9517.specs.declared.Channel.{Channel}
use Rattle.am9517_service.specs.Transfer.{writes, reads}
use Rattle.am9517_service.specs.ClosedSpans.{until_end, stock_of}
use Rattle.am9517_service.specs.Needs.{Stocked}
use Rattle.words.proofs.ChoiceLaws.{when_each, never}

-- The transfer that ends a service: where it can stand, and why it ends it.
pub record Until (once : Bool) (count eop n : ℕ) : Type 0 where
  pub some : 0 < n
  pub most : n ≤ count + 1
  pub alone : once ≡ true → n ≡ 1
  pub quiet : (k : ℕ) → 0 < k → k < n → k ≡ eop → ⊥
  pub last : (n ≡ count + 1 → ⊥) → (n ≡ eop → ⊥) → once ≡ true

pub until : (once : Bool) (count eop : ℕ) → Until once count eop (until_end once count eop)
unfolding until_end
until once count eop =
    when_each (Until once count eop) once
    (λ o. record { some = omega arith; most = omega arith; alone = λ e. refl; quiet = λ k h l e. omega arith; last = λ a b. o })
    (λ o. when_each (Until once count eop) (eqb eop 0)
    (λ z. let none : eop ≡ 0 = eqb-true eop 0 z in
    record { some = omega arith; most = omega arith; alone = λ e. never (sym e ∙ o); quiet = λ k h l e. omega arith; last = λ a b. absurd (a refl) })
    (λ z.
    let nz = eqb-false eop 0 z in
    record {
      some = omega (arith, nz);
      most = omega arith;
      alone = λ e. never (sym e ∙ o);
      quiet = λ k h l e. omega arith;
      last = λ a b. absurd (omega (arith, a, b));
    }))

-- a read is no write, a write no read
pub read_not_write : (mode : ℕ) → is_read mode ≡ true → is_write mode ≡ false
read_not_write mode e = ne_eqb _ _ (λ x. eqb-false 2 1 refl (sym (eqb-true (transfer_bits mode) 2 e) ∙ x))

pub write_not_read : (mode : ℕ) → is_write mode ≡ true → is_read mode ≡ false
write_not_read mode e = ne_eqb _ _ (λ x. eqb-false 1 2 refl (sym (eqb-true (transfer_bits mode) 1 e) ∙ x))

-- whether anything is left of m, where n are used
pub not_used_up : (m n : ℕ) → n < m → eqb (m - n) 0 ≡ false
not_used_up m n h = ne_eqb (m - n) 0 (λ x. omega arith)

pub used_up : (m n : ℕ) → m ≤ n → eqb (m - n) 0 ≡ true
used_up m n h = eq-eqb (m - n) 0 (omega arith)

-- What the device's bytes and its room last for.
pub stock_bytes : (ch : Channel) (bytes space : ℕ) → writes ch ≡ true → stock_of ch bytes space ≡ bytes
unfolding stock_of when
stock_bytes ch bytes space e = simp e

pub stock_space : (ch : Channel) (bytes space : ℕ) → writes ch ≡ false → reads ch ≡ true → stock_of ch bytes space ≡ space
unfolding stock_of when
stock_space ch bytes space e g = simp (e, g)

pub stock_any : (ch : Channel) (bytes space : ℕ) → writes ch ≡ false → reads ch ≡ false → stock_of ch bytes space ≡ 65536
unfolding stock_of when
stock_any ch bytes space e g = simp (e, g)

-- bytes and room for n transfers, where the stock allows them
pub stocked : (ch : Channel) (m d r : List ℕ) (limit n : ℕ) → length m ≡ 65536 → n ≤ 65536 → n ≤ min limit (stock_of ch (length d) (length r)) → Stocked ch m d r n
stocked ch m d r limit n size most h =
    record {
      memory = size;
      most = most;
      bytes = λ e. omega (arith, stock_bytes ch (length d) (length r) e);
      space = λ e. omega (arith, stock_space ch (length d) (length r) (read_not_write ch.mode e) e);
    }

pub until_most : (once : Bool) (count eop n : ℕ) → count < 65536 → n ≤ until_end once count eop → n ≤ 65536
until_most once count eop n h l = omega (arith, (until once count eop).most)

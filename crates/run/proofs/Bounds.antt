-- A complete run has fewer moves than a counter of 32 bits can hold.
use Rattle.std.proofs.Common.{◌≡◌, ℕ, zero, suc, ◌+◌, ◌-◌, ◌*◌, ◌^◌, ◌<◌, ◌≤◌, List, length, refl, ap, arith}
use Rattle.derivation.specs.declared.types.TypeEntry.{TypeEntry}
use Rattle.derivation.specs.declared.rows.Row.{Row}
use Rattle.derivation.specs.Accepted.{Accepted}
use Rattle.derivation.specs.Places.{moves}
use Rattle.derivation.proofs.HeldLaws.{held_le, width_le, places_to, places_none, places-more, places-all}

module _ (es : List TypeEntry) (rows : List Row) (ok : Accepted es rows) where
  -- each row has at most 128 variables, and at most 16 atoms in each and in its type
  few-places : (n : ℕ) → n ≤ length rows → places_to es rows n ≤ 2064 * n
  few-places zero h = omega (arith, places_none es rows)
  few-places (suc n) h =
      let one : suc n ≡ n + 1 = omega arith in
      omega (arith, ap (places_to es rows) one, places-more es rows n, held_le es rows ok n, width_le es rows ok n (omega arith), few-places n (omega arith))

  pub few-moves : moves es rows < 2 ^ 32 - 1
  few-moves = omega (arith, few-places (length rows) (omega arith), places-all es rows (length rows) refl, ok.few)

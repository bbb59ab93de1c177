-- Laws of how wires start.
use Rattle.std.proofs.Common.{◌≡◌, ℕ, suc, ◌-◌, ◌≤◌, cond, List, [], ◌∷◌, ◌++◌, length, replicate, refl, ap, ap₂, arith}
use Rattle.std.specs.List.{cons_option}
use Rattle.derivation.specs.declared.rows.Row.{Row}
use Rattle.derivation.specs.declared.rows.Rule.{Rule}
use Rattle.derivation.specs.declared.rows.Rule.TheVariants.{Variable, Zero, One, Gate, Lambda, PairLambda, Apply, Pair}
use Rattle.derivation.specs.declared.rows.Start.{Start}
use Rattle.derivation.specs.declared.rows.Start.TheVariants.{Given}
use Rattle.derivation.specs.declared.types.TypeEntry.{TypeEntry}
use Rattle.derivation.specs.Starts.{start_of, bit_starts, starts}
use Rattle.derivation.specs.Places.{is_bit, bits, given, wires}

starts-one : (rule : Rule) (row : Row) (ss : List Start) (rows : List Row) → length ss ≡ length rows → length (cons_option (start_of rule) ss) ≡ length (cond (is_bit rule) (row ∷ rows) rows)
starts-one Variable row ss rows e = e
starts-one Zero row ss rows e = ap suc e
starts-one One row ss rows e = ap suc e
starts-one (Gate g) row ss rows e = e
starts-one (Lambda p x) row ss rows e = e
starts-one (PairLambda p x y) row ss rows e = e
starts-one (Apply f a) row ss rows e = e
starts-one (Pair l r) row ss rows e = e

-- each zero and one row starts a wire
pub length-bit-starts : (rows : List Row) → length (bit_starts rows) ≡ length (bits rows)
length-bit-starts [] = refl
length-bit-starts (row ∷ rows) = starts-one row.rule row (bit_starts rows) (bits rows) (length-bit-starts rows)

pub bit-starts_le : (es : List TypeEntry) (rows : List Row) → length (bit_starts rows) ≤ wires es rows
bit-starts_le es rows = omega (arith, length-bit-starts rows)

-- the other wires are given
pub starts-given : (es : List TypeEntry) {rows same : List Row} {n : ℕ} → same ≡ rows → n ≡ wires es rows → replicate (n - length (bit_starts same)) Given ++ bit_starts same ≡ starts es rows
starts-given es {rows} {same} {n} s e =
    let number : n - length (bit_starts same) ≡ length (given es rows) = omega (arith, length-bit-starts rows, ap (λ (l : List Row). length (bit_starts l)) s) in
    ap₂ (λ (k : ℕ) (l : List Row). replicate k Given ++ bit_starts l) number s

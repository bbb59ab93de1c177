-- A gate row's record by its pattern, and bytes that fit none.
use Rattle.std.proofs.Common.{◌≡◌, ℕ, ◌+◌, ◌<◌, ◌≤◌, ◌≢◌, ◌⊎◌, List, length, get_or, drop, ap, ◌∙◌, arith, rules}
use Rattle.std.proofs.lemmas.List.{take_rest}
use Rattle.std.proofs.lemmas.Bool.Decides.{nat_tests}
use Rattle.derivation.specs.Format.{row_length}
use Rattle.derivation.specs.Reads.{Framed}
use Rattle.derivation.proofs.bytes.RecordFromBytes.front.Goals as goal

-- the lengths and the kinds of row records
abbrev RowShape : ℕ → ℕ → Type 0
RowShape n kind =
    ((n ≡ 2) × (0 < kind) × (kind ≤ 3))
    ⊎ (((n ≡ 3) × (kind ≡ 4)) ⊎ (((n ≡ 5) × (kind ≡ 6)) ⊎ ((n ≡ 4) × (4 < kind) × (kind ≤ 8) × (kind ≢ 6))))

row_shape : (n kind : ℕ) → 0 < n → row_length kind ≡ n → RowShape n kind
row_shape n kind some fits = grind (arith, nat_tests)

none-framed : (left : List ℕ) → (RowShape (get_or left 0 0) (get_or left 1 0) → get_or left 0 0 < length left → ⊥) → Framed row_length left → ⊥
none-framed left none f = none (row_shape (get_or left 0 0) (get_or left 1 0) f.some f.fitting) f.within

pub returns-in-3 : goal.returns-in-3
returns-in-3 c =
    let left = c.args.left.now in
    let behind : 4 ≡ 1 + get_or left 0 0 = search rules in
    (search rules, search rules, take_rest left 4 ∙ ap (λ k. drop k left) behind)

pub returns-in_default : goal.returns-in_default
returns-in_default c = none-framed c.args.left.now (λ shape within. search rules)

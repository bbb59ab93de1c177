-- What a row binds is a row before it.
use Rattle.std.proofs.Common.{◌≡◌, ℕ, ◌<◌, ◌≤◌, true, List, length, get_or, refl, arith}
use Rattle.std.specs.List.{AllByRecursion as All}
use Rattle.std.proofs.ByRecursion.{All-from_get_or, All-map}
use Rattle.std.proofs.lemmas.Bool.{and_from, lt-ltb}
use Rattle.derivation.specs.declared.types.TypeEntry.{TypeEntry}
use Rattle.derivation.specs.declared.rows.Row.{Row}
use Rattle.derivation.specs.declared.rows.Rule.{Rule}
use Rattle.basics.specs.Sets.{has}
use Rattle.derivation.specs.Trees.{Tree}
use Rattle.derivation.specs.Rows.{premises, binders, all_below}
use Rattle.derivation.specs.Judgements.{Judgement, rule_at, judged, Follows}
use Rattle.derivation.specs.Judgements.{Infers, variable, zero_bit, one_bit, gate, abstraction, pair_abstraction, application, pairing}
use Rattle.derivation.proofs.RowLaws.{env-low}

-- what a rule binds is in the environments of its premises
binders_in : {of : ℕ → Tree} {k : ℕ} {rule : Rule} {js : List Judgement} {j : Judgement} → Infers of k rule js j
    → (n : ℕ) → All (λ q. (z : ℕ) → has q.env z ≡ true → z < n) js → all_below n (binders rule) ≡ true
binders_in variable n all = refl
binders_in zero_bit n all = refl
binders_in one_bit n all = refl
binders_in gate n all = refl
binders_in (abstraction {x = x} h) n all = and_from _ _ (lt-ltb x.0 n (all.0 x.0 h)) refl
binders_in (pair_abstraction {x = x} {y = y} hx hy ne) n all =
    and_from _ _ (lt-ltb x.0 n (all.0 x.0 hx)) (and_from _ _ (lt-ltb y.0 n (all.0 y.0 hy)) refl)
binders_in (application h) n all = refl
binders_in (pairing h) n all = refl

-- the variables that row r binds are rows before it
pub binders_below : (es : List TypeEntry) (rows : List Row)
    → ((r : ℕ) → r < length rows → (i : ℕ) → i < length (premises (rule_at rows r)) → get_or (premises (rule_at rows r)) i 0 < r)
    → (r n : ℕ) → r < length rows → r ≤ n → Follows es rows r → all_below n (binders (rule_at rows r)) ≡ true
binders_below es rows lower r n h l follows =
    binders_in follows n
    (All-map (λ q. (z : ℕ) → has q.env z ≡ true → z < n) (judged es rows) (premises (rule_at rows r))
    (All-from_get_or _ (premises (rule_at rows r)) 0
    (λ i k z e. let q = lower r h i k in let b = env-low rows lower (get_or (premises (rule_at rows r)) i 0) z (omega arith) e in omega arith)))

-- A sweep as a loop makes it: the moves made so far, and what a sweep with the rest of the budget does from there.
use Rattle.std.proofs.Common.{◌≡◌, ℕ, suc, ◌+◌, ◌-◌, ◌<◌, ◌≤◌, Bool, List, Some, None, Option, Ok, Err, Result, sym, refl, ap, ◌∙◌, subst, ⊎_elim, arith}
use mathlib.Core.Logic.{∥∥₁_elim}
use native.Mathlib.Bridge.{le_prop}
use native.Mathlib.Nat.{sub-zero, ℕ_set}
use lib.Count.{count_trailing_zeros}
use Rattle.std.specs.Option.{option_map}
use Rattle.std.proofs.lemmas.Bool.{cases_lt}
use Rattle.basics.specs.declared.gate.Gate.{Gate}
use Rattle.basics.specs.declared.numbers.Wire.{Wire}
use Rattle.basics.specs.declared.refusal.Refusal.{Refusal}
use Rattle.derivation.specs.declared.types.TypeEntry.{TypeEntry}
use Rattle.derivation.specs.declared.rows.Row.{Row}
use Rattle.theory.specs.Tokens.{movable}
use Rattle.run.specs.Answers.{MoveAnswers}
use Rattle.run.specs.Books.{Kept, Right, wires_where}
use Rattle.run.specs.Calls.{Stage, Swept, all_home, lowest, move_of, one_more, sweep_of, swept_out}
use Rattle.run.proofs.Lowest.{lowest_first, lowest_none}
use Rattle.run.proofs.Sweeps.{sweep_ends, sweep_none, sweep_off, sweep_on}

-- an answer after n moves more
abbrev pub more_made : ℕ → Result (ℕ × Bool) Refusal → Result (ℕ × Bool) Refusal
more_made n (Ok a) = Ok (n + a.0, a.1)
more_made n (Err e) = Err e

-- a sweep that made n moves before
abbrev pub behind : {S : Type 0} → ℕ → Swept S → Swept S
behind n r = record { answer = more_made n r.answer; after = r.after }

one-behind : (n : ℕ) (r : Result (ℕ × Bool) Refusal) → more_made n (one_more r) ≡ more_made (n + 1) r
one-behind n (Ok a) = ap (λ (k : ℕ). Ok (k, a.1)) (omega arith)
one-behind n (Err e) = refl

none_behind : (r : Result (ℕ × Bool) Refusal) → r ≡ more_made 0 r
none_behind (Ok a) = ap (λ (k : ℕ). Ok (k, a.1)) (omega arith)
none_behind (Err e) = refl

module _ {S : Type 0} (takes : Gate → Bool) (applied : Gate → List ℕ → S → S) (es : List TypeEntry) (rows : List Row) (budget : ℕ) where
  -- a sweep that begins
  pub sweep-begun : (s : Stage S) → sweep_of takes applied es rows budget s ≡ behind 0 (sweep_of takes applied es rows (budget - 0) s)
  sweep-begun s =
      ap (λ (r : Result (ℕ × Bool) Refusal). record { answer = r; after = (sweep_of takes applied es rows budget s).after }) (none_behind (sweep_of takes applied es rows budget s).answer)
      ∙ ap (λ (b : ℕ). behind 0 (sweep_of takes applied es rows b s)) (sym (sub-zero budget))

  module _ (made : ℕ) (s : Stage S) where
    left : made < budget → budget - made ≡ suc (budget - (made + 1))
    left h = omega arith

    nothing_left : budget ≤ made → budget - made ≡ 0
    nothing_left h = omega arith

    -- where no budget is left, or no wire can move, the sweep is over
    over : (made < budget → lowest es rows s.tokens ≡ None) → sweep_of takes applied es rows (budget - made) s ≡ swept_out takes applied es rows s
    over none = ⊎_elim
        (λ h. ap (λ (b : ℕ). sweep_of takes applied es rows b s) (left h) ∙ sweep_ends takes applied es rows (budget - (made + 1)) s (none h))
        (λ h. ap (λ (b : ℕ). sweep_of takes applied es rows b s) (nothing_left h) ∙ sweep_none takes applied es rows s)
        (cases_lt made budget)

    pub sweep-over : (made < budget → lowest es rows s.tokens ≡ None) → behind made (sweep_of takes applied es rows (budget - made) s) ≡ record { answer = Ok (made, all_home es rows s.tokens); after = s }
    sweep-over none = ap (λ (r : Swept S). behind made r) (over none) ∙ ap (λ (k : ℕ). record { answer = Ok (k, all_home es rows s.tokens); after = s }) (omega arith)

    module _ (w : ℕ) (some : lowest es rows s.tokens ≡ Some w) (h : made < budget) where
      -- a move more
      pub sweep-further : (t : Stage S) → move_of takes applied es rows s w ≡ Ok t → behind made (sweep_of takes applied es rows (budget - made) s) ≡ behind (made + 1) (sweep_of takes applied es rows (budget - (made + 1)) t)
      sweep-further t ok =
          ap (λ (b : ℕ). behind made (sweep_of takes applied es rows b s)) (left h) ∙ ap (λ (r : Swept S). behind made r) (sweep_on takes applied es rows (budget - (made + 1)) s t w some ok)
          ∙ ap (λ (r : Result (ℕ × Bool) Refusal). record { answer = r; after = (sweep_of takes applied es rows (budget - (made + 1)) t).after }) (one-behind made (sweep_of takes applied es rows (budget - (made + 1)) t).answer)

      -- a move that is refused ends the sweep
      pub sweep-refused : (f : Refusal) → move_of takes applied es rows s w ≡ Err f → behind made (sweep_of takes applied es rows (budget - made) s) ≡ record { answer = Err f; after = s }
      sweep-refused f refused =
          ap (λ (b : ℕ). behind made (sweep_of takes applied es rows b s)) (left h) ∙ ap (λ (r : Swept S). behind made r) (sweep_off takes applied es rows (budget - (made + 1)) s w f some refused)

-- what the answer of a move says of it
pub made_as : {S : Type 0} (m : Result (Stage S) Refusal) (s t : Stage S) (u : Unit {0}) → MoveAnswers m s (Ok u) t → m ≡ Ok t
made_as (Ok x) s t u h = ap Ok (sym h)
made_as (Err e) s t u h = absurd h

pub refused_as : {S : Type 0} (m : Result (Stage S) Refusal) (s t : Stage S) (f : Refusal) → MoveAnswers m s (Err f) t → (m ≡ Err f) × (t ≡ s)
refused_as (Ok x) s t f h = absurd h
refused_as (Err e) s t f (same, as_before) = (ap (λ (x : Refusal). Err x) (sym same), as_before)

-- what is told of the lowest wire
pub some_told : (o : Option ℕ) (w : Wire) → Some w ≡ option_map (λ n. record { 0 = n }) o → o ≡ Some w.0
some_told (Some n) w e = cc
some_told None w e = cc

pub none_told : (o : Option ℕ) → ◌≡◌ {A = Option Wire} None (option_map (λ n. record { 0 = n }) o) → o ≡ None
none_told (Some n) e = cc
none_told None e = refl

-- what is kept of the wires that can move says which one a sweep moves
module _ (es : List TypeEntry) (rows : List Row) (b : Kept) (kept : ∥ Right es rows b ∥₁) where
  ready_is : b.ready ≡ wires_where (movable es rows b.tokens) b.tokens
  ready_is = ∥∥₁_elim kept (ℕ_set _ _) (λ right. right.ready)

  pub ready_none : b.ready ≡ 0 → lowest es rows b.tokens ≡ None
  ready_none e = lowest_none es rows b.tokens (sym ready_is ∙ e)

  some-ready : (b.ready ≡ 0 → ⊥) → 0 < b.ready
  some-ready some = omega (arith, some)

  pub ready-first : (b.ready ≡ 0 → ⊥) → lowest es rows b.tokens ≡ Some (count_trailing_zeros 32 b.ready)
  ready-first some =
      lowest_first es rows b.tokens (∥∥₁_elim kept le_prop (λ right. right.fit.2)) (subst (λ (n : ℕ). 0 < n) ready_is (some-ready some))
      ∙ ap (λ (n : ℕ). Some (count_trailing_zeros 32 n)) (sym ready_is)

-- What follows once the types and the rows of a derivation have passed their checks.
use Rattle.std.proofs.Common.{◌≡◌, ℕ, ◌-◌, ◌<◌, ◌≤◌, true, cond, List, [], map, length, take, Some, None, sym, ap, ◌∙◌, subst, arith}
use mathlib.Core.Path.{subst₂}
use Rattle.std.proofs.lemmas.List.{get_or-map, length-map}
use Rattle.std.proofs.lemmas.Bool.{ltb-false, le-ltb}
use Rattle.derivation.specs.declared.types.TypeEntry.{TypeEntry}
use Rattle.derivation.specs.declared.types.Size.{Size}
use Rattle.derivation.specs.declared.rows.Row.{Row}
use Rattle.derivation.specs.declared.rows.Record.{Record}
use Rattle.derivation.specs.Accepted.{Accepted, Sound, valid, whole_fault, rows_fault}
use Rattle.derivation.specs.Rows.{no_row, type_at, row_fault, row_of, record_of, unused_fault}
use Rattle.derivation.specs.Weights.{size_of}
use Rattle.derivation.specs.Places.{wires}
use Rattle.basics.specs.declared.refusal.Refusal.TheVariants.{TooManyWires}
use Rattle.derivation.specs.Trees.{atoms, tree, trees, types_fault}
use Rattle.derivation.proofs.AcceptedLaws.{accepted_from_valid}
use Rattle.derivation.proofs.FaultLaws.{cond_none, none_from, or_else_none}
use Rattle.derivation.proofs.FormatLaws.{valid-from}
use Rattle.derivation.proofs.FormatRecords.{rows-again, rows-known}
use Rattle.derivation.proofs.TreeLaws.{table-from}

module _ {es : List TypeEntry} {sizes : List Size} {rows : List Row} (s : Sound es sizes rows) where
  -- each row's type is in the table
  pub sound-known : (r : ℕ) → r < length rows → type_at rows r ≤ length es
  sound-known r h =
      let at = none_from (row_fault es) row_of [] (map record_of rows) (record_of no_row) s.rows_pass r (subst (λ n. r < n) (sym (length-map rows record_of)) h) in
      let here = get_or-map record_of rows r no_row (record_of no_row) h in
      let fault = subst (λ (q : Record). row_fault es (map row_of (take r (map record_of rows))) q ≡ None) here at in
      ltb-false (length es) (type_at rows r) (cond_none _ _ _ fault).0

  pub sound-small : (t : ℕ) → t ≤ length es → atoms (tree es t) ≤ 16
  sound-small = (table-from es s.few_types s.types_pass).small

  -- all checks have passed
  pub sound-valid : whole_fault es rows ≡ None → valid es rows ≡ true
  sound-valid w =
      valid-from es rows s.few_types s.some_rows s.few_rows
      (or_else_none _ _ s.types_pass ∙ or_else_none _ _ s.rows_pass ∙ ap (whole_fault es) (rows-again rows) ∙ w)

  pub sound_accepted : whole_fault es rows ≡ None → Accepted es rows
  sound_accepted w = accepted_from_valid es rows (sound-valid w)

pub sound-same : {es : List TypeEntry} {sizes : List Size} {rows : List Row} → Sound es sizes rows → {l : List Size} {r : List Row} → l ≡ sizes → r ≡ rows → Sound es l r
sound-same {es = es} s e f = subst₂ (Sound es) (sym e) (sym f) s

-- no row is unused, and the wires are few enough
pub whole_none : (es : List TypeEntry) (rows : List Row) → unused_fault rows ≡ None → wires es rows ≤ 32 → whole_fault es rows ≡ None
whole_none es rows u w = or_else_none _ _ u ∙ ap (λ b. cond b (Some (TooManyWires (record { 0 = length rows - 1 }))) None) (le-ltb 32 (wires es rows) w)

-- the checks of types and rows, as the code makes them
pub sound-from : (es : List TypeEntry) (records : List Record) (sizes : List Size) (rows : List Row) →
    length es ≤ 64 → 0 < length records → length records ≤ 128 → types_fault es ≡ None → rows_fault es records ≡ None → sizes ≡ map size_of (trees es) → rows ≡ map row_of records → Sound es sizes rows
sound-from es records sizes rows few some many t r s same =
    let long = ap length same ∙ length-map records row_of in
    record {
      few_types = few;
      some_rows = omega arith;
      few_rows = omega arith;
      types_pass = t;
      rows_pass = ap (λ l. rows_fault es (map record_of l)) same ∙ ap (rows_fault es) (rows-known es [] records r) ∙ r;
      sized = s;
    }

-- The definitions over types and rows, at those of a machine.
use Rattle.std.specs.Prelude.{List}
use Rattle.derivation.specs.declared.types.TypeEntry.{TypeEntry}
use Rattle.derivation.specs.declared.rows.Row.{Row}
use Rattle.machine.specs.declared.machine.Machine.{Machine}

-- what a definition says of a machine's derivation
abbrev pub within : {A : Type 0} → Machine → (List TypeEntry → List Row → A) → A
within m f = f m.types.items m.rows.items

-- How the wires of a derivation start.
use Rattle.std.specs.Prelude.{ℕ, List, ◌++◌, length, replicate, Option, Some, None, codes}
use Rattle.std.specs.List.{filter_map}
use Rattle.derivation.specs.declared.types.TypeEntry.{TypeEntry}
use Rattle.derivation.specs.declared.rows.Rule.{Rule}
use Rattle.derivation.specs.declared.rows.Rule.TheVariants.{Variable, Zero as ZeroRule, One as OneRule, Gate, Lambda, PairLambda, Apply, Pair}
use Rattle.derivation.specs.declared.rows.Row.{Row}
use Rattle.derivation.specs.declared.rows.Start.{Start}
use Rattle.derivation.specs.declared.rows.Start.TheVariants.{Given, Zero, One}
use Rattle.derivation.specs.Places.{given}

-- how the wire of a zero or one row starts; other rows start none
abbrev pub start_of : Rule → Option Start
start_of Variable = None
start_of ZeroRule = Some Zero
start_of OneRule = Some One
start_of (Gate g) = None
start_of (Lambda p x) = None
start_of (PairLambda p x y) = None
start_of (Apply f a) = None
start_of (Pair l r) = None

abbrev pub bit_starts : List Row → List Start
bit_starts rows = filter_map (λ row. start_of row.rule) rows

-- how each wire starts: first the given wires, then the bits by rising row
abbrev pub starts : List TypeEntry → List Row → List Start
starts es rows = replicate (length (given es rows)) Given ++ bit_starts rows

abbrev pub start_word : Start → List ℕ
start_word Given = codes "given"
start_word Zero = codes "zero"
start_word One = codes "one"

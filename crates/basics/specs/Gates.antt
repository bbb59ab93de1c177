-- The facts of each gate: its code, its word in OpenQASM 2.0 and its arity.
use Rattle.std.specs.Prelude.{◌≡◌, ℕ, cond, List, ◌++◌, Some, None, codes, decimal, Option, Result, ◌==◌}
use Rattle.std.specs.Option.{ok_or}
use Rattle.basics.specs.declared.gate.Gate.{Gate}
use Rattle.basics.specs.declared.gate.UnknownCode.{UnknownCode}
use Rattle.basics.specs.declared.gate.Gate.TheVariants.{H, S, T, X, Z, Cx, Cz, Ccx}

-- what is known of a gate
pub record Facts : Type 0 where
  pub code : ℕ
  pub word : List ℕ
  pub arity : ℕ

abbrev pub facts : Gate → Facts
facts H = record { code = 1; word = codes "h"; arity = 1 }
facts S = record { code = 2; word = codes "s"; arity = 1 }
facts T = record { code = 3; word = codes "t"; arity = 1 }
facts X = record { code = 4; word = codes "x"; arity = 1 }
facts Z = record { code = 5; word = codes "z"; arity = 1 }
facts Cx = record { code = 6; word = codes "cx"; arity = 2 }
facts Cz = record { code = 7; word = codes "cz"; arity = 2 }
facts Ccx = record { code = 8; word = codes "ccx"; arity = 3 }

abbrev pub code : Gate → ℕ
code g = (facts g).code

abbrev pub word : Gate → List ℕ
word g = (facts g).word

-- how many wires the gate acts on
abbrev pub arity : Gate → ℕ
arity g = (facts g).arity

-- the gate of a code, if there is one
abbrev pub gate_of : ℕ → Option Gate
gate_of c = cond (c == 1) (Some H) (cond (c == 2) (Some S) (cond (c == 3) (Some T) (cond (c == 4) (Some X) (cond (c == 5) (Some Z) (cond (c == 6) (Some Cx) (cond (c == 7) (Some Cz) (cond (c == 8) (Some Ccx) None)))))))

-- a code is answered by its gate, or is handed back if there is none
abbrev pub Decodes : ℕ → Result Gate UnknownCode → Type 0
Decodes c r = r ≡ ok_or (gate_of c) (record { 0 = c })

-- a code that is no gate's, as text
abbrev pub unknown_words : UnknownCode → List ℕ
unknown_words c = codes "no gate has code " ++ decimal c.0

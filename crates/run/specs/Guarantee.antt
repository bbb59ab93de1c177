-- What holds after open, for every list of moves and sweeps, refused ones included, on every target that keeps the interface.
use Rattle.std.specs.Prelude.{◌≡◌, ℕ, ◌-◌, ◌<◌, min, Bool, false, ◌↔◌, List, None, Ok, slice_index_or}
use Rattle.basics.specs.declared.gate.Gate.{Gate}
use Rattle.derivation.specs.declared.types.TypeEntry.{TypeEntry}
use Rattle.derivation.specs.declared.rows.Row.{Row}
use Rattle.derivation.specs.Places.{wires, moves}
use Rattle.theory.specs.Ports.{is_end}
use Rattle.theory.specs.Tokens.{Fired, no_place}
use Rattle.theory.specs.Runs.{Reached}
use Rattle.theory.specs.Gates.{acted}
use Rattle.theory.specs.Laws.{Home}
use Rattle.theory.specs.Finals.{finals}
use Rattle.target.specs.Interface.{View}
use Rattle.run.specs.declared.call.Call.{Call}
use Rattle.run.specs.Calls.{Stage, move_of, sweep_of, all_home, after_calls}
use Rattle.run.specs.Opening.{open_fault, opened, used_set, given_set, ones_set}

module _ {S : Type 0} (takes : Gate → Bool) (begun : ℕ → ℕ → ℕ → S → S) (applied : Gate → List ℕ → S → S) (es : List TypeEntry) (rows : List Row) where
  -- how run and target stand after open and some calls
  abbrev pub after : View S → List Call → Stage S
  after v calls = after_calls takes applied es rows (opened es rows begun v) calls

  -- what begin and then some gates make of a state
  abbrev pub circuit : S → List Fired → S
  circuit s fired = acted (λ f. applied f.gate f.wires) (begun (used_set es rows) (given_set es rows) (ones_set es rows) s) fired

  pub record Guarantee (v : View S) : Type 0 where
    -- some wire's move would be accepted exactly while some token is not home
    pub goes_on : (calls : List Call) →
        ((w : ℕ) × (t : Stage S) × (move_of takes applied es rows (after v calls) w ≡ Ok t))
        ↔ ((w : ℕ) × (w < wires es rows) × (is_end es rows (slice_index_or (after v calls).tokens w no_place) ≡ false))
    -- all tokens are home exactly if the moves so far number N
    pub counted : (calls : List Call) → Home es rows (after v calls).tokens ↔ ((after v calls).moves ≡ moves es rows)
    -- a sweep makes as many moves as its budget, or as are left
    pub swept : (calls : List Call) (b : ℕ) →
        let s = sweep_of takes applied es rows b (after v calls) in
        s.answer ≡ Ok (min b (moves es rows - (after v calls).moves), all_home es rows s.after.tokens)
    -- once all are home, each wire stands at the end to which next leads it from its start
    pub ends_known : (calls : List Call) → Home es rows (after v calls).tokens → (after v calls).tokens ≡ finals es rows
    -- at any moment the state is what begin and then the gates fired by the machine's moves make of the state before open
    pub made : (calls : List Call) → (fired : List Fired) × Reached es rows (after v calls).tokens (after v calls).moves fired × ((after v calls).target.state ≡ circuit v.state fired)
    -- two targets of the kind with equal states before open have equal states once all tokens are home, whatever the lists
    pub alike : (u : View S) → open_fault es rows takes u ≡ None → u.state ≡ v.state → (calls others : List Call) →
        Home es rows (after v calls).tokens → Home es rows (after u others).tokens → (after v calls).target.state ≡ (after u others).target.state

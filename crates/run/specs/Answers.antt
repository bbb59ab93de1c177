-- What the calls answer and leave, by the definitions of Calls and Opening.
use Rattle.std.specs.Prelude.{◌≡◌, ℕ, Bool, cond, ◌⊎◌, List, length, Some, None, Ok, Err, Option, Result, nat_lt, slice_index_or, vec_items}
use Rattle.basics.specs.declared.gate.Gate.{Gate}
use Rattle.basics.specs.declared.refusal.Refusal.{Refusal}
use Rattle.basics.specs.declared.refusal.Refusal.TheVariants.{NoSuchWire, OutOfMemory}
use Rattle.basics.specs.declared.refusal.Layer.TheVariants.{Run as RunLayer}
use Rattle.derivation.specs.declared.types.TypeEntry.{TypeEntry}
use Rattle.derivation.specs.declared.rows.Row.{Row}
use Rattle.derivation.specs.declared.rows.Place.{Place}
use Rattle.theory.specs.Ports.{starts}
use Rattle.theory.specs.Tokens.{no_place}
use Rattle.target.specs.Interface.{View}
use Rattle.run.specs.declared.call.Call.{Call}
use Rattle.run.specs.declared.run.Run.{Run}
use Rattle.run.specs.Calls.{Stage, Swept, after_call, after_calls, move_of, sweep_of}

-- a move that the definition accepts is accepted, and both stand as it says; a move that it refuses is refused so, and both stand as before
abbrev pub MoveAnswers : {S : Type 0} → Result (Stage S) Refusal → Stage S → Result (Unit {0}) Refusal → Stage S → Type 0
MoveAnswers (Ok t) before (Ok u) after = after ≡ t
MoveAnswers (Ok t) before (Err e) after = ⊥
MoveAnswers (Err e) before (Ok u) after = ⊥
MoveAnswers (Err e) before (Err f) after = (f ≡ e) × (after ≡ before)

-- open is accepted exactly if there is no fault, and then run and target stand as opened; otherwise the fault is answered. Want of memory is the one other answer
abbrev pub OpenAnswers : {S : Type 0} → Option Refusal → Stage S → Result (Unit {0}) Refusal → Stage S → Type 0
OpenAnswers fault opened (Ok u) after = (fault ≡ None) × (after ≡ opened)
OpenAnswers fault opened (Err e) after = (fault ≡ Some e) ⊎ (e ≡ OutOfMemory RunLayer)

-- the place of a wire's token
abbrev pub place_of : List Place → ℕ → Result Place Refusal
place_of tokens w = cond (nat_lt w (length tokens)) (Ok (slice_index_or tokens w no_place)) (Err (NoSuchWire (record { 0 = w })))

-- run r and its target as they stand: its tokens, its moves so far, and what can be told of the target
abbrev pub stage_of : {S : Type 0} → Run → View S → Stage S
stage_of r v = record { tokens = vec_items r.books.places; moves = r.moves; target = v }

-- run r has just been made over a derivation: it has that derivation, each token at its start and no move
abbrev pub Fresh : List TypeEntry → List Row → Run → Type 0
Fresh es rows r = (vec_items r.machine.types ≡ es) × (vec_items r.machine.rows ≡ rows) × (vec_items r.books.places ≡ starts es rows) × (r.moves ≡ 0)

-- what Calls defines, on the derivation of run r, from where it and its target stand
module _ {S : Type 0} (takes : Gate → Bool) (applied : Gate → List ℕ → S → S) (r : Run) (v : View S) where
  -- the move of wire w
  abbrev pub move_in : ℕ → Result (Stage S) Refusal
  move_in w = move_of takes applied (vec_items r.machine.types) (vec_items r.machine.rows) (stage_of r v) w

  -- a sweep with a budget
  abbrev pub sweep_in : ℕ → Swept S
  sweep_in budget = sweep_of takes applied (vec_items r.machine.types) (vec_items r.machine.rows) budget (stage_of r v)

  -- how both stand after a call
  abbrev pub after_call_in : Call → Stage S
  after_call_in c = after_call takes applied (vec_items r.machine.types) (vec_items r.machine.rows) (stage_of r v) c

  -- how both stand after a list of calls
  abbrev pub after_calls_in : List Call → Stage S
  after_calls_in cs = after_calls takes applied (vec_items r.machine.types) (vec_items r.machine.rows) (stage_of r v) cs

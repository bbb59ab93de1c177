-- The calls of a run with its target: what each answers, and how both stand after it.
use Rattle.std.specs.Prelude.{ℕ, zero, suc, Bool, true, cond, not, ◌&&◌, List, [], ◌∷◌, length, Some, None, Ok, Err, Option, Result, nat_lt, slice_index_or}
use Rattle.basics.specs.declared.gate.Gate.{Gate}
use Rattle.basics.specs.declared.refusal.Refusal.{Refusal}
use Rattle.basics.specs.declared.refusal.Refusal.TheVariants.{NoSuchWire, AtHome, SeatEmpty}
use Rattle.derivation.specs.declared.types.TypeEntry.{TypeEntry}
use Rattle.derivation.specs.declared.rows.Row.{Row}
use Rattle.derivation.specs.declared.rows.Place.{Place}
use Rattle.theory.specs.Ports.{is_end}
use Rattle.theory.specs.Tokens.{Fired, Moved, no_place, movable, move}
use Rattle.target.specs.Interface.{View, apply_fault, applied_view}
use Rattle.run.specs.declared.call.Call.{Call}
use Rattle.run.specs.declared.call.Call.TheVariants.{Move, Sweep}

-- a run and its target as they stand: the place of each wire's token, the moves so far, and what can be told of the target
pub record Stage (S : Type 0) : Type 0 where
  pub tokens : List Place
  pub moves : ℕ
  pub target : View S

-- what a sweep answers, moves made and whether all are home, or a target's refusal; and how both stand after it
pub record Swept (S : Type 0) : Type 0 where
  pub answer : Result (ℕ × Bool) Refusal
  pub after : Stage S

-- one move more than a sweep from there makes
abbrev pub one_more : Result (ℕ × Bool) Refusal → Result (ℕ × Bool) Refusal
one_more (Ok a) = Ok (suc a.0, a.1)
one_more (Err e) = Err e

module _ (es : List TypeEntry) (rows : List Row) where
  -- all tokens are at ends
  abbrev pub all_home : List Place → Bool
  all_home [] = true
  all_home (t ∷ ts) = is_end es rows t && all_home ts

  -- the lowest wire, from w on, that can move
  abbrev pub lowest_from : List Place → ℕ → List Place → Option ℕ
  lowest_from tokens w [] = None
  lowest_from tokens w (t ∷ ts) = cond (movable es rows tokens t) (Some w) (lowest_from tokens (suc w) ts)

  unfoldable pub lowest : List Place → Option ℕ
  lowest tokens = lowest_from tokens 0 tokens

module _ {S : Type 0} (takes : Gate → Bool) (applied : Gate → List ℕ → S → S) where
  -- the target after a move: the gate that fired is applied, or refused
  abbrev pub played : View S → Option Fired → Result (View S) Refusal
  played v None = Ok v
  played v (Some f) = elim (apply_fault takes v f.gate f.wires) [ None ↦ Ok (applied_view applied v f.gate f.wires) | Some e ↦ Err e ]

  -- one move more, with this target
  abbrev pub moved_to : Stage S → Moved → Result (Stage S) Refusal
  moved_to s m = elim (played s.target m.fired) [ Ok v ↦ Ok (record { tokens = m.tokens; moves = suc s.moves; target = v }) | Err e ↦ Err e ]

module _ {S : Type 0} (takes : Gate → Bool) (applied : Gate → List ℕ → S → S) (es : List TypeEntry) (rows : List Row) where
  -- the move of wire w: how both stand after it, or why it is refused
  unfoldable pub move_of : Stage S → ℕ → Result (Stage S) Refusal
  move_of s w =
      cond (not (nat_lt w (length s.tokens))) (Err (NoSuchWire (record { 0 = w })))
      (cond (is_end es rows (slice_index_or s.tokens w no_place)) (Err (AtHome (record { 0 = w })))
      (elim (move es rows s.tokens w) [ None ↦ Err (SeatEmpty (record { 0 = w })) | Some m ↦ moved_to takes applied s m ]))

  -- a refused move changes nothing
  abbrev pub after_move : Stage S → ℕ → Stage S
  after_move s w = elim (move_of s w) [ Ok t ↦ t | Err e ↦ s ]

  -- a sweep that is over: all that it can still tell is whether all are home
  abbrev pub swept_out : Stage S → Swept S
  swept_out s = record { answer = Ok (0, all_home es rows s.tokens); after = s }

  -- a sweep that goes on after a move, or ends with the refusal of one
  abbrev pub swept_on : Result (Stage S) Refusal → Stage S → (Stage S → Swept S) → Swept S
  swept_on (Ok t) s rest = record { answer = one_more (rest t).answer; after = (rest t).after }
  swept_on (Err e) s rest = record { answer = Err e; after = s }

  -- a sweep moves the lowest wire that can move, again and again, at most as often as its budget says
  unfoldable pub sweep_of : ℕ → Stage S → Swept S
  sweep_of zero s = swept_out s
  sweep_of (suc b) s = elim (lowest es rows s.tokens) [ None ↦ swept_out s | Some w ↦ swept_on (move_of s w) s (λ t. sweep_of b t) ]

  abbrev pub after_call : Stage S → Call → Stage S
  after_call s (Move w) = after_move s w.0
  after_call s (Sweep b) = (sweep_of b s).after

  -- how both stand after a list of calls, refused ones included
  abbrev pub after_calls : Stage S → List Call → Stage S
  after_calls s [] = s
  after_calls s (c ∷ cs) = after_calls (after_call s c) cs

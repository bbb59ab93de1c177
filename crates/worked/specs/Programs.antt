-- Worked programs: what reading, opening, moves and sweeps make of them, on targets as they are made.
use Rattle.std.specs.Prelude.{◌≡◌, ℕ, Bool, true, false, List, [], ◌∷◌, map, length, replicate, Some, None, Ok, Err, Option, Result, slice_index}
use Rattle.basics.specs.Refusals.{number_of, layer_of, place_of}
use Rattle.basics.specs.declared.gate.Gate.{Gate}
use Rattle.basics.specs.declared.refusal.Refusal.{Refusal}
use Rattle.derivation.specs.Accepted.{Derivation}
use Rattle.derivation.specs.Examples.{bell, hx, swap, cx}
use Rattle.derivation.specs.Format.{derivation_of}
use Rattle.derivation.specs.Places.{given, wires, moves}
use Rattle.derivation.specs.Rows.{zero_row}
use Rattle.basics.specs.Sets.{has}
use Rattle.theory.specs.Ports.{ends}
use Rattle.theory.specs.Tokens.{wire_at}
use Rattle.target.specs.Interface.{View, all_codes}
use Rattle.layers.specs.Layers.{fresh, layered}
use Rattle.register.specs.Register.{Contents, acted, holding, prepared, takes_all_but_h}
use Rattle.run.specs.declared.call.Call.{Call}
use Rattle.run.specs.declared.call.Call.TheVariants.{Move}
use Rattle.run.specs.Calls.{after_calls, move_of, sweep_of}
use Rattle.run.specs.Opening.{open_fault, opened}

-- number, layer and place of a refusal; nothing where there is none
abbrev pub refusal : Refusal → List ℕ
refusal e = number_of e ∷ layer_of e ∷ place_of e ∷ []

abbrev pub fault : Option Refusal → List ℕ
fault None = []
fault (Some e) = refusal e

abbrev pub refused : {A : Type 0} → Result A Refusal → List ℕ
refused (Ok a) = []
refused (Err e) = refusal e

-- new layers, a new register that sets nothing, and a list of n records, as they are seen
abbrev pub new_layers : View (List ℕ)
new_layers = record { state = replicate 32 0; used = 0; count = 0; width = 32; capacity = 65535 }

abbrev pub new_register : View Contents
new_register = record { state = holding 0 0 0; used = 0; count = 0; width = 16; capacity = 65535 }

abbrev pub room_for : {S : Type 0} → ℕ → S → View S
room_for n s = record { state = s; used = 0; count = 0; width = 32; capacity = n }

-- a derivation walked on layers: what a sweep of 100 answers, the wires at the ends, and the layers of wires 0 and 1
pub record Walked : Type 0 where
  pub answer : Result (ℕ × Bool) Refusal
  pub wires_at_ends : List ℕ
  pub layers : List ℕ

abbrev pub layers_of : Result Derivation Refusal → Walked
layers_of (Ok d) =
    let s = sweep_of all_codes layered d.types d.rows 100 (opened d.types d.rows fresh new_layers) in
    record {
      answer = s.answer;
      wires_at_ends = map (wire_at s.after.tokens) (ends d.types d.rows);
      layers = slice_index s.after.target.state 0 ∷ slice_index s.after.target.state 1 ∷ [];
    }
layers_of (Err e) = record { answer = Err e; wires_at_ends = []; layers = [] }

-- a derivation walked on a register: the bits of wires 0 and 1, and the phase
abbrev pub bits_of : Result Derivation Refusal → (Bool × Bool) × ℕ
bits_of (Ok d) =
    let s = (sweep_of takes_all_but_h acted d.types d.rows 100 (opened d.types d.rows prepared new_register)).after.target.state in
    ((has s.bits 0, has s.bits 1), s.phase)
bits_of (Err e) = ((false, false), 8)

-- given wires and moves
abbrev pub counts_of : Result Derivation Refusal → List ℕ
counts_of (Ok d) = length (given d.types d.rows) ∷ moves d.types d.rows ∷ []
counts_of (Err e) = []

-- why a move is refused after some calls on layers
abbrev pub move_refused : Result Derivation Refusal → List Call → ℕ → List ℕ
move_refused (Ok d) calls w = refused (move_of all_codes layered d.types d.rows (after_calls all_codes layered d.types d.rows (opened d.types d.rows fresh new_layers) calls) w)
move_refused (Err e) calls w = []

-- why open is refused, by what a target takes and how it is seen
abbrev pub open_refused : {S : Type 0} → Result Derivation Refusal → (Gate → Bool) → View S → List ℕ
open_refused (Ok d) takes v = fault (open_fault d.types d.rows takes v)
open_refused (Err e) takes v = []

pub record Programs : Type 0 where
  -- Bell has 10 moves and layers 2 and 2
  pub bell_walked : layers_of (derivation_of (bell 5)) ≡ record { answer = Ok (10, true); wires_at_ends = 0 ∷ 1 ∷ []; layers = 2 ∷ 2 ∷ [] }
  -- a new holder has one wire and no move, and a sweep of 0 answers so
  pub new_swept : (wires [] (zero_row ∷ []) ≡ 1) × (moves [] (zero_row ∷ []) ≡ 0) × ((sweep_of all_codes layered [] (zero_row ∷ []) 0 (opened [] (zero_row ∷ []) fresh new_layers)).answer ≡ Ok (0, true))
  -- h on a free variable has one given wire and 5 moves
  pub hx_counted : counts_of (derivation_of hx) ≡ 1 ∷ 5 ∷ []
  -- the swap has 10 moves, and wire 1 comes to end 0
  pub swap_walked : layers_of (derivation_of swap) ≡ record { answer = Ok (10, true); wires_at_ends = 1 ∷ 0 ∷ []; layers = 0 ∷ 0 ∷ [] }
  -- cx on one with zero has 7 moves, and leaves bits 1 and 1 and phase 0
  pub cx_walked : (counts_of (derivation_of cx) ≡ 0 ∷ 7 ∷ []) × (bits_of (derivation_of cx) ≡ ((true, true), 0))
  -- empty input is refused
  pub empty_refused : refused (derivation_of []) ≡ 1 ∷ 1 ∷ 0 ∷ []
  -- so is Bell with 4 as its last byte: row 6 takes a premise that is taken
  pub bell_refused : refused (derivation_of (bell 4)) ≡ 12 ∷ 3 ∷ 6 ∷ []
  -- Bell just opened: the third move of wire 1 waits for wire 0
  pub bell_waits : move_refused (derivation_of (bell 5)) (Move (record { 0 = 1 }) ∷ Move (record { 0 = 1 }) ∷ []) 1 ≡ 32 ∷ 5 ∷ 1 ∷ []
  -- Bell's h is not taken by a register, and its two gates have no room in a list of one record
  pub bell_unfit : (open_refused (derivation_of (bell 5)) takes_all_but_h new_register ≡ 22 ∷ 5 ∷ 1 ∷ []) × (open_refused (derivation_of (bell 5)) all_codes (room_for 1 new_layers.state) ≡ 21 ∷ 5 ∷ 2 ∷ [])

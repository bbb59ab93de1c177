-- What a sweep answers: it makes as many moves as its budget, or as are left (sweep-well), and no target refuses any of them.
use Rattle.std.proofs.Common.{◌≡◌, ℕ, zero, suc, ◌+◌, ◌-◌, ◌<◌, ◌≤◌, min, Bool, true, false, ltb, List, [], ◌∷◌, length, get_or, Some, None, Ok, Err, sym, refl, ap, ◌∙◌, subst, ⊎_elim, arith}
use mathlib.Core.Path.{subst⁻¹}
use Rattle.std.proofs.lemmas.Bool.{cases_Bool, both_ways, cond-true, cond-false, lt-ltb}
use Rattle.basics.specs.declared.gate.Gate.{Gate}
use Rattle.basics.specs.declared.refusal.Refusal.{Refusal}
use Rattle.derivation.specs.declared.types.TypeEntry.{TypeEntry}
use Rattle.derivation.specs.declared.rows.Row.{Row}
use Rattle.derivation.specs.declared.rows.Place.{Place}
use Rattle.derivation.specs.Places.{wires, moves}
use Rattle.theory.specs.Ports.{is_end}
use Rattle.theory.specs.Tokens.{Moved, no_place, movable, move}
use Rattle.theory.specs.Laws.{Firing}
use Rattle.theory.specs.Theory.{Theory}
use Rattle.theory.proofs.Progress.{reached-length}
use Rattle.theory.proofs.Basics.{none_some, same_some}
use Rattle.target.specs.Interface.{View}
use Rattle.run.specs.Calls.{Stage, Swept, one_more, all_home, lowest_from, lowest, move_of, swept_out, sweep_of}
use Rattle.run.specs.Opening.{open_fault}
use Rattle.derivation.proofs.FaultLaws.{cond_none}
use Rattle.run.proofs.Going.{Going, cases_option, stepped, stepped-going, move-ok}

module _ (es : List TypeEntry) (rows : List Row) where
  -- a wire that is found can move
  found_from : (tokens : List Place) (k : ℕ) (ts : List Place) (w : ℕ) → lowest_from es rows tokens k ts ≡ Some w
      → (i : ℕ) × (w ≡ k + i) × (i < length ts) × (movable es rows tokens (get_or ts i no_place) ≡ true)
  found_from tokens k [] w e = absurd (none_some e)
  found_from tokens k (t ∷ ts) w e =
      ⊎_elim
      (λ h. let q = same_some (sym (cond-true (movable es rows tokens t) (Some k) _ h) ∙ e) in (0, omega arith, omega arith, h))
      (λ h. let (i, q, l, m) = found_from tokens (suc k) ts w (sym (cond-false (movable es rows tokens t) (Some k) _ h) ∙ e) in (suc i, omega arith, omega arith, m))
      (cases_Bool (movable es rows tokens t))

  -- the same of all tokens
  pub found : (tokens : List Place) (w : ℕ) → lowest es rows tokens ≡ Some w → (w < length tokens) × (movable es rows tokens (get_or tokens w no_place) ≡ true)
  unfolding lowest
  found tokens w e =
      let (i, q, l, m) = found_from tokens 0 tokens w e in
      let same : w ≡ i = omega arith in
      (omega arith, subst (λ j. movable es rows tokens (get_or tokens j no_place) ≡ true) (sym same) m)

  -- if none is found, none can
  none_from : (tokens : List Place) (k : ℕ) (ts : List Place) → lowest_from es rows tokens k ts ≡ None → (i : ℕ) → i < length ts → movable es rows tokens (get_or ts i no_place) ≡ false
  none_from tokens k [] e i h = absurd (omega arith)
  none_from tokens k (t ∷ ts) e zero h = (cond_none _ k _ e).0
  none_from tokens k (t ∷ ts) e (suc i) h = none_from tokens (suc k) ts (cond_none (movable es rows tokens t) k _ e).1 i (omega arith)

  -- the same of all tokens
  pub none_found : (tokens : List Place) → lowest es rows tokens ≡ None → (w : ℕ) → w < length tokens → movable es rows tokens (get_or tokens w no_place) ≡ false
  unfolding lowest
  none_found tokens e = none_from tokens 0 tokens e

  -- a wire that can move has a move
  pub can_move : (tokens : List Place) (w : ℕ) → w < length tokens → movable es rows tokens (get_or tokens w no_place) ≡ true → (m : Moved) × (move es rows tokens w ≡ Some m)
  unfolding move
  can_move tokens w h can = (_, cond-true (ltb w (length tokens)) _ _ (lt-ltb _ _ h) ∙ cond-true (movable es rows tokens (get_or tokens w no_place)) _ _ can)

module _ {S : Type 0} (takes : Gate → Bool) (applied : Gate → List ℕ → S → S) (es : List TypeEntry) (rows : List Row) where
  -- a sweep without budget is over
  pub sweep_none : (s : Stage S) → sweep_of takes applied es rows 0 s ≡ swept_out takes applied es rows s
  unfolding sweep_of
  sweep_none s = refl

  -- a sweep with budget left ends where no wire can move
  pub sweep_ends : (b : ℕ) (s : Stage S) → lowest es rows s.tokens ≡ None → sweep_of takes applied es rows (suc b) s ≡ swept_out takes applied es rows s
  unfolding sweep_of
  sweep_ends b s e = rw (e, sweep_of)

  -- and otherwise goes on after a move that is accepted
  pub sweep_on : (b : ℕ) (s t : Stage S) (w : ℕ) → lowest es rows s.tokens ≡ Some w → move_of takes applied es rows s w ≡ Ok t
      → sweep_of takes applied es rows (suc b) s ≡ record { answer = one_more (sweep_of takes applied es rows b t).answer; after = (sweep_of takes applied es rows b t).after }
  unfolding sweep_of
  sweep_on b s t w e ok = rw (e, sweep_of) (rw ok)

  -- or ends with the refusal of one
  pub sweep_off : (b : ℕ) (s : Stage S) (w : ℕ) (f : Refusal) → lowest es rows s.tokens ≡ Some w → move_of takes applied es rows s w ≡ Err f
      → sweep_of takes applied es rows (suc b) s ≡ record { answer = Err f; after = s }
  unfolding sweep_of
  sweep_off b s w f e refused = rw (e, sweep_of) (rw refused)

module _ {S : Type 0} (takes : Gate → Bool) (begin : ℕ → ℕ → ℕ → S → S) (applied : Gate → List ℕ → S → S) (es : List TypeEntry) (rows : List Row) where
  module _ (theory : Theory es rows) (firing : Firing es rows) (v : View S) (fine : open_fault es rows takes v ≡ None) where
    -- each wire has a token
    pub going-length : (s : Stage S) → Going takes begin applied es rows v s → length s.tokens ≡ wires es rows
    going-length s g = reached-length es rows theory.begins g.reached

    -- where no wire is found that can move, all moves are made
    ended : (s : Stage S) → Going takes begin applied es rows v s → lowest es rows s.tokens ≡ None → s.moves ≡ moves es rows
    ended s g e =
        (theory.count s.tokens s.moves g.fired g.reached).0.0
        (λ w h. ⊎_elim (λ t. t)
        (λ f.
        let (u, l, can) = (theory.progress s.tokens s.moves g.fired g.reached).1 (w, h, f) in
        let long = going-length s g in
        absurd (both_ways _ (none_found es rows s.tokens e u (omega arith)) can))
        (cases_Bool (is_end es rows (get_or s.tokens w no_place))))

    -- how a sweep from s ends
    abbrev SweptWell : ℕ → Stage S → Swept S → Type 0
    SweptWell b s r = Going takes begin applied es rows v r.after × (r.answer ≡ Ok (min b (moves es rows - s.moves), all_home es rows r.after.tokens))

    -- a sweep that is over has ended so, if no move was due
    out-well : (b : ℕ) (s : Stage S) → Going takes begin applied es rows v s → min b (moves es rows - s.moves) ≡ 0 → SweptWell b s (swept_out takes applied es rows s)
    out-well b s g e = (g, ap (λ (n : ℕ). Ok (n, all_home es rows s.tokens)) (sym e))

    -- one that goes on after a move has ended so, if the rest did
    on-well : (b : ℕ) (s t : Stage S) (r : Swept S) → t.moves ≡ suc s.moves → t.moves ≤ moves es rows → SweptWell b t r
        → SweptWell (suc b) s (record { answer = one_more r.answer; after = r.after })
    on-well b s t r one few (g, e) =
        let more : suc (min b (moves es rows - t.moves)) ≡ min (suc b) (moves es rows - s.moves) = omega arith in
        (g, ap one_more e ∙ ap (λ (n : ℕ). Ok (n, all_home es rows r.after.tokens)) more)

    -- a sweep makes as many moves as its budget, or as are left, and leads on as the machine does
    pub sweep-well : (b : ℕ) (s : Stage S) → Going takes begin applied es rows v s → SweptWell b s (sweep_of takes applied es rows b s)
    sweep-well zero s g = subst⁻¹ (SweptWell 0 s) (sweep_none takes applied es rows s) (out-well 0 s g (omega arith))
    sweep-well (suc b) s g =
        ⊎_elim (λ none. let all = ended s g none in subst⁻¹ (SweptWell (suc b) s) (sweep_ends takes applied es rows b s none) (out-well (suc b) s g (omega arith)))
        (λ (w, some).
        let (h, can) = found es rows s.tokens w some in
        let (m, e) = can_move es rows s.tokens w h can in
        let t = stepped takes begin applied es rows s m in
        let k = stepped-going takes begin applied es rows theory firing v fine s g w m e in
        subst⁻¹ (SweptWell (suc b) s) (sweep_on takes applied es rows b s t w some (move-ok takes begin applied es rows theory firing v fine s g w m e))
        (on-well b s t (sweep_of takes applied es rows b t) refl (theory.count t.tokens t.moves k.fired k.reached).1 (sweep-well b t k)))
        (cases_option (lowest es rows s.tokens))

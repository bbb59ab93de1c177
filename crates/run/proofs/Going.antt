-- How run and target stand between calls (Going), and that a move which the machine has is never refused by the target (move-ok).
use Rattle.std.proofs.Common.{◌≡◌, ℕ, suc, ◌<◌, Bool, true, not, ltb, leb, ◌⊎◌, List, [], ◌∷◌, ◌++◌, length, get_or, Some, None, Ok, Err, Option, Result, sym, refl, ap, ◌∙◌, subst, inl, inr, ⊎_elim, arith}
use Rattle.std.specs.Option.{option_to_list}
use Rattle.std.specs.List.{AllByRecursion as All}
use Rattle.std.proofs.lemmas.Bool.{cases_Bool, and_parts, and_from, cond-true, cond-false, not-true, not_from_true, eq-eqb, lt-ltb, lt-leb}
use Rattle.std.proofs.lemmas.List.{length-append}
use Rattle.std.proofs.ByRecursion.{All-append}
use Rattle.basics.specs.declared.gate.Gate.{Gate}
use Rattle.basics.specs.declared.refusal.Refusal.{Refusal}
use Rattle.basics.specs.declared.refusal.Refusal.TheVariants.{SeatEmpty}
use Rattle.derivation.specs.declared.types.TypeEntry.{TypeEntry}
use Rattle.derivation.specs.declared.rows.Row.{Row}
use Rattle.theory.specs.Ports.{is_end}
use Rattle.theory.specs.Tokens.{Fired, Moved, no_place, move}
use Rattle.theory.specs.Runs.{Reached, begun, moved}
use Rattle.theory.specs.Gates.{acted}
use Rattle.theory.specs.Laws.{Firing}
use Rattle.theory.specs.Theory.{Theory}
use Rattle.theory.proofs.Progress.{move_facts}
use Rattle.target.specs.Interface.{View, seated, apply_fault, applied_view}
use Rattle.run.specs.Calls.{Stage, played, moved_to, move_of, after_move}
use Rattle.run.specs.Opening.{open_fault, opened, used_set}
use Rattle.run.specs.Guarantee.{circuit}
use Rattle.run.proofs.Openings.{roomy, taken}
use Rattle.run.proofs.Exchange.{Fits}

-- an option is empty or not
pub cases_option : {A : Type 0} (o : Option A) → (o ≡ None) ⊎ ((x : A) × (o ≡ Some x))
cases_option None = inl refl
cases_option (Some x) = inr (x, refl)

-- what is accepted is not refused
pub ok_err : {A E : Type 0} {x : A} {e : E} → ◌≡◌ {A = Result A E} (Ok x) (Err e) → ⊥
ok_err q = let z : ◌≡◌ {A = ℕ} 0 1 = cc in omega arith

module _ {S : Type 0} (takes : Gate → Bool) (begin : ℕ → ℕ → ℕ → S → S) (applied : Gate → List ℕ → S → S) (es : List TypeEntry) (rows : List Row) where
  -- what is known of run and target after open of a target v and some calls
  pub record Going (v : View S) (s : Stage S) : Type 0 where
    pub fired : List Fired
    pub reached : Reached es rows s.tokens s.moves fired
    pub state : s.target.state ≡ circuit takes begin applied es rows v.state fired
    pub used : s.target.used ≡ used_set es rows
    pub count : s.target.count ≡ length fired
    pub capacity : s.target.capacity ≡ v.capacity
    pub fit : All (Fits takes (used_set es rows)) fired

  -- it is so after open
  pub opened_going : (v : View S) → Going v (opened es rows begin v)
  opened_going v = record { fired = []; reached = begun; state = refl; used = refl; count = refl; capacity = refl; fit = tt }

  -- the target after a gate that is not refused, if one fired
  abbrev pub with_fired : View S → Option Fired → View S
  with_fired v None = v
  with_fired v (Some f) = applied_view applied v f.gate f.wires

  -- run and target after a move that is not refused
  abbrev pub stepped : Stage S → Moved → Stage S
  stepped s m = record { tokens = m.tokens; moves = suc s.moves; target = with_fired s.target m.fired }

  -- a gate that the target takes, with its wires in their seats, is applied while there is room
  not_refused : (v : View S) (f : Fired) → takes f.gate ≡ true → seated v.used f.gate f.wires ≡ true → v.count < v.capacity
      → apply_fault takes v f.gate f.wires ≡ None
  not_refused v f t i h =
      cond-false (not (takes f.gate)) _ _ (not_from_true _ t)
      ∙ cond-false (not (seated v.used f.gate f.wires)) _ _ (not_from_true _ i)
      ∙ cond-false (leb v.capacity v.count) _ _ (lt-leb _ _ h)

  -- if a gate that fired is not refused, the target stands after it as told
  played_ok : (v : View S) (o : Option Fired) → ((f : Fired) → o ≡ Some f → apply_fault takes v f.gate f.wires ≡ None) → played takes applied v o ≡ Ok (with_fired v o)
  played_ok v None fine = refl
  played_ok v (Some f) fine = rw (fine f refl, played)

  -- what gates and then one more, if one fired, make of a state
  acted-more : (act : Fired → S → S) (s : S) (fs gs : List Fired) → acted act s (fs ++ gs) ≡ acted act (acted act s fs) gs
  acted-more act s [] gs = refl
  acted-more act s (f ∷ fs) gs = acted-more act (act f s) fs gs

  -- what is told of the target after a gate, if one fired
  fired-state : (v : View S) (o : Option Fired) → (with_fired v o).state ≡ acted (λ f. applied f.gate f.wires) v.state (option_to_list o)
  fired-state v None = refl
  fired-state v (Some f) = refl

  fired-used : (v : View S) (o : Option Fired) → (with_fired v o).used ≡ v.used
  fired-used v None = refl
  fired-used v (Some f) = refl

  fired-capacity : (v : View S) (o : Option Fired) → (with_fired v o).capacity ≡ v.capacity
  fired-capacity v None = refl
  fired-capacity v (Some f) = refl

  fired-count : (v : View S) (fs : List Fired) (o : Option Fired) → v.count ≡ length fs → (with_fired v o).count ≡ length (fs ++ option_to_list o)
  fired-count v fs None e = omega (arith, length-append fs [])
  fired-count v fs (Some f) e = omega (arith, length-append fs (f ∷ []))

  all-fired : (P : Fired → Type 0) (fs : List Fired) (o : Option Fired) → All P fs → ((f : Fired) → o ≡ Some f → P f) → All P (fs ++ option_to_list o)
  all-fired P fs None all one = All-append P fs [] all tt
  all-fired P fs (Some f) all one = All-append P fs (f ∷ []) all (one f refl, tt)

  -- a move that the machine does not have is refused
  pub move_refused_lem : (s : Stage S) (w : ℕ) → move es rows s.tokens w ≡ None → (e : Refusal) × (move_of takes applied es rows s w ≡ Err e)
  unfolding move_of
  move_refused_lem s w e =
      ⊎_elim (λ t. (_, cond-true _ _ _ t))
      (λ t. ⊎_elim (λ u. (_, cond-false _ _ _ t ∙ cond-true _ _ _ u)) (λ u. (SeatEmpty (record { 0 = w }), cond-false _ _ _ t ∙ cond-false _ _ _ u ∙ rw e)) (cases_Bool (is_end es rows (get_or s.tokens w no_place))))
      (cases_Bool (not (ltb w (length s.tokens))))

  -- a move that is accepted is one of the machine
  pub move_found : (s : Stage S) (w : ℕ) (t : Stage S) → move_of takes applied es rows s w ≡ Ok t → (m : Moved) × (move es rows s.tokens w ≡ Some m)
  move_found s w t ok = ⊎_elim (λ none. let (e, q) = move_refused_lem s w none in absurd (ok_err (sym ok ∙ q))) (λ f. f) (cases_option (move es rows s.tokens w))

  module _ (theory : Theory es rows) (firing : Firing es rows) (v : View S) (fine : open_fault es rows takes v ≡ None) where
    -- a move of the machine
    module _ (s : Stage S) (g : Going v s) (w : ℕ) (m : Moved) (e : move es rows s.tokens w ≡ Some m) where
      -- a gate that it fires is taken, and its wires are in their seats
      fits-fired : (f : Fired) → m.fired ≡ Some f → Fits takes (used_set es rows) f
      fits-fired f q =
          let (r, h, rule) = firing.of_row s.tokens s.moves g.fired g.reached w m f e q in
          let (many, within) = firing.seated s.tokens s.moves g.fired g.reached w m f e q in
          (taken takes begin es rows v fine r f.gate h rule, and_from _ _ (eq-eqb _ _ many) within)

      -- and there is room for it
      room-fired : (f : Fired) → m.fired ≡ Some f → s.target.count < s.target.capacity
      room-fired f q =
          let few = firing.few m.tokens (suc s.moves) (g.fired ++ option_to_list m.fired) (moved g.reached w m e) in
          let one = ap (λ (o : Option Fired). length (g.fired ++ option_to_list o)) q ∙ length-append g.fired (f ∷ []) in
          let room = roomy takes begin es rows v fine in
          let c = g.count in
          let k = g.capacity in
          omega arith

      -- so the target does not refuse it
      applied-fired : (f : Fired) → m.fired ≡ Some f → apply_fault takes s.target f.gate f.wires ≡ None
      applied-fired f q =
          let (t, i) = fits-fired f q in
          not_refused s.target f t (subst (λ u. seated u f.gate f.wires ≡ true) (sym g.used) i) (room-fired f q)

      -- the move leads on as the machine does
      pub stepped-going : Going v (stepped s m)
      stepped-going = record {
        fired = g.fired ++ option_to_list m.fired;
        reached = moved g.reached w m e;
        state = fired-state s.target m.fired ∙ ap (λ x. acted (λ f. applied f.gate f.wires) x (option_to_list m.fired)) g.state ∙ sym (acted-more _ _ g.fired (option_to_list m.fired));
        used = fired-used s.target m.fired ∙ g.used;
        count = fired-count s.target g.fired m.fired g.count;
        capacity = fired-capacity s.target m.fired ∙ g.capacity;
        fit = all-fired _ g.fired m.fired g.fit fits-fired;
      }

      -- and is not refused
      pub move-ok : move_of takes applied es rows s w ≡ Ok (stepped s m)
      unfolding move_of
      move-ok =
          let (h, can, after, fires) = move_facts es rows s.tokens w m e in
          let no_end = not-true _ (and_parts (not (is_end es rows (get_or s.tokens w no_place))) _ can).0 in
          cond-false (not (ltb w (length s.tokens))) _ _ (not_from_true _ (lt-ltb _ _ h))
          ∙ cond-false (is_end es rows (get_or s.tokens w no_place)) _ _ no_end
          ∙ rw e (rw (played_ok s.target m.fired applied-fired, moved_to))

    -- what is known of run and target is so after a move, accepted or not
    pub move-going : (s : Stage S) → Going v s → (w : ℕ) → Going v (after_move takes applied es rows s w)
    move-going s g w =
        ⊎_elim (λ none. let (e, q) = move_refused_lem s w none in rw (q, after_move) g) (λ (m, some). rw (move-ok s g w m some, after_move) (stepped-going s g w m some)) (cases_option (move es rows s.tokens w))

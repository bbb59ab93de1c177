-- The guarantee of an opened run: whatever its calls, run and target stand as the machine and its gates do (after-going), so all laws of the machine hold of it.
use Rattle.std.proofs.Common.{◌≡◌, ℕ, ◌<◌, Bool, false, ◌↔◌, List, [], ◌∷◌, get_or, None, Ok, sym, ap, ◌∙◌, arith}
use Rattle.basics.specs.declared.gate.Gate.{Gate}
use Rattle.derivation.specs.declared.types.TypeEntry.{TypeEntry}
use Rattle.derivation.specs.declared.rows.Row.{Row}
use Rattle.derivation.specs.Places.{wires}
use Rattle.theory.specs.Ports.{is_end}
use Rattle.theory.specs.Tokens.{no_place}
use Rattle.theory.specs.Laws.{Home, Firing}
use Rattle.theory.specs.Theory.{Theory}
use Rattle.theory.proofs.Progress.{move_facts}
use Rattle.target.specs.Interface.{View, Commutes}
use Rattle.run.specs.declared.call.Call.{Call}
use Rattle.run.specs.declared.call.Call.TheVariants.{Move, Sweep}
use Rattle.run.specs.Calls.{Stage, move_of, after_call, after_calls}
use Rattle.run.specs.Opening.{open_fault, opened, used_set}
use Rattle.run.specs.Guarantee.{after, circuit, Guarantee}
use Rattle.run.proofs.Exchange.{acts_equal}
use Rattle.run.proofs.Going.{Going, opened_going, move-ok, move_found, move-going}
use Rattle.run.proofs.Sweeps.{can_move, going-length, sweep-well}

module _ {S : Type 0} (takes : Gate → Bool) (begin : ℕ → ℕ → ℕ → S → S) (applied : Gate → List ℕ → S → S) (es : List TypeEntry) (rows : List Row)
    (theory : Theory es rows) (firing : Firing es rows) where
  module _ (v : View S) (fine : open_fault es rows takes v ≡ None) where
    -- what is known of run and target is so after a call
    call-going : (s : Stage S) → Going takes begin applied es rows v s → (c : Call) → Going takes begin applied es rows v (after_call takes applied es rows s c)
    call-going s g (Move w) = move-going takes begin applied es rows theory firing v fine s g w.0
    call-going s g (Sweep b) = (sweep-well takes begin applied es rows theory firing v fine b s g).0

    -- and after a list of calls
    calls-going : (s : Stage S) → Going takes begin applied es rows v s → (calls : List Call) → Going takes begin applied es rows v (after_calls takes applied es rows s calls)
    calls-going s g [] = g
    calls-going s g (c ∷ cs) = calls-going (after_call takes applied es rows s c) (call-going s g c) cs

    -- so it is after open and some calls
    pub after-going : (calls : List Call) → Going takes begin applied es rows v (after takes begin applied es rows v calls)
    after-going calls = calls-going (opened es rows begin v) (opened_going takes begin applied es rows v) calls

    -- some wire's move is accepted exactly while some token is not home
    goes-iff : (s : Stage S) → Going takes begin applied es rows v s
        → ((w : ℕ) × (t : Stage S) × (move_of takes applied es rows s w ≡ Ok t)) ↔ ((w : ℕ) × (w < wires es rows) × (is_end es rows (get_or s.tokens w no_place) ≡ false))
    goes-iff s g =
        let (forth, back) = theory.progress s.tokens s.moves g.fired g.reached in
        let long = going-length takes begin applied es rows theory firing v fine s g in (
          (λ (w, t, ok).
              let (m, e) = move_found takes begin applied es rows s w t ok in
              let (h, can, _, _) = move_facts es rows s.tokens w m e in
              forth (w, omega arith, can)),
          (λ waits.
              let (w, h, can) = back waits in
              let (m, e) = can_move es rows s.tokens w (omega arith) can in
              (w, _, move-ok takes begin applied es rows theory firing v fine s g w m e)),
        )

  -- two targets with equal states before open have equal states once all tokens are home
  same_states : Commutes takes applied → (v u : View S) (s t : Stage S) → Going takes begin applied es rows v s → Going takes begin applied es rows u t → u.state ≡ v.state
      → Home es rows s.tokens → Home es rows t.tokens → s.target.state ≡ t.target.state
  same_states commutes v u s t g k e hs ht =
      g.state
      ∙ ap (λ (x : S). circuit takes begin applied es rows x g.fired) (sym e)
      ∙ acts_equal takes applied commutes (used_set es rows) g.fired k.fired g.fit
      (theory.swapped s.tokens t.tokens s.moves t.moves g.fired k.fired g.reached k.reached hs ht) _
      ∙ sym k.state

-- the guarantee
pub guarantee : {S : Type 0} (takes : Gate → Bool) (begun : ℕ → ℕ → ℕ → S → S) (applied : Gate → List ℕ → S → S) → Commutes takes applied →
    (es : List TypeEntry) (rows : List Row) → Theory es rows → (v : View S) → open_fault es rows takes v ≡ None → Guarantee takes begun applied es rows v
guarantee takes begun applied commutes es rows theory v fine =
    let firing = theory.fires in
    let going = after-going takes begun applied es rows theory firing v fine in
    record {
      goes_on = λ calls. goes-iff takes begun applied es rows theory firing v fine _ (going calls);
      counted = λ calls. let g = going calls in (theory.count _ _ g.fired g.reached).0;
      swept = λ calls b. (sweep-well takes begun applied es rows theory firing v fine b (after takes begun applied es rows v calls) (going calls)).1;
      ends_known = λ calls home. let g = going calls in theory.foreseen _ _ g.fired g.reached home;
      made = λ calls. let g = going calls in (g.fired, g.reached, g.state);
      alike = λ u sound e calls others hs ht.
          same_states takes begun applied es rows theory firing commutes v u _ _ (going calls) (after-going takes begun applied es rows theory firing u sound others) e hs ht;
    }

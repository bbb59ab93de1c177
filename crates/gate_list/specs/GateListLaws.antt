-- Laws of gate lists: a begin empties them, a further record is met by the wires of its gate, and gates without a common wire commute.
use Rattle.std.specs.Prelude.{◌≡◌, ℕ, zero, suc, ◌+◌, ◌<◌, ◌≤◌, min, Bool, true, false, cond, List, [], ◌∷◌, ◌++◌, map, length, get_or, take, replicate, is_some, Option, Some, None, ◌≢◌, nat_lt, slice_index_or, slice_set, refl}
use Rattle.std.proofs.Common.{Bor, sym, ◌∙◌, ap, ap₂, append-nil, add-zero, zero-add, add-one, arith}
use Rattle.std.specs.Option.{IfSome, option_copied, option_map}
use Rattle.std.specs.List.{slice_get}
use Rattle.std.proofs.lemmas.List.Elements.{filter-append}
use Rattle.std.proofs.lemmas.List.{take_more_set, take-map, take-take, take_at, map_push, length-set}
use Rattle.std.proofs.lemmas.Bool.{ltb-false, ltb-true}
use Rattle.std.proofs.lemmas.Option.{slice_get-map, slice_get_past, slice_get_read}
use Rattle.basics.specs.declared.gate.Gate.{Gate}
use Rattle.basics.specs.declared.numbers.Wire.{Wire}
use Rattle.basics.specs.Gates.{arity}
use Rattle.target.specs.Interface.{numbers_of, applied_view, shares, apart_from}
use Rattle.target.proofs.WireLaws.{apart-wires, arity_few}
use Rattle.gate_list.specs.declared.Applied.{Applied}
use Rattle.gate_list.specs.GateList.{Met, State, met_of, seats_of, applied_of, recorded, meetings, by_wire, meets, emptied, lengthened, state_of, list_view, MeetsEach, MetByRecords}

-- no gate, no meeting
pub none_by_wire : (w n : ℕ) → by_wire w n [] ≡ replicate n []
unfolding by_wire
none_by_wire w zero = refl
none_by_wire w (suc n) = ap (λ l. [] ∷ l) (none_by_wire (suc w) n)

-- the list of each wire
pub by_wire_at : (ms : List Met) (w n i : ℕ) → i < n → slice_index_or (by_wire w n ms) i [] ≡ meetings (w + i) ms
unfolding by_wire
by_wire_at ms w zero i l = absurd (omega arith)
by_wire_at ms w (suc n) zero l = ap (λ k. meetings k ms) (sym (add-zero w))
by_wire_at ms w (suc n) (suc i) l =
    let next : suc w + i ≡ w + suc i = omega arith in
    by_wire_at ms (suc w) n i (omega arith) ∙ ap (λ k. meetings k ms) next

pub meets_at : (m : Met) (w : ℕ) (ls : List (List Met)) (i : ℕ) → i < length ls → slice_index_or (meets m w ls) i [] ≡ cond (shares (w + i) m.wires) (slice_index_or ls i [] ++ m ∷ []) (slice_index_or ls i [])
unfolding meets
meets_at m w [] i h = absurd (omega arith)
meets_at m w (l ∷ ls) zero h = ap (λ k. cond (shares k m.wires) (l ++ m ∷ []) l) (sym (add-zero w))
meets_at m w (l ∷ ls) (suc i) h =
    let next : suc w + i ≡ w + suc i = omega arith in
    meets_at m (suc w) ls i (omega arith) ∙ ap (λ k. cond (shares k m.wires) (slice_index_or ls i [] ++ m ∷ []) (slice_index_or ls i [])) next

-- the meetings of one wire, with one more gate
one_more_lem : (b : Bool) (l : List Met) (m : Met) → l ++ cond b (m ∷ []) [] ≡ cond b (l ++ m ∷ []) l
one_more_lem true l m = refl
one_more_lem false l m = append-nil l

meetings-push : (w : ℕ) (ms : List Met) (m : Met) → meetings w (ms ++ m ∷ []) ≡ cond (shares w m.wires) (meetings w ms ++ m ∷ []) (meetings w ms)
meetings-push w ms m = filter-append (λ (x : Met). shares w x.wires) ms (m ∷ []) ∙ one_more_lem (shares w m.wires) (meetings w ms) m

-- a further gate comes to the lists of its wires
pub by_wire_push : (m : Met) (ms : List Met) (w n : ℕ) → by_wire w n (ms ++ m ∷ []) ≡ meets m w (by_wire w n ms)
unfolding by_wire meets
by_wire_push m ms w zero = refl
by_wire_push m ms w (suc n) = ap₂ (λ (l : List Met) (ls : List (List Met)). l ∷ ls) (meetings-push w ms m) (by_wire_push m ms (suc w) n)

-- the wires of a record begin with those of its gate
seats_front : (ws : List Wire) (n : ℕ) → length ws ≡ n → n ≤ 3 → take n (numbers_of (seats_of ws)) ≡ numbers_of ws
seats_front ws n e le =
    let pad : List Wire = replicate 3 (record { 0 = 0 }) in
    take-map (λ (w : Wire). w.0) n (take 3 (ws ++ pad)) ∙ ap numbers_of (take-take n 3 (ws ++ pad) le ∙ take_at ws pad n e)

-- a gate and its wires, written down and read again
read_back : (g : Gate) (ws : List Wire) → length ws ≡ arity g → met_of (applied_of g ws) ≡ record { gate = g; wires = numbers_of ws }
read_back g ws e = ap (λ (l : List ℕ). record { gate = g; wires = l }) (seats_front ws (arity g) e (arity_few g))

-- one more record is one more gate
pub recorded-push : (items : List Applied) (n : ℕ) (g : Gate) (ws : List Wire) → n < length items → length ws ≡ arity g → recorded (slice_set items n (applied_of g ws)) (suc n) ≡ recorded items n ++ record { gate = g; wires = numbers_of ws } ∷ []
unfolding recorded
recorded-push items n g ws l e =
    ap (λ k. map met_of (take k (slice_set items n (applied_of g ws)))) (sym (add-one n))
    ∙ ap (map met_of) (take_more_set items n (applied_of g ws) l)
    ∙ map_push met_of (take n items) (applied_of g ws)
    ∙ ap (λ (m : Met). map met_of (take n items) ++ m ∷ []) (read_back g ws e)

-- the state after one more record
pub state-push : (items : List Applied) (n used given ones : ℕ) (g : Gate) (ws : List Wire) → n < length items → length ws ≡ arity g → state_of (recorded (slice_set items n (applied_of g ws)) (suc n)) used given ones ≡ lengthened g (numbers_of ws) (state_of (recorded items n) used given ones)
state-push items n used given ones g ws l e =
    ap (λ (k : List (List Met)). record { met = k; used = used; given = given; ones = ones })
    (ap (by_wire 0 32) (recorded-push items n g ws l e) ∙ by_wire_push (record { gate = g; wires = numbers_of ws }) (recorded items n) 0 32)

-- the state after a begin
pub state_none : (items : List Applied) (used given ones : ℕ) (s : State) → state_of (recorded items 0) used given ones ≡ emptied used given ones s
unfolding recorded
state_none items used given ones s = ap (λ (k : List (List Met)). record { met = k; used = used; given = given; ones = ones }) (none_by_wire 0 32)

-- two gates on one wire's list: at most one of them has the wire
swap-one : (a b : Bool) (x y : Met) (l : List Met) → (a ≡ true → b ≢ true) → cond a (cond b (l ++ y ∷ []) l ++ x ∷ []) (cond b (l ++ y ∷ []) l) ≡ cond b (cond a (l ++ x ∷ []) l ++ y ∷ []) (cond a (l ++ x ∷ []) l)
swap-one true true x y l h = absurd (h refl refl)
swap-one true false x y l h = refl
swap-one false true x y l h = refl
swap-one false false x y l h = refl

pub meets-swap : (x y : Met) → apart_from x.wires y.wires ≡ true → (w : ℕ) (ls : List (List Met)) → meets x w (meets y w ls) ≡ meets y w (meets x w ls)
unfolding meets
meets-swap x y h w [] = refl
meets-swap x y h w (l ∷ ls) =
    ap₂ (λ (k : List Met) (ks : List (List Met)). k ∷ ks)
    (swap-one (shares w x.wires) (shares w y.wires) x y l (apart-wires x.wires y.wires w h)) (meets-swap x y h (suc w) ls)

-- gates without a common wire leave the same state in either order
pub swaps : (s : State) (f g : Gate) (vs ws : List ℕ) → apart_from vs ws ≡ true → lengthened f vs (lengthened g ws s) ≡ lengthened g ws (lengthened f vs s)
swaps s f g vs ws h =
    ap (λ (k : List (List Met)). record { met = k; used = s.used; given = s.given; ones = s.ones })
    (meets-swap (record { gate = f; wires = vs }) (record { gate = g; wires = ws }) h 0 s.met)

-- what a look-up finds is the element, if there is one
pub looked_up : {X : Type 0} (xs : List X) (i : ℕ) (found : Option (Bor X)) → is_some found ≡ nat_lt i (length xs) → IfSome found (λ x. x.now ≡ slice_index_or xs i x.now) → option_copied found ≡ slice_get xs i
looked_up xs i None h e = sym (slice_get_past xs i (ltb-false i (length xs) (sym h)))
looked_up xs i (Some x) h e = sym (slice_get_read xs (length xs) i x.now refl (ltb-true i (length xs) (sym h)) e)

-- record i of the first n, as a gate
pub nth-recorded : (items : List Applied) (n i : ℕ) → option_map met_of (slice_get (take n items) i) ≡ slice_get (recorded items n) i
unfolding recorded
nth-recorded items n i = sym (slice_get-map met_of (take n items) i)

-- one more record changes what is seen of the list by its gate
pub view_push : (items : List Applied) (n used given ones : ℕ) (g : Gate) (ws : List Wire) → n < length items → length ws ≡ arity g → list_view (slice_set items n (applied_of g ws)) (n + 1) used given ones ≡ applied_view lengthened (list_view items n used given ones) g (numbers_of ws)
view_push items n used given ones g ws l e =
    ap (λ k. list_view (slice_set items n (applied_of g ws)) k used given ones) (add-one n)
    ∙ ap₂ (λ (s : State) (k : ℕ). record { state = s; used = used; count = suc n; width = 32; capacity = min k 65535 })
    (state-push items n used given ones g ws l e) (length-set items n (applied_of g ws))

-- each wire

pub meets_each : MeetsEach
meets_each g ws s w h =
    let m : Met = record { gate = g; wires = ws } in
    let before : List Met = get_or s.met w [] in
    meets_at m 0 s.met w h ∙ ap (λ (v : ℕ). cond (shares v ws) (before ++ m ∷ []) before) (zero-add w)

pub met_by_records : MetByRecords
met_by_records ms used given ones w h = by_wire_at ms 0 32 w h ∙ ap (λ (v : ℕ). meetings v ms) (zero-add w)

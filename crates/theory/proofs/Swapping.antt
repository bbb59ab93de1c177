-- Lists of gates: swaps of neighbours without a common wire, and the order of the gates on each wire.
use Rattle.std.proofs.Common.{◌≡◌, ℕ, ◌<◌, Bool, true, false, cond, not, eqb, List, [], ◌∷◌, ◌++◌, length, get_or, sym, refl, ap, ◌∙◌, ⊎_elim, arith}
use Rattle.std.specs.List.{AllByRecursion as All}
use Rattle.std.proofs.ByRecursion.{all_from_every}
use Rattle.std.proofs.lemmas.Bool.{and_parts, and_cases, or_cases, or_right, not-true, not-false, both_ways, cases_Bool, cond-true, cond-false, eqb-true}
use Rattle.derivation.proofs.TreeLaws.{not_so}
use Rattle.theory.specs.Ports.{listed}
use Rattle.theory.specs.Tokens.{Fired}
use Rattle.theory.specs.Gates.{on_wire, SameOrder, apart_from, apart, Swaps, same, swap, Wired, acted}
use Rattle.theory.proofs.Basics.{listed-first, at_listed, keep_append}

-- lists that are apart have no common number
common_none : (vs ws : List ℕ) (v : ℕ) → apart_from vs ws ≡ true → listed v vs ≡ true → listed v ws ≡ true → ⊥
common_none [] ws v a h k = both_ways false refl h
common_none (u ∷ vs) ws v a h k =
    let (other, rest) = and_parts (not (listed u ws)) (apart_from vs ws) a in
    ⊎_elim (λ e. both_ways (listed u ws) (not-true _ other) (rw (eqb-true u v e) k)) (λ l. common_none vs ws v rest l k)
    (or_cases (eqb u v) (listed v vs) h)

-- lists that are not apart have one
common_some : (vs ws : List ℕ) → apart_from vs ws ≡ false → (v : ℕ) × (listed v vs ≡ true) × (listed v ws ≡ true)
common_some [] ws a = absurd (both_ways true a refl)
common_some (u ∷ vs) ws a =
    ⊎_elim (λ n. (u, listed-first u vs, not-false (listed u ws) n))
    (λ b. let (v, h, k) = common_some vs ws b in (v, or_right (eqb u v) (listed v vs) h, k))
    (and_cases (not (listed u ws)) (apart_from vs ws) a)

-- to be apart goes both ways
apart_symmetric : (f g : Fired) → apart f g ≡ true → apart g f ≡ true
apart_symmetric f g a =
    ⊎_elim (λ e. e) (λ b. let (v, h, k) = common_some g.wires f.wires b in absurd (common_none f.wires g.wires v a k h))
    (cases_Bool (apart g f))

-- swaps after swaps are swaps
pub swaps_trans : {fs gs hs : List Fired} → Swaps fs gs → Swaps gs hs → Swaps fs hs
swaps_trans same t = t
swaps_trans (swap front f g rest a s) t = swap front f g rest a (swaps_trans s t)

-- swaps can be undone
pub swaps_symmetric : {fs gs : List Fired} → Swaps fs gs → Swaps gs fs
swaps_symmetric same = same
swaps_symmetric (swap front f g rest a s) = swaps_trans (swaps_symmetric s) (swap front g f rest (apart_symmetric f g a) same)

-- swaps behind a gate
swaps-behind : (h : Fired) {fs gs : List Fired} → Swaps fs gs → Swaps (h ∷ fs) (h ∷ gs)
swaps-behind h same = same
swaps-behind h (swap front f g rest a s) = swap (h ∷ front) f g rest a (swaps-behind h s)

-- what holds of each gate still does after a swap
all-swapped : (P : Fired → Type 0) (front : List Fired) (f g : Fired) (rest : List Fired)
    → All P (front ++ (f ∷ g ∷ rest)) → All P (front ++ (g ∷ f ∷ rest))
all-swapped P [] f g rest (p, (q, r)) = (q, (p, r))
all-swapped P (h ∷ front) f g rest (p, r) = (p, all-swapped P front f g rest r)

-- and after swaps
all-swaps : (P : Fired → Type 0) {fs gs : List Fired} → Swaps fs gs → All P fs → All P gs
all-swaps P same r = r
all-swaps P (swap front f g rest a s) r = all-swaps P s (all-swapped P front f g rest r)

-- a swap changes the order on no wire
swapped_order : (v : ℕ) (front : List Fired) (f g : Fired) (rest : List Fired) → apart f g ≡ true
    → on_wire v (front ++ (f ∷ g ∷ rest)) ≡ on_wire v (front ++ (g ∷ f ∷ rest))
swapped_order v front f g rest a =
    keep_append _ front (f ∷ g ∷ rest)
    ∙ ap (λ l. on_wire v front ++ l) (go (listed v f.wires) (listed v g.wires) (common_none f.wires g.wires v a) (on_wire v rest))
    ∙ sym (keep_append _ front (g ∷ f ∷ rest))
  where
    go : (b c : Bool) → (b ≡ true → c ≡ true → ⊥) → (r : List Fired)
        → cond b (f ∷ cond c (g ∷ r) r) (cond c (g ∷ r) r) ≡ cond c (g ∷ cond b (f ∷ r) r) (cond b (f ∷ r) r)
    go true true n r = absurd (n refl refl)
    go true false n r = refl
    go false true n r = refl
    go false false n r = refl

-- nor do swaps
pub swaps-same_order : (fs gs : List Fired) → Swaps fs gs → SameOrder fs gs
swaps-same_order fs gs same v = refl
swaps-same_order fs gs (swap front f g rest a s) v = swapped_order v front f g rest a ∙ swaps-same_order _ _ s v

-- a gate that is the first on each of its wires is brought to the front by swaps
pulled : (f : Fired) (v : ℕ) → listed v f.wires ≡ true → (gs : List Fired)
    → ((u : ℕ) → listed u f.wires ≡ true → (r : List Fired) × (on_wire u gs ≡ f ∷ r)) → (hs : List Fired) × Swaps gs (f ∷ hs)
pulled f v h [] first = let (r, e) = first v h in let z : ◌≡◌ {A = ℕ} 0 1 = cc in absurd (omega arith)
pulled f v h (y ∷ gs) first = ⊎_elim (before (pulled f v h gs)) here (cases_Bool (apart f y))
  where
    before : (((u : ℕ) → listed u f.wires ≡ true → (r : List Fired) × (on_wire u gs ≡ f ∷ r)) → (hs : List Fired) × Swaps gs (f ∷ hs))
        → apart f y ≡ true → (hs : List Fired) × Swaps (y ∷ gs) (f ∷ hs)
    before deeper a =
        let off : (u : ℕ) → listed u f.wires ≡ true → listed u y.wires ≡ false = λ u k. not_so _ (common_none f.wires y.wires u a k) in
        let (hs, s) = deeper (λ u k. let (r, e) = first u k in (r, sym (cond-false _ _ _ (off u k)) ∙ e)) in
        (y ∷ hs, swaps_trans (swaps-behind y s) (swap [] y f hs (apart_symmetric f y a) same))

    here : apart f y ≡ false → (hs : List Fired) × Swaps (y ∷ gs) (f ∷ hs)
    here a =
        let (u, k, l) = common_some f.wires y.wires a in
        let (r, e) = first u k in
        let here-first = sym (cond-true _ (y ∷ on_wire u gs) _ l) ∙ e in
        let yf : y ≡ f = cc in
        (gs, rw yf same)

-- the gate has a wire
abbrev pub Touches : Fired → Type 0
Touches f = 0 < length f.wires

-- the same order on each wire behind a first gate
order_behind : (f : Fired) (fs gs : List Fired) → SameOrder (f ∷ fs) (f ∷ gs) → SameOrder fs gs
order_behind f fs gs o v = go (listed v f.wires) (on_wire v fs) (on_wire v gs) (o v)
  where
    go : (b : Bool) (xs ys : List Fired) → cond b (f ∷ xs) xs ≡ cond b (f ∷ ys) ys → xs ≡ ys
    go true xs ys e = cc
    go false xs ys e = e

-- gates with the same order on each wire are turned into each other by swaps
order_swaps : (fs gs : List Fired) → All Touches fs → All Touches gs → SameOrder fs gs → Swaps fs gs
order_swaps [] [] a b o = same
order_swaps [] (g ∷ gs) a (w, b) o =
    let v = get_or g.wires 0 0 in
    let h = at_listed g.wires 0 w in
    let e = o v ∙ cond-true _ (g ∷ on_wire v gs) _ h in
    let z : ◌≡◌ {A = ℕ} 0 1 = cc in
    absurd (omega arith)
order_swaps (f ∷ fs) gs (w, a) b o =
    let v = get_or f.wires 0 0 in
    let h = at_listed f.wires 0 w in
    let (hs, s) = pulled f v h gs (λ u k. (on_wire u fs, sym (o u) ∙ cond-true _ (f ∷ on_wire u fs) _ k)) in
    let rest = order_swaps fs hs a (all-swaps Touches s b).1 (order_behind f fs hs (λ u. o u ∙ swaps-same_order _ _ s u)) in
    swaps_trans (swaps-behind f rest) (swaps_symmetric s)

-- the same, of lists of which each gate has a wire
pub same_order-swaps : (fs gs : List Fired) → Wired fs → Wired gs → SameOrder fs gs → Swaps fs gs
same_order-swaps fs gs a b o =
    order_swaps fs gs (all_from_every Touches fs (λ i d z h. a i d h)) (all_from_every Touches gs (λ i d z h. b i d h)) o

module _ {S : Type 0} (act : Fired → S → S) (Good : Fired → Type 0)
    (commute : (f g : Fired) → Good f → Good g → apart f g ≡ true → (s : S) → act f (act g s) ≡ act g (act f s)) where
  -- a swap does not change what gates make of a state
  acted-swapped : (front : List Fired) (f g : Fired) (rest : List Fired) → apart f g ≡ true → All Good (front ++ (f ∷ g ∷ rest))
      → (s : S) → acted act s (front ++ (f ∷ g ∷ rest)) ≡ acted act s (front ++ (g ∷ f ∷ rest))
  acted-swapped [] f g rest a (p, (q, r)) s = ap (λ t. acted act t rest) (sym (commute f g p q a s))
  acted-swapped (h ∷ front) f g rest a (p, r) s = acted-swapped front f g rest a r (act h s)

  -- nor do swaps
  acted-swaps : {fs gs : List Fired} → Swaps fs gs → All Good fs → (s : S) → acted act s fs ≡ acted act s gs
  acted-swaps same r s = refl
  acted-swaps (swap front f g rest a t) r s =
      acted-swapped front f g rest a r s ∙ acted-swaps t (all-swapped Good front f g rest r) s

  -- the same, with what is asked of the gates stated by their numbers
  pub acts_same : (fs gs : List Fired) → Swaps fs gs → ((i : ℕ) (d : Fired) → i < length fs → Good (get_or fs i d))
      → (s : S) → acted act s fs ≡ acted act s gs
  acts_same fs gs t good s = acted-swaps t (all_from_every Good fs (λ i d z h. good i d h)) s

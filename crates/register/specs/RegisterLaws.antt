-- Laws of the bit register.
use Rattle.std.specs.Prelude.{◌≡◌, ℕ, zero, suc, ◌+◌, ◌*◌, ◌/◌, ◌%◌, ◌^◌, ◌<◌, Bool, true, false, cond, not, ◌&&◌, ◌||◌, List, [], ◌∷◌, ◌++◌, ◌==◌, bit_and, bit_or, bit_xor, nat_eq, nat_lt, refl}
use Rattle.std.proofs.Common.{sym, ◌∙◌, ap, ap₂, arith}
use Rattle.std.specs.List.{list_all}
use Rattle.std.specs.Int.Bits.{xor_assoc}
use Rattle.std.proofs.lemmas.Nat.{one_shl, mod_below, xor_shr, xor_mod, xor_comm}
use Rattle.std.proofs.lemmas.Bool.{and_parts, cond-false, eqb-true, ltb-true, true≢false}
use Rattle.basics.specs.declared.numbers.Wire.{Wire}
use Rattle.basics.specs.declared.gate.Gate.{Gate}
use Rattle.basics.specs.declared.gate.Gate.TheVariants.{H, S, T, X, Z, Cx, Cz, Ccx}
use Rattle.derivation.specs.Rows.{all_below}
use Rattle.basics.specs.Sets.{has, only, union}
use Rattle.basics.proofs.SetLaws.{has_none, has-only, has-union, eqb_swap}
use Rattle.target.specs.Interface.{apart_from, disjoint, numbers_of, shares, within, Coded, Commutes}
use Rattle.target.proofs.MaskLaws.{has-and}
use Rattle.target.proofs.WireLaws.{apart-swap, first-apart, not_shared}
use Rattle.register.specs.Laws.{CxCopies}
use Rattle.register.specs.Register.{Contents, FlipsOne, PreparesEach, acted, all_one, flip_last, flipped, holding, takes_all_but_h, turned}

cond-and : {X : Type 0} (a b : Bool) (x y : X) → cond a (cond b x y) y ≡ cond (a && b) x y
cond-and true b x y = refl
cond-and false b x y = refl

-- all wires pass the test
pub all_one-list : (bits : ℕ) (ws : List Wire) → list_all (λ w. has bits w.0) ws ≡ all_one bits (numbers_of ws)
all_one-list bits [] = refl
all_one-list bits (w ∷ ws) = ap (λ b. has bits w.0 && b) (all_one-list bits ws)

-- the wires before the last are controls
flip_split : (bits : ℕ) (cs : List Wire) (w : Wire) → flip_last bits (numbers_of (cs ++ w ∷ [])) ≡ cond (all_one bits (numbers_of cs)) (bit_xor bits (only w.0)) bits
flip_split bits [] w = refl
flip_split bits (v ∷ []) w = cond-and (has bits v.0) true (bit_xor bits (only w.0)) bits
flip_split bits (v ∷ u ∷ cs) w =
    ap (λ n. cond (has bits v.0) n bits) (flip_split bits (u ∷ cs) w) ∙ cond-and (has bits v.0) (all_one bits (numbers_of (u ∷ cs))) (bit_xor bits (only w.0)) bits

-- a bit of a mask of 32 bits, shifted into place
pub only_shifted : (w : ℕ) → w < 32 → (1 * 2 ^ w) % 2 ^ 32 ≡ only w
unfolding only
only_shifted w h = one_shl w 32 h

last_below : (n : ℕ) (cs : List Wire) (w : Wire) → all_below n (numbers_of (cs ++ w ∷ [])) ≡ true → w.0 < n
last_below n [] w h = ltb-true w.0 n (and_parts _ _ h).0
last_below n (v ∷ cs) w h = last_below n cs w (and_parts _ _ h).1

-- wires as controls and a last one
module _ (bits : ℕ) {ws : List Wire} (cs : List Wire) (w : Wire) (e : ws ≡ cs ++ w ∷ []) where
  pub split_below : all_below 32 (numbers_of ws) ≡ true → w.0 < 32
  split_below h = last_below 32 cs w (ap (λ l. all_below 32 (numbers_of l)) (sym e) ∙ h)

  pub split_flips : {b : Bool} → b ≡ all_one bits (numbers_of cs) → cond b (bit_xor bits (only w.0)) bits ≡ flip_last bits (numbers_of ws)
  split_flips h = ap (λ b. cond b (bit_xor bits (only w.0)) bits) h ∙ sym (flip_split bits cs w) ∙ ap (λ l. flip_last bits (numbers_of l)) (sym e)

-- a flip of one wire, seen at each wire

flip_digit : (u v : ℕ) → u < 2 → v < 2 → (bit_xor u v == 1) ≡ cond (v == 1) (not (u == 1)) (u == 1)
flip_digit zero zero hu hv = refl
flip_digit zero (suc zero) hu hv = refl
flip_digit zero (suc (suc v)) hu hv = absurd (omega arith)
flip_digit (suc zero) zero hu hv = refl
flip_digit (suc zero) (suc zero) hu hv = refl
flip_digit (suc zero) (suc (suc v)) hu hv = absurd (omega arith)
flip_digit (suc (suc u)) v hu hv = absurd (omega arith)

pub flips_one : FlipsOne
unfolding has
flips_one bits w v =
    ap (λ n. nat_eq (n % 2) 1) (xor_shr bits (only w) v)
    ∙ ap (λ n. nat_eq n 1) (xor_mod (bits / 2 ^ v) (only w / 2 ^ v) 1)
    ∙ flip_digit (bits / 2 ^ v % 2) (only w / 2 ^ v % 2) (mod_below (bits / 2 ^ v) 2 (omega arith)) (mod_below (only w / 2 ^ v) 2 (omega arith))
    ∙ ap (λ b. cond b (not (has bits v)) (has bits v)) (has-only w v)

has-flip : (bits w v : ℕ) → (v == w) ≡ false → has (bit_xor bits (only w)) v ≡ has bits v
has-flip bits w v h = flips_one bits w v ∙ cond-false (v == w) (not (has bits v)) (has bits v) h

-- two flips, in either order
flip-flip : (bits v w : ℕ) → bit_xor (bit_xor bits (only w)) (only v) ≡ bit_xor (bit_xor bits (only v)) (only w)
flip-flip bits v w = xor_assoc bits (only w) (only v) ∙ ap (bit_xor bits) (xor_comm (only w) (only v)) ∙ sym (xor_assoc bits (only v) (only w))

-- a gate that flips leaves the bits of other wires

cond-at : {X Y : Type 0} (f : X → Y) (b : Bool) (x y : X) → f (cond b x y) ≡ cond b (f x) (f y)
cond-at f true x y = refl
cond-at f false x y = refl

cond_same : {X : Type 0} (b : Bool) (x : X) → cond b x x ≡ x
cond_same true x = refl
cond_same false x = refl

bit_kept : (bits : ℕ) (ws : List ℕ) (v : ℕ) → shares v ws ≡ false → has (flip_last bits ws) v ≡ has bits v
bit_kept bits [] v h = refl
bit_kept bits (w ∷ []) v h = has-flip bits w v (not_shared v w [] h).0
bit_kept bits (u ∷ w ∷ ws) v h =
    cond-at (λ n. has n v) (has bits u) (flip_last bits (w ∷ ws)) bits
    ∙ ap (λ b. cond (has bits u) b (has bits v)) (bit_kept bits (w ∷ ws) v (not_shared v u (w ∷ ws) h).1)
    ∙ cond_same (has bits u) (has bits v)

bits-kept : (bits : ℕ) (vs ws : List ℕ) → apart_from vs ws ≡ true → all_one (flip_last bits ws) vs ≡ all_one bits vs
bits-kept bits [] ws h = refl
bits-kept bits (v ∷ vs) ws h =
    let p = first-apart v vs ws h in
    ap₂ ◌&&◌ (bit_kept bits ws v p.0) (bits-kept bits vs ws p.1)

-- two gates that flip

flip-before : (bits v : ℕ) (ws : List ℕ) → shares v ws ≡ false → bit_xor (flip_last bits ws) (only v) ≡ flip_last (bit_xor bits (only v)) ws
flip-before bits v [] h = refl
flip-before bits v (w ∷ []) h = flip-flip bits v w
flip-before bits v (u ∷ w ∷ ws) h =
    let p = not_shared v u (w ∷ ws) h in
    cond-at (λ n. bit_xor n (only v)) (has bits u) (flip_last bits (w ∷ ws)) bits
    ∙ ap₂ (λ b n. cond b n (bit_xor bits (only v))) (sym (has-flip bits v u (eqb_swap u v ∙ p.0))) (flip-before bits v (w ∷ ws) p.1)

flips-swap : (bits : ℕ) (vs ws : List ℕ) → apart_from vs ws ≡ true → flip_last (flip_last bits ws) vs ≡ flip_last (flip_last bits vs) ws
flips-swap bits [] ws h = refl
flips-swap bits (v ∷ []) ws h = flip-before bits v ws (first-apart v [] ws h).0
flips-swap bits (u ∷ v ∷ vs) ws h =
    let p = first-apart u (v ∷ vs) ws h in
    ap₂ (λ b n. cond b n (flip_last bits ws)) (bit_kept bits ws u p.0) (flips-swap bits (v ∷ vs) ws p.1)
    ∙ sym (cond-at (λ n. flip_last n ws) (has bits u) (flip_last bits (v ∷ vs)) bits)

-- two gates that turn

turns-add : (p m n : ℕ) → ((p + n) % 8 + m) % 8 ≡ ((p + m) % 8 + n) % 8
turns-add p m n = omega arith

turns-swap : (a b : Bool) (p m n : ℕ) →
    cond a ((cond b ((p + n) % 8) p + m) % 8) (cond b ((p + n) % 8) p) ≡ cond b ((cond a ((p + m) % 8) p + n) % 8) (cond a ((p + m) % 8) p)
turns-swap true true p m n = turns-add p m n
turns-swap true false p m n = refl
turns-swap false true p m n = refl
turns-swap false false p m n = refl

-- what gates do, in three kinds

data Act : Type 0 where
  still : Act
  flips : Act
  turns : ℕ → Act

abbrev done : Act → List ℕ → Contents → Contents
done still ws s = s
done flips ws s = flipped ws s
done (turns n) ws s = turned n ws s

abbrev act : Gate → Act
act H = still
act S = turns 2
act T = turns 1
act X = flips
act Z = turns 4
act Cx = flips
act Cz = turns 4
act Ccx = flips

acted_is : (g : Gate) (ws : List ℕ) (s : Contents) → acted g ws s ≡ done (act g) ws s
acted_is H ws s = refl
acted_is S ws s = refl
acted_is T ws s = refl
acted_is X ws s = refl
acted_is Z ws s = refl
acted_is Cx ws s = refl
acted_is Cz ws s = refl
acted_is Ccx ws s = refl

done-swap : (a b : Act) (vs ws : List ℕ) (s : Contents) → apart_from vs ws ≡ true → done a vs (done b ws s) ≡ done b ws (done a vs s)
done-swap still b vs ws s h = refl
done-swap flips still vs ws s h = refl
done-swap flips flips vs ws s h = ap (λ n. holding n s.phase s.preset) (flips-swap s.bits vs ws h)
done-swap flips (turns n) vs ws s h =
    ap (λ b. holding (flip_last s.bits vs) (cond b ((s.phase + n) % 8) s.phase) s.preset) (sym (bits-kept s.bits ws vs (apart-swap vs ws h)))
done-swap (turns m) still vs ws s h = refl
done-swap (turns m) flips vs ws s h =
    ap (λ b. holding (flip_last s.bits ws) (cond b ((s.phase + m) % 8) s.phase) s.preset) (bits-kept s.bits vs ws h)
done-swap (turns m) (turns n) vs ws s h =
    ap (λ p. holding s.bits p s.preset) (turns-swap (all_one s.bits vs) (all_one s.bits ws) s.phase m n)

-- two gates without a common wire, in either order
pub acted_commutes : Commutes takes_all_but_h acted
acted_commutes s used f g vs ws tf tg sf sg h =
    acted_is f vs (acted g ws s) ∙ ap (done (act f) vs) (acted_is g ws s)
    ∙ done-swap (act f) (act g) vs ws s h
    ∙ sym (acted_is g ws (acted f vs s) ∙ ap (done (act g) ws) (acted_is f vs s))

-- the codes that are taken, as a set
pub all_but_h_coded : Coded 508 takes_all_but_h
unfolding has
all_but_h_coded H = refl
all_but_h_coded S = refl
all_but_h_coded T = refl
all_but_h_coded X = refl
all_but_h_coded Z = refl
all_but_h_coded Cx = refl
all_but_h_coded Cz = refl
all_but_h_coded Ccx = refl

-- begin, at each wire

has_either : (a b w : ℕ) → has (bit_or a b) w ≡ (has a w || has b w)
unfolding union
has_either a b w = has-union a b w

chosen : (g p o : Bool) → (g && o) ≡ false → (g && p || o) ≡ cond g p o
chosen true true false h = refl
chosen true false false h = refl
chosen true p true h = absurd (true≢false h)
chosen false p o h = refl

pub prepares_each : PreparesEach
prepares_each used given ones s w h =
    let fit = (and_parts (nat_lt used (2 ^ 16)) (disjoint given ones && (within given used && within ones used)) h).1 in
    let apart = eqb-true (bit_and given ones) 0 (and_parts (disjoint given ones) (within given used && within ones used) fit).0 in
    has_either (bit_and given s.preset) ones w ∙ ap (λ b. b || has ones w) (has-and given s.preset w)
    ∙ chosen (has given w) (has s.preset w) (has ones w) (sym (has-and given ones w) ∙ ap (λ m. has m w) apart ∙ has_none w)

-- cx, by computation
pub cx_copies : CxCopies
unfolding has only
cx_copies s = (refl, refl, refl)

-- Checks in order: the first fault is the answer.
use Rattle.std.specs.Prelude.{◌≡◌, ◌⊎◌, List, [], ◌∷◌, ◌++◌, Some, None, Ok, Err, Option, Result}
use Rattle.basics.specs.declared.refusal.Layer.TheVariants.{Bytes}
use Rattle.basics.specs.declared.refusal.Refusal.{Refusal}
use Rattle.basics.specs.declared.refusal.Refusal.TheVariants.{OutOfMemory}

-- the first fault of two
abbrev pub or_else : {R : Type 0} → Option R → Option R → Option R
or_else (Some r) o = Some r
or_else None o = o

-- the first fault of a list of items, each judged by itself and by what the items before it stand for
unfoldable pub first_fault : {A B R : Type 0} → (List B → A → Option R) → (A → B) → List B → List A → Option R
first_fault f g done [] = None
first_fault f g done (x ∷ xs) = or_else (f done x) (first_fault f g (done ++ (g x ∷ [])) xs)

-- a call answers Ok with such a value exactly if there is no fault, and otherwise the fault; want of memory is the one other answer
abbrev pub Checked : {A : Type 0} → Option Refusal → Result A Refusal → (A → Type 0) → Type 0
Checked o (Ok x) P = (o ≡ None) × P x
Checked o (Err e) P = (o ≡ Some e) ⊎ (e ≡ OutOfMemory Bytes)

-- a call answers what a definition yields, where f reads a value of the code; want of memory is the one other answer
abbrev pub Gives : {A B : Type 0} → Result A Refusal → Result B Refusal → (B → A) → Type 0
Gives s (Ok v) f = s ≡ Ok (f v)
Gives s (Err e) f = (s ≡ Err e) ⊎ (e ≡ OutOfMemory Bytes)

-- A list that is made from its own front: each element from those before it and one item.
use Rattle.std.specs.Prelude.{List, [], ◌∷◌, ◌++◌}

unfoldable pub grown : {A B : Type 0} → (List B → A → B) → List B → List A → List B
grown f done [] = done
grown f done (x ∷ xs) = grown f (done ++ (f done x ∷ [])) xs

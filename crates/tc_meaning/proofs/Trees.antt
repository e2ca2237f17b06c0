-- Lists of attributes as a type of the tree, and back.
use Rattle.std.proofs.Common.{◌≡◌, List, [], ◌∷◌, refl, ap}
use Rattle.tc_meaning.specs.Tree.{Attribute, attributes_of, list_of_attributes}

pub attributes_again : (xs : List Attribute) → list_of_attributes (attributes_of xs) ≡ xs
attributes_again [] = refl
attributes_again (x ∷ xs) = ap (λ (ys : List Attribute). x ∷ ys) (attributes_again xs)

-- A change at one zone or channel of a site or a park.
use Rattle.std.specs.Prelude.{Bool, true, false, List, [], ◌∷◌, ◌++◌}

module _ {A : Type 0} where
  -- The change g, made only where the test holds.
  abbrev pub on : Bool → (A → A) → A → A
  on true g v = g v
  on false g v = v

  -- The list with x joined to its end.
  abbrev pub join : A → List A → List A
  join x xs = xs ++ (x ∷ [])

  -- x before the list, where the test holds.
  abbrev pub cons-if : Bool → A → List A → List A
  cons-if true x xs = x ∷ xs
  cons-if false x xs = xs

-- Properties of every element of a list, the elements that pass a test, and images, when an element joins the end.
use mathlib.Core.Path.{◌≡◌, refl, ap}
use mathlib.Core.Bool.{Bool, true, false}
use mathlib.Core.List.{List, [], ◌∷◌, ◌++◌, map, tail}
use Rattle.rules.specs.Change.{on, join, cons-if}

module _ {A : Type 0} where
  -- Every element has P.
  abbrev pub All : (A → Type 0) → List A → Type 0
  All P [] = Unit {0}
  All P (x ∷ xs) = P x × All P xs

  pub all_join : (P : A → Type 0) (xs : List A) (x : A) → All P xs → P x → All P (join x xs)
  all_join P [] x h p = (p, tt)
  all_join P (y ∷ ys) x h p = (h.0, all_join P ys x h.1 p)

  pub all_append : (P : A → Type 0) (xs ys : List A) → All P xs → All P ys → All P (xs ++ ys)
  all_append P [] ys h k = k
  all_append P (x ∷ xs) ys h k = (h.0, all_append P xs ys h.1 k)

  pub all_tail : (P : A → Type 0) (xs : List A) → All P xs → All P (tail xs)
  all_tail P [] h = tt
  all_tail P (x ∷ xs) h = h.1

  pub all_map : (P Q : A → Type 0) (xs : List A) → ((x : A) → P x → Q x) → All P xs → All Q xs
  all_map P Q [] f h = tt
  all_map P Q (x ∷ xs) f h = (f x h.0, all_map P Q xs f h.1)

  -- x before or behind nothing; what is left behind x, where it stands.
  pub join-if : (p : Bool) (x : A) → on p (join x) [] ≡ cons-if p x []
  join-if true x = refl
  join-if false x = refl

  pub tail-if : (p : Bool) (x : A) (xs : List A) → on p tail (cons-if p x xs) ≡ xs
  tail-if true x xs = refl
  tail-if false x xs = refl

  -- The elements that pass the test, in order.
  abbrev pub keep : (A → Bool) → List A → List A
  keep p [] = []
  keep p (x ∷ xs) = cons-if (p x) x (keep p xs)

  pub cons-append : (p : Bool) (x : A) (xs ys : List A) → cons-if p x xs ++ ys ≡ cons-if p x (xs ++ ys)
  cons-append true x xs ys = refl
  cons-append false x xs ys = refl

  pub keep_join : (p : A → Bool) (xs : List A) (x : A) → keep p (join x xs) ≡ keep p xs ++ cons-if (p x) x []
  keep_join p [] x = refl
  keep_join p (y ∷ ys) x = rw (keep_join p ys x, cons-append)

  pub all_keep : (P : A → Type 0) (p : A → Bool) (xs : List A) → All (λ x. p x ≡ true → P x) xs → All P (keep p xs)
  all_keep P p [] h = tt
  all_keep P p (x ∷ xs) h = go (all_keep P p xs h.1) (p x) refl
    where
      go : All P (keep p xs) → (b : Bool) → p x ≡ b → All P (cons-if b x (keep p xs))
      go r true e = (h.0 e, r)
      go r false e = r

module _ {A B : Type 0} where
  pub map-append : (f : A → B) (xs ys : List A) → map f (xs ++ ys) ≡ map f xs ++ map f ys
  map-append f [] ys = refl
  map-append f (x ∷ xs) ys = ap (λ t. f x ∷ t) (map-append f xs ys)

  pub map-join : (f : A → B) (xs : List A) (x : A) → map f (join x xs) ≡ join (f x) (map f xs)
  map-join f xs x = map-append f xs (x ∷ [])

  pub map_tail : (f : A → B) (xs : List A) → map f (tail xs) ≡ tail (map f xs)
  map_tail f [] = refl
  map_tail f (x ∷ xs) = refl

  pub map-if : (f : A → B) (p : Bool) (x : A) (xs : List A) → map f (cons-if p x xs) ≡ cons-if p (f x) (map f xs)
  map-if f true x xs = refl
  map-if f false x xs = refl

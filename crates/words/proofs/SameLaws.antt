-- Laws of the comparison of two lists of words: of different lengths they are not the same; one word more.
use mathlib.Core.Path.{◌≡◌, refl, sym}
use mathlib.Core.Bool.{false, ◌&&◌, and-false, and-true, and_assoc}
use mathlib.Core.Logic.{◌≢◌}
use mathlib.Core.List.{List, [], ◌∷◌}
use Prim.Native.Nat.{ℕ, zero, suc, ◌+◌, ◌<◌}
use native.Mathlib.Omega.{arith}
use lib.Dec.{eqb}
use lib.ListN.{length, get_or, take}
use Rattle.words.specs.Bytes.{same_words}

pub other_length : (xs ys : List ℕ) → length xs ≢ length ys → same_words xs ys ≡ false
other_length [] [] d = absurd (d refl)
other_length [] (y ∷ ys) d = refl
other_length (x ∷ xs) [] d = refl
other_length (x ∷ xs) (y ∷ ys) d = rw (other_length xs ys (λ e. d (omega arith))) (and-false (eqb x y))

pub same_next : (xs ys : List ℕ) (k : ℕ) → k < length xs → k < length ys
    → same_words (take (k + 1) xs) (take (k + 1) ys) ≡ same_words (take k xs) (take k ys) && eqb (get_or xs k 0) (get_or ys k 0)
same_next [] ys k h i = absurd (omega arith)
same_next (x ∷ xs) [] k h i = absurd (omega arith)
same_next (x ∷ xs) (y ∷ ys) zero h i = and-true (eqb x y)
same_next (x ∷ xs) (y ∷ ys) (suc k) h i =
    let e : suc k + 1 ≡ suc (k + 1) = omega arith in
    rw (e, same_next xs ys k (omega arith) (omega arith)) (sym (and_assoc (eqb x y) (same_words (take k xs) (take k ys)) (eqb (get_or xs k 0) (get_or ys k 0))))

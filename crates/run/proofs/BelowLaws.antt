-- Laws of tests and lists over the numbers below n, and of sums over a growing bound; other laws of sums: the rules' Sums.
use mathlib.Core.Path.{◌≡◌, refl, sym, ◌∙◌, ap}
use mathlib.Core.Bool.{Bool, true, false, ◌&&◌, ◌||◌, and-true, and_assoc}
use mathlib.Core.Logic.{◌⊎◌, inl, inr}
use mathlib.Core.List.{List, [], ◌∷◌, ◌++◌}
use Prim.Native.Nat.{ℕ, zero, suc, ◌+◌, ◌<◌, ◌≤◌}
use native.Mathlib.Numerals.{add-one}
use native.Mathlib.Omega.{arith}
use native.Mathlib.Nat.{not-suc-le-zero, add-zero, add-suc}
use lib.ListN.{length, get_or, replicate, length-append, get_or-append}
use lib.Seq.{get_or_at}
use Rattle.rules.proofs.Tests.{and_left, and_right, or-off-left, or-off-right, Same, same?}
use Rattle.rules.specs.Below.{all_below, any_below, sum_below, list_below, sum}

-- A number below suc n is below n, or n.
pub split : (i n : ℕ) → i < suc n → (i < n) ⊎ (i ≡ n)
split i n h = go (same? i n)
  where
    go : Same i n → (i < n) ⊎ (i ≡ n)
    go (inl e) = inr e.0
    go (inr e) = inl (omega (arith, e.0))

pub all-at : (n : ℕ) (f : ℕ → Bool) → all_below n f ≡ true → (i : ℕ) → i < n → f i ≡ true
all-at zero f e i h = absurd (not-suc-le-zero h)
all-at (suc n) f e i h = go (λ b. all-at n f (and_left (all_below n f) (f n) e) i b) (split i n h)
  where
    go : (i < n → f i ≡ true) → (i < n) ⊎ (i ≡ n) → f i ≡ true
    go more (inl b) = more b
    go more (inr b) = ap f b ∙ and_right (all_below n f) (f n) e

pub all_of : (n : ℕ) (f : ℕ → Bool) → ((i : ℕ) → i < n → f i ≡ true) → all_below n f ≡ true
all_of zero f h = refl
all_of (suc n) f h = rw (all_of n f (λ i b. h i (omega arith))) (h n (omega arith))

-- One number that fails the test, and neither those below n nor those below more pass it.
pub one-out : (n : ℕ) (f : ℕ → Bool) (i : ℕ) → i < n → f i ≡ false → all_below n f ≡ false
one-out n f i h e = go (all_below n f) refl
  where
    go : (b : Bool) → all_below n f ≡ b → b ≡ false
    go true d = sym (all-at n f d i h) ∙ e
    go false d = refl

pub more-out : (n m : ℕ) (f : ℕ → Bool) → n ≤ m → all_below n f ≡ false → all_below m f ≡ false
more-out n m f h e = go (all_below m f) refl
  where
    go : (b : Bool) → all_below m f ≡ b → b ≡ false
    go true d = sym (all_of n f (λ i b. all-at m f d i (omega arith))) ∙ e
    go false d = refl

pub any_none : (n : ℕ) (f : ℕ → Bool) → any_below n f ≡ false → (i : ℕ) → i < n → f i ≡ false
any_none zero f e i h = absurd (not-suc-le-zero h)
any_none (suc n) f e i h = go (λ b. any_none n f (or-off-left (any_below n f) (f n) e) i b) (split i n h)
  where
    go : (i < n → f i ≡ false) → (i < n) ⊎ (i ≡ n) → f i ≡ false
    go more (inl b) = more b
    go more (inr b) = ap f b ∙ or-off-right (any_below n f) (f n) e

pub any-of-none : (n : ℕ) (f : ℕ → Bool) → ((i : ℕ) → i < n → f i ≡ false) → any_below n f ≡ false
any-of-none zero f h = refl
any-of-none (suc n) f h = rw (any-of-none n f (λ i b. h i (omega arith))) (h n (omega arith))

-- The sum of a list by its places.
front : (n : ℕ) (f : ℕ → ℕ) → sum_below (suc n) f ≡ f 0 + sum_below n (λ i. f (suc i))
front zero f = omega arith
front (suc n) f = let q = front n f in omega arith

pub sum-list : (xs : List ℕ) → sum_below (length xs) (λ i. get_or xs i 0) ≡ sum xs
sum-list [] = refl
sum-list (x ∷ xs) = front (length xs) (λ i. get_or (x ∷ xs) i 0) ∙ ap (λ (n : ℕ). x + n) (sum-list xs)

-- A row of zeros: each is 0, and so is their sum.
pub none-at : (n k : ℕ) → get_or {A = ℕ} (replicate n 0) k 0 ≡ 0
none-at zero k = refl
none-at (suc n) zero = refl
none-at (suc n) (suc k) = none-at n k

pub sum_zeros : (n : ℕ) → sum (replicate n 0) ≡ 0
sum_zeros zero = refl
sum_zeros (suc n) = let h = sum_zeros n in omega arith

pub length-below : {A : Type 0} (n : ℕ) (f : ℕ → A) → length (list_below n f) ≡ n
length-below zero f = refl
length-below (suc n) f = let q = length-below n f in omega (arith, length-append (list_below n f) (f n ∷ []))

pub list_at : {A : Type 0} (n : ℕ) (f : ℕ → A) (d : A) (i : ℕ) → i < n → get_or (list_below n f) i d ≡ f i
list_at zero f d i h = absurd (not-suc-le-zero h)
list_at (suc n) f d i h = go (λ b. list_at n f d i b) (split i n h)
  where
    go : (i < n → get_or (list_below n f) i d ≡ f i) → (i < n) ⊎ (i ≡ n) → get_or (list_below n f ++ (f n ∷ [])) i d ≡ f i
    go more (inl b) = let q = length-below n f in get_or-append (list_below n f) (f n ∷ []) d i (omega arith) ∙ more b
    go more (inr b) = rw b (get_or_at (list_below n f) (f n) [] d n (length-below n f))

-- The tests and sums over the numbers below a reached end.
pub all-to : (f : ℕ → Bool) {i n : ℕ} → i ≡ n → all_below i f ≡ all_below n f
all-to f e = ap (λ (m : ℕ). all_below m f) e

pub sum_to : (f : ℕ → ℕ) {i n : ℕ} → i ≡ n → sum_below i f ≡ sum_below n f
sum_to f e = ap (λ (m : ℕ). sum_below m f) e

pub any-to : (f : ℕ → Bool) {i n : ℕ} → i ≡ n → any_below i f ≡ any_below n f
any-to f e = ap (λ (m : ℕ). any_below m f) e

-- One number more.
pub all-next : (f : ℕ → Bool) (i : ℕ) {s r : Bool} → s ≡ all_below i f → r ≡ f i → s && r ≡ all_below (i + 1) f
all-next f i e g = rw (add-one i, e, g)

pub sum-next : (f : ℕ → ℕ) (i : ℕ) {n m : ℕ} → n ≡ sum_below i f → m ≡ f i → n + m ≡ sum_below (i + 1) f
sum-next f i e g = rw (add-one i, e, g)

pub any_next : (f : ℕ → Bool) (i : ℕ) {s r : Bool} → s ≡ any_below i f → r ≡ f i → s || r ≡ any_below (i + 1) f
any_next f i e g = rw (add-one i, e, g)

-- The numbers below n, and m more.
pub all-add : (n m : ℕ) (f : ℕ → Bool) → all_below (n + m) f ≡ all_below n f && all_below m (λ i. f (n + i))
all-add n zero f = simp add-zero (sym (and-true _))
all-add n (suc m) f = simp add-suc (ap (λ (b : Bool). b && f (n + m)) (all-add n m f) ∙ and_assoc (all_below n f) (all_below m (λ i. f (n + i))) (f (n + m)))

pub sum-add : (n m : ℕ) (f : ℕ → ℕ) → sum_below (n + m) f ≡ sum_below n f + sum_below m (λ i. f (n + i))
sum-add n zero f = simp add-zero refl
sum-add n (suc m) f = let h = sum-add n m f in simp add-suc (omega arith)

-- What is true, or 0, from n on adds nothing to a test or a sum.
pub all_end : (n m : ℕ) (f : ℕ → Bool) → n ≤ m → ((i : ℕ) → n ≤ i → i < m → f i ≡ true) → all_below m f ≡ all_below n f
all_end n zero f h t =
    let e : zero ≡ n = omega arith in
    all-to f e
all_end n (suc m) f h t = go (λ b. all_end n m f b (λ i c d. t i c (omega arith))) (same? n (suc m))
  where
    go : (n ≤ m → all_below m f ≡ all_below n f) → Same n (suc m) → all_below m f && f m ≡ all_below n f
    go more (inl e) = sym (all-to f e.0)
    go more (inr e) = rw (more (omega (arith, e.0)), t m (omega (arith, e.0)) (omega arith)) (and-true _)

pub sum-end : (n m : ℕ) (f : ℕ → ℕ) → n ≤ m → ((i : ℕ) → n ≤ i → i < m → f i ≡ 0) → sum_below m f ≡ sum_below n f
sum-end n zero f h t =
    let e : zero ≡ n = omega arith in
    sum_to f e
sum-end n (suc m) f h t = go (λ b. sum-end n m f b (λ i c d. t i c (omega arith))) (same? n (suc m))
  where
    go : (n ≤ m → sum_below m f ≡ sum_below n f) → Same n (suc m) → sum_below m f + f m ≡ sum_below n f
    go more (inl e) = sym (sum_to f e.0)
    go more (inr e) =
        let s = more (omega (arith, e.0)) in
        let z = t m (omega (arith, e.0)) (omega arith) in
        omega (arith, s, z)

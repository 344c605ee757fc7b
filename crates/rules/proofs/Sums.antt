-- Laws of sums over the numbers below n, and of double sums, such as those over the channels of n zones.
use mathlib.Core.Path.{◌≡◌, refl, ◌∙◌, ap}
use mathlib.Core.Bool.{Bool, false, ◌&&◌}
use mathlib.Core.Logic.{◌≢◌, inl, inr}
use Prim.Native.Nat.{ℕ, zero, suc, ◌+◌, ◌<◌, ◌≤◌}
use native.Mathlib.Omega.{arith}
use lib.Dec.{eqb}
use borrow.Author.Tests.{ne_eqb}
use Rattle.rules.specs.Below.{sum_below}
use Rattle.rules.proofs.Tests.{Same, same?, other-receiver}

pub sum_same : (n : ℕ) (f g : ℕ → ℕ) → ((k : ℕ) → k < n → f k ≡ g k) → sum_below n f ≡ sum_below n g
sum_same zero f g e = refl
sum_same (suc n) f g e =
    let q = sum_same n f g (λ k h. e k (omega arith)) in
    let w = e n (omega arith) in
    omega arith

pub sum-zero : (n : ℕ) (f : ℕ → ℕ) → ((k : ℕ) → f k ≡ 0) → sum_below n f ≡ 0
sum-zero zero f e = refl
sum-zero (suc n) f e =
    let q = sum-zero n f e in
    let w = e n in
    omega arith

-- A sum is not less than any of its terms; so where it is 0, each of them is.
pub sum-at : (n : ℕ) (f : ℕ → ℕ) (k : ℕ) → k < n → f k ≤ sum_below n f
sum-at zero f k h = absurd (omega arith)
sum-at (suc n) f k h = go (same? k n) (sum-at n f k)
  where
    go : Same k n → (k < n → f k ≤ sum_below n f) → f k ≤ sum_below n f + f n
    go (inl q) ih = let e = ap f q.0 in omega arith
    go (inr q) ih = let s = ih (omega (arith, q.0)) in omega arith

pub sum-none : (n : ℕ) (f : ℕ → ℕ) → sum_below n f ≡ 0 → (k : ℕ) → k < n → f k ≡ 0
sum-none n f e k h = let s = sum-at n f k h in omega arith

pub sum-le : (n : ℕ) (f g : ℕ → ℕ) → ((k : ℕ) → k < n → f k ≤ g k) → sum_below n f ≤ sum_below n g
sum-le zero f g h = omega arith
sum-le (suc n) f g h =
    let q = sum-le n f g (λ k b. h k (omega arith)) in
    let e = h n (omega arith) in
    omega arith

-- Terms of two parts are summed part by part.
pub sum_both : (n : ℕ) (f g : ℕ → ℕ) → sum_below n (λ k. f k + g k) ≡ sum_below n f + sum_below n g
sum_both zero f g = refl
sum_both (suc n) f g = let q = sum_both n f g in omega arith

-- Two sums that differ at a alone.
pub sum-change : (n : ℕ) (f g : ℕ → ℕ) (a : ℕ) → a < n → ((k : ℕ) → k < n → k ≢ a → f k ≡ g k)
    → sum_below n f + g a ≡ sum_below n g + f a
sum-change zero f g a h e = absurd (omega arith)
sum-change (suc n) f g a h e = go (same? n a) (λ b. sum-change n f g a b (λ k l d. e k (omega arith) d))
  where
    go : Same n a → (a < n → sum_below n f + g a ≡ sum_below n g + f a)
        → sum_below n f + f n + g a ≡ sum_below n g + g n + f a
    go (inl q) ih =
        let w = sum_same n f g (λ k l. e k (omega arith) (λ r. omega (arith, q.0))) in
        let u : f n ≡ f a = ap f q.0 in
        let v : g n ≡ g a = ap g q.0 in
        omega arith
    go (inr q) ih =
        let l : n ≡ a → ⊥ = q.0 in
        let w = ih (omega arith) in
        let u = e n (omega arith) q.0 in
        omega arith

-- A sum whose terms are 0 but for that at a.
pub sum_one : (n : ℕ) (f : ℕ → ℕ) (a : ℕ) → a < n → ((k : ℕ) → k ≢ a → f k ≡ 0) → sum_below n f ≡ f a
sum_one n f a h e =
    let q = sum-change n f (λ k. 0) a h (λ k _. e k) in
    let w = sum-zero n (λ k. 0) (λ k. refl) in
    omega arith

-- The sum over all pairs.
abbrev pub sums : ℕ → (ℕ → ℕ → ℕ) → ℕ
sums n f = sum_below n (λ i. sum_below n (f i))

pub sums_same : (n : ℕ) (f g : ℕ → ℕ → ℕ) → ((i j : ℕ) → f i j ≡ g i j) → sums n f ≡ sums n g
sums_same n f g e = sum_same n _ _ (λ i _. sum_same n (f i) (g i) (λ j _. e i j))

pub sums-zero : (n : ℕ) (f : ℕ → ℕ → ℕ) → ((i j : ℕ) → f i j ≡ 0) → sums n f ≡ 0
sums-zero n f e = sum-zero n _ (λ i. sum-zero n (f i) (e i))

pub sums_none : (n : ℕ) (f : ℕ → ℕ → ℕ) → sums n f ≡ 0 → (i j : ℕ) → i < n → j < n → f i j ≡ 0
sums_none n f e i j hi hj = sum-none n (f i) (sum-none n (λ i. sum_below n (f i)) e i hi) j hj

pub sums-both : (n : ℕ) (f g : ℕ → ℕ → ℕ) → sums n (λ i j. f i j + g i j) ≡ sums n f + sums n g
sums-both n f g = sum_same n _ _ (λ i _. sum_both n (f i) (g i)) ∙ sum_both n (λ i. sum_below n (f i)) (λ i. sum_below n (g i))

-- Two double sums that differ at the channel from a to b alone.
pub sums-change : (n : ℕ) (f g : ℕ → ℕ → ℕ) (a b : ℕ) → a < n → b < n → ((i j : ℕ) → eqb i a && eqb j b ≡ false → f i j ≡ g i j)
    → sums n f + g a b ≡ sums n g + f a b
sums-change n f g a b ha hb e =
    let q = sum-change n (f a) (g a) b hb (λ j _ ne. e a j (other-receiver a b a j ne)) in
    let w = sum-change n (λ i. sum_below n (f i)) (λ i. sum_below n (g i)) a ha
    (λ i _ ne. sum_same n (f i) (g i) (λ j _. e i j (ap (λ (t : Bool). t && eqb j b) (ne_eqb i a ne)))) in
    omega arith

-- A fact about every number below a bound, by one test that antt computes.
use mathlib.Core.Path.{◌≡◌, refl, sym, subst}
use mathlib.Core.Bool.{Bool, true, false, ◌&&◌, beq}
use mathlib.Core.Logic.{⊎_elim}
use Prim.Native.Nat.{ℕ, zero, suc, ◌+◌, ◌-◌, ◌<◌}
use native.Mathlib.Nat.{not-suc-le-zero, le_of_suc-le-suc, eq-or-lt_of_le}
use native.Mathlib.Omega.{arith}
use lib.Dec.{T}

pub and_left : (a b : Bool) → T (a && b) → T a
and_left true b t = tt
and_left false b t = t

pub and_right : (a b : Bool) → T (a && b) → T b
and_right true b t = t
and_right false b t = absurd t

pub same : (a b : Bool) → T (beq a b) → a ≡ b
same true true t = refl
same true false t = absurd t
same false true t = absurd t
same false false t = refl

-- Does the test pass at each number below n?
abbrev pub all_below : ℕ → (ℕ → Bool) → Bool
all_below zero f = true
all_below (suc n) f = f n && all_below n f

pub below : (n : ℕ) (f : ℕ → Bool) → T (all_below n f) → (k : ℕ) → k < n → T (f k)
below zero f t k h = absurd (not-suc-le-zero h)
below (suc n) f t k h =
    ⊎_elim (λ (e : k ≡ n). subst (λ (m : ℕ). T (f m)) (sym e) (and_left (f n) (all_below n f) t))
    (λ (l : k < n). below n f (and_right (f n) (all_below n f) t) k l)
    (eq-or-lt_of_le (le_of_suc-le-suc h))

-- The same of numbers from 1 on, up to n, and of two numbers below two bounds.
pub from_one : (n : ℕ) (f : ℕ → Bool) → T (all_below n (λ k. f (k + 1))) → (k : ℕ) → k < n + 1 → 0 < k → T (f k)
from_one n f t k h p =
    let e : k - 1 + 1 ≡ k = omega arith in
    subst (λ (m : ℕ). T (f m)) e (below n (λ (m : ℕ). f (m + 1)) t (k - 1) (omega arith))

pub below₂ : (m n : ℕ) (f : ℕ → ℕ → Bool) → T (all_below m (λ a. all_below n (f a))) → (a b : ℕ) → a < m → b < n → T (f a b)
below₂ m n f t a b ha hb = below n (f a) (below m (λ (x : ℕ). all_below n (f x)) t a ha) b hb

-- Membership in the sets that the rules make: a union, a difference, the set of one zone, the set of nobody. No bound is asked of
-- any number.
use mathlib.Core.Path.{◌≡◌, refl, sym, ◌∙◌, ap, subst}
use mathlib.Core.Bool.{Bool, true, false, ◌&&◌, ◌||◌, not}
use mathlib.Core.Logic.{◌⊎◌, inl, inr}
use Prim.Native.Nat.{ℕ, zero, suc, ◌+◌, ◌-◌, ◌/◌, ◌%◌, ◌^◌, ◌≤◌, ◌<◌}
use native.Mathlib.Omega.{arith}
use native.Mathlib.Nat.{mod-lt, mul-mod_left, mul-div_cancel_left, div-eq_of_lt, zero-div, pow-suc, add-zero}
use lib.Dec.{eqb, leb, lit<}
use lib.Bits.{bit_and, bit_or, bit_xor, or_shr, or_mod, and_shr, and_mod, xor_shr, xor_mod}
use lib.Pow.{pow_pos, pow-lt, pow-add}
use borrow.Author.Tests.{eq-eqb, ne_eqb, leb-true, leb-false}
use Rattle.rules.specs.Sets.{has, only, union, difference}

-- A digit is 0 or 1.
digit : (x : ℕ) → x < 2 → (x ≡ 0) ⊎ (x ≡ 1)
digit zero h = inl refl
digit (suc x) h = inr (omega arith)

bit : (set i : ℕ) → (set / 2 ^ i % 2 ≡ 0) ⊎ (set / 2 ^ i % 2 ≡ 1)
bit set i = digit (set / 2 ^ i % 2) (mod-lt (set / 2 ^ i) (lit< tt))

union-bit : (x y : ℕ) → (x ≡ 0) ⊎ (x ≡ 1) → (y ≡ 0) ⊎ (y ≡ 1) → eqb (bit_or x y) 1 ≡ eqb x 1 || eqb y 1
union-bit x y (inl e) (inl f) = rw (e, f)
union-bit x y (inl e) (inr f) = rw (e, f)
union-bit x y (inr e) (inl f) = rw (e, f)
union-bit x y (inr e) (inr f) = rw (e, f)

difference-bit : (x y : ℕ) → (x ≡ 0) ⊎ (x ≡ 1) → (y ≡ 0) ⊎ (y ≡ 1) → eqb (bit_xor x (bit_and x y)) 1 ≡ eqb x 1 && not (eqb y 1)
difference-bit x y (inl e) (inl f) = rw (f, e)
difference-bit x y (inl e) (inr f) = rw (f, e)
difference-bit x y (inr e) (inl f) = rw (f, e)
difference-bit x y (inr e) (inr f) = rw (f, e)

pub has-union : (a b i : ℕ) → has (union a b) i ≡ has a i || has b i
unfolding has
has-union a b i =
    ap (λ (n : ℕ). eqb (n % 2) 1) (or_shr a b i) ∙ ap (λ (n : ℕ). eqb n 1) (or_mod (a / 2 ^ i) (b / 2 ^ i) 1)
    ∙ union-bit _ _ (bit a i) (bit b i)

pub has-difference : (a b i : ℕ) → has (difference a b) i ≡ has a i && not (has b i)
unfolding has
has-difference a b i =
    ap (λ (n : ℕ). eqb (n % 2) 1) (xor_shr a (bit_and a b) i ∙ ap (bit_xor (a / 2 ^ i)) (and_shr a b i))
    ∙ ap (λ (n : ℕ). eqb n 1) (xor_mod (a / 2 ^ i) _ 1 ∙ ap (bit_xor (a / 2 ^ i % 2)) (and_mod (a / 2 ^ i) (b / 2 ^ i) 1))
    ∙ difference-bit _ _ (bit a i) (bit b i)

-- Which of two powers is the greater: k is i, or above it, or below it.
data Order (i : ℕ) : ℕ → Type 0 where
  same : Order i i
  above : (d : ℕ) → Order i (i + suc d)
  below : {k : ℕ} → k < i → Order i k

order : (i k : ℕ) → Order i k
order i k = go (leb i k) refl
  where
    sum : i ≤ k → (d : ℕ) → i + d ≡ k → Order i k
    sum h zero e = subst (Order i) (sym (add-zero i) ∙ e) same
    sum h (suc d) e = subst (Order i) e (above d)

    go : (p : Bool) → leb i k ≡ p → Order i k
    go true e = let h = leb-true i k e in sum h (k - i) (omega arith)
    go false e = below (leb-false i k e)

pub has-only : (k i : ℕ) → has (only k) i ≡ eqb i k
unfolding has
has-only k i = go (order i k)
  where
    power : (d : ℕ) → 2 ^ (i + d) / 2 ^ i ≡ 2 ^ d
    power d = ap (λ (n : ℕ). n / 2 ^ i) (pow-add 2 i d) ∙ mul-div_cancel_left (2 ^ d) (pow_pos i)

    go : {k : ℕ} → Order i k → eqb (2 ^ k / 2 ^ i % 2) 1 ≡ eqb i k
    go same =
        let q : 2 ^ i / 2 ^ i ≡ 1 = ap (λ (n : ℕ). 2 ^ n / 2 ^ i) (sym (add-zero i)) ∙ power 0 in
        ap (λ (n : ℕ). eqb (n % 2) 1) q ∙ sym (eq-eqb i i refl)
    go (above d) =
        ap (λ (n : ℕ). eqb (n % 2) 1) (power (suc d) ∙ pow-suc 2 d) ∙ ap (λ (n : ℕ). eqb n 1) (mul-mod_left (2 ^ d) 2)
        ∙ sym (ne_eqb i (i + suc d) (λ e. omega arith))
    go (below {k} h) =
        ap (λ (n : ℕ). eqb (n % 2) 1) (div-eq_of_lt (pow-lt h)) ∙ sym (ne_eqb i k (λ e. omega arith))

pub has-nobody : (i : ℕ) → has 0 i ≡ false
unfolding has
has-nobody i = ap (λ (n : ℕ). eqb (n % 2) 1) (zero-div (2 ^ i))

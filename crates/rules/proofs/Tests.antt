-- What tests on zone numbers say when they are joined by "and" and "or".
use mathlib.Core.Path.{◌≡◌, refl, sym, ◌∙◌}
use mathlib.Core.Bool.{Bool, true, false, ◌&&◌, ◌||◌, and-false, true≢false, false≢true, not}
use mathlib.Core.Logic.{◌≢◌, ◌⊎◌, inl, inr}
use Prim.Native.Nat.{ℕ, ◌≤◌, ◌<◌}
use lib.Dec.{eqb, ltb}
use borrow.Author.Tests.{eqb-true, eqb-false, eq-eqb, ne_eqb, not-true, not-false, ltb-true, ltb-false}

pub eqb_refl : (a : ℕ) → eqb a a ≡ true
eqb_refl a = eq-eqb a a refl

pub and_left : (p q : Bool) → p && q ≡ true → p ≡ true
and_left true q e = refl
and_left false q e = e

pub and_right : (p q : Bool) → p && q ≡ true → q ≡ true
and_right true q e = e
and_right false q e = absurd (false≢true e)

pub or_cases : (p q : Bool) → p || q ≡ true → (p ≡ true) ⊎ (q ≡ true)
or_cases true q e = inl refl
or_cases false q e = inr e

pub or_left : (p q : Bool) → p ≡ true → p || q ≡ true
or_left p q e = rw e

pub or_right : (p q : Bool) → q ≡ true → p || q ≡ true
or_right true q e = refl
or_right false q e = e

pub or-off-left : (p q : Bool) → p || q ≡ false → p ≡ false
or-off-left true q e = e
or-off-left false q e = refl

pub or-off-right : (p q : Bool) → p || q ≡ false → q ≡ false
or-off-right true q e = absurd (true≢false e)
or-off-right false q e = e

-- Is it b, or another?
abbrev pub Same : ℕ → ℕ → Type 0
Same k b = ((k ≡ b) × (eqb k b ≡ true)) ⊎ ((k ≢ b) × (eqb k b ≡ false))

pub same? : (k b : ℕ) → Same k b
same? k b = go (eqb k b) refl
  where
    go : (p : Bool) → eqb k b ≡ p → Same k b
    go true e = inl (eqb-true k b e, e)
    go false e = inr (eqb-false k b e, e)

-- Is it below n?
pub below? : (k n : ℕ) → (k < n) ⊎ (n ≤ k)
below? k n = go (ltb k n) refl
  where
    go : (p : Bool) → ltb k n ≡ p → (k < n) ⊎ (n ≤ k)
    go true e = inl (ltb-true k n e)
    go false e = inr (ltb-false k n e)

-- The channel from i to j is the one from x to y.
pub both_true : (i x j y : ℕ) → eqb i x && eqb j y ≡ true → (i ≡ x) × (j ≡ y)
both_true i x j y e = (eqb-true i x (and_left (eqb i x) (eqb j y) e), eqb-true j y (and_right (eqb i x) (eqb j y) e))

-- It is not, by its receiver.
pub other-receiver : (a b i j : ℕ) → j ≢ b → eqb i a && eqb j b ≡ false
other-receiver a b i j ne = rw (ne_eqb j b ne) (and-false (eqb i a))

-- Two tests that are not both passed.
pub not-both : (p q : Bool) → (p ≡ true → q ≡ true → ⊥) → p && q ≡ false
not-both true true ne = absurd (ne refl refl)
not-both true false ne = refl
not-both false q ne = refl

-- No number is both a and b.
pub apart : (a b : ℕ) → a ≢ b → (k : ℕ) → eqb k a && eqb k b ≡ false
apart a b ne k = not-both (eqb k a) (eqb k b) (λ e f. ne (sym (eqb-true k a e) ∙ eqb-true k b f))

-- No channel is both that from a to b and that from x to y, by their receivers.
pub apart-receivers : (a b x y : ℕ) → b ≢ y → (i j : ℕ) → (eqb i a && eqb j b) && (eqb i x && eqb j y) ≡ false
apart-receivers a b x y ne i j = not-both (eqb i a && eqb j b) (eqb i x && eqb j y)
    (λ e f. ne (sym (both_true i a j b e).1 ∙ (both_true i x j y f).1))

-- What a call's negated test says of its callee's meaning.
pub no : {t s : Bool} → t ≡ s → not t ≡ true → s ≡ false
no {t} e h = sym e ∙ not-true t h

pub yes : {t s : Bool} → t ≡ s → not t ≡ false → s ≡ true
yes {t} e h = sym e ∙ not-false t h

-- Laws on numbers that the proofs share.
use mathlib.Core.Path.{◌≡◌, sym, ◌∙◌}
use mathlib.Core.Bool.{Bool, true, false}
use mathlib.Core.Logic.{◌⊎◌, inl, inr, ⊎_elim}
use mathlib.Core.Path.{refl}
use Prim.Native.Nat.{ℕ, ◌^◌, ◌<◌, ◌/◌, ◌*◌}
use native.Mathlib.Nat.{div-eq_of_lt, div-lt_iff_lt-mul}
use native.Mathlib.Omega.{arith}
use borrow.Author.Tests.{ltb-true, ltb-false, eq-eqb, ne_eqb}
use lib.Dec.{eqb, ltb}
use lib.Pow.{pow_pos}

pub test : (b : Bool) → (b ≡ true) ⊎ (b ≡ false)
test true = inl refl
test false = inr refl

-- A shift that leaves nothing is a bound.
pub shift-test : (s k : ℕ) → eqb (s / 2 ^ k) 0 ≡ ltb s (2 ^ k)
shift-test s k =
    ⊎_elim (λ t. eq-eqb _ _ (div-eq_of_lt (ltb-true s (2 ^ k) t)) ∙ sym t)
    (λ t.
    ne_eqb _ _ (λ (e : s / 2 ^ k ≡ 0).
    let z : s / 2 ^ k < 1 = omega arith in
    let y : s < 1 * 2 ^ k = (div-lt_iff_lt-mul (pow_pos k)).0 z in
    omega (arith, ltb-false s (2 ^ k) t)) ∙ sym t)
    (test (ltb s (2 ^ k)))

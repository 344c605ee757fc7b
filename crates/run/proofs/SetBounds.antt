-- The sets that a call makes name only zones of the site, where those that it makes them of do.
use mathlib.Core.Path.{◌≡◌, refl, sym, ◌∙◌, ap}
use mathlib.Core.Bool.{Bool, true, false, false≢true}
use mathlib.Core.Logic.{◌≢◌}
use Prim.Native.Nat.{ℕ, ◌/◌, ◌%◌, ◌^◌, ◌≤◌, ◌<◌}
use native.Mathlib.Omega.{arith}
use native.Mathlib.Nat.{div-eq_of_lt}
use lib.Dec.{eqb, leb}
use lib.Bits.{or_lt, xor_lt, and_le_l}
use lib.Pow.{pow_mono}
use borrow.Author.Tests.{leb-true, leb-false, not-true, eqb-false}
use Rattle.rules.specs.Sets.{has, only, union}
use Rattle.rules.specs.Zone.{targets, carried}
use Rattle.rules.specs.declared.Local.{Local}
use Rattle.rules.proofs.SetLaws.{has-union, has-difference, has-only}
use Rattle.rules.proofs.Tests.{and_left, and_right, or-off-right}

pub has-lt : (s n j : ℕ) → s < 2 ^ n → has s j ≡ true → j < n
unfolding has
has-lt s n j h e = go (leb n j) refl
  where
    go : (p : Bool) → leb n j ≡ p → j < n
    go true f =
        let b : 2 ^ n ≤ 2 ^ j = pow_mono (leb-true n j f) in
        let q : s / 2 ^ j ≡ 0 = div-eq_of_lt (omega arith) in
        absurd (false≢true (sym (ap (λ (x : ℕ). eqb (x % 2) 1) q) ∙ e))
    go false f = leb-false n j f

-- A target is depended on and another than the sender.
pub targets-deps : (me set : ℕ) (z : Local) (j : ℕ) → has (targets me set z) j ≡ true → has z.deps j ≡ true
targets-deps me set z j e = and_left _ _ (sym (has-difference z.deps (union set (only me)) j) ∙ e)

pub targets-other : (me set : ℕ) (z : Local) (j : ℕ) → has (targets me set z) j ≡ true → j ≢ me
targets-other me set z j e =
    let p = and_right (has z.deps j) _ (sym (has-difference z.deps (union set (only me)) j) ∙ e) in
    let q = sym (has-union set (only me) j) ∙ not-true _ p in
    eqb-false j me (sym (has-only me j) ∙ or-off-right (has set j) _ q)

pub targets-lt : (n me set : ℕ) (z : Local) → z.deps < 2 ^ n → targets me set z < 2 ^ n
targets-lt n me set z h =
    xor_lt n z.deps _ h (omega (arith, and_le_l z.deps (union set (only me))))

pub carried-lt : (n set : ℕ) (z : Local) → z.deps < 2 ^ n → set < 2 ^ n → carried set z < 2 ^ n
carried-lt n set z h k = or_lt n z.deps set h k

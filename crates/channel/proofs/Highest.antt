-- The zones of a set, highest first: the index of the highest, by the zeros before it in a word of 32 bits, and the set without it. All is
-- computed, of every set that is not empty.
use mathlib.Core.Path.{◌≡◌, subst}
use mathlib.Core.Bool.{Bool, true, ◌&&◌, ◌||◌, not, beq}
use Prim.Native.Nat.{ℕ, ◌-◌, ◌*◌, ◌%◌, ◌^◌, ◌<◌, ◌≤◌}
use lib.Bits.{bit_and}
use lib.Count.{count_leading_zeros}
use lib.Dec.{T, eqb, leb, leb→le, ltb, ltb→lt}
use Rattle.rules.specs.Sets.{has}
use Rattle.rules.proofs.Finite.{same, all_below, below, below₂, from_one}

abbrev pub highest : ℕ → ℕ
highest s = 31 - count_leading_zeros 32 s

-- By the complement of a one that is shifted to its place.
abbrev pub lower : ℕ → ℕ
lower s = bit_and s (2 ^ 32 - 1 - 1 * 2 ^ highest s % 2 ^ 32)

-- What the laws are computed by, named once: `unfolding computed` unfolds all of it.
computed : ℕ → Bool
unfolding has count_leading_zeros
computed s = has s (highest s)

-- There are at most 31 zeros before it, so that the subtraction does not fall below 0.
pub leading-few : (s : ℕ) → s < 256 → 0 < s → count_leading_zeros 32 s ≤ 31
unfolding computed
leading-few s h p = leb→le _ _ (from_one 255 (λ s. leb (count_leading_zeros 32 s) 31) tt s h p)

pub highest-lt : (s : ℕ) → s < 256 → 0 < s → highest s < 8
unfolding computed
highest-lt s h p = ltb→lt _ _ (from_one 255 (λ s. ltb (highest s) 8) tt s h p)

-- It is a member, and no member is higher.
pub highest-has : (s : ℕ) → s < 256 → 0 < s → has s (highest s) ≡ true
unfolding computed
highest-has s h p = same _ _ (from_one 255 (λ s. beq (has s (highest s)) true) tt s h p)

pub highest-most : (s i : ℕ) → s < 256 → i < 8 → has s i ≡ true → i ≤ highest s
unfolding computed
highest-most s i h hi e =
    leb→le _ _ (subst (λ (b : Bool). T (not b || leb i (highest s))) e (below₂ 256 8 (λ s i. not (has s i) || leb i (highest s)) tt s i h hi))

-- The set without it has the other members.
pub lower-has : (s i : ℕ) → s < 256 → 0 < s → i < 8 → has (lower s) i ≡ has s i && not (eqb i (highest s))
unfolding computed
lower-has s i h p hi = same _ _ (below 8 (test s) (from_one 255 (λ s. all_below 8 (test s)) tt s h p) i hi)
  where
    test : ℕ → ℕ → Bool
    test s i = beq (has (lower s) i) (has s i && not (eqb i (highest s)))

pub lower-lt : (s : ℕ) → s < 256 → 0 < s → lower s < s
unfolding computed
lower-lt s h p = ltb→lt _ _ (from_one 255 (λ s. ltb (lower s) s) tt s h p)

-- The next zone of a set of zones of a site: its lowest member, by the membership of the rules. All is computed, of each of the 256 sets.
use mathlib.Core.Path.{◌≡◌, sym, ◌∙◌, ap, subst}
use mathlib.Core.Bool.{Bool, true, ◌&&◌, ◌||◌, not, beq}
use mathlib.Core.List.{◌∷◌}
use mathlib.Core.Logic.{◌⊎◌, inl, inr, ◌≢◌}
use Prim.Native.Nat.{ℕ, ◌+◌, ◌-◌, ◌<◌, ◌≤◌}
use native.Mathlib.Omega.{arith}
use native.Mathlib.Nat.{lt_of_le_of_lt}
use lib.Bits.{bit_and, and_le_l}
use lib.Count.{count_trailing_zeros}
use lib.Dec.{T, eqb, eqb→eq, leb, leb→le}
use Rattle.rules.specs.Limits.{most_zones}
use Rattle.rules.specs.Questions.{index}
use Rattle.rules.specs.Sets.{has, nobody, members}
use Rattle.rules.proofs.Finite.{same, below, below₂, from_one}
use Rattle.rules.proofs.Members.{has-off, members_step}
use Rattle.rules.proofs.Tests.{Same, same?, below?}
use Rattle.zone.specs.Zone.{next_target}
use Rattle.zone.proofs.Computed.{next_computed}

-- What the next zone of a set is: no second number has these properties.
pub record IsNext (set next : ℕ) : Type 0 where
  -- 0 where the set is empty,
  pub none : set ≡ nobody → next ≡ 0
  -- else the number of a zone of the set, which is i + 1 at index i,
  pub member : set ≢ nobody → (1 ≤ next) × (next ≤ most_zones) × (has set (index next) ≡ true)
  -- such that no zone of the set has a lower one.
  pub lowest : (i : ℕ) → has set i ≡ true → next ≤ i + 1

-- The set without it, as a maker takes it out (c/cut/zone.h): set & (set - 1).
abbrev pub rest : ℕ → ℕ
rest set = bit_and set (set - 1)

next_low : (s : ℕ) → s < 256 → 0 < s → 1 ≤ next_target s
unfolding next_computed
next_low s h p = leb→le _ _ (from_one 255 (λ s. leb 1 (next_target s)) tt s h p)

next-high : (s : ℕ) → s < 256 → next_target s ≤ 8
unfolding next_computed
next-high s h = leb→le _ _ (below 256 (λ s. leb (next_target s) 8) tt s h)

next-has : (s : ℕ) → s < 256 → 0 < s → has s (index (next_target s)) ≡ true
unfolding next_computed
next-has s h p = same _ _ (from_one 255 (λ s. beq (has s (index (next_target s))) true) tt s h p)

next-least : (s i : ℕ) → s < 256 → i < 8 → has s i ≡ true → next_target s ≤ i + 1
unfolding next_computed
next-least s i h hi e =
    leb→le _ _ (subst (λ (b : Bool). T (not b || leb (next_target s) (i + 1))) e
    (below₂ 256 8 (λ s i. not (has s i) || leb (next_target s) (i + 1)) tt s i h hi))

rest-eight : (s i : ℕ) → s < 256 → i < 8 → has (rest s) i ≡ has s i && not (eqb i (index (next_target s)))
unfolding next_computed
rest-eight s i h hi = same _ _ (below₂ 256 8 (λ s i. beq (has (rest s) i) (has s i && not (eqb i (index (next_target s))))) tt s i h hi)

-- It is so of every set of zones of a site,
pub next-is : (set : ℕ) → set < 256 → IsNext set (next_target set)
unfolding next_computed
next-is set h = record {
  none = λ e. rw e;
  member = λ d. (next_low set h (omega arith), next-high set h, next-has set h (omega arith));
  lowest = λ i m. go i m (below? i 8);
}
  where
    go : (i : ℕ) → has set i ≡ true → (i < 8) ⊎ (8 ≤ i) → next_target set ≤ i + 1
    go i m (inl l) = next-least set i h l m
    go i m (inr l) = omega (arith, next-high set h)

-- and of no other number: of two, none is the lower one.
pub next-only : (set n : ℕ) → set < 256 → IsNext set n → n ≡ next_target set
next-only set n h p = go (same? set 0)
  where
    q : IsNext set (next_target set)
    q = next-is set h

    go : Same set 0 → n ≡ next_target set
    go (inl (e, _)) = p.none e ∙ sym (q.none e)
    go (inr (d, _)) =
        let m = p.member d in
        let k = q.member d in
        let a = p.lowest (index (next_target set)) k.2 in
        let b = q.lowest (index n) m.2 in
        omega (arith, m.0, k.0)

-- Taken out, it leaves the other zones of the set.
pub rest_has : (set i : ℕ) → set < 256 → has (rest set) i ≡ has set i && not (eqb i (index (next_target set)))
rest_has set i h = go (below? i 8)
  where
    go : (i < 8) ⊎ (8 ≤ i) → has (rest set) i ≡ has set i && not (eqb i (index (next_target set)))
    go (inl l) = rest-eight set i h l
    go (inr l) = rw (has-off 8 set i h l) (has-off 8 (rest set) i (lt_of_le_of_lt (and_le_l set (set - 1)) h) l)

-- So a maker who takes out one zone after another until 0 is answered meets each zone of the set once, lowest first.
pub next-members : (set : ℕ) → set < 256 → set ≢ nobody → members set ≡ index (next_target set) ∷ members (rest set)
unfolding next_computed
next-members set h d =
    members_step set h (omega arith)
    ∙ ap (λ (k : ℕ). k ∷ members (rest set))
    (eqb→eq _ _ (from_one 255 (λ s. eqb (count_trailing_zeros 8 s) (index (next_target s))) tt set h (omega arith)))

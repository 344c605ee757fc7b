-- Tests and sums over the indices for channels, zone by zone: one index more, and the indices of one zone more. What is true, or 0, adds
-- nothing and need not be looked at.
use mathlib.Core.Path.{◌≡◌, sym, ◌∙◌, ap}
use mathlib.Core.Bool.{Bool, true, false, ◌&&◌, and-true, and-false}
use mathlib.Core.List.{List}
use Prim.Native.Nat.{ℕ, ◌+◌, ◌*◌, ◌<◌}
use native.Mathlib.Nat.{add-zero}
use native.Mathlib.Omega.{arith}
use borrow.Author.Tests.{eqb-true}
use lib.Dec.{eqb}
use lib.ListN.{get_or}
use Rattle.rules.specs.Below.{all_below, sum_below}
use Rattle.channel.specs.Channels.{channel_index, all_empty}
use Rattle.rules.proofs.Sums.{sum_same}
use Rattle.run.proofs.BelowLaws.{all-at, all_of, more-out, all-next, all-add, sum-next, sum-add}

next-zone : (from : ℕ) → from * 8 + 8 ≡ (from + 1) * 8
next-zone from = omega arith

module _ (f : ℕ → Bool) (from : ℕ) (s : Bool) where
  pub all-index : (to k : ℕ) → k ≡ channel_index from to → (r : Bool) → s ≡ all_below to (λ j. f (channel_index from j)) → r ≡ f k
      → s && r ≡ all_below (to + 1) (λ j. f (channel_index from j))
  all-index to k e r g h = all-next (λ j. f (channel_index from j)) to g (h ∙ ap f e)

  pub all-passed : (to k : ℕ) → k ≡ channel_index from to → s ≡ all_below to (λ j. f (channel_index from j)) → f k ≡ true
      → s ≡ all_below (to + 1) (λ j. f (channel_index from j))
  all-passed to k e g h = sym (and-true s) ∙ all-index to k e true g (sym h)

  pub all-zone : (r : Bool) → s ≡ all_below (from * 8) f → r ≡ all_below 8 (λ j. f (channel_index from j)) → s && r ≡ all_below ((from + 1) * 8) f
  all-zone r g h = rw (← next-zone from, all-add (from * 8) 8 f, g, h)

  pub all_none : s ≡ all_below (from * 8) f → ((j : ℕ) → j < 8 → f (channel_index from j) ≡ true) → s ≡ all_below ((from + 1) * 8) f
  all_none g h = sym (and-true s) ∙ all-zone true g (sym (all_of 8 (λ j. f (channel_index from j)) h))

-- Where a test fails at an index for a channel from one zone, it fails among all.
pub zone-out : (f : ℕ → Bool) (from : ℕ) → from < 8 → all_below 8 (λ j. f (channel_index from j)) ≡ false → all_below 64 f ≡ false
zone-out f from h e = more-out (from * 8 + 8) 64 f (omega arith) (all-add (from * 8) 8 f ∙ rw e (and-false _))

module _ (f : ℕ → ℕ) (from n : ℕ) where
  pub sum-index : (to k : ℕ) → k ≡ channel_index from to → (m : ℕ) → n ≡ sum_below to (λ j. f (channel_index from j)) → m ≡ f k
      → n + m ≡ sum_below (to + 1) (λ j. f (channel_index from j))
  sum-index to k e m g h = sum-next (λ j. f (channel_index from j)) to g (h ∙ ap f e)

  pub sum-passed : (to k : ℕ) → k ≡ channel_index from to → n ≡ sum_below to (λ j. f (channel_index from j)) → f k ≡ 0
      → n ≡ sum_below (to + 1) (λ j. f (channel_index from j))
  sum-passed to k e g h = sym (add-zero n) ∙ sum-index to k e 0 g (sym h)

  pub sum-zone : (m : ℕ) → n ≡ sum_below (from * 8) f → m ≡ sum_below 8 (λ j. f (channel_index from j)) → n + m ≡ sum_below ((from + 1) * 8) f
  sum-zone m g h = rw (← next-zone from, sum-add (from * 8) 8 f, g, h)

  pub sum-none : n ≡ sum_below (from * 8) f → ((j : ℕ) → j < 8 → f (channel_index from j) ≡ 0) → n ≡ sum_below ((from + 1) * 8) f
  sum-none g h = sym (add-zero n) ∙ sum-zone 0 g (sym (sum_same 8 (λ j. f (channel_index from j)) (λ j. 0) h))

-- Where no channel from a zone holds an item, each has the length 0.
pub none_from : (lens : List ℕ) (from : ℕ) → all_empty lens from ≡ true → (j : ℕ) → j < 8 → get_or lens (channel_index from j) 0 ≡ 0
unfolding all_empty
none_from lens from e j h = eqb-true (get_or lens (channel_index from j) 0) 0 (all-at 8 (λ i. eqb (get_or lens (channel_index from i) 0) 0) e j h)

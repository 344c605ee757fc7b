-- The search for a full channel: the number that it answers is the one that is asked for, and how it goes on from zone to zone.
use mathlib.Core.Path.{◌≡◌, refl, sym, ap, ◌∙◌}
use mathlib.Core.Bool.{Bool, true, false, cond, ◌&&◌, ◌||◌, not, true≢false, false≢true, and-true, and-false}
use mathlib.Core.Logic.{◌≢◌, ◌⊎◌, inl, inr}
use Prim.Native.Nat.{ℕ, zero, suc, ◌+◌, ◌-◌, ◌<◌, ◌≤◌}
use native.Mathlib.Omega.{arith}
use lib.Dec.{eqb}
use borrow.Author.Tests.{lt-ltb, le-ltb, eq-eqb, ne_eqb, not-true, not-false}
use Rattle.rules.specs.Questions.{index}
use Rattle.rules.specs.Sets.{has, nobody}
use Rattle.rules.proofs.Members.{has-off}
use Rattle.rules.proofs.Tests.{or-off-left, or-off-right, and_left, Same, same?, below?}
use Rattle.channel.specs.Channels.{channel_index, len_of, is_free, free_below, all_free, full_below, highest_full, numbered}
use Rattle.std.proofs.Common.{Option, Some, None}
use Rattle.std.specs.Option.{is_some}
use Rattle.channel.specs.Claims.{EachFree, IsHighestFull}
use Rattle.channel.specs.declared.Channels.{Channels}
use Rattle.channel.proofs.Highest.{highest, lower, highest-lt, highest-has, highest-most, lower-has}

-- A number that names a zone is answered as it is, and 0 by none.
pub is-numbered : (j n : ℕ) → j + 1 ≡ n → Some (j + 1) ≡ numbered n
is-numbered j n e = rw (← e, ne_eqb (j + 1) 0 (λ (q : j + 1 ≡ 0). omega arith))

names-one : (n : ℕ) → is_some (numbered n) ≡ not (eqb n 0)
names-one n = go (eqb n 0)
  where
    go : (b : Bool) → is_some (cond {A = Option ℕ} b None (Some n)) ≡ not b
    go true = refl
    go false = refl

module _ (l : Channels) (from to : ℕ) where
  -- What a number that names a zone names, and what it leaves above: all that is asked follows.
  abbrev Names : ℕ → Type 0
  Names found = (found ≤ 8) × (has to (index found) ≡ true) × (is_free l (channel_index from (index found)) ≡ false)

  abbrev FreeAbove : ℕ → Type 0
  FreeAbove found = (i : ℕ) → i < 8 → found < i + 1 → has to i ≡ true → is_free l (channel_index from i) ≡ true

  is-highest : (found : ℕ) → (found ≢ 0 → Names found) → FreeAbove found → IsHighestFull l from to found
  is-highest found names above =
      record {
        member = λ d. ((names d).0, (names d).1);
        full = λ d. (names d).2;
        higher = above;
        none = λ e i h m. above i h (omega arith) m;
        free = λ each. go each (same? found 0);
      }
    where
      go : EachFree l from to → Same found 0 → found ≡ 0
      go each (inl (e, _)) = e
      go each (inr (d, _)) =
          let n = names d in
          absurd (true≢false (sym (each (index found) (omega (arith, n.0)) n.1) ∙ n.2))

  -- What question 10 asks at index n: the zone is not of the set, or its channel has a free place.
  abbrev free_at : ℕ → Bool
  free_at n = not (has to n) || is_free l (channel_index from n)

  -- It is answered no at the zone that is found, and yes at those above.
  found-full : (n : ℕ) → full_below n l from to ≢ 0 → (full_below n l from to ≤ n) × (free_at (index (full_below n l from to)) ≡ false)
  found-full zero d = absurd (d refl)
  found-full (suc n) d = go (found-full n) (free_at n) refl d
    where
      go : (full_below n l from to ≢ 0 → (full_below n l from to ≤ n) × (free_at (index (full_below n l from to)) ≡ false))
          → (t : Bool) → free_at n ≡ t → cond t (full_below n l from to) (n + 1) ≢ 0
          → (cond t (full_below n l from to) (n + 1) ≤ suc n) × (free_at (index (cond t (full_below n l from to) (n + 1))) ≡ false)
      go more true e d = let m = more d in (omega (arith, m.0), m.1)
      go more false e d = let k : n + 1 - 1 ≡ n = omega arith in (omega arith, ap free_at k ∙ e)

  above-free : (n i : ℕ) → i < n → full_below n l from to < i + 1 → free_at i ≡ true
  above-free zero i h g = absurd (omega arith)
  above-free (suc n) i h g = go (above-free n i) (free_at n) refl g (below? i n)
    where
      go : (i < n → full_below n l from to < i + 1 → free_at i ≡ true) → (t : Bool) → free_at n ≡ t
          → cond t (full_below n l from to) (n + 1) < i + 1 → (i < n) ⊎ (n ≤ i) → free_at i ≡ true
      go more true e g (inl k) = more k g
      go more true e g (inr k) = let q : i ≡ n = omega arith in ap free_at q ∙ e
      go more false e g k = absurd (omega arith)

  not_free : (i : ℕ) → free_at i ≡ false → (has to i ≡ true) × (is_free l (channel_index from i) ≡ false)
  not_free i e =
      let out = not (has to i) in
      let free = is_free l (channel_index from i) in
      (not-false (has to i) (or-off-left out free e), or-off-right out free e)

  pub highest-is : IsHighestFull l from to (highest_full l from to)
  unfolding highest_full
  highest-is =
      is-highest (full_below 8 l from to) (λ d.
      let s = found-full 8 d in
      let t = not_free _ s.1 in
      (s.0, t.0, t.1))
      (λ i h g m. rw (m) at (above-free 8 i h g))

  -- No other number is: of two, the channel of the higher one would be full and have a place.
  not-below : (m n : ℕ) → IsHighestFull l from to m → IsHighestFull l from to n → n ≤ m
  not-below m n p q = go (below? m n)
    where
      go : (m < n) ⊎ (n ≤ m) → n ≤ m
      go (inl h) =
          let d : n ≢ 0 = λ (e : n ≡ 0). omega arith in
          let b = q.member d in
          absurd (true≢false (sym (p.higher (index n) (omega (arith, b.0)) (omega arith) b.1) ∙ q.full d))
      go (inr h) = h

  pub highest-only : (n : ℕ) → IsHighestFull l from to n → n ≡ highest_full l from to
  highest-only n p =
      let a = not-below n (highest_full l from to) p highest-is in
      let b = not-below (highest_full l from to) n highest-is p in
      omega arith

  -- It answers none exactly when question 10 is answered yes.
  none_below : (n : ℕ) → eqb (full_below n l from to) 0 ≡ free_below n l from to
  none_below zero = refl
  none_below (suc n) = go (none_below n) (free_at n)
    where
      go : eqb (full_below n l from to) 0 ≡ free_below n l from to
          → (t : Bool) → eqb (cond t (full_below n l from to) (n + 1)) 0 ≡ free_below n l from to && t
      go more true = more ∙ sym (and-true (free_below n l from to))
      go more false = ne_eqb (n + 1) 0 (λ (e : n + 1 ≡ 0). omega arith) ∙ sym (and-false (free_below n l from to))

  pub all-free-none : eqb (highest_full l from to) 0 ≡ all_free l from to
  unfolding highest_full all_free
  all-free-none = none_below 8

  pub some-full : (full : Option ℕ) → full ≡ numbered (highest_full l from to) → is_some full ≡ true → all_free l from to ≡ false
  some-full full e h = sym all-free-none ∙ not-true _ (sym (names-one (highest_full l from to)) ∙ ap is_some (sym e) ∙ h)

  pub none-full : (full : Option ℕ) → full ≡ numbered (highest_full l from to) → is_some full ≡ false → all_free l from to ≡ true
  none-full full e h = sym all-free-none ∙ not-false _ (sym (names-one (highest_full l from to)) ∙ ap is_some (sym e) ∙ h)

-- Nobody is to be sent a request: none is named.
pub highest-nobody : (l : Channels) (from : ℕ) → highest_full l from nobody ≡ 0
highest-nobody l from = (highest-is l from nobody).free (λ i h e. absurd (false≢true (sym (has-off 0 0 i (omega arith) (omega arith)) ∙ e)))

pub free-nobody : (l : Channels) (from : ℕ) → all_free l from nobody ≡ true
free-nobody l from = sym (all-free-none l from nobody) ∙ eq-eqb _ _ (highest-nobody l from)

-- The highest zone of a set is looked at, by the channel's index k: where it is full the search ends, else it goes on with the lower ones.
module _ (l : Channels) (from s k : ℕ) (h : s < 256) (p : 0 < s) (e : k ≡ channel_index from (highest s)) where
  pub step-full : 16 ≤ len_of l k → highest s + 1 ≡ highest_full l from s
  step-full f = highest-only l from s (highest s + 1) (is-highest l from s (highest s + 1) names above)
    where
      first : highest s + 1 - 1 ≡ highest s
      first = omega arith

      names : highest s + 1 ≢ 0 → Names l from s (highest s + 1)
      names d =
          (omega (arith, highest-lt s h p), ap (has s) first ∙ highest-has s h p, ap (λ (j : ℕ). is_free l (channel_index from j)) first ∙ ap (is_free l) (sym e) ∙ le-ltb (len_of l k) 16 f)

      above : FreeAbove l from s (highest s + 1)
      above i hi g m = let b = highest-most s i h hi m in absurd (omega arith)

  pub step-free : len_of l k < 16 → highest_full l from (lower s) ≡ highest_full l from s
  step-free f = highest-only l from s (highest_full l from (lower s)) (is-highest l from s (highest_full l from (lower s)) names above)
    where
      rest : IsHighestFull l from (lower s) (highest_full l from (lower s))
      rest = highest-is l from (lower s)

      names : highest_full l from (lower s) ≢ 0 → Names l from s (highest_full l from (lower s))
      names d =
          let m = rest.member d in
          (m.0, and_left _ _ (sym (lower-has s _ h p (omega (arith, m.0))) ∙ m.1), rest.full d)

      above : FreeAbove l from s (highest_full l from (lower s))
      above i hi g m = at (same? i (highest s))
        where
          at : Same i (highest s) → is_free l (channel_index from i) ≡ true
          at (inl (q, _)) = ap (λ (j : ℕ). is_free l (channel_index from j)) q ∙ ap (is_free l) (sym e) ∙ lt-ltb (len_of l k) 16 f
          at (inr (_, q)) = rest.higher i hi g (lower-has s i h p hi ∙ rw (m, q))

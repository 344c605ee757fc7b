-- What one word more adds to the comparison of a channel; that empty channels are the same, and nothing is compared at an index that the
-- site has no channel at.
use mathlib.Core.Path.{◌≡◌, refl, ◌∙◌}
use mathlib.Core.Bool.{Bool, true, false, ◌&&◌, ◌||◌, not}
use Prim.Native.Nat.{ℕ, ◌+◌, ◌*◌, ◌<◌, ◌≤◌, min}
use native.Mathlib.Omega.{arith}
use borrow.Author.Tests.{eq-eqb}
use lib.Dec.{eqb}
use lib.ListN.{length, get_or, take}
use Rattle.rules.specs.Below.{all_below}
use Rattle.channel.specs.Channels.{is_channel, channel_index, words_on, len_of}
use Rattle.channel.specs.declared.Channels.{Channels}
use Rattle.channel.proofs.Indices.{word-at, words-length, all_words, no-channel, no-channel-to}
use Rattle.run.proofs.BelowLaws.{all_end}
use Rattle.words.specs.Bytes.{same_words}
use Rattle.words.proofs.SameLaws.{same_next}
use Rattle.journal.specs.Writing.{same_channel}
use Rattle.same.specs.InnerAt.{same_at, same_from}

-- Two lists of channels of 1,024 words each, with the same length at k.
module _ (l m : Channels) (k : ℕ) (h : k < 64) (el : length l.items ≡ 1024) (em : length m.items ≡ 1024) (e : len_of l k ≡ len_of m k) where
  pub one_more : (p : ℕ) (s : Bool) → p < min (len_of l k) 16 → s ≡ same_words (take p (words_on l k)) (take p (words_on m k))
      → s && eqb (get_or l.items (k * 16 + p) 0) (get_or m.items (k * 16 + p) 0)
      ≡ same_words (take (p + 1) (words_on l k)) (take (p + 1) (words_on m k))
  one_more p s b f =
      let x = word-at l k p b in
      let y = word-at m k p (omega arith) in
      rw (same_next (words_on l k) (words_on m k) p (omega (arith, words-length l k h el)) (omega (arith, words-length m k h em)), x, y, f)

  pub all_same : (p : ℕ) (s : Bool) → p ≡ min (len_of l k) 16 → s ≡ same_words (take p (words_on l k)) (take p (words_on m k)) → s ≡ same_channel l m k
  unfolding same_channel
  all_same p s b f =
      let x : take p (words_on l k) ≡ words_on l k = rw b (all_words l k) in
      let y : take p (words_on m k) ≡ words_on m k = rw (b, e) (all_words m k) in
      rw (eq-eqb _ _ e) (f ∙ rw (x, y))

or-true : (b : Bool) → not b || true ≡ true
or-true true = refl
or-true false = refl

module _ (count : ℕ) (l m : Channels) where
  pub empty-same : (k : ℕ) → len_of l k ≡ 0 → len_of m k ≡ 0 → same_at count l m k ≡ true
  unfolding same_channel
  empty-same k e f = rw (e, f) (or-true (is_channel count k))

  -- No channel stands behind those of the last zone, and none goes to a zone behind the last one.
  pub same_end : count ≤ 8 → all_below 64 (same_at count l m) ≡ all_below (count * 8) (same_at count l m)
  same_end h = all_end (count * 8) 64 (same_at count l m) (omega arith) (λ i b d. rw (no-channel count i b))

  pub same-to : (from : ℕ) → count ≤ 8 → same_from count l m from ≡ all_below count (λ j. same_at count l m (channel_index from j))
  unfolding same_from
  same-to from h = all_end count 8 (λ j. same_at count l m (channel_index from j)) h (λ j b d. rw (no-channel-to count from j b d))

-- The words of a channel by their places, and the indices that have no channel.
use mathlib.Core.Path.{◌≡◌, refl, sym, ◌∙◌, ap}
use mathlib.Core.Bool.{Bool, false, ◌&&◌, and-false, and-true, and_assoc}
use mathlib.Core.List.{List, [], ◌∷◌}
use Prim.Native.Nat.{ℕ, zero, suc, ◌+◌, ◌-◌, ◌*◌, ◌/◌, ◌%◌, ◌<◌, ◌≤◌, min}
use native.Mathlib.Omega.{arith}
use borrow.Author.Tests.{le-ltb}
use borrow.Rule.Slice.PartMut.{mid_of}
use lib.Dec.{eqb}
use lib.ListN.{length, get_or, take, drop, replicate, length-take, length-drop}
use lib.Seq.{get_or-take, get_or-drop, take-take, take_all, drop-drop}
use Rattle.std.specs.Cmp.Lexicographic.{pointwise}
use Rattle.std.specs.Simd.{first_chunks}
use Rattle.rules.specs.Below.{all_below}
use Rattle.channel.specs.Channels.{is_channel, channel_index, len_of, row, words_on, all_empty}
use Rattle.channel.specs.declared.Channels.{Channels}
use Rattle.channel.proofs.Rows.{row-length, row_at}

pub word-at : (l : Channels) (k p : ℕ) → p < min (len_of l k) 16 → get_or (words_on l k) p 0 ≡ get_or l.items (k * 16 + p) 0
word-at l k p h = get_or-take (len_of l k) (row l.items k) p 0 (omega arith) ∙ row_at l.items k p (omega arith)

pub words-length : (l : Channels) (k : ℕ) → k < 64 → length l.items ≡ 1024 → length (words_on l k) ≡ min (len_of l k) 16
words-length l k h e = omega (arith, length-take (len_of l k) (row l.items k), row-length l.items k e h)

-- All words of a channel are those that are looked at.
pub all_words : (l : Channels) (k : ℕ) → take (min (len_of l k) 16) (words_on l k) ≡ words_on l k
all_words l k =
    take_all (min (len_of l k) 16) (words_on l k)
    (omega (arith, length-take (len_of l k) (row l.items k), length-take 16 (drop (k * 16) l.items)))

-- The words from a channel's first place on, as many as are looked at, are all of its words.
pub words-lent : (l : Channels) (k n : ℕ) → n ≡ min (len_of l k) 16 → mid_of (k * 16) (k * 16 + n - k * 16) l.items ≡ words_on l k
words-lent l k n e =
    let f : k * 16 + n - k * 16 ≡ min (len_of l k) 16 = omega arith in
    rw f
    (sym (take-take (min (len_of l k) 16) 16 (drop (k * 16) l.items) (omega arith))
    ∙ sym (take-take (min (len_of l k) 16) (len_of l k) (row l.items k) (omega arith)) ∙ all_words l k)

-- No channel stands behind those of the last zone, and none goes to a zone behind the last one.
pub no-channel : (count k : ℕ) → count * 8 ≤ k → is_channel count k ≡ false
unfolding is_channel
no-channel count k h = rw (le-ltb (k / 8) count (omega arith))

pub no-channel-to : (count from j : ℕ) → count ≤ j → j < 8 → is_channel count (channel_index from j) ≡ false
unfolding is_channel
no-channel-to count from j h b = rw (le-ltb (channel_index from j % 8) count (omega arith), and-false)

-- A row of lengths that is one of zeros: each of them is 0.
pub all_front : (n : ℕ) (f : ℕ → Bool) → all_below (suc n) f ≡ f 0 && all_below n (λ i. f (suc i))
all_front zero f = sym (and-true (f 0))
all_front (suc n) f = ap (λ (b : Bool). b && f (suc n)) (all_front n f) ∙ and_assoc (f 0) (all_below n (λ i. f (suc i))) (f (suc n))

zeros : (n : ℕ) (xs : List ℕ) → n ≤ length xs → pointwise eqb (take n xs) (replicate n 0) ≡ all_below n (λ j. eqb (get_or xs j 0) 0)
zeros zero xs h = refl
zeros (suc n) [] h = absurd (omega arith)
zeros (suc n) (x ∷ xs) h =
    ap (λ (b : Bool). eqb x 0 && b) (zeros n xs (omega arith)) ∙ sym (all_front n (λ j. eqb (get_or (x ∷ xs) j 0) 0))

-- The row of one zone's lengths.
row-at : (k i : ℕ) (xs : List ℕ) → i < k → get_or (first_chunks 8 k xs) i [] ≡ take 8 (drop (i * 8) xs)
row-at zero i xs h = absurd (omega arith)
row-at (suc k) zero xs h = refl
row-at (suc k) (suc i) xs h =
    let e : 8 + i * 8 ≡ suc i * 8 = omega arith in
    row-at k i (drop 8 xs) (omega arith) ∙ ap (take 8) (drop-drop (i * 8) 8 xs ∙ ap (λ (n : ℕ). drop n xs) e)

pub empty-from : (lens : List ℕ) (from : ℕ) (rows : List (List ℕ)) → rows ≡ first_chunks 8 (length lens / 8) lens → length lens ≡ 64
    → from < 8 → pointwise eqb (get_or rows from []) (replicate 8 0) ≡ all_empty lens from
unfolding all_empty
empty-from lens from rows e h b =
    let k : from < length lens / 8 = omega arith in
    rw (e, row-at (length lens / 8) from lens k) (zeros 8 (drop (from * 8) lens) (omega (arith, length-drop (from * 8) lens)) ∙ simp get_or-drop)

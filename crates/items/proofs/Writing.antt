-- Words written one behind another over lent bytes, and the number of the items.
use mathlib.Core.Path.{◌≡◌, refl, sym, ◌∙◌, ap}
use mathlib.Core.Bool.{Bool, true, false, cond}
use mathlib.Core.List.{List, [], ◌∷◌, ◌++◌, append_assoc}
use Prim.Native.Nat.{ℕ, zero, suc, ◌+◌, ◌-◌, ◌<◌, ◌≤◌}
use native.Mathlib.Omega.{arith}
use lib.ListN.{length, get_or, drop, length-append, length-drop}
use borrow.Rule.Slice.PartMut.{put_mid, mid_of}
use Rattle.words.specs.Bytes.{word_bytes, words_bytes}
use Rattle.words.proofs.ByteLaws.{bytes-length, bytes-append}
use Rattle.words.proofs.WriteLaws.{wrote-more}
use Rattle.recording.specs.Layout.{join_below}
use Rattle.recording.specs.InnerRecords.{sent_words, taken_count, items_at}
use Rattle.items.specs.InnerItems.{Counted, number_at, begin_at, item_number, words_at, all_words}
use Rattle.words.specs.InnerWrote.{Wrote}
use Rattle.channel.specs.Channels.{is_channel}

pub none-wrote : (o : List ℕ) → Wrote [] o o 0
none-wrote o = record { number = refl; bytes = refl }

pub wrote-length : {ws o out : List ℕ} {n : ℕ} → Wrote ws o out n → n ≤ length o → length out ≡ length o
wrote-length {ws} {o} {out} {n} w h =
    omega (arith, ap length w.bytes, length-append (words_bytes ws) (drop n o), bytes-length ws, w.number, length-drop n o)

-- One writer behind another: it was lent what the first one left.
pub more-wrote : (ws vs o out ys : List ℕ) (at n : ℕ) → Wrote ws o out at → at + n ≤ length o
    → Wrote vs (mid_of at (length out - at) out) ys n → Wrote (ws ++ vs) o (put_mid at (length out - at) out ys) (at + n)
more-wrote ws vs o out ys at n a h b = record {
  number = omega (arith, length-append ws vs, a.number, b.number);
  bytes =
      wrote-more (words_bytes ws) (words_bytes vs) o out ys at n (omega (arith, bytes-length ws, a.number)) h a.bytes b.bytes
      ∙ sym (append_assoc (words_bytes ws) (words_bytes vs) (drop (at + n) o))
      ∙ ap (λ (l : List ℕ). l ++ drop (at + n) o) (sym (bytes-append ws vs));
}

-- One word.
pub word-wrote : (w : ℕ) (o out : List ℕ) → out ≡ word_bytes w ++ drop 2 o → Wrote (w ∷ []) o out 2
word-wrote w o out e = record { number = refl; bytes = e }

-- The items at an index, by the numbers of its messages and receipts.
module _ (count : ℕ) (seen shown ws ns : List ℕ) (c : Counted seen shown ws ns) where
  pub number_is : (k : ℕ) → k < 64 → number_at count seen k ≡ length (words_at count shown ws ns k)
  unfolding number_at words_at
  number_is k h = go (is_channel count k)
    where
      go : (b : Bool) → cond b (get_or seen k 0 - get_or seen (64 + k) 0) 0 ≡ length (cond b (items_at k shown ws ns) [])
      go true = rw (c.sent k h, c.taken k h) (sym (length-drop (taken_count k shown ws ns) (sent_words k shown ws ns)))
      go false = refl

  pub the_items : (k : ℕ) → k < 64 → (number_at count seen k ≡ 0 → ⊥)
      → words_at count shown ws ns k ≡ drop (get_or seen (64 + k) 0) (sent_words k shown ws ns)
  unfolding number_at words_at
  the_items k h e = go (is_channel count k) refl
    where
      go : (b : Bool) → is_channel count k ≡ b → cond b (items_at k shown ws ns) [] ≡ drop (get_or seen (64 + k) 0) (sent_words k shown ws ns)
      go true f = rw (c.taken k h)
      go false f = absurd (e (rw f))

  -- The number of the items before channel k, and of all.
  pub start_is : (k : ℕ) → k ≤ 64 → begin_at count seen k ≡ length (join_below k (words_at count shown ws ns))
  unfolding begin_at
  start_is zero h = refl
  start_is (suc k) h =
      let q = start_is k (omega arith) in
      omega (arith, number_is k h, length-append (join_below k (words_at count shown ws ns)) (words_at count shown ws ns k))

  pub all-number : item_number count seen ≡ length (all_words count shown ws ns)
  unfolding item_number all_words
  all-number = start_is 64 (omega arith)

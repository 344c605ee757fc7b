-- One walk over the records writes all items. The byte list `all` is what shall stand in the lent bytes at the end; what is written is right
-- by it at once, so that a later word changes no earlier one.
use mathlib.Core.Path.{◌≡◌, refl, sym, ◌∙◌, ap}
use mathlib.Core.Bool.{Bool, true, false, cond}
use mathlib.Core.Logic.{◌≢◌, inl, inr}
use mathlib.Core.List.{List, [], ◌∷◌, ◌++◌}
use Prim.Native.Nat.{ℕ, zero, suc, ◌+◌, ◌-◌, ◌*◌, ◌/◌, ◌%◌, ◌<◌, ◌≤◌, min}
use native.Mathlib.Numerals.{add-one}
use native.Mathlib.Omega.{arith}
use lib.ListN.{length, get_or, take, drop, set, length-append, length-drop, length-set, take-append-drop, get_or-eq_default, get_or-append}
use lib.Dec.{leb}
use lib.Seq.{drop-length, length-take-le, get_or-append-add, get_or-append_seam, get_or-drop, get_or-set_same, get_or-set_other, ext_get_or}
use borrow.Author.Tests.{leb-true, leb-false}
use borrow.Rule.Slice.PartMut.{put_mid, mid_of}
use Rattle.words.specs.Bytes.{word_bytes, words_bytes}
use Rattle.words.specs.InnerWrote.{Wrote}
use Rattle.words.proofs.ByteLaws.{bytes-length}
use Rattle.words.proofs.WriteLaws.{wrote-more, put_two}
use Rattle.rules.proofs.Tests.{Same, same?}
use Rattle.rules.specs.Below.{sum_below}
use Rattle.rules.proofs.Sums.{sum_same, sum-none, sum-change}
use Rattle.run.proofs.BelowLaws.{sum-end}
use Rattle.channel.specs.Channels.{is_channel}
use Rattle.recording.specs.Layout.{join_below}
use Rattle.recording.specs.InnerRecords.{sent_words}
use Rattle.items.specs.InnerItems.{is_sent, Counted, number_at, begin_at, item_number, Begins, words_at, all_words}
use Rattle.items.proofs.Writing.{number_is, the_items, start_is, all-number}
use Rattle.items.proofs.ChannelBegins.{begin-none, begin-next, begin-sum, Front, front, before, from, RecordAt, unsent, elsewhere, Message, low, here, sent-here}

-- A byte is right; setting one right keeps the others so.
abbrev pub Right : List ℕ → List ℕ → ℕ → Type 0
Right all out p = get_or out p 0 ≡ get_or all p 0

right-set : (all out : List ℕ) (q p : ℕ) → q < length out → (p ≢ q → Right all out p) → Right all (set out q (get_or all q 0)) p
right-set all out q p b r = go (same? p q)
  where
    go : Same p q → Right all (set out q (get_or all q 0)) p
    go (inl e) = rw e.0 (get_or-set_same out q (get_or all q 0) 0 b)
    go (inr e) = get_or-set_other out q p (get_or all q 0) 0 e.0 ∙ r e.0

-- The records from number i on are walked. `start` has the number of the items before a channel, `ends` of those before its written ones,
-- which are as many as its messages from i on, or all of its items.
abbrev pub Ended : (ℕ → ℕ) → List ℕ → List ℕ → List ℕ → List ℕ → ℕ → ℕ → Type 0
Ended start shown ws ns ends i k = get_or ends (k + 1) 0 + min (length (from shown ws ns k i)) (start (suc k) - start k) ≡ start (suc k)

-- Right are the bytes behind all items, and those of the written ones.
pub record Walked (start : ℕ → ℕ) (shown ws ns all out ends : List ℕ) (missing i : ℕ) : Type 0 where
  pub size : length out ≡ length all
  pub end_is : (k : ℕ) → k < 64 → Ended start shown ws ns ends i k
  pub missing-is : missing ≡ sum_below 64 (λ k. get_or ends (k + 1) 0 - start k)
  pub behind : (p : ℕ) → 2 * start 64 ≤ p → Right all out p
  pub done : (k p : ℕ) → k < 64 → 2 * get_or ends (k + 1) 0 ≤ p → p < 2 * start (suc k) → Right all out p

-- A sum of which one number is less by 1.
one_less : (m s t f g : ℕ) → m ≡ s → t + f ≡ s + g → f ≡ suc g → m - 1 ≡ t
one_less m s t f g a b e = omega arith

-- One record further back, of n with their m numbers.
pub back : (i n m : ℕ) → 1 ≤ i → i ≤ n → m ≡ n → (i - 1 < n) × (i - 1 < m) × (i - 1 ≤ n) × (i - 1 < i)
back i n m a b e = (omega arith, omega arith, omega arith, omega arith)

pub walked_to : {start : ℕ → ℕ} {shown ws ns all out ends : List ℕ} {missing i : ℕ} → Walked start shown ws ns all out ends missing i → 1 ≤ i
    → Walked start shown ws ns all out ends missing (suc (i - 1))
walked_to {i = i} w h = let e : suc (i - 1) ≡ i = omega arith in rw e w

-- It is record i.
module _ {start : ℕ → ℕ} {shown ws ns all out ends : List ℕ} {missing i : ℕ} (w : Walked start shown ws ns all out ends missing (suc i)) where
  moved : (k : ℕ) → k < 64 → from shown ws ns k i ≡ from shown ws ns k (suc i) → Ended start shown ws ns ends i k
  moved k h e = ap (λ (xs : List ℕ). get_or ends (k + 1) 0 + min (length xs) (start (suc k) - start k)) e ∙ w.end_is k h

  pub walked-unsent : {high : ℕ} → RecordAt shown ws ns i high → is_sent high (get_or ns i 0) shown ≡ false → Walked start shown ws ns all out ends missing i
  walked-unsent r t = record {
    size = w.size;
    end_is = λ k h. moved k h (unsent r t k h);
    missing-is = w.missing-is;
    behind = w.behind;
    done = w.done;
  }

  -- It is a message.
  module _ {high : ℕ} (g : Message shown ws ns i high) (rising : start high ≤ start (suc high)) where
    abbrev end : ℕ
    end = get_or ends (high + 1) 0

    -- All items of its channel are written.
    walked-over : end ≡ start high → Walked start shown ws ns all out ends missing i
    walked-over e = record {
      size = w.size;
      end_is = λ k b. go k b (same? high k);
      missing-is = w.missing-is;
      behind = w.behind;
      done = w.done;
    }
      where
        go : (k : ℕ) → k < 64 → Same high k → Ended start shown ws ns ends i k
        go k b (inl q) = rw (← q.0) (omega (arith, w.end_is high (low g), ap length (here g), rising, e))
        go k b (inr q) = moved k b (elsewhere g.at k b q.1)

    -- It is an item, and is written.
    module _ (some : start high < end) (room : 2 * end ≤ length out) where
      abbrev at : ℕ
      at = 2 * (end - 1)

      abbrev one : List ℕ
      one = set out at (get_or all at 0)

      in-ends : high + 1 < length ends
      in-ends = go (leb (length ends) (high + 1)) refl
        where
          go : (x : Bool) → leb (length ends) (high + 1) ≡ x → high + 1 < length ends
          go true f = absurd (omega (arith, some, get_or-eq_default ends 0 {n = high + 1} (leb-true _ _ f)))
          go false f = leb-false _ _ f

      less : get_or (set ends (high + 1) (end - 1)) (high + 1) 0 ≡ end - 1
      less = get_or-set_same ends (high + 1) (end - 1) 0 in-ends

      other : (k : ℕ) → high ≢ k → get_or (set ends (high + 1) (end - 1)) (k + 1) 0 ≡ get_or ends (k + 1) 0
      other k n = get_or-set_other ends (high + 1) (k + 1) (end - 1) 0 (λ (q : k + 1 ≡ high + 1). n (omega arith))

      right : (p : ℕ) → (p ≢ at + 1 → p ≢ at → Right all out p) → Right all (set one (at + 1) (get_or all (at + 1) 0)) p
      right p r =
          right-set all one (at + 1) p (omega (arith, some, room, length-set out at (get_or all at 0)))
          (λ n. right-set all out at p (omega (arith, some, room)) (r n))

      walked-item : Walked start shown ws ns all (set one (at + 1) (get_or all (at + 1) 0)) (set ends (high + 1) (end - 1)) (missing - 1) i
      walked-item = record {
        size = length-set one (at + 1) (get_or all (at + 1) 0) ∙ length-set out at (get_or all at 0) ∙ w.size;
        end_is = λ k b. end-at k b (same? high k);
        missing-is = one_less missing _ _ _ _ w.missing-is fewer (omega (arith, less, some));
        behind = λ p b. right p (λ n n'. w.behind p b);
        done = λ k p b s q. done_at k p b s q (same? high k);
      }
        where
          fewer : sum_below 64 (λ k. get_or (set ends (high + 1) (end - 1)) (k + 1) 0 - start k) + (end - start high)
              ≡ sum_below 64 (λ k. get_or ends (k + 1) 0 - start k) + (get_or (set ends (high + 1) (end - 1)) (high + 1) 0 - start high)
          fewer =
              sum-change 64 (λ k. get_or (set ends (high + 1) (end - 1)) (k + 1) 0 - start k) (λ k. get_or ends (k + 1) 0 - start k) high (low g)
              (λ k b n. ap (λ (x : ℕ). x - start k) (other k (λ q. n (sym q))))

          end-at : (k : ℕ) → k < 64 → Same high k → Ended start shown ws ns (set ends (high + 1) (end - 1)) i k
          end-at k b (inl q) = rw (← q.0) (omega (arith, less, w.end_is high (low g), ap length (here g), rising, some))
          end-at k b (inr q) = rw (other k q.0) (moved k b (elsewhere g.at k b q.1))

          done_at : (k p : ℕ) → k < 64 → 2 * get_or (set ends (high + 1) (end - 1)) (k + 1) 0 ≤ p → p < 2 * start (suc k) → Same high k
              → Right all (set one (at + 1) (get_or all (at + 1) 0)) p
          done_at k p b s q (inl d) =
              let s' = rw (← d.0) at s in
              right p (λ n n'. w.done k p b (rw (← d.0) (omega (arith, s', less, n, n', some))) q)
          done_at k p b s q (inr d) = right p (λ n n'. w.done k p b (rw (other k d.0) at s) q)

-- A byte before the end of all channels is at one of them.
within : (start : ℕ → ℕ) {P : Type 0} (p n : ℕ) → 2 * start 0 ≤ p → p < 2 * start n
    → ((k : ℕ) → k < n → 2 * start k ≤ p → p < 2 * start (suc k) → P) → P
within start p zero a b f = absurd (omega arith)
within start {P} p (suc n) a b f = go (leb (2 * start n) p) refl (within start p n a)
  where
    go : (x : Bool) → leb (2 * start n) p ≡ x → (p < 2 * start n → ((k : ℕ) → k < n → 2 * start k ≤ p → p < 2 * start (suc k) → P) → P) → P
    go true e more = f n (omega arith) (leb-true _ _ e) b
    go false e more = more (leb-false _ _ e) (λ k h s q. f k (omega arith) s q)

-- No item is missing.
walked_all : {start : ℕ → ℕ} {shown ws ns all out ends : List ℕ} {missing i : ℕ} → Walked start shown ws ns all out ends missing i
    → missing ≡ 0 → start 0 ≡ 0 → out ≡ all
walked_all {start} {shown} {ws} {ns} {all} {out} {ends} {missing} {i} w e z =
    ext_get_or 0 out all w.size (λ p b. go p (leb (2 * start 64) p) refl)
  where
    none : (k : ℕ) → k < 64 → get_or ends (k + 1) 0 - start k ≡ 0
    none = sum-none 64 (λ k. get_or ends (k + 1) 0 - start k) (sym w.missing-is ∙ e)

    go : (p : ℕ) (x : Bool) → leb (2 * start 64) p ≡ x → Right all out p
    go p true f = w.behind p (leb-true _ _ f)
    go p false f =
        within start p 64 (omega (arith, z)) (leb-false _ _ f) (λ k h s q. w.done k p h (omega (arith, s, none k h)) q)

-- The bytes of word n.
bytes-at : (ws o : List ℕ) (n : ℕ) → n < length ws
    → (get_or (words_bytes ws ++ o) (2 * n) 0 ≡ get_or ws n 0 / 256) × (get_or (words_bytes ws ++ o) (2 * n + 1) 0 ≡ get_or ws n 0 % 256)
bytes-at [] o n h = absurd (omega arith)
bytes-at (w ∷ ws) o zero h = (refl, refl)
bytes-at (w ∷ ws) o (suc n) h =
    let e : 2 * suc n ≡ suc (suc (2 * n)) = omega arith in
    let f : 2 * suc n + 1 ≡ suc (suc (2 * n + 1)) = omega arith in
    let more = bytes-at ws o n (omega arith) in
    (rw e more.0, rw f more.1)

-- A word that is written at a byte of what is lent.
word_set : (out ys : List ℕ) (w at : ℕ) → at + 2 ≤ length out → ys ≡ word_bytes w ++ drop 2 (mid_of at (length out - at) out)
    → put_mid at (length out - at) out ys ≡ set (set out at (w / 256)) (at + 1) (w % 256)
word_set out ys w at h e =
    let front : length (take at out) ≡ at = length-take-le at out (omega arith) in
    let two : at + 2 ≡ suc (suc at) = omega arith in
    let one : at + 1 ≡ suc at = omega arith in
    wrote-more (take at out) (word_bytes w) out out ys at 2 front h (sym (take-append-drop at out)) e
    ∙ rw (two, one) (sym (put_two out at (w / 256) (w % 256) (omega arith)))

-- What shall stand in the lent bytes.
abbrev pub final : ℕ → List ℕ → List ℕ → List ℕ → List ℕ → List ℕ → List ℕ
final count seen shown ws ns o = words_bytes (all_words count shown ws ns) ++ drop (2 * begin_at count seen 64) o

-- What is known of the records, the begins of the channels and the lent bytes o.
pub record Known (count : ℕ) (seen shown ws ns begins o : List ℕ) : Type 0 where
  pub counted : Counted seen shown ws ns
  pub found : Begins 64 begins count seen
  pub room : 2 * length (all_words count shown ws ns) ≤ length o

-- While an item is missing there is a record further back; what is missing of a channel ends within the lent bytes, not before it begins.
pub record Ahead (begins out ends : List ℕ) (missing i : ℕ) : Type 0 where
  pub further : min missing 1 ≤ i
  pub rising : (k : ℕ) → k < 64 → get_or begins k 0 ≤ get_or ends (k + 1) 0
  pub room : (k : ℕ) → k < 64 → 2 * get_or ends (k + 1) 0 ≤ length out
  pub all : 2 * get_or begins 64 0 ≤ length out

module _ {count : ℕ} {seen shown ws ns begins o : List ℕ} (z : Known count seen shown ws ns begins o) where
  abbrev at-index : ℕ → List ℕ
  at-index = words_at count shown ws ns

  abbrev Going : List ℕ → List ℕ → ℕ → ℕ → Type 0
  Going = Walked (begin_at count seen) shown ws ns (final count seen shown ws ns o)

  begin-all : begin_at count seen 64 ≡ length (all_words count shown ws ns)
  unfolding item_number
  begin-all = all-number count seen shown ws ns z.counted

  pub final-size : length (final count seen shown ws ns o) ≡ length o
  final-size = omega (
    arith,
    length-append (words_bytes (all_words count shown ws ns)) (drop (2 * begin_at count seen 64) o),
    bytes-length (all_words count shown ws ns),
    length-drop (2 * begin_at count seen 64) o,
    begin-all,
    z.room,
  )

  fewer : (k : ℕ) → number_at count seen k ≤ get_or seen k 0
  unfolding number_at
  fewer k = go (is_channel count k)
    where
      go : (b : Bool) → cond b (get_or seen k 0 - get_or seen (64 + k) 0) 0 ≤ get_or seen k 0
      go true = omega arith
      go false = omega arith

  pub walked_none : Going o begins (get_or begins 64 0) (length ws)
  walked_none = record {
    size = sym final-size;
    end_is = ended;
    missing-is = z.found 64 (omega arith) ∙ missing-is;
    behind = behind;
    done = λ k p h s q. absurd (omega (arith, s, q, end-at k h));
  }
    where
      end-at : (k : ℕ) → k < 64 → get_or begins (k + 1) 0 ≡ begin_at count seen (suc k)
      end-at k h = rw (← add-one k) (z.found (k + 1) (omega arith))

      ended : (k : ℕ) → k < 64 → Ended (begin_at count seen) shown ws ns begins (length ws) k
      ended k h = rw (drop-length ws) (omega (arith, end-at k h))

      missing-is : begin_at count seen 64 ≡ sum_below 64 (λ k. get_or begins (k + 1) 0 - begin_at count seen k)
      missing-is =
          begin-sum count seen 64
          ∙ sym (sum_same 64 (λ k. get_or begins (k + 1) 0 - begin_at count seen k) (number_at count seen) (λ k h. omega (arith, end-at k h, begin-next count seen k)))

      behind : (p : ℕ) → 2 * begin_at count seen 64 ≤ p → Right (final count seen shown ws ns o) o p
      behind p h =
          let bytes = words_bytes (all_words count shown ws ns) in
          let end = 2 * begin_at count seen 64 in
          let e : p ≡ end + (p - end) = omega arith in
          let f : end ≡ length bytes = omega (arith, bytes-length (all_words count shown ws ns), begin-all) in
          ap (λ (x : ℕ). get_or o x 0) e
          ∙ sym (get_or-append-add bytes (drop end o) (p - end) 0 ∙ get_or-drop end o (p - end) 0)
          ∙ ap (λ (x : ℕ). get_or (bytes ++ drop end o) x 0) (sym (e ∙ ap (λ (x : ℕ). x + (p - end)) f))

  -- The words of the channels up to k stand in front of all.
  to_end : (k : ℕ) → k < 64 → Front (join_below k at-index ++ at-index k) (all_words count shown ws ns)
  unfolding all_words
  to_end k h = front at-index (suc k) 64 h

  end_before : (k : ℕ) → k < 64 → begin_at count seen (suc k) ≤ length (all_words count shown ws ns)
  end_before k h =
      let f = to_end k h in
      omega (arith, start_is count seen shown ws ns z.counted (suc k) h, ap length f.joined, length-append (join_below k at-index ++ at-index k) f.rest)

  -- Word j of channel k among all.
  word-at : (k j : ℕ) → k < 64 → j < length (at-index k)
      → get_or (all_words count shown ws ns) (begin_at count seen k + j) 0 ≡ get_or (at-index k) j 0
  word-at k j h b =
      let f = to_end k h in
      let first = join_below k at-index in
      rw (start_is count seen shown ws ns z.counted k (omega arith), f.joined)
      (get_or-append (first ++ at-index k) f.rest 0 (length first + j) (omega (arith, length-append first (at-index k)))
      ∙ get_or-append-add first (at-index k) j 0)

  -- All of them are within the lent bytes.
  pub ends : 2 * get_or begins 64 0 ≤ length o
  ends = omega (arith, z.found 64 (omega arith), begin-all, z.room)

  pub wrote-all : {out ends : List ℕ} {missing i : ℕ} → Going out ends missing i → missing ≡ 0
      → Wrote (all_words count shown ws ns) o out (2 * get_or begins 64 0)
  wrote-all w e =
      let f = z.found 64 (omega arith) in
      record {
        number = ap (λ (x : ℕ). 2 * x) (f ∙ begin-all);
        bytes = rw f (walked_all w e (begin-none count seen));
      }

  -- While an item is missing there is a record further back.
  pub more-records : {out ends : List ℕ} {missing : ℕ} (i : ℕ) → Going out ends missing i → (missing ≡ 0 → ⊥) → 1 ≤ i
  more-records (suc i) w n = omega arith
  more-records {out} {ends} zero w n =
      absurd (n (w.missing-is ∙ sum-end 0 64 (λ k. get_or ends (k + 1) 0 - begin_at count seen k) (omega arith)
      (λ k b h. omega (arith, w.end_is k h, z.counted.sent k h, fewer k, begin-next count seen k))))

  further : {out ends : List ℕ} {missing : ℕ} (i : ℕ) → Going out ends missing i → min missing 1 ≤ i
  further (suc i) w = omega arith
  further {out} {ends} zero w = omega (
    arith,
    w.missing-is,
    sum-end 0 64 (λ k. get_or ends (k + 1) 0 - begin_at count seen k) (omega arith)
        (λ k b h. omega (arith, w.end_is k h, z.counted.sent k h, fewer k, begin-next count seen k)),
  )

  pub ahead : {out ends : List ℕ} {missing i : ℕ} → Going out ends missing i → Ahead begins out ends missing i
  ahead {i = i} w = record {
    further = further i w;
    rising = λ k h. omega (arith, z.found k (omega arith), w.end_is k h, begin-next count seen k);
    room = λ k h. omega (arith, w.end_is k h, end_before k h, z.room, w.size, final-size);
    all = omega (arith, ends, w.size, final-size);
  }

  module _ {out ends : List ℕ} {missing i high : ℕ} (w : Going out ends missing (suc i)) (g : Message shown ws ns i high) where
    abbrev end-here : ℕ
    end-here = get_or ends (high + 1) 0

    begin-is : get_or begins high 0 ≡ begin_at count seen high
    begin-is = let h = low g in z.found high (omega arith)

    rises : begin_at count seen high ≤ begin_at count seen (suc high)
    rises = omega (arith, begin-next count seen high)

    -- A message whose channel is full is passed over.
    pub walked-received : end-here ≡ get_or begins high 0 → Going out ends missing i
    walked-received e = walked-over w g rises (e ∙ begin-is)

    -- Else it is an item.
    module _ (n : end-here ≡ get_or begins high 0 → ⊥) where
      some-missing : begin_at count seen high < end-here
      some-missing = omega (arith, n, begin-is, w.end_is high (low g), rises)

      pub item-end : (1 ≤ end-here) × (2 * end-here ≤ length o)
      item-end = (omega (arith, some-missing), omega (arith, w.end_is high (low g), end_before high (low g), z.room))

      pub item_room : 2 * end-here ≤ length out
      item_room = omega (arith, item-end.1, w.size, final-size)

      -- It is the last message at its channel that is not written.
      item-is : get_or (all_words count shown ws ns) (end-here - 1) 0 ≡ get_or ws i 0
      item-is =
          let h = low g in
          let passed = before shown ws ns high i in
          let later = from shown ws ns high (suc i) in
          let skip = get_or seen (64 + high) 0 in
          let j = end-here - 1 - begin_at count seen high in
          let x = begin-next count seen high in
          let m = number_is count seen shown ws ns z.counted high h in
          let u = w.end_is high h in
          let s = sent-here g in
          let d = the_items count seen shown ws ns z.counted high h (λ (y : number_at count seen high ≡ 0). omega (arith, y, some-missing, x, u)) in
          let l = length-drop skip (sent_words high shown ws ns) in
          let p = length-append passed (get_or ws i 0 ∷ later) in
          let q : skip + j ≡ length passed = omega (arith, some-missing, x, u, m, ap length d, l, ap length s, p) in
          let e : end-here - 1 ≡ begin_at count seen high + j = omega (arith, some-missing) in
          ap (λ (y : ℕ). get_or (all_words count shown ws ns) y 0) e
          ∙ word-at high j h (omega (arith, some-missing, x, u, m))
          ∙ ap (λ (xs : List ℕ). get_or xs j 0) d
          ∙ get_or-drop skip (sent_words high shown ws ns) j 0
          ∙ rw (s, q) (get_or-append_seam passed (get_or ws i 0) later 0)

      item-bytes : (get_or (final count seen shown ws ns o) (2 * (end-here - 1)) 0 ≡ get_or ws i 0 / 256)
          × (get_or (final count seen shown ws ns o) (2 * (end-here - 1) + 1) 0 ≡ get_or ws i 0 % 256)
      item-bytes =
          rw (← item-is) (bytes-at (all_words count shown ws ns) (drop (2 * begin_at count seen 64) o) (end-here - 1)
          (omega (arith, some-missing, w.end_is high (low g), end_before high (low g))))

      pub walked-written : (ys : List ℕ)
          → ys ≡ word_bytes (get_or ws i 0) ++ drop 2 (mid_of (2 * (end-here - 1)) (length out - 2 * (end-here - 1)) out)
          → Going (put_mid (2 * (end-here - 1)) (length out - 2 * (end-here - 1)) out ys) (set ends (high + 1) (end-here - 1)) (missing - 1) i
      walked-written ys y =
          rw (word_set out ys (get_or ws i 0) (2 * (end-here - 1)) (omega (arith, some-missing, item_room)) y, ← item-bytes.0, ← item-bytes.1)
          (walked-item w g rises some-missing item_room)

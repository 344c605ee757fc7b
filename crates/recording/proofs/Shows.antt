-- The bytes of a recording show the recording of the rules, whatever stands behind them.
use mathlib.Core.Path.{◌≡◌, refl, sym, ◌∙◌, ap, ap₂, subst}
use mathlib.Core.Bool.{Bool, true, false, cond, ◌&&◌, and-false, true≢false}
use mathlib.Core.Logic.{◌≢◌, ◌⊎◌, inl, inr}
use mathlib.Core.List.{List, [], ◌∷◌, ◌++◌, map, append-nil}
use Prim.Native.Nat.{ℕ, zero, suc, ◌+◌, ◌*◌, ◌/◌, ◌%◌, ◌≤◌, ◌<◌}
use native.Mathlib.Omega.{arith}
use native.Mathlib.Nat.{not-suc-le-zero}
use lib.Dec.{leb, ltb, eqb}
use lib.ListN.{length, drop, get_or, length-append, get_or-append, get_or-eq_default}
use lib.Seq.{drop-nil, get_or-append-add, length-take-le}
use borrow.Author.Tests.{ltb-true, ltb-false, le-ltb, le-leb, lt-leb, ne_eqb}
use Rattle.rules.specs.Change.{cons-if}
use Rattle.rules.specs.Below.{sum, sum_below}
use Rattle.rules.proofs.Sums.{sum_same, sum-zero, sums}
use Rattle.rules.specs.Zone.{is_permanent}
use Rattle.rules.specs.Site.{Item, message, request, Site, Call, send, receive, start, gate, step_s, open_s}
use Rattle.rules.specs.Park.{Move, hand, take, pass, total, entries, exits, counted, is_inside, inside_from, inside, hands, takes}
use Rattle.rules.specs.Edition.{is_traffic}
use Rattle.rules.specs.Cut.{Snapshot, Cut, moves, taking, events_of, stock_of}
use Rattle.rules.proofs.Consistency.{consistent}
use Rattle.rules.proofs.Conservation.{Between, recorded-total}
use Rattle.rules.proofs.Lists.{All, all_map}
use Rattle.rules.proofs.Tests.{both_true, eqb_refl}
use Rattle.channel.specs.Channels.{channel_index, is_channel}
use Rattle.run.specs.Claims.{WholeRun}
use Rattle.run.specs.Layout.{send_record}
use Rattle.run.specs.State.{has_started, edition_of, count_of, terms_of}
use Rattle.run.specs.Answer.{Answer}
use Rattle.run.specs.declared.Run.{Run}
use Rattle.run.proofs.BelowLaws.{split, sum-end, sum-list}
use Rattle.run.proofs.IndexLaws.{sum-zone}
use Rattle.run.proofs.Outcome.{Pair, Sited, sited, passed}
use Rattle.run.proofs.Parts.{on_site, between, on-site}
use Rattle.words.specs.Bytes.{word_at, words_from}
use Rattle.journal.specs.Format.{opened_with, opening_stocks, header_of}
use Rattle.journal.specs.Writing.{is_replayed}
use Rattle.words.proofs.ByteLaws.{word_read, words-read-from}
use Rattle.journal.proofs.Words.{header-fields}
use Rattle.recording.specs.Call.{rule_calls_in, snapshot_of, recorded_total, no_requests}
use Rattle.recording.specs.Layout.{join_below, zone_words, channel_words, item_words, recording_words, recording_bytes}
use Rattle.recording.specs.Shown.{zone_word, stock_word, items_in, cars_shown, shown_in}
use Rattle.recording.specs.InnerTotal.{word_cars, total_in}
use Rattle.recording.proofs.Bounds.{run_sound, items-number, events-few, cars-few, words-on}
use Rattle.recording.proofs.Chain.{Chain, done, next, chain}
use Rattle.recording.proofs.Complete.{complete-if}
use Rattle.recording.proofs.Sized.{zones-length}
use Rattle.recording.proofs.Zones.{words_at, first_run, first_site, reached, site-is, calls-allowed}
use Rattle.run.specs.Opening.{opened_run, opening_of}
use Rattle.words.specs.Header.{edition_in, zones_in, number_in}
use Rattle.run.specs.declared.Terms.{Terms}

-- What the layout asks of a recording of a site of so many zones: its fields have room, and it shows nothing that the site does not have.
pub record Fits (count : ℕ) (s : Snapshot) : Type 0 where
  pub fewest : 2 ≤ count
  pub most : count ≤ 8
  pub number : length (item_words count s) < 1024
  pub events : (k : ℕ) → s.events k < 1024
  pub cars : (i j : ℕ) → i < 8 → j < 8 → All (λ c. c < 256) (s.park.channel i j)
  pub recorded-off : (k : ℕ) → count ≤ k → s.recorded k ≡ false
  pub events-off : (k : ℕ) → count ≤ k → s.events k ≡ 0
  pub stock-off : (k : ℕ) → count ≤ k → s.park.stock k ≡ 0
  pub channel-off : (i j : ℕ) → on_site count i j ≡ false → s.park.channel i j ≡ []

-- The words of the zone at an index.
zone-at : (n k : ℕ) (s : Snapshot) → k < n
    → (get_or (join_below n (zone_words s)) (2 * k) 0 ≡ cond (s.recorded k) 32768 0 + s.events k)
    × (get_or (join_below n (zone_words s)) (2 * k + 1) 0 ≡ s.park.stock k)
zone-at zero k s h = absurd (not-suc-le-zero h)
zone-at (suc n) k s h = go (λ b. zone-at n k s b) (split k n h)
  where
    front : List ℕ
    front = join_below n (zone_words s)

    go : (k < n → (get_or front (2 * k) 0 ≡ cond (s.recorded k) 32768 0 + s.events k) × (get_or front (2 * k + 1) 0 ≡ s.park.stock k))
        → (k < n) ⊎ (k ≡ n)
        → (get_or (front ++ zone_words s n) (2 * k) 0 ≡ cond (s.recorded k) 32768 0 + s.events k)
        × (get_or (front ++ zone_words s n) (2 * k + 1) 0 ≡ s.park.stock k)
    go more (inl b) =
        let l = zones-length n s in
        let (x, y) = more b in
        (get_or-append front (zone_words s n) 0 (2 * k) (omega arith) ∙ x, get_or-append front (zone_words s n) 0 (2 * k + 1) (omega arith) ∙ y)
    go more (inr b) =
        let l = zones-length n s in
        let p : 2 * k ≡ length front + 0 = omega arith in
        let q : 2 * k + 1 ≡ length front + 1 = omega arith in (
          ap (λ (x : ℕ). get_or (front ++ zone_words s n) x 0) p ∙ get_or-append-add front (zone_words s n) 0 0 ∙ ap (λ (x : ℕ). cond (s.recorded x) 32768 0 + s.events x) (sym b),
          ap (λ (x : ℕ). get_or (front ++ zone_words s n) x 0) q ∙ get_or-append-add front (zone_words s n) 1 0 ∙ ap (λ (x : ℕ). s.park.stock x) (sym b),
        )

-- The cars of the words whose high byte is an index.
pub cars-append : (k : ℕ) (xs ys : List ℕ) → cars_shown k (xs ++ ys) ≡ cars_shown k xs ++ cars_shown k ys
cars-append k [] ys = refl
cars-append k (x ∷ xs) ys = ap (cons-if (eqb (x / 256) k) (x % 256)) (cars-append k xs ys) ∙ go (eqb (x / 256) k)
  where
    go : (b : Bool) → cons-if b (x % 256) (cars_shown k xs ++ cars_shown k ys) ≡ cons-if b (x % 256) (cars_shown k xs) ++ cars_shown k ys
    go true = refl
    go false = refl

cars-other : (k m : ℕ) (xs : List ℕ) → m ≢ k → All (λ w. w / 256 ≡ m) xs → cars_shown k xs ≡ []
cars-other k m [] d h = refl
cars-other k m (x ∷ xs) d h = rw (h.0, ne_eqb m k d) (cars-other k m xs d h.1)

cars-here : (i j : ℕ) (cs : List ℕ) → j < 8 → All (λ c. c < 256) cs → cars_shown (channel_index i j) (map (send_record i j) cs) ≡ cs
cars-here i j [] hj h = refl
cars-here i j (c ∷ cs) hj h =
    let b = h.0 in
    let e : send_record i j c / 256 ≡ channel_index i j = omega arith in
    let f : send_record i j c % 256 ≡ c = omega arith in
    rw (e, eqb_refl (channel_index i j), f) (ap (λ (l : List ℕ). c ∷ l) (cars-here i j cs hj h.1))

module _ (f : ℕ → List ℕ) (on : (k : ℕ) → k < 64 → All (λ w. w / 256 ≡ k) (f k)) where
  cars-none : (n k : ℕ) → n ≤ 64 → n ≤ k → cars_shown k (join_below n f) ≡ []
  cars-none zero k m h = refl
  cars-none (suc n) k m h =
      cars-append k (join_below n f) (f n)
      ∙ ap₂ ◌++◌ (cars-none n k (omega arith) (omega arith)) (cars-other k n (f n) (λ e. omega arith) (on n (omega arith)))

  cars-joined : (n k : ℕ) → n ≤ 64 → k < n → cars_shown k (join_below n f) ≡ cars_shown k (f k)
  cars-joined zero k m h = absurd (not-suc-le-zero h)
  cars-joined (suc n) k m h = cars-append k (join_below n f) (f n) ∙ go (λ b. cars-joined n k (omega arith) b) (split k n h)
    where
      go : (k < n → cars_shown k (join_below n f) ≡ cars_shown k (f k)) → (k < n) ⊎ (k ≡ n) → cars_shown k (join_below n f) ++ cars_shown k (f n) ≡ cars_shown k (f k)
      go more (inl b) =
          ap₂ ◌++◌ (more b) (cars-other k n (f n) (λ e. omega arith) (on n (omega arith))) ∙ append-nil (cars_shown k (f k))
      go more (inr b) = ap₂ ◌++◌ (cars-none n k (omega arith) (omega arith)) (ap (λ (x : ℕ). cars_shown k (f x)) (sym b))

-- The two parts of a zone's word.
permanent-bit : (b : Bool) (n : ℕ) → n < 1024 → leb 32768 (cond b 32768 0 + n) ≡ b
permanent-bit true n h = le-leb 32768 (32768 + n) (omega arith)
permanent-bit false n h = lt-leb 32768 (0 + n) (omega arith)

event-bits : (b : Bool) (n : ℕ) → n < 1024 → (cond b 32768 0 + n) % 1024 ≡ n
event-bits true n h = omega arith
event-bits false n h = omega arith

-- The cars of the words of all items are those on the channels.
word-cars-append : (xs ys : List ℕ) → word_cars (xs ++ ys) ≡ word_cars xs + word_cars ys
word-cars-append [] ys = omega arith
word-cars-append (x ∷ xs) ys = let q = word-cars-append xs ys in omega arith

word-cars-join : (n : ℕ) (f : ℕ → List ℕ) → word_cars (join_below n f) ≡ sum_below n (λ k. word_cars (f k))
word-cars-join zero f = refl
word-cars-join (suc n) f = let q = word-cars-join n f in omega (arith, word-cars-append (join_below n f) (f n))

word-cars-sent : (i j : ℕ) (cs : List ℕ) → All (λ c. c < 256) cs → word_cars (map (send_record i j) cs) ≡ sum cs
word-cars-sent i j [] h = refl
word-cars-sent i j (c ∷ cs) h =
    let b = h.0 in
    let e : send_record i j c % 256 ≡ c = omega arith in
    let q = word-cars-sent i j cs h.1 in
    omega arith

-- A sum over the indices for channels, zone by zone.
sum_rows : (n : ℕ) (f : ℕ → ℕ) → sum_below (n * 8) f ≡ sum_below n (λ i. sum_below 8 (λ j. f (channel_index i j)))
sum_rows zero f = refl
sum_rows (suc n) f = let e : suc n ≡ n + 1 = omega arith in rw e (sym (sum-zone f n _ _ (sym (sum_rows n f)) refl))

items-total : (count : ℕ) (s : Snapshot) → Fits count s → word_cars (item_words count s) ≡ sums count (λ i j. sum (s.park.channel i j))
unfolding item_words
items-total count s fits =
    word-cars-join 64 (λ k. cond (is_channel count k) (channel_words s k) [])
    ∙ sum_same 64 (λ k. word_cars (cond (is_channel count k) (channel_words s k) [])) (λ k. sum (s.park.channel (k / 8) (k % 8)))
    (λ k h. at k h (is_channel count k) refl)
    ∙ sum_rows 8 (λ k. sum (s.park.channel (k / 8) (k % 8)))
    ∙ sum_same 8 (λ i. sum_below 8 (λ j. sum (s.park.channel (channel_index i j / 8) (channel_index i j % 8)))) (λ i. sum_below count (λ j. sum (s.park.channel i j)))
    (λ i hi. row i hi)
    ∙ sum-end count 8 (λ i. sum_below count (λ j. sum (s.park.channel i j))) fits.most (λ i low high. sum-zero count _ (λ j. none i j (inl low)))
  where
    none : (i j : ℕ) → (count ≤ i) ⊎ (count ≤ j) → sum (s.park.channel i j) ≡ 0
    none i j o = ap sum (fits.channel-off i j (off (on_site count i j) refl o))
      where
        off : (p : Bool) → on_site count i j ≡ p → (count ≤ i) ⊎ (count ≤ j) → p ≡ false
        off true e (inl h) = let b = (between count i j e).from in absurd (omega arith)
        off true e (inr h) = let b = (between count i j e).to in absurd (omega arith)
        off false e h = refl

    at : (k : ℕ) → k < 64 → (p : Bool) → is_channel count k ≡ p
        → word_cars (cond p (channel_words s k) []) ≡ sum (s.park.channel (k / 8) (k % 8))
    at k h true e = word-cars-sent (k / 8) (k % 8) (s.park.channel (k / 8) (k % 8)) (fits.cars (k / 8) (k % 8) (omega arith) (omega arith))
    at k h false e =
        let q : channel_index (k / 8) (k % 8) ≡ k = omega arith in
        sym (ap sum (fits.channel-off (k / 8) (k % 8) (rw (q, e) (and-false (ltb (k % 8) 8)))))

    row : (i : ℕ) → i < 8
        → sum_below 8 (λ j. sum (s.park.channel (channel_index i j / 8) (channel_index i j % 8))) ≡ sum_below count (λ j. sum (s.park.channel i j))
    row i hi =
        sum_same 8 (λ j. sum (s.park.channel (channel_index i j / 8) (channel_index i j % 8))) (λ j. sum (s.park.channel i j)) (λ j hj.
        let x : channel_index i j / 8 ≡ i = omega arith in
        let y : channel_index i j % 8 ≡ j = omega arith in
        rw (x, y))
        ∙ sum-end count 8 (λ j. sum (s.park.channel i j)) fits.most (λ j low high. none i j (inr low))

module _ (t : Terms) (s : Snapshot) (fits : Fits t.count s) (on : (k : ℕ) → k < 64 → All (λ w. w / 256 ≡ k) (channel_words s k)) (rest : List ℕ) where
  abbrev count : ℕ
  count = t.count

  shown_bytes : List ℕ
  shown_bytes = recording_bytes t s ++ rest

  -- The word at a place of the recording.
  word-at : (k : ℕ) → k < length (recording_words t s) → word_at shown_bytes (2 * k) ≡ get_or (recording_words t s) k 0
  unfolding shown_bytes recording_bytes
  word-at k h = word_read (recording_words t s) rest k h

  words-number : length (recording_words t s) ≡ 1 + 2 * count + length (item_words count s)
  words-number = omega (arith, length-append (join_below count (zone_words s)) (item_words count s), zones-length count s)

  header : word_at shown_bytes 0 ≡ header_of t (length (item_words count s))
  header = word-at 0 (omega (arith, words-number))

  zones-are : zones_in (word_at shown_bytes 0) ≡ count
  zones-are = ap zones_in header
      ∙ ap (λ (t : Terms). t.count) (header-fields t (length (item_words count s)) fits.fewest fits.most fits.number).terms

  edition-is : edition_in (word_at (recording_bytes t s ++ rest) 0) ≡ t.edition
  unfolding shown_bytes
  edition-is = ap edition_in header
      ∙ ap (λ (t : Terms). t.edition) (header-fields t (length (item_words count s)) fits.fewest fits.most fits.number).terms

  number-are : number_in (word_at shown_bytes 0) ≡ length (item_words count s)
  number-are = ap number_in header ∙ (header-fields t (length (item_words count s)) fits.fewest fits.most fits.number).number

  items-read : items_in shown_bytes ≡ item_words count s
  unfolding shown_bytes recording_bytes
  items-read =
      let front = header_of t (length (item_words count s)) ∷ join_below count (zone_words s) in
      let e : 2 + 4 * zones_in (word_at shown_bytes 0) ≡ 2 * length front = omega (arith, zones-are, zones-length count s) in
      ap₂ (words_from shown_bytes) e number-are ∙ words-read-from front (item_words count s) rest

  -- The zones, the items and their number, for whoever reads the bytes.
  pub zones-shown : zones_in (word_at (recording_bytes t s ++ rest) 0) ≡ t.count
  unfolding shown_bytes
  zones-shown = zones-are

  pub number-shown : number_in (word_at (recording_bytes t s ++ rest) 0) ≡ length (item_words t.count s)
  unfolding shown_bytes
  number-shown = number-are

  pub items_shown : items_in (recording_bytes t s ++ rest) ≡ item_words t.count s
  unfolding shown_bytes
  items_shown = items-read

  -- The two words of a zone of the site.
  zone-read : (k : ℕ) → k < count → zone_word shown_bytes k ≡ cond (s.recorded k) 32768 0 + s.events k
  zone-read k h =
      let l = zones-length count s in
      let e : 2 + 4 * k ≡ 2 * suc (2 * k) = omega arith in
      ap (word_at shown_bytes) e ∙ word-at (suc (2 * k)) (omega (arith, words-number))
      ∙ get_or-append (join_below count (zone_words s)) (item_words count s) 0 (2 * k) (omega arith) ∙ (zone-at count k s h).0

  stock-read : (k : ℕ) → k < count → stock_word shown_bytes k ≡ s.park.stock k
  stock-read k h =
      let l = zones-length count s in
      let e : 4 + 4 * k ≡ 2 * suc (2 * k + 1) = omega arith in
      ap (word_at shown_bytes) e ∙ word-at (suc (2 * k + 1)) (omega (arith, words-number))
      ∙ get_or-append (join_below count (zone_words s)) (item_words count s) 0 (2 * k + 1) (omega arith) ∙ (zone-at count k s h).1

  -- Each part of what the bytes show.
  recorded-read : (k : ℕ) → (shown_in shown_bytes).recorded k ≡ s.recorded k
  recorded-read k = rw zones-are (go (ltb k count) refl)
    where
      go : (p : Bool) → ltb k count ≡ p → p && leb 32768 (zone_word shown_bytes k) ≡ s.recorded k
      go true e = ap (leb 32768) (zone-read k (ltb-true k count e)) ∙ permanent-bit (s.recorded k) (s.events k) (fits.events k)
      go false e = sym (fits.recorded-off k (ltb-false k count e))

  events-read : (k : ℕ) → (shown_in shown_bytes).events k ≡ s.events k
  events-read k = rw zones-are (go (ltb k count) refl)
    where
      go : (p : Bool) → ltb k count ≡ p → cond p (zone_word shown_bytes k % 1024) 0 ≡ s.events k
      go true e = ap (λ (n : ℕ). n % 1024) (zone-read k (ltb-true k count e)) ∙ event-bits (s.recorded k) (s.events k) (fits.events k)
      go false e = sym (fits.events-off k (ltb-false k count e))

  stocks-read : (k : ℕ) → (shown_in shown_bytes).park.stock k ≡ s.park.stock k
  stocks-read k = rw zones-are (go (ltb k count) refl)
    where
      go : (p : Bool) → ltb k count ≡ p → cond p (stock_word shown_bytes k) 0 ≡ s.park.stock k
      go true e = stock-read k (ltb-true k count e)
      go false e = sym (fits.stock-off k (ltb-false k count e))

  -- The stocks and the items that they show have the total of the recording.
  pub total-is : total_in t.count (length (item_words t.count s)) (recording_bytes t s ++ rest) ≡ total t.count s.park
  unfolding total_in shown_bytes recording_bytes
  total-is =
      let front = header_of t (length (item_words count s)) ∷ join_below count (zone_words s) in
      let e : 2 + 4 * count ≡ 2 * length front = omega (arith, zones-length count s) in
      ap₂ ◌+◌ (sum_same count (stock_word shown_bytes) s.park.stock stock-read)
      (ap (λ (at : ℕ). word_cars (words_from shown_bytes at (length (item_words count s)))) e
      ∙ ap word_cars (words-read-from front (item_words count s) rest) ∙ items-total count s fits)

  cars-read : (i j : ℕ) → i < 8 → j < 8 → cars_shown (channel_index i j) (item_words count s) ≡ s.park.channel i j
  unfolding item_words
  cars-read i j hi hj =
      cars-joined (λ k. cond (is_channel count k) (channel_words s k) []) (λ k h. words k h (is_channel count k)) 64 (channel_index i j) (omega arith) (omega arith)
      ∙ go (is_channel count (channel_index i j)) refl
    where
      words : (k : ℕ) → k < 64 → (p : Bool) → All (λ w. w / 256 ≡ k) (cond p (channel_words s k) [])
      words k h true = on k h
      words k h false = tt

      go : (p : Bool) → is_channel count (channel_index i j) ≡ p → cars_shown (channel_index i j) (cond p (channel_words s (channel_index i j)) []) ≡ s.park.channel i j
      go true e =
          let x : channel_index i j / 8 ≡ i = omega arith in
          let y : channel_index i j % 8 ≡ j = omega arith in
          rw (x, y) (cars-here i j (s.park.channel i j) hj (fits.cars i j hi hj))
      go false e = sym (fits.channel-off i j (rw (e) (and-false (ltb j 8))))

  channel-read : (i j : ℕ) → (shown_in shown_bytes).park.channel i j ≡ s.park.channel i j
  channel-read i j = rw items-read (go (ltb i 8) (ltb j 8) refl refl)
    where
      go : (p q : Bool) → ltb i 8 ≡ p → ltb j 8 ≡ q → cond (p && q) (cars_shown (channel_index i j) (item_words count s)) [] ≡ s.park.channel i j
      go true true e f = cars-read i j (ltb-true i 8 e) (ltb-true j 8 f)
      go true false e f = sym (fits.channel-off i j (rw f))
      go false q e f = sym (fits.channel-off i j (off (on_site count i j) refl))
        where
          off : (p : Bool) → on_site count i j ≡ p → p ≡ false
          off true o = let b = between count i j o in let h = ltb-false i 8 e in absurd (omega (arith, fits.most))
          off false o = refl

  pub shown-is : shown_in (recording_bytes t s ++ rest) ≡ s
  unfolding shown_bytes
  shown-is = λ x. record {
    recorded = λ k. recorded-read k x;
    events = λ k. events-read k x;
    park = record { stock = λ k. stocks-read k x; channel = λ i j. channel-read i j x };
  }

-- Calls between zones of the site hand nothing over where it has no channel.
calls-sited : {ws : List ℕ} {r t : Run} → Chain ws r t → All (Sited (count_of r.head)) (rule_calls_in ws)
calls-sited done = tt
calls-sited (next {ws = ws} {r} c d f typed a more) =
    let p = passed c r a in
    rw d (sited c r p, subst (λ (x : Answer). All (Sited (count_of x.run.head)) (rule_calls_in ws)) p.result (calls-sited more))

sited-between : (n : ℕ) (c : Call) → Sited n c → Between n c
sited-between n (send a b cars) p = (p.from, p.to)
sited-between n (receive a b) p = (p.from, p.to)
sited-between n (start a) p = p
sited-between n (gate d a cars) p = p

module _ (count i j : ℕ) (most : count ≤ 8) (off : on_site count i j ≡ false) where
  abbrev Elsewhere : Move → Type 0
  Elsewhere (hand a b cars) = eqb i a && eqb j b ≡ false
  Elsewhere (take a b) = Unit {0}
  Elsewhere (pass d a cars) = Unit {0}

  elsewhere : (a b : ℕ) → Pair count a b → (p : Bool) → eqb i a && eqb j b ≡ p → p ≡ false
  elsewhere a b h true e =
      let (x, y) = both_true i a j b e in
      absurd (true≢false (sym (rw (x, y) (on-site count a b most h.from h.to h.apart)) ∙ off))
  elsewhere a b h false e = refl

  -- A move that hands nothing over.
  not-handed : (p : Bool) (m : Move) (ms : List Move) → hands i j (m ∷ ms) ≡ hands i j ms → hands i j ms ≡ [] → hands i j (cons-if p m ms) ≡ []
  not-handed true m ms e q = e ∙ q
  not-handed false m ms e q = q

  none-handed : (shown n : ℕ → ℕ) (ms : List Move) → All Elsewhere ms → hands i j (inside_from shown n ms) ≡ []
  none-handed shown n [] h = refl
  none-handed shown n (hand a b cars ∷ ms) h = go (is_inside shown n (hand a b cars)) (none-handed shown (counted n (hand a b cars)) ms h.1)
    where
      go : (p : Bool) → hands i j (inside_from shown (counted n (hand a b cars)) ms) ≡ []
          → hands i j (cons-if p (hand a b cars) (inside_from shown (counted n (hand a b cars)) ms)) ≡ []
      go true q = rw h.0 q
      go false q = q
  none-handed shown n (take a b ∷ ms) h =
      not-handed (is_inside shown n (take a b)) (take a b) _ refl (none-handed shown (counted n (take a b)) ms h.1)
  none-handed shown n (pass d a cars ∷ ms) h =
      not-handed (is_inside shown n (pass d a cars)) (pass d a cars) _ refl (none-handed shown (counted n (pass d a cars)) ms h.1)

  elsewhere-if : (p : Bool) (m : Move) (ms : List Move) → Elsewhere m → All Elsewhere ms → All Elsewhere (cons-if p m [] ++ ms)
  elsewhere-if true m ms h q = (h, q)
  elsewhere-if false m ms h q = q

  moves-elsewhere : (cs : List Call) (s : Site) → All (Sited count) cs → All Elsewhere (moves cs s)
  moves-elsewhere [] s h = tt
  moves-elsewhere (send a b cars ∷ cs) s h =
      elsewhere-if (is_traffic s.edition cars) (hand a b cars) _ (elsewhere a b h.0 (eqb i a && eqb j b) refl)
      (moves-elsewhere cs (step_s (send a b cars) s) h.1)
  moves-elsewhere (receive a b ∷ cs) s h = go (s.channel a b) (moves-elsewhere cs (step_s (receive a b) s) h.1)
    where
      go : (xs : List Item) → All Elsewhere (moves cs (step_s (receive a b) s)) → All Elsewhere (taking s.edition a b xs ++ moves cs (step_s (receive a b) s))
      go [] q = q
      go (message cars flag ∷ xs) q = elsewhere-if (is_traffic s.edition cars) (take a b) _ tt q
      go (request set ∷ xs) q = q
  moves-elsewhere (start a ∷ cs) s h = moves-elsewhere cs (step_s (start a) s) h.1
  moves-elsewhere (gate d a cars ∷ cs) s h = (tt, moves-elsewhere cs (step_s (gate d a cars) s) h.1)

module _ (r : Run) (w : WholeRun r) (e : is_replayed r ≡ true) where
  all-sited : All (Sited (count_of r.head)) (rule_calls_in (words_at r))
  unfolding opened_run
  all-sited = calls-sited (chain (words_at r) 0 0 (first_run r) (reached r w e).accepted)

  lengths : length (opening_stocks r) ≡ count_of r.head
  lengths = length-take-le (count_of r.head) r.head.opening.stocks (omega (arith, w.opening, (run_sound r w e).most))

  pub snapshot-fits : Fits (count_of r.head) (snapshot_of r)
  snapshot-fits =
      let s = run_sound r w e in
      let site = sym (site-is r w e) in
      let cs = rule_calls_in (words_at r) in
      let first = first_site r in
      let ms = inside (snapshot_of r).events (moves cs first) in
      record {
        fewest = s.fewest;
        most = s.most;
        number = items-number r w e;
        events = λ k. omega (arith, events-few r w e k);
        cars = cars-few r w e;
        recorded-off = λ k h. ap (λ (s : Site). is_permanent (s.zone k).checkpoint) site ∙ rw (le-ltb k (count_of r.head) h);
        events-off = λ k h. ap (λ (s : Site). events_of (s.zone k).checkpoint) site ∙ rw (le-ltb k (count_of r.head) h);
        stock-off = λ k h. ap (λ (s : Site). stock_of (s.zone k).checkpoint (get_or (opening_stocks r) k 0)) site
            ∙ rw (le-ltb k (count_of r.head) h) (get_or-eq_default (opening_stocks r) 0 (omega (arith, lengths)));
        channel-off = λ i j o. ap (drop (takes i j ms))
            (none-handed (count_of r.head) i j s.most o (snapshot_of r).events (λ k. 0) (moves cs first)
            (moves-elsewhere (count_of r.head) i j s.most o cs first all-sited))
            ∙ drop-nil (takes i j ms);
      }

  -- The bytes that are written, and what is behind them, show the recording of the rules.
  pub recording-shows : (rest : List ℕ) → shown_in (recording_bytes (terms_of r.head) (snapshot_of r) ++ rest) ≡ snapshot_of r
  recording-shows rest = shown-is (terms_of r.head) (snapshot_of r) snapshot-fits (words-on r w e) rest

  -- They show the recorded total.
  pub recording-total : (rest : List ℕ)
      → total_in (count_of r.head) (length (item_words (count_of r.head) (snapshot_of r))) (recording_bytes (terms_of r.head) (snapshot_of r) ++ rest)
      ≡ recorded_total r
  recording-total rest = total-is (terms_of r.head) (snapshot_of r) snapshot-fits (words-on r w e) rest

  -- It is the opening's, with the entries and without the exits inside.
  all-between : All (Between (count_of r.head)) (rule_calls_in (words_at r))
  all-between = all_map (Sited (count_of r.head)) (Between (count_of r.head)) (rule_calls_in (words_at r)) (sited-between (count_of r.head)) all-sited

  pub recording-balances : has_started r.head ≡ true → no_requests (count_of r.head) r.channels ≡ true
      → let inner = inside (snapshot_of r).events (moves (rule_calls_in (words_at r)) (open_s (opening_of (opened_with r)))) in
      recorded_total r + exits inner ≡ sum (opening_stocks r) + entries inner
  recording-balances s q =
      let o = opening_of (opened_with r) in
      let cs = rule_calls_in (words_at r) in
      let h = recorded-total (count_of r.head) o cs all-between (calls-allowed r w e) (complete-if r w e s q) in
      let k : sum_below (count_of r.head) o.stocks ≡ sum (opening_stocks r) =
      ap (λ (n : ℕ). sum_below n o.stocks) (sym lengths) ∙ sum-list (opening_stocks r) in
      h ∙ ap (λ (n : ℕ). n + entries (inside (snapshot_of r).events (moves cs (open_s o)))) k

  -- Their header shows the run's edition.
  pub recording-edition : (rest : List ℕ) → edition_in (word_at (recording_bytes (terms_of r.head) (snapshot_of r) ++ rest) 0) ≡ edition_of r.head
  recording-edition rest = edition-is (terms_of r.head) (snapshot_of r) snapshot-fits (words-on r w e) rest

  -- So demand 3 holds of what they show, once questions 12 and 13 are answered yes.
  pub recording-cuts : has_started r.head ≡ true → no_requests (count_of r.head) r.channels ≡ true → (rest : List ℕ)
      → Cut (opening_of (opened_with r)) (rule_calls_in (words_at r)) (shown_in (recording_bytes (terms_of r.head) (snapshot_of r) ++ rest))
  recording-cuts s q rest =
      subst (Cut (opening_of (opened_with r)) (rule_calls_in (words_at r))) (sym (recording-shows rest))
      (consistent (opening_of (opened_with r)) (rule_calls_in (words_at r)) (calls-allowed r w e) (complete-if r w e s q))

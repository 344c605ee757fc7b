-- What a recording shows is within the bounds of its layout: items, events, stocks and cars.
use mathlib.Core.Path.{◌≡◌, refl, sym, ◌∙◌, subst}
use mathlib.Core.Bool.{Bool, true, false, cond, ◌&&◌, not}
use mathlib.Core.Logic.{inl, inr}
use mathlib.Core.List.{List, [], ◌∷◌, map}
use Prim.Native.Nat.{ℕ, zero, suc, ◌+◌, ◌/◌, ◌%◌, ◌≤◌, ◌<◌}
use native.Mathlib.Omega.{arith}
use lib.Dec.{eqb, ltb}
use lib.ListN.{length, drop, get_or, length-append, length-drop}
use lib.Seq.{length-take-le}
use borrow.Author.Tests.{eqb-true, ltb-true, ne_eqb}
use Rattle.rules.specs.Change.{cons-if}
use Rattle.rules.specs.Zone.{is_permanent, opened, saved, sent_under, received_under, gated, checkpoint_after, started, requested, made_permanent}
use Rattle.rules.specs.Site.{Item, message, request, Site, Call, send, receive, start, gate, pop_s, turn_s, step_s, take_s, open_s}
use Rattle.rules.specs.Cut.{run, events_of, stock_of}
use Rattle.rules.specs.declared.Local.{Local}
use Rattle.rules.specs.declared.Saved.{Saved}
use Rattle.rules.specs.declared.Checkpoint.{Checkpoint}
use Rattle.rules.specs.declared.Checkpoint.TheVariants.{None, Mutable, Permanent}
use Rattle.rules.proofs.Counting.{events_at, Counts, counts-kept, counts-open}
use Rattle.rules.proofs.Editions.{sent-keeps, received-keeps}
use Rattle.rules.proofs.Guarded.{on-keeps}
use Rattle.rules.proofs.History.{open_h, now-run}
use Rattle.rules.proofs.Kept.{fresh-open, calls-keep}
use Rattle.rules.proofs.Lists.{All}
use Rattle.rules.proofs.Tests.{and_left, Same, same?}
use Rattle.channel.specs.Channels.{channel_index, is_channel}
use Rattle.rules.specs.Below.{sum_below, list_below, sum}
use Rattle.run.specs.Claims.{WholeRun}
use Rattle.run.specs.Layout.{send_record}
use Rattle.run.specs.Lists.{call_of}
use Rattle.run.specs.Model.{site_of}
use Rattle.run.specs.State.{zone_at, is_sound, count_of}
use Rattle.run.specs.declared.Run.{Run}
use Rattle.rules.proofs.Sums.{sum_same, sum-zero, sum_both, sum-at, sum-le}
use Rattle.run.proofs.BelowLaws.{list_at}
use Rattle.run.proofs.Outcome.{passed, is_open}
use Rattle.run.proofs.Parts.{zone-on, SoundRun, parts}
use Rattle.run.proofs.Refine.{refine}
use Rattle.run.proofs.Whole.{call-whole, opened-whole}
use Rattle.journal.specs.InnerOrdinals.{ordinals_of}
use Rattle.journal.specs.Writing.{is_replayed, replays_to}
use Rattle.recording.specs.Call.{rule_calls_in, snapshot_of}
use Rattle.recording.specs.Layout.{join_below, channel_words, item_words}
use Rattle.recording.specs.InnerRecords.{is_in, sends_on, sent_words, taken_count, items_at}
use Rattle.recording.proofs.Chain.{Chain, done, next, chain}
use Rattle.recording.proofs.Zones.{words_at, first_run, first_site, reached, first-site, site-is, calls-allowed, items_of}
use Rattle.journal.specs.Format.{opened_with, opening_stocks}
use Rattle.run.specs.Opening.{opening_of}

-- A word is sent on one channel at most, so all channels together have at most as many items as there are records.
no_index : (n x : ℕ) (p : ℕ → Bool) → n ≤ x → sum_below n (λ k. cond (eqb x k && p k) 1 0) ≡ 0
no_index zero x p h = refl
no_index (suc n) x p h = rw (no_index n x p (omega arith), ne_eqb x n (λ e. omega arith))

one_index : (n x : ℕ) (p : ℕ → Bool) → sum_below n (λ k. cond (eqb x k && p k) 1 0) ≤ 1
one_index zero x p = omega arith
one_index (suc n) x p = go (one_index n x p) (same? x n)
  where
    at_most : (b : Bool) → cond b 1 0 ≤ 1
    at_most true = omega arith
    at_most false = omega arith

    go : sum_below n (λ k. cond (eqb x k && p k) 1 0) ≤ 1 → Same x n
        → sum_below n (λ k. cond (eqb x k && p k) 1 0) + cond (eqb x n && p n) 1 0 ≤ 1
    go h (inl e) = rw (no_index n x p (omega (arith, e.0)), e.1) (omega (arith, at_most (p n)))
    go h (inr e) = rw e.1 (omega arith)

length-cons-if : (b : Bool) (x : ℕ) (xs : List ℕ) → length (cons-if b x xs) ≡ cond b 1 0 + length xs
length-cons-if true x xs = omega arith
length-cons-if false x xs = omega arith

sent-few : (n : ℕ) (sh ws ns : List ℕ) → sum_below n (λ k. length (sent_words k sh ws ns)) ≤ length ws
sent-few n sh [] ns = omega (arith, sum-zero n (λ k. 0) (λ k. refl))
sent-few n sh (w ∷ ws) [] = omega (arith, sum-zero n (λ k. 0) (λ k. refl))
sent-few n sh (w ∷ ws) (x ∷ ns) =
    let one : ℕ → ℕ = λ k. cond (sends_on k sh w x) 1 0 in
    let more : ℕ → ℕ = λ k. length (sent_words k sh ws ns) in
    let e : sum_below n (λ k. length (cons-if (sends_on k sh w x) w (sent_words k sh ws ns))) ≡ sum_below n (λ k. one k + more k) =
    sum_same n _ _ (λ k h. length-cons-if (sends_on k sh w x) w (sent_words k sh ws ns)) in
    omega (arith, sum_both n one more, one_index n (w / 256) (λ k. is_in x (get_or sh (k / 8) 0)), sent-few n sh ws ns)

-- Of each word on a channel the high byte is the channel's index.
sent-on : (k : ℕ) (sh ws ns : List ℕ) → All (λ w. w / 256 ≡ k) (sent_words k sh ws ns)
sent-on k sh [] ns = tt
sent-on k sh (w ∷ ws) [] = tt
sent-on k sh (w ∷ ws) (x ∷ ns) = go (sends_on k sh w x) refl (sent-on k sh ws ns)
  where
    go : (b : Bool) → sends_on k sh w x ≡ b → All (λ w. w / 256 ≡ k) (sent_words k sh ws ns)
        → All (λ w. w / 256 ≡ k) (cons-if b w (sent_words k sh ws ns))
    go true e h = (eqb-true (w / 256) k (and_left (eqb (w / 256) k) _ e), h)
    go false e h = h

all_drop : (P : ℕ → Type 0) (n : ℕ) (xs : List ℕ) → All P xs → All P (drop n xs)
all_drop P zero xs h = h
all_drop P (suc n) [] h = tt
all_drop P (suc n) (x ∷ xs) h = all_drop P n xs h.1

cars-under : (i j : ℕ) (cs : List ℕ) → j < 8 → All (λ w. w / 256 ≡ channel_index i j) (map (send_record i j) cs) → All (λ c. c < 256) cs
cars-under i j [] hj h = tt
cars-under i j (c ∷ cs) hj h = (omega (arith, h.0), cars-under i j cs hj h.1)

pub length-join : (n : ℕ) (f : ℕ → List ℕ) → length (join_below n f) ≡ sum_below n (λ k. length (f k))
length-join zero f = refl
length-join (suc n) f = let q = length-join n f in omega (arith, length-append (join_below n f) (f n))

-- The stock that a checkpoint keeps.
abbrev saved_stock : Checkpoint → ℕ
saved_stock None = 0
saved_stock (Mutable s) = s.stock
saved_stock (Permanent s) = s.stock

shown-stock : (k : Checkpoint) (opening m : ℕ) → saved_stock k ≤ m → opening ≤ m → stock_of k opening ≤ m
shown-stock None opening m h o = o
shown-stock (Mutable s) opening m h o = o
shown-stock (Permanent s) opening m h o = h

shown-events : (k : Checkpoint) → events_of k ≤ events_at k
shown-events None = omega arith
shown-events (Mutable s) = omega arith
shown-events (Permanent s) = omega arith

stock-after : (k : Checkpoint) (now : Saved) (flag : Bool) (m : ℕ) → now.stock ≤ m → saved_stock k ≤ m → saved_stock (checkpoint_after k now flag) ≤ m
stock-after None now true m n h = n
stock-after None now false m n h = h
stock-after (Mutable s) now flag m n h = h
stock-after (Permanent s) now flag m n h = h

stock-made : (k : Checkpoint) (now : Saved) (m : ℕ) → now.stock ≤ m → saved_stock k ≤ m → saved_stock (made_permanent k now) ≤ m
stock-made None now m n h = n
stock-made (Mutable s) now m n h = h
stock-made (Permanent s) now m n h = h

-- A call keeps at most the stock that a zone has.
module _ (s : Site) (k m : ℕ) (now : (s.zone k).stock ≤ m) (kept : saved_stock (s.zone k).checkpoint ≤ m) where
  abbrev Few : Local → Type 0
  Few z = saved_stock z.checkpoint ≤ m

  stock-step : (c : Call) → Few ((step_s c s).zone k)
  stock-step (send a b cars) =
      on-keeps Few (eqb k a) (sent_under s.edition cars) (s.zone k)
      (sent-keeps s.edition cars (s.zone k) Few (λ h. h)) kept
  stock-step (receive a b) = go (s.channel a b)
    where
      go : (xs : List Item) → Few ((take_s a b xs s).zone k)
      go [] = kept
      go (message cars flag ∷ xs) =
          on-keeps Few (eqb k b) (received_under s.edition a cars flag) (s.zone k)
          (received-keeps s.edition cars (s.zone k) Few a flag
          (stock-after (s.zone k).checkpoint (saved (s.zone k)) flag m now)) kept
      go (request set ∷ xs) =
          on-keeps (λ (t : Site). Few (t.zone k)) (not (is_permanent (s.zone b).checkpoint)) (turn_s b set) (pop_s a b s)
          (λ h. on-keeps Few (eqb k b) requested (s.zone k) (stock-made (s.zone k).checkpoint (saved (s.zone k)) m now) kept) kept
  stock-step (start a) = on-keeps Few (eqb k a) started (s.zone k) (λ h. now) kept
  stock-step (gate d a cars) = on-keeps Few (eqb k a) (gated d cars) (s.zone k) (λ h. h) kept

stock-now : (r : Run) → SoundRun r → (k : ℕ) → ((site_of r).zone k).stock ≤ 65535
stock-now r s k = go (ltb k (count_of r.head)) refl
  where
    go : (p : Bool) → ltb k (count_of r.head) ≡ p → (cond p (zone_at r.head k) (opened k 0)).stock ≤ 65535
    go true e =
        let h = ltb-true k (count_of r.head) e in
        let q = sum-at (count_of r.head) (λ i. ((site_of r).zone i).stock) k h in
        subst (λ (z : Local). z.stock ≤ 65535) (zone-on r k h) (omega (arith, s.cars))
    go false e = omega arith

saved-few : {ws : List ℕ} {r t : Run} → Chain ws r t → WholeRun r → ((k : ℕ) → saved_stock ((site_of r).zone k).checkpoint ≤ 65535)
    → (k : ℕ) → saved_stock ((site_of t).zone k).checkpoint ≤ 65535
saved-few done w h k = h k
saved-few (next {r = r} c d f typed a more) w h k =
    let s = parts r (passed c r a).sound in
    let q = (refine c r w typed a).0 in
    saved-few more (call-whole c r w)
    (λ k. subst (λ (x : Site). saved_stock (x.zone k).checkpoint ≤ 65535) (sym q) (stock-step (site_of r) k 65535 (stock-now r s k) (h k) (call_of c))) k

item-few : (xs : List ℕ) (i : ℕ) → get_or xs i 0 ≤ sum xs
item-few [] i = omega arith
item-few (x ∷ xs) zero = omega arith
item-few (x ∷ xs) (suc i) = let q = item-few xs i in omega arith

module _ (r : Run) (w : WholeRun r) (e : is_replayed r ≡ true) where
  pub run_sound : SoundRun r
  unfolding is_replayed
  run_sound = parts r (and_left (is_sound r) (replays_to r) e)

  -- The events shown as a list.
  shown_list : List ℕ
  shown_list = list_below 8 (snapshot_of r).events

  items_at_lem : (k : ℕ) → k < 64 → channel_words (snapshot_of r) k ≡ items_at k shown_list (words_at r) (ordinals_of (words_at r) (first_run r))
  unfolding shown_list
  items_at_lem k h =
      items_of r w e shown_list k h (list_at 8 (snapshot_of r).events 0 (k / 8) (omega arith)) (list_at 8 (snapshot_of r).events 0 (k % 8) (omega arith))

  -- "number of items on lines (10)".
  items-below : (n : ℕ) → n ≤ 64
      → length (join_below n (λ k. cond (is_channel (count_of r.head) k) (channel_words (snapshot_of r) k) [])) ≤ length (words_at r)
  items-below n m =
      let ws = words_at r in
      let ns = ordinals_of ws (first_run r) in
      let shown : ℕ → List ℕ = λ k. cond (is_channel (count_of r.head) k) (channel_words (snapshot_of r) k) [] in
      omega (
        arith,
        length-join n shown,
        sum-le n (λ k. length (shown k)) (λ k. length (sent_words k shown_list ws ns)) (λ k h. fewer k (omega arith) (is_channel (count_of r.head) k)),
        sent-few n shown_list ws ns,
      )
    where
      fewer : (k : ℕ) → k < 64 → (p : Bool)
          → length (cond p (channel_words (snapshot_of r) k) []) ≤ length (sent_words k shown_list (words_at r) (ordinals_of (words_at r) (first_run r)))
      fewer k h true = rw (items_at_lem k h, length-drop) (omega arith)
      fewer k h false = omega arith

  pub items-few : length (item_words (count_of r.head) (snapshot_of r)) ≤ r.head.records
  unfolding item_words
  items-few =
      subst (λ (n : ℕ). length (item_words (count_of r.head) (snapshot_of r)) ≤ n)
      (length-take-le r.head.records r.journal (omega (arith, w.journal, run_sound.records))) (items-below 64 (omega arith))

  pub items-number : length (item_words (count_of r.head) (snapshot_of r)) < 1024
  items-number = omega (arith, items-few, run_sound.records)

  -- "events (10)".
  pub events-few : (i : ℕ) → (snapshot_of r).events i ≤ 1000
  events-few i =
      let v = opening_of (opened_with r) in
      let cs = rule_calls_in (words_at r) in
      let q : run cs (open_s v) ≡ site_of r = sym (site-is r w e) in
      let h = (calls-keep Counts counts-kept cs (open_h v) (fresh-open v) (calls-allowed r w e) (counts-open v)).past i in
      let past : events_at ((site_of r).zone i).checkpoint ≤ ((site_of r).zone i).events =
      subst (λ (s : Site). events_at (s.zone i).checkpoint ≤ (s.zone i).events) (now-run cs (open_h v) ∙ q) h in
      subst (λ (s : Site). events_of (s.zone i).checkpoint ≤ 1000) (site-is r w e)
      (omega (arith, shown-events ((site_of r).zone i).checkpoint, now-few (ltb i (count_of r.head)) refl))
    where
      now-few : (p : Bool) → ltb i (count_of r.head) ≡ p → ((site_of r).zone i).events ≤ 1000
      now-few true f = omega (arith, run_sound.events i (ltb-true i (count_of r.head) f), run_sound.records)
      now-few false f = rw f (omega arith)

  -- "a word of stock".
  pub stock-few : (i : ℕ) → (snapshot_of r).park.stock i ≤ 65535
  stock-few i =
      let h = reached r w e in
      let o = is_open (opened_with r) h.opened in
      let c = chain (words_at r) 0 0 (first_run r) h.accepted in
      let v : get_or (opening_stocks r) i 0 ≤ 65535 = omega (arith, item-few (opening_stocks r) i, o.fits.cars) in
      let s = saved-few c (opened-whole (opened_with r)) (λ k. subst (λ (x : Site). saved_stock (x.zone k).checkpoint ≤ 65535) (sym (first-site r w e)) (omega arith)) i in
      shown-stock ((run (rule_calls_in (words_at r)) (first_site r)).zone i).checkpoint (get_or (opening_stocks r) i 0) 65535
      (subst (λ (x : Site). saved_stock (x.zone i).checkpoint ≤ 65535) (h.site ∙ site-is r w e) s) v

  -- The items on the channel at an index: the high byte is the index, and the cars are below 256.
  pub words-on : (k : ℕ) → k < 64 → All (λ w. w / 256 ≡ k) (channel_words (snapshot_of r) k)
  words-on k h =
      let ns = ordinals_of (words_at r) (first_run r) in
      subst (All (λ w. w / 256 ≡ k)) (sym (items_at_lem k h))
      (all_drop (λ w. w / 256 ≡ k) (taken_count k shown_list (words_at r) ns) (sent_words k shown_list (words_at r) ns) (sent-on k shown_list (words_at r) ns))

  pub cars-few : (i j : ℕ) → i < 8 → j < 8 → All (λ c. c < 256) ((snapshot_of r).park.channel i j)
  cars-few i j hi hj =
      let x : channel_index i j / 8 ≡ i = omega arith in
      let y : channel_index i j % 8 ≡ j = omega arith in
      cars-under i j ((snapshot_of r).park.channel i j) hj (rw (x, y) at (words-on (channel_index i j) (omega arith)))

-- The counts by the high byte of a record's word: what one record more adds, and what they say of each channel.
use mathlib.Core.Path.{◌≡◌, refl, sym, ◌∙◌, ap}
use mathlib.Core.Bool.{Bool, true, false, ◌&&◌, cond}
use mathlib.Core.List.{List, [], ◌∷◌}
use Prim.Native.Nat.{ℕ, zero, suc, ◌+◌, ◌/◌, ◌%◌, ◌<◌, ◌≤◌}
use native.Mathlib.Numerals.{add-one}
use native.Mathlib.Omega.{arith}
use lib.Dec.{eqb}
use mir.Val.{bool_byte}
use lib.ListN.{length, get_or, drop, set, replicate, length-set, length-replicate, drop_of_length-le}
use lib.Seq.{get_or-set_same, get_or-set_other, drop-cons, ext_get_or}
use borrow.Author.Tests.{eqb-true, eqb-false, lt-ltb, le-ltb}
use Rattle.rules.specs.Change.{on, cons-if}
use Rattle.recording.specs.InnerRecords.{is_in, sends_on, takes_on, sent_words, taken_count}
use Rattle.run.proofs.BelowLaws.{length-below, list_at}
use Rattle.items.specs.InnerItems.{owner_of, counts_at, count_at, counts, Counted}

-- A number that is added at one place of a list.
pub added : (seen : List ℕ) (h k t : ℕ) → h < length seen → get_or (set seen h (get_or seen h 0 + t)) k 0 ≡ get_or seen k 0 + cond (eqb h k) t 0
added seen h k t b = go (eqb h k) refl
  where
    go : (e : Bool) → eqb h k ≡ e → get_or (set seen h (get_or seen h 0 + t)) k 0 ≡ get_or seen k 0 + cond e t 0
    go true e = rw (← eqb-true h k e) (get_or-set_same seen h (get_or seen h 0 + t) 0 b)
    go false e = get_or-set_other seen h k (get_or seen h 0 + t) 0 (λ (q : k ≡ h). eqb-false h k e (sym q)) ∙ omega arith

-- 1 where the test holds.
abbrev pub one : Bool → ℕ
one b = cond b 1 0

pub byte_one : (b : Bool) → bool_byte b ≡ one b
byte_one true = refl
byte_one false = refl

cons-one : (b : Bool) (w : ℕ) (xs : List ℕ) → length (cons-if b w xs) ≡ one b + length xs
cons-one true w xs = omega arith
cons-one false w xs = omega arith

on_one : (b : Bool) (n : ℕ) → on b suc n ≡ one b + n
on_one true n = omega arith
on_one false n = omega arith

-- The records from number i on: that one, and those behind it.
count_next : (shown ws ns : List ℕ) (k i : ℕ) → i < length ws → length ns ≡ length ws
    → count_at k shown (drop i ws) (drop i ns)
    ≡ one (counts_at k shown (get_or ws i 0) (get_or ns i 0)) + count_at k shown (drop (i + 1) ws) (drop (i + 1) ns)
count_next shown ws ns k i l m =
    rw (add-one i, drop-cons ws i 0 l, drop-cons ns i 0 (omega arith)) (on_one (counts_at k shown (get_or ws i 0) (get_or ns i 0)) _)

-- A record counts at the high byte of its own word alone.
counts-one : (shown : List ℕ) (h n k : ℕ)
    → one (eqb h k && is_in n (get_or shown (owner_of k) 0)) ≡ cond (eqb h k) (one (is_in n (get_or shown (owner_of h) 0))) 0
counts-one shown h n k = go (eqb h k) refl
  where
    go : (e : Bool) → eqb h k ≡ e
        → one (e && is_in n (get_or shown (owner_of k) 0)) ≡ cond e (one (is_in n (get_or shown (owner_of h) 0))) 0
    go true e = rw (eqb-true h k e)
    go false e = refl

-- The counts over the first i records: with what the others add, they are those of all.
pub record Seen (seen shown ws ns : List ℕ) (i : ℕ) : Type 0 where
  pub size : length seen ≡ 256
  pub few : (k : ℕ) → get_or seen k 0 ≤ i
  pub each : (k : ℕ) → get_or seen k 0 + count_at k shown (drop i ws) (drop i ns) ≡ count_at k shown ws ns

none : (n p : ℕ) → ◌≡◌ {A = ℕ} (get_or (replicate n 0) p 0) 0
none zero p = refl
none (suc n) zero = refl
none (suc n) (suc p) = none n p

pub seen_none : (shown ws ns : List ℕ) → Seen (replicate 256 0) shown ws ns 0
seen_none shown ws ns = record {
  size = length-replicate {A = ℕ} 256 0;
  few = λ k. omega (arith, none 256 k);
  each = λ k. omega (arith, none 256 k);
}

one-few : (e b : Bool) → cond e (one b) 0 ≤ 1
one-few true true = omega arith
one-few true false = omega arith
one-few false b = omega arith

pub seen_more : (seen shown ws ns : List ℕ) (i high limit t : ℕ) → Seen seen shown ws ns i → i < length ws → length ns ≡ length ws
    → high ≡ get_or ws i 0 / 256 → high < 256 → limit ≡ get_or shown (owner_of high) 0 → t ≡ one (is_in (get_or ns i 0) limit)
    → Seen (set seen high (get_or seen high 0 + t)) shown ws ns (i + 1)
seen_more seen shown ws ns i high limit t s l m eh h el et =
    let n = get_or ns i 0 in
    let b : high < length seen = omega (arith, s.size) in
    let f : t ≡ one (is_in n (get_or shown (owner_of high) 0)) = et ∙ ap (λ (x : ℕ). one (is_in n x)) el in
    record {
      size = length-set seen high (get_or seen high 0 + t) ∙ s.size;
      few = λ k.
          let y : cond (eqb high k) t 0 ≤ 1 = rw f (one-few (eqb high k) (is_in n (get_or shown (owner_of high) 0))) in
          omega (arith, added seen high k t b, y, s.few k);
      each = λ k.
          let y : one (counts_at k shown (get_or ws i 0) n) ≡ cond (eqb high k) t 0 = rw (f, ← eh) (counts-one shown high n k) in
          omega (arith, added seen high k t b, y, count_next shown ws ns k i l m, s.each k);
    }

-- The counts over all records.
count_at_lem : (shown ws ns : List ℕ) (k : ℕ) → k < 256 → get_or (counts shown ws ns) k 0 ≡ count_at k shown ws ns
unfolding counts
count_at_lem shown ws ns k h = list_at 256 (λ j. count_at j shown ws ns) 0 k h

counts-length : (shown ws ns : List ℕ) → length (counts shown ws ns) ≡ 256
unfolding counts
counts-length shown ws ns = length-below 256 (λ j. count_at j shown ws ns)

pub seen_all : (seen shown ws ns : List ℕ) (i : ℕ) → i ≡ length ws → Seen seen shown ws ns i → seen ≡ counts shown ws ns
seen_all seen shown ws ns i e s =
    ext_get_or 0 seen (counts shown ws ns) (s.size ∙ sym (counts-length shown ws ns))
    (λ k h. here k ∙ sym (count_at_lem shown ws ns k (rw s.size at h)))
  where
    ended : drop i ws ≡ []
    ended = drop_of_length-le ws {i = i} (omega arith)

    here : (k : ℕ) → get_or seen k 0 ≡ count_at k shown ws ns
    here k = omega (arith, (rw ended at (s.each k)))

-- At a high byte below 64 the messages of that index are counted, at one of 64 more its receipts.
module _ (shown : List ℕ) (k : ℕ) (b : k < 64) where
  sends-is : (w n : ℕ) → counts_at k shown w n ≡ sends_on k shown w n
  sends-is w n = rw (lt-ltb k 64 b)

  takes-is : (w n : ℕ) → counts_at (64 + k) shown w n ≡ takes_on k shown w n
  takes-is w n =
      let e : (64 + k) % 8 ≡ k % 8 = omega arith in
      rw (le-ltb (64 + k) 64 (omega arith), e)

  count-sent : (ws ns : List ℕ) → count_at k shown ws ns ≡ length (sent_words k shown ws ns)
  count-sent [] ns = refl
  count-sent (w ∷ ws) [] = refl
  count-sent (w ∷ ws) (n ∷ ns) = omega (
    arith,
    on_one (counts_at k shown w n) (count_at k shown ws ns),
    ap one (sends-is w n),
    count-sent ws ns,
    cons-one (sends_on k shown w n) w (sent_words k shown ws ns),
  )

  count-taken : (ws ns : List ℕ) → count_at (64 + k) shown ws ns ≡ taken_count k shown ws ns
  count-taken [] ns = refl
  count-taken (w ∷ ws) [] = refl
  count-taken (w ∷ ws) (n ∷ ns) =
      ap (λ (p : Bool). on p suc (count_at (64 + k) shown ws ns)) (takes-is w n)
      ∙ ap (λ (m : ℕ). on (takes_on k shown w n) suc m) (count-taken ws ns)

-- So the counts say of every channel how many of its messages and receipts are inside.
pub counted_of : {seen shown ws ns : List ℕ} → seen ≡ counts shown ws ns → Counted seen shown ws ns
counted_of {seen} {shown} {ws} {ns} e = record {
  sent = λ k b. here k (omega arith) ∙ count-sent shown k b ws ns;
  taken = λ k b. here (64 + k) (omega arith) ∙ count-taken shown k b ws ns;
}
  where
    here : (k : ℕ) → k < 256 → get_or seen k 0 ≡ count_at k shown ws ns
    here k h = ap (λ (xs : List ℕ). get_or xs k 0) e ∙ count_at_lem shown ws ns k h

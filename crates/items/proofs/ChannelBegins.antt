-- Where the words of each channel begin among those of all, and which records are messages of a channel.
use mathlib.Core.Path.{◌≡◌, refl, sym, ◌∙◌, ap}
use mathlib.Core.Bool.{Bool, true, false, ◌&&◌, and-false}
use mathlib.Core.Logic.{◌⊎◌, inl, inr}
use mathlib.Core.List.{List, [], ◌∷◌, ◌++◌, append_assoc, append-nil}
use Prim.Native.Nat.{ℕ, zero, suc, ◌+◌, ◌/◌, ◌<◌, ◌≤◌}
use native.Mathlib.Numerals.{add-one}
use native.Mathlib.Omega.{arith}
use lib.ListN.{length, get_or, take, drop, set}
use lib.Dec.{eqb, ltb}
use lib.Seq.{drop-cons, get_or-set_same, get_or-set_other}
use borrow.Author.Tests.{eqb-true, eq-eqb, ltb-true, lt-ltb}
use Rattle.rules.specs.Below.{sum_below}
use Rattle.rules.specs.Change.{cons-if}
use Rattle.rules.proofs.Tests.{and_left}
use Rattle.run.proofs.BelowLaws.{split}
use Rattle.recording.specs.Layout.{join_below}
use Rattle.recording.specs.InnerRecords.{is_in, sends_on, sent_words}
use Rattle.items.specs.InnerItems.{is_sent, number_at, begin_at, Begins}

-- The number of the items before a channel.
module _ (count : ℕ) (seen : List ℕ) where
  pub begin-none : begin_at count seen 0 ≡ 0
  unfolding begin_at
  begin-none = refl

  pub begin-next : (k : ℕ) → begin_at count seen (suc k) ≡ begin_at count seen k + number_at count seen k
  unfolding begin_at
  begin-next k = refl

  pub begin-sum : (k : ℕ) → begin_at count seen k ≡ sum_below k (number_at count seen)
  unfolding begin_at
  begin-sum k = refl

  pub begins-none : (begins : List ℕ) → get_or begins 0 0 ≡ 0 → Begins 0 begins count seen
  begins-none begins e k h = let z : k ≡ 0 = omega arith in rw z (e ∙ sym begin-none)

  pub begins-more : (begins : List ℕ) (k n : ℕ) → k + 1 < length begins → n ≡ number_at count seen k → Begins k begins count seen
      → Begins (k + 1) (set begins (k + 1) (get_or begins k 0 + n)) count seen
  begins-more begins k n b e s j h = go (split j (k + 1) (omega arith))
    where
      go : (j < k + 1) ⊎ (j ≡ k + 1) → get_or (set begins (k + 1) (get_or begins k 0 + n)) j 0 ≡ begin_at count seen j
      go (inl l) = get_or-set_other begins (k + 1) j (get_or begins k 0 + n) 0 (λ (q : j ≡ k + 1). omega arith) ∙ s j (omega arith)
      go (inr q) =
          rw (q, get_or-set_same begins (k + 1) (get_or begins k 0 + n) 0 b, s k (omega arith), e, add-one k) (sym (begin-next k))

-- Lists one after another: those of the channels before k stand in front.
pub record Front (xs all : List ℕ) : Type 0 where
  pub rest : List ℕ
  pub joined : all ≡ xs ++ rest

pub front : (f : ℕ → List ℕ) (k n : ℕ) → k ≤ n → Front (join_below k f) (join_below n f)
front f k zero h = let e : k ≡ 0 = omega arith in rw e (record { rest = []; joined = refl })
front f k (suc n) h = go (split k (suc n) (omega arith)) (front f k n)
  where
    go : (k < suc n) ⊎ (k ≡ suc n) → (k ≤ n → Front (join_below k f) (join_below n f)) → Front (join_below k f) (join_below (suc n) f)
    go (inl l) more =
        let p = more (omega arith) in
        record { rest = p.rest ++ f n; joined = ap (λ (xs : List ℕ). xs ++ f n) p.joined ∙ append_assoc (join_below k f) p.rest (f n) }
    go (inr e) more = rw e (record { rest = []; joined = sym (append-nil (join_below (suc n) f)) })

-- The messages at index k in the records before number i, and from there on.
abbrev pub before : List ℕ → List ℕ → List ℕ → ℕ → ℕ → List ℕ
before shown ws ns k i = sent_words k shown (take i ws) (take i ns)

abbrev pub from : List ℕ → List ℕ → List ℕ → ℕ → ℕ → List ℕ
from shown ws ns k i = sent_words k shown (drop i ws) (drop i ns)

sent-split : (k : ℕ) (shown ws ns : List ℕ) (i : ℕ) → length ns ≡ length ws
    → sent_words k shown ws ns ≡ before shown ws ns k i ++ from shown ws ns k i
sent-split k shown ws ns zero m = refl
sent-split k shown [] ns (suc i) m = refl
sent-split k shown (w ∷ ws) [] (suc i) m = absurd (omega arith)
sent-split k shown (w ∷ ws) (n ∷ ns) (suc i) m =
    ap (λ (xs : List ℕ). cons-if (sends_on k shown w n) w xs) (sent-split k shown ws ns i (omega arith)) ∙ go (sends_on k shown w n)
  where
    go : (b : Bool) → cons-if b w (before shown ws ns k i ++ from shown ws ns k i) ≡ cons-if b w (before shown ws ns k i) ++ from shown ws ns k i
    go true = refl
    go false = refl

-- Record i has an ordinal; `high` is the high byte of its word.
pub record RecordAt (shown ws ns : List ℕ) (i high : ℕ) : Type 0 where
  pub inside : i < length ws
  pub numbered : length ns ≡ length ws
  pub high_is : high ≡ get_or ws i 0 / 256

module _ {shown ws ns : List ℕ} {i high : ℕ} (r : RecordAt shown ws ns i high) where
  next : (k : ℕ) (b : Bool) → k < 64 → (eqb high k && is_sent high (get_or ns i 0) shown) ≡ b
      → from shown ws ns k i ≡ cons-if b (get_or ws i 0) (from shown ws ns k (suc i))
  unfolding is_sent
  next k b h f =
      rw (drop-cons ws i 0 r.inside, drop-cons ns i 0 (omega (arith, r.inside, r.numbered)), ← r.high_is, ← f)
      (ap (λ (t : Bool). cons-if t (get_or ws i 0) (from shown ws ns k (suc i))) (go (eqb high k) refl))
    where
      go : (q : Bool) → eqb high k ≡ q → (q && is_in (get_or ns i 0) (get_or shown (k / 8) 0)) ≡ (q && is_sent high (get_or ns i 0) shown)
      go true q = rw (eqb-true high k q, lt-ltb k 64 h)
      go false q = refl

  -- It is no message inside the sender's events shown; or none at index k.
  pub unsent : is_sent high (get_or ns i 0) shown ≡ false → (k : ℕ) → k < 64 → from shown ws ns k i ≡ from shown ws ns k (suc i)
  unsent t k h = next k false h (rw t (and-false (eqb high k)))

  pub elsewhere : (k : ℕ) → k < 64 → eqb high k ≡ false → from shown ws ns k i ≡ from shown ws ns k (suc i)
  elsewhere k h q = next k false h (rw q)

-- It is a message inside the sender's events shown, at the channel that its word names.
pub record Message (shown ws ns : List ℕ) (i high : ℕ) : Type 0 where
  pub at : RecordAt shown ws ns i high
  pub sent : is_sent high (get_or ns i 0) shown ≡ true

module _ {shown ws ns : List ℕ} {i high : ℕ} (g : Message shown ws ns i high) where
  pub low : high < 64
  unfolding is_sent
  low = ltb-true high 64 (and_left (ltb high 64) (is_in (get_or ns i 0) (get_or shown (high / 8) 0)) g.sent)

  pub here : from shown ws ns high i ≡ get_or ws i 0 ∷ from shown ws ns high (suc i)
  here = next g.at high true low (rw (g.sent, eq-eqb high high refl))

  pub sent-here : sent_words high shown ws ns ≡ before shown ws ns high i ++ (get_or ws i 0 ∷ from shown ws ns high (suc i))
  sent-here = sent-split high shown ws ns i g.at.numbered ∙ ap (λ (xs : List ℕ). before shown ws ns high i ++ xs) here

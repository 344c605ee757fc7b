-- The events shown for each zone, filled in one after another, and the words of the zones before the next one.
use mathlib.Core.Path.{◌≡◌, refl, sym, ◌∙◌}
use mathlib.Core.Bool.{Bool, true, false, cond}
use mathlib.Core.List.{List}
use mathlib.Core.Logic.{◌≢◌, inl, inr}
use Prim.Native.Nat.{ℕ, zero, suc, ◌+◌, ◌*◌, ◌<◌}
use native.Mathlib.Omega.{arith}
use lib.Dec.{ltb}
use lib.ListN.{length, get_or, set, replicate, length-append}
use lib.Seq.{get_or-set_same, get_or-set_other, ext_get_or}
use borrow.Author.Tests.{lt-ltb, le-ltb, ltb-true, ltb-false}
use Rattle.rules.specs.Below.{list_below}
use Rattle.rules.proofs.Tests.{Same, same?}
use Rattle.run.specs.State.{zone_at, count_of}
use Rattle.run.proofs.BelowLaws.{length-below, list_at}
use Rattle.recording.specs.Layout.{join_below}
use Rattle.recorder.specs.InnerWords.{checkpoint_words, zones_words}
use Rattle.run.specs.declared.Head.{Head}
use Rattle.run.specs.Opening.{stock_at}

-- The first i numbers of a function, and 0 behind them.
module _ (f : ℕ → ℕ) where
  abbrev pub part : ℕ → ℕ → ℕ
  part i j = cond (ltb j i) (f j) 0

  pub part_none : (n j : ℕ) → get_or (replicate n 0) j 0 ≡ part 0 j
  part_none n j = zeros n j ∙ rw (le-ltb j 0 (omega arith))
    where
      zeros : (n j : ℕ) → ◌≡◌ {A = ℕ} (get_or (replicate n 0) j 0) 0
      zeros zero j = refl
      zeros (suc n) zero = refl
      zeros (suc n) (suc j) = zeros n j

  pub part-more : (xs : List ℕ) (i v : ℕ) → i < length xs → v ≡ f i → ((j : ℕ) → get_or xs j 0 ≡ part i j)
      → (j : ℕ) → get_or (set xs i v) j 0 ≡ part (i + 1) j
  part-more xs i v h e more j = go (same? j i)
    where
      still : (b : Bool) → ltb j i ≡ b → j ≢ i → ltb j (i + 1) ≡ b
      still true t ne = lt-ltb j (i + 1) (omega (arith, ltb-true j i t))
      still false t ne = le-ltb j (i + 1) (omega (arith, ltb-false j i t))

      go : Same j i → get_or (set xs i v) j 0 ≡ part (i + 1) j
      go (inl s) = rw (s.0, get_or-set_same xs i v 0 h, lt-ltb i (i + 1) (omega arith)) e
      go (inr s) = get_or-set_other xs i j v 0 s.0 ∙ more j ∙ rw (still (ltb j i) refl s.0)

  pub part-all : (xs : List ℕ) (n m : ℕ) → length xs ≡ m → ((j : ℕ) → get_or xs j 0 ≡ part n j) → xs ≡ list_below m (part n)
  part-all xs n m e more =
      let g = length-below m (part n) in
      ext_get_or 0 xs (list_below m (part n)) (omega arith)
      (λ j h. more j ∙ sym (list_at m (part n) 0 j (omega arith)))

-- Two words a zone.
pub zones-size : (h : Head) (i : ℕ) → length (join_below i (λ j. checkpoint_words (zone_at h j).checkpoint (stock_at h.opening j))) ≡ 2 * i
zones-size h zero = refl
zones-size h (suc i) =
    let q = zones-size h i in
    omega (
      arith,
      length-append (join_below i (λ j. checkpoint_words (zone_at h j).checkpoint (stock_at h.opening j)))
          (checkpoint_words (zone_at h i).checkpoint (stock_at h.opening i)),
    )

pub zones-length : (h : Head) → length (zones_words h) ≡ 2 * count_of h
unfolding zones_words
zones-length h = zones-size h (count_of h)

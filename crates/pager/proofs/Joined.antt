-- The lines of the zones, and of the channels: one more, and how long they are.
use mathlib.Core.Path.{◌≡◌, refl, sym, ◌∙◌, ap}
use mathlib.Core.Bool.{Bool, true, false, cond, not}
use mathlib.Core.List.{List, [], ◌++◌}
use Prim.Native.Nat.{ℕ, zero, suc, ◌+◌, ◌-◌, ◌*◌, ◌/◌, ◌%◌, ◌<◌, ◌≤◌}
use native.Mathlib.Numerals.{add-one}
use native.Mathlib.Omega.{arith}
use lib.Dec.{leb, eqb}
use lib.ListN.{length, get_or, take, length-append}
use lib.Seq.{take_all}
use Rattle.std.specs.List.{count_by}
use Rattle.std.proofs.lemmas.List.Sums.{count_by_more_no, count_by_more_yes}
use Rattle.rules.specs.Below.{sum_below}
use Rattle.run.proofs.BelowLaws.{sum-add}
use Rattle.recording.specs.Layout.{join_below}
use Rattle.recording.specs.Shown.{zone_word, stock_word}
use Rattle.page.specs.Layout.{zone_text, channel_text}
use Rattle.page.proofs.Lines.{zone-length, channel-length, joined_length}
use Rattle.pager.specs.InnerLines.{zone_lines, line_at, line_in, lines_in, lines_number}

-- The line of the zone at an index.
abbrev pub zone_in : List ℕ → ℕ → List ℕ
zone_in bytes i = zone_text i (leb 32768 (zone_word bytes i)) (zone_word bytes i % 1024) (stock_word bytes i)

pub zone-more : (bytes : List ℕ) (i : ℕ) → zone_lines bytes (i + 1) ≡ zone_lines bytes i ++ zone_in bytes i
unfolding zone_lines
zone-more bytes i = rw (add-one i) refl

pub zones-size : (bytes : List ℕ) (n : ℕ) → length (zone_lines bytes n) ≡ 17 * n
unfolding zone_lines
zones-size bytes zero = refl
zones-size bytes (suc n) =
    let q = zones-size bytes n in
    omega (
      arith,
      length-append (join_below n (zone_in bytes)) (zone_in bytes n),
      zone-length n (leb 32768 (zone_word bytes n)) (zone_word bytes n % 1024) (stock_word bytes n),
    )

pub no-zones : (bytes : List ℕ) → zone_lines bytes 0 ≡ []
unfolding zone_lines
no-zones bytes = refl

-- The line of a channel, or none.
abbrev pub line_of : ℕ → ℕ
line_of items = cond (eqb items 0) 0 1

pub line-size : (k items cars : ℕ) → length (line_at k items cars) ≡ 17 * line_of items
unfolding line_at
line-size k items cars = go (eqb items 0)
  where
    go : (b : Bool) → length (cond b [] (channel_text (k / 8) (k % 8) items cars)) ≡ 17 * cond b 0 1
    go true = refl
    go false = channel-length (k / 8) (k % 8) items cars

pub seventeen : (b : Bool) → cond b 0 17 ≡ 17 * cond b 0 1
seventeen true = refl
seventeen false = refl

module _ (items : List ℕ) (cars : List (List ℕ)) where
  pub line-more : (k : ℕ) → lines_in items cars (k + 1) ≡ lines_in items cars k ++ line_in items cars k
  unfolding lines_in
  line-more k = rw (add-one k) refl

  pub no_lines : lines_in items cars 0 ≡ []
  unfolding lines_in
  no_lines = refl

  pub lines-size : (n : ℕ) → length (lines_in items cars n) ≡ 17 * lines_number items n
  unfolding lines_in lines_number
  lines-size n =
      joined_length n (line_in items cars) (λ k. line_of (get_or items k 0))
      (λ k. line-size k (get_or items k 0) (get_or (get_or cars (k / 8) []) (k % 8) 0))

-- One channel more is no more than all.
pub lines-before : (items : List ℕ) (k n : ℕ) → k < n → lines_number items k + line_of (get_or items k 0) ≤ lines_number items n
unfolding lines_number
lines-before items k n h =
    let f : ℕ → ℕ = λ k. line_of (get_or items k 0) in
    let e : suc k + (n - suc k) ≡ n = omega arith in
    omega (arith, sum-add (suc k) (n - suc k) f, ap (λ (m : ℕ). sum_below m f) e)

-- The channels with items, counted.
abbrev some : ℕ → Bool
some n = not (eqb n 0)

counted : (items : List ℕ) (n : ℕ) → n ≤ length items → count_by some (take n items) ≡ sum_below n (λ k. line_of (get_or items k 0))
counted items zero h = refl
counted items (suc n) h =
    ap (λ (m : ℕ). count_by some (take m items)) (sym (add-one n)) ∙ go (eqb (get_or items n 0) 0) refl (counted items n (omega arith))
  where
    go : (b : Bool) → eqb (get_or items n 0) 0 ≡ b → {before : ℕ} → count_by some (take n items) ≡ before
        → count_by some (take (n + 1) items) ≡ before + line_of (get_or items n 0)
    go true e q = rw e (count_by_more_no some items n 0 h (ap not e) ∙ q ∙ omega arith)
    go false e q = rw e (count_by_more_yes some items n 0 h (ap not e) ∙ ap (λ (m : ℕ). m + 1) q)

pub lines-counted : (items : List ℕ) (n : ℕ) → length items ≡ n → count_by (λ n. not (eqb n 0)) items ≡ lines_number items n
unfolding lines_number
lines-counted items n l = ap (count_by some) (sym (take_all n items (omega arith))) ∙ counted items n (omega arith)

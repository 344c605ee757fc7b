-- What a chain over the numbers below n gives, by the definitions of the rules.
use mathlib.Core.Path.{◌≡◌, refl, sym, ◌∙◌, ap, ap₂}
use mathlib.Core.Bool.{Bool, ◌&&◌}
use mathlib.Core.List.{map}
use Prim.Native.Nat.{ℕ, zero, suc, ◌+◌, ◌≤◌}
use native.Mathlib.Numerals.{add-one}
use native.Mathlib.Omega.{arith}
use lib.ListN.{take}
use lib.Seq.{take_all}
use Rattle.std.specs.List.{list_all, sum, range_with_len}
use Rattle.std.proofs.Common.{zero-add}
use Rattle.std.proofs.lemmas.List.FromFn.{sum_by-map-range_with_len_more, length-range_with_len, get_or-range_with_len}
use Rattle.std.proofs.lemmas.List.Folds.{list_all_more}
use Rattle.rules.specs.Below.{all_below, sum_below}

pub sum-range : (f : ℕ → ℕ) (n : ℕ) → sum (map f (range_with_len 0 n)) ≡ sum_below n f
sum-range f zero = refl
sum-range f (suc n) =
    ap (λ (m : ℕ). sum (map f (range_with_len 0 m))) (sym (add-one n))
    ∙ sum_by-map-range_with_len_more (λ x. x) f 0 n n (zero-add n) ∙ ap (λ (m : ℕ). m + f n) (sum-range f n)

all-front : (f : ℕ → Bool) (m n : ℕ) → n ≤ m → list_all f (take n (range_with_len 0 m)) ≡ all_below n f
all-front f m zero h = refl
all-front f m (suc n) h =
    let xs = range_with_len 0 m in
    ap (λ (k : ℕ). list_all f (take k xs)) (sym (add-one n))
    ∙ list_all_more f xs n 0 (omega (arith, length-range_with_len 0 m))
    ∙ ap₂ ◌&&◌ (all-front f m n (omega arith)) (ap f (get_or-range_with_len 0 m n 0 h ∙ zero-add n))

pub all-range : (f : ℕ → Bool) (n : ℕ) → list_all f (range_with_len 0 n) ≡ all_below n f
all-range f n =
    ap (list_all f) (sym (take_all n (range_with_len 0 n) (omega (arith, length-range_with_len 0 n)))) ∙ all-front f n n (omega arith)

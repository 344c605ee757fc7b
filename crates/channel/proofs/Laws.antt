-- What the code of this crate needs: places moved down are places copied, and the members of a set taken one after another.
use mathlib.Core.Path.{◌≡◌, refl, ap, ◌∙◌}
use mathlib.Core.Bool.{Bool, true, false}
use mathlib.Core.List.{List, [], ◌∷◌, ◌++◌, append_assoc}
use Prim.Native.Nat.{ℕ, zero, suc, ◌+◌, ◌-◌, ◌<◌}
use native.Mathlib.Numerals.{add-one}
use native.Mathlib.Omega.{arith}
use lib.Dec.{ltb}
use lib.ListN.{length, set, get_or, take, drop, length-set, get_or-eq_default}
use lib.Seq.{paste, paste-zero, take-suc-set, drop-set-lt, drop-cons}
use borrow.Author.Tests.{ltb-true, ltb-false}
use Rattle.rules.specs.Sets.{members}
use Rattle.rules.proofs.Members.{members-zero}
use Rattle.channel.specs.Channels.{moved_down}

pub down-copied : (xs : List ℕ) (j n : ℕ) → j + n < length xs → moved_down xs j n ≡ paste xs j (drop (j + 1) xs) n
unfolding moved_down
down-copied xs j zero h = paste-zero xs j (drop (j + 1) xs)
down-copied xs j (suc n) h =
    let y = get_or xs (suc j) 0 in
    let zs = drop (suc j + 1) xs in
    let g : suc (suc j) ≡ suc j + 1 = omega arith in
    let k : suc j + n < length (set xs j y) = omega (arith, length-set xs j y) in
    let b : j < length xs = omega arith in
    let e : drop (j + 1) xs ≡ y ∷ zs = ap (λ (i : ℕ). drop i xs) (add-one j) ∙ drop-cons xs (suc j) 0 (omega arith) ∙ ap (λ (i : ℕ). y ∷ drop i xs) g in
    let f : j + suc n ≡ suc j + n = omega arith in
    down-copied (set xs j y) (suc j) n k
    ∙ rw (take-suc-set xs j y b, drop-set-lt (suc j + 1) xs j y (omega arith), drop-set-lt (suc j + n) xs j y (omega arith), e, f)
    (ap (λ (r : List ℕ). r ++ drop (suc j + n) xs) (append_assoc (take j xs) (y ∷ []) (take n zs)))

-- The same one place after another.
pub down-more : (xs : List ℕ) (j i n : ℕ) → i < n
    → moved_down (set xs (j + i) (get_or xs (j + i + 1) 0)) (j + (i + 1)) (n - (i + 1)) ≡ moved_down xs (j + i) (n - i)
unfolding moved_down
down-more xs j i n h =
    let e : n - i ≡ suc (n - (i + 1)) = omega arith in
    let f : j + (i + 1) ≡ suc (j + i) = omega arith in
    let g : j + i + 1 ≡ suc (j + i) = omega arith in
    rw (e, f, g)

pub down-none : (xs : List ℕ) (j : ℕ) → moved_down xs j 0 ≡ xs
unfolding moved_down
down-none xs j = refl

-- Where a list holds something other than 0, it has a place.
pub has-place : (xs : List ℕ) (k : ℕ) → 0 < get_or xs k 0 → k < length xs
has-place xs k h = go (ltb k (length xs)) refl
  where
    go : (t : Bool) → ltb k (length xs) ≡ t → k < length xs
    go true e = ltb-true k (length xs) e
    go false e = absurd (omega (arith, get_or-eq_default xs 0 {n = k} (ltb-false k (length xs) e)))

-- Where as many turns are made as zones are gone, and not all are made, the set of those that are left is not empty.
pub some_left : (rest i end : ℕ) → i + length (members rest) ≡ end → i < end → 0 < rest
some_left zero i end e h = absurd (omega (arith, e, ap (length {A = ℕ}) members-zero))
some_left (suc rest) i end e h = omega arith

pub none_left : (ks : List ℕ) → length ks ≡ 0 → ks ≡ []
none_left [] e = refl
none_left (k ∷ ks) e = absurd (omega arith)

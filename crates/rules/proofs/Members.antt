-- The members of a set of zones: in what order they stand, how many they are, and which sets a site of n zones has.
use mathlib.Core.Path.{◌≡◌, refl, sym, ap, ap₂, ◌∙◌}
use mathlib.Core.Bool.{Bool, true, false, ◌&&◌, cond, and-true, and-false}
use mathlib.Core.List.{List, [], ◌∷◌, ◌++◌}
use Prim.Native.Nat.{ℕ, zero, suc, zero-le, ◌+◌, ◌-◌, ◌/◌, ◌%◌, ◌^◌, ◌<◌, ◌≤◌}
use native.Mathlib.Nat.{lt_of_le_of_lt, lt_of_lt_of_le, div-eq_of_lt, mod-eq_of_lt, mod-lt, add-zero, zero-add, add_comm, mod-one}
use native.Mathlib.Omega.{arith}
use lib.Dec.{T, eqb, eqb→eq, ltb, ltb→lt, lit<}
use lib.Bits.{bit_and, xor_lt, and_le_l}
use lib.Count.{ones, ones_in, ones_cat, count_trailing_zeros}
use lib.ListN.{length, length-append}
use lib.Pow.{pow_mono, pow_pos, mod-pow-add}
use borrow.Author.Tests.{ne_eqb, eqb-true, eqb-false, lt-ltb, le-ltb, ltb-true, ltb-false}
use Rattle.rules.specs.Below.{sum_below}
use Rattle.rules.specs.Sets.{has, nobody, difference, size, members, members_below}
use Rattle.rules.proofs.Finite.{and_left, and_right, below, from_one}

-- ---- the sets of a site of n zones

pub within-difference : (n a b : ℕ) → a < 2 ^ n → difference a b < 2 ^ n
within-difference n a b h = xor_lt n a (bit_and a b) h (lt_of_le_of_lt (and_le_l a b) h)

-- No set of such a site has a zone that is not on it.
pub has-off : (n s i : ℕ) → s < 2 ^ n → n ≤ i → has s i ≡ false
unfolding has
has-off n s i h l = ap (λ (x : ℕ). eqb (x % 2) 1) (div-eq_of_lt (lt_of_lt_of_le h (pow_mono l)))

-- ---- each member stands once in the list of members

-- How often i stands in a list.
abbrev pub count : ℕ → List ℕ → ℕ
count i [] = 0
count i (x ∷ xs) = cond (eqb i x) 1 0 + count i xs

count-append : (i : ℕ) (xs ys : List ℕ) → count i (xs ++ ys) ≡ count i xs + count i ys
count-append i [] ys = omega arith
count-append i (x ∷ xs) ys = let e = count-append i xs ys in omega arith

count-one : (i n : ℕ) (b : Bool) → count i (cond b (n ∷ []) []) ≡ cond (eqb i n && b) 1 0
count-one i n true = simp (and-true, add-zero)
count-one i n false = simp and-false

-- The zone n, looked at after those below it.
count-more : (n s i : ℕ) → cond (ltb i n && has s i) 1 0 + cond (eqb i n && has s n) 1 0 ≡ cond (ltb i (suc n) && has s i) 1 0
count-more n s i = go (ltb i n) refl (eqb i n) refl
  where
    go : (l : Bool) → ltb i n ≡ l → (e : Bool) → eqb i n ≡ e
        → cond (ltb i n && has s i) 1 0 + cond (eqb i n && has s n) 1 0 ≡ cond (ltb i (suc n) && has s i) 1 0
    go true h e g =
        let k = ltb-true i n h in
        rw (h, ne_eqb i n (λ (q : i ≡ n). omega arith), lt-ltb i (suc n) (omega arith)) (add-zero (cond (has s i) 1 0))
    go false h true g = rw (h, g, eqb-true i n g, lt-ltb n (suc n) (omega arith)) (zero-add (cond (has s n) 1 0))
    go false h false g =
        let k = ltb-false i n h in
        let d = eqb-false i n g in
        let l : n < i = omega arith in
        rw (h, g, le-ltb i (suc n) l)

-- Each zone below n that is in the set stands once, and no other number stands in the list.
pub count-below : (n s i : ℕ) → count i (members_below n s) ≡ cond (ltb i n && has s i) 1 0
count-below zero s i = rw (le-ltb i 0 zero-le)
count-below (suc n) s i =
    count-append i (members_below n s) (cond (has s n) (n ∷ []) [])
    ∙ ap₂ (λ (x y : ℕ). x + y) (count-below n s i) (count-one i n (has s n)) ∙ count-more n s i

pub member-once : (s i : ℕ) → s < 256 → count i (members s) ≡ cond (has s i) 1 0
unfolding members
member-once s i h = count-below 8 s i ∙ ap (λ (t : Bool). cond t 1 0) (go (ltb i 8) refl)
  where
    go : (l : Bool) → ltb i 8 ≡ l → ltb i 8 && has s i ≡ has s i
    go true e = rw e
    go false e = rw (e, has-off 8 s i h (ltb-false i 8 e))

-- ---- the number of members

digit_ones : (x : ℕ) → x < 2 → ones x ≡ cond (eqb x 1) 1 0
unfolding ones ones_in
digit_ones x h = eqb→eq _ _ (below 2 (λ x. eqb (ones x) (cond (eqb x 1) 1 0)) tt x h)

length-one : (n : ℕ) (b : Bool) → length (cond b (n ∷ []) []) ≡ cond b 1 0
length-one n true = refl
length-one n false = refl

length-below : (n s : ℕ) → ones (s % 2 ^ n) ≡ length (members_below n s)
unfolding has ones ones_in
length-below zero s = rw (mod-one s)
length-below (suc n) s =
    let d = s / 2 ^ n % 2 in
    let e : suc n ≡ 1 + n = omega arith in
    ap (λ (m : ℕ). ones (s % 2 ^ m)) e ∙ ap ones (mod-pow-add s 1 n) ∙ ones_cat n d (s % 2 ^ n) (mod-lt s (pow_pos n))
    ∙ ap₂ (λ (x y : ℕ). x + y) (digit_ones d (mod-lt (s / 2 ^ n) (lit< tt))) (length-below n s)
    ∙ rw (length-append, length-one) (add_comm (cond (eqb d 1) 1 0) (length (members_below n s)))

-- The number of zones of a set of a site of n zones.
pub members-size : (n s : ℕ) → s < 2 ^ n → size s ≡ length (members_below n s)
members-size n s h = ap ones (sym (mod-eq_of_lt h)) ∙ length-below n s

-- It is a sum over the zones.
length-sum : (n s : ℕ) → length (members_below n s) ≡ sum_below n (λ j. cond (has s j) 1 0)
length-sum zero s = refl
length-sum (suc n) s = rw (length-append, length-one, length-sum n s)

pub size-sum : (n s : ℕ) → s < 2 ^ n → size s ≡ sum_below n (λ j. cond (has s j) 1 0)
size-sum n s h = members-size n s h ∙ length-sum n s

pub size-nobody : size nobody ≡ 0
size-nobody = members-size 0 0 (pow_pos 0)

pub members-length : (s : ℕ) → s < 256 → size s ≡ length (members s)
unfolding members
members-length s h = members-size 8 s h

-- ---- the members one after another, lowest first

abbrev same-list : List ℕ → List ℕ → Bool
same-list [] [] = true
same-list [] (y ∷ ys) = false
same-list (x ∷ xs) [] = false
same-list (x ∷ xs) (y ∷ ys) = eqb x y && same-list xs ys

same-list-eq : (xs ys : List ℕ) → T (same-list xs ys) → xs ≡ ys
same-list-eq [] [] t = refl
same-list-eq [] (y ∷ ys) t = absurd t
same-list-eq (x ∷ xs) [] t = absurd t
same-list-eq (x ∷ xs) (y ∷ ys) t =
    ap₂ (λ (a : ℕ) (l : List ℕ). a ∷ l) (eqb→eq x y (and_left (eqb x y) (same-list xs ys) t))
    (same-list-eq xs ys (and_right (eqb x y) (same-list xs ys) t))

-- The first member is the lowest, and the others are those of the set without it.
pub members_step : (s : ℕ) → s < 256 → 0 < s → members s ≡ count_trailing_zeros 8 s ∷ members (bit_and s (s - 1))
unfolding members has count_trailing_zeros
members_step s h p =
    same-list-eq _ _ (from_one 255 (λ s. same-list (members s) (count_trailing_zeros 8 s ∷ members (bit_and s (s - 1)))) tt s h p)

pub members-zero : members 0 ≡ []
unfolding members has
members-zero = refl

pub lowest-lt : (s : ℕ) → s < 256 → 0 < s → count_trailing_zeros 8 s < 8
unfolding count_trailing_zeros
lowest-lt s h p = ltb→lt _ _ (from_one 255 (λ s. ltb (count_trailing_zeros 8 s) 8) tt s h p)

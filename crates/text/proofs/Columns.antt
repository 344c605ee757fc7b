-- Numbers in columns: what is written place by place is the column, which has its width, and a number that fits it is read back.
use mathlib.Core.Path.{◌≡◌, refl, sym, ap, ◌∙◌}
use mathlib.Core.Bool.{Bool, true, false, cond}
use mathlib.Core.Logic.{◌≢◌}
use mathlib.Core.List.{List, [], ◌∷◌, ◌++◌, append-nil, append_assoc}
use Prim.Native.Nat.{ℕ, zero, suc, ◌+◌, ◌-◌, ◌*◌, ◌/◌, ◌%◌, ◌<◌, ◌≤◌}
use Prim.Native.Char.{code}
use native.Mathlib.Omega.{arith}
use lib.Dec.{ltb, eqb}
use lib.ListN.{length, take, drop, set, replicate, length-append, length-replicate}
use lib.Seq.{sets, sets-eq}
use borrow.Rule.Slice.PartMut.{mid_of, put_mid, Post-is, mid_len}
use borrow.Author.Tests.{lt-ltb, le-ltb, ltb-true, ltb-false, ne_eqb}
use Rattle.text.specs.Text.{space, digit_code, decimal_text, column_text, column_end, read_from, read_column}
use Rattle.text.specs.InnerColumn.{place_code, places_text}

-- A number below 10 has one digit; any other has those of its tenth, and one more.
pub digits-one : (k n : ℕ) → n < 10 → decimal_text (suc k) n ≡ digit_code (n % 10) ∷ []
digits-one k n h = rw (lt-ltb n 10 h)

pub digits_more : (k n : ℕ) → 10 ≤ n → decimal_text (suc k) n ≡ decimal_text k (n / 10) ++ (digit_code (n % 10) ∷ [])
digits_more k n h = rw (le-ltb n 10 h)

-- At most so many digits; and where that many are, no more are cut than by the greater bound.
pub digits-few : (k n : ℕ) → length (decimal_text k n) ≤ k
digits-few zero n = omega arith
digits-few (suc k) n = go (ltb n 10) (digits-few k (n / 10))
  where
    go : (b : Bool) → length (decimal_text k (n / 10)) ≤ k → length (cond b [] (decimal_text k (n / 10)) ++ (digit_code (n % 10) ∷ [])) ≤ suc k
    go true h = omega arith
    go false h = omega (arith, length-append (decimal_text k (n / 10)) (digit_code (n % 10) ∷ []))

pub digits-exact : (k n : ℕ) → decimal_text (length (decimal_text k n)) n ≡ decimal_text k n
digits-exact zero n = refl
digits-exact (suc k) n = go (ltb n 10) refl (digits-exact k (n / 10))
  where
    go : (b : Bool) → ltb n 10 ≡ b → decimal_text (length (decimal_text k (n / 10))) (n / 10) ≡ decimal_text k (n / 10)
        → decimal_text (length (decimal_text (suc k) n)) n ≡ decimal_text (suc k) n
    go true e more =
        let h = digits-one k n (ltb-true n 10 e) in
        rw h (digits-one 0 n (ltb-true n 10 e))
    go false e more =
        let w = ltb-false n 10 e in
        let h = digits_more k n w in
        let l : length (decimal_text (suc k) n) ≡ suc (length (decimal_text k (n / 10))) =
        ap length h ∙ omega (arith, length-append (decimal_text k (n / 10)) (digit_code (n % 10) ∷ [])) in
        rw (l, h) (digits_more (length (decimal_text k (n / 10))) n w ∙ ap (λ (xs : List ℕ). xs ++ (digit_code (n % 10) ∷ [])) more)

-- Numbers of one, two and three digits.
pub one-long : (n : ℕ) → n < 10 → length (decimal_text 3 n) ≡ 1
one-long n h = ap length (digits-one 2 n h)

pub two-long : (n : ℕ) → 10 ≤ n → n < 100 → length (decimal_text 3 n) ≡ 2
two-long n h k = let d = digits-one 1 (n / 10) (omega arith) in rw (digits_more 2 n h, d)

pub three-long : (n : ℕ) → 100 ≤ n → n < 1000 → length (decimal_text 3 n) ≡ 3
three-long n h k =
    let d = digits_more 1 (n / 10) (omega arith) in
    let e = digits-one 0 (n / 10 / 10) (omega arith) in
    rw (digits_more 2 n (omega arith), d, e)

-- A column has its width.
pub column-length : (width n : ℕ) → length (column_text width n) ≡ width
unfolding column_text
column-length width n =
    let d = decimal_text width n in
    omega (arith, length-append (replicate (width - length d) space) d, length-replicate {A = ℕ} (width - length d) space, digits-few width n)

-- One that is as wide as the number is long has no spaces.
pub column-exact : (k n width : ℕ) → width ≡ length (decimal_text k n) → column_text width n ≡ decimal_text k n
unfolding column_text
column-exact k n width e =
    let h : decimal_text width n ≡ decimal_text k n = ap (λ (w : ℕ). decimal_text w n) e ∙ digits-exact k n in
    let z : width - length (decimal_text k n) ≡ 0 = omega arith in
    rw (h, z)

-- The places in front of the last one.
spaces-more : (k : ℕ) → replicate k space ++ (space ∷ []) ≡ replicate (suc k) space
spaces-more zero = refl
spaces-more (suc k) = ap (◌∷◌ space) (spaces-more k)

places-zero : (k : ℕ) → places_text k false 0 ≡ replicate k space
unfolding place_code
places-zero zero = refl
places-zero (suc k) = ap (λ (xs : List ℕ). xs ++ (space ∷ [])) (places-zero k) ∙ spaces-more k

-- A column's places with the digits of a number, which is not 0, at their end.
aligned : ℕ → List ℕ → List ℕ
aligned k d = replicate (k - length d) space ++ d

aligned-more : (k c : ℕ) (d : List ℕ) → aligned k d ++ (c ∷ []) ≡ aligned (suc k) (d ++ (c ∷ []))
unfolding aligned
aligned-more k c d =
    let l : suc k - length (d ++ (c ∷ [])) ≡ k - length d = omega (arith, length-append d (c ∷ [])) in
    rw l (append_assoc (replicate (k - length d) space) d (c ∷ []))

-- What stands in front of a number's last digit.
digit-there : (n : ℕ) → n ≢ 0 → place_code false n ≡ digit_code (n % 10)
unfolding place_code
digit-there n h = rw (ne_eqb n 0 h)

tenth : (k n : ℕ) → places_text k false (n / 10) ≡ aligned k (cond (ltb n 10) [] (decimal_text k (n / 10)))
unfolding aligned
tenth zero n = go (ltb n 10)
  where
    go : (b : Bool) → [] ≡ aligned 0 (cond b [] [])
    go true = refl
    go false = refl
tenth (suc k) n = go (ltb n 10) refl (tenth k (n / 10))
  where
    go : (b : Bool) → ltb n 10 ≡ b → places_text k false (n / 10 / 10) ≡ aligned k (cond (ltb (n / 10) 10) [] (decimal_text k (n / 10 / 10)))
        → places_text (suc k) false (n / 10) ≡ aligned (suc k) (cond b [] (decimal_text (suc k) (n / 10)))
    go true e more =
        let h = ltb-true n 10 e in
        let z : n / 10 ≡ 0 = omega arith in
        let l : suc k - 0 ≡ suc k = omega arith in
        rw (z, l) (places-zero (suc k) ∙ sym (append-nil (replicate (suc k) space)))
    go false e more =
        let h = ltb-false n 10 e in
        rw (digit-there (n / 10) (λ z. omega arith))
        (ap (λ (xs : List ℕ). xs ++ (digit_code (n / 10 % 10) ∷ [])) more
        ∙ aligned-more k (digit_code (n / 10 % 10)) (cond (ltb (n / 10) 10) [] (decimal_text k (n / 10 / 10))))

pub places-column : (width n : ℕ) → places_text width true n ≡ column_text width n
unfolding place_code column_text aligned
places-column zero n = refl
places-column (suc k) n =
    ap (λ (xs : List ℕ). xs ++ (digit_code (n % 10) ∷ [])) (tenth k n)
    ∙ aligned-more k (digit_code (n % 10)) (cond (ltb n 10) [] (decimal_text k (n / 10)))

-- One place is written: those in front of it are left.
drop-set : (k c : ℕ) (out : List ℕ) → k < length out → drop k (set out k c) ≡ c ∷ drop (suc k) out
drop-set k c [] h = absurd (omega arith)
drop-set zero c (x ∷ out) h = refl
drop-set (suc k) c (x ∷ out) h = drop-set k c out (omega arith)

pub place-written : (at k width left : ℕ) (out : List ℕ) → at ≡ suc k → k < width → width ≡ length out
    → places_text at (eqb at width) left ++ drop at out ≡ places_text k (eqb k width) (left / 10) ++ drop k (set out k (place_code (eqb at width) left))
place-written at k width left out e h l =
    rw (e, ne_eqb k width (λ q. omega arith), drop-set k (place_code (eqb (suc k) width) left) out (omega arith))
    (append_assoc (places_text k false (left / 10)) (place_code (eqb (suc k) width) left ∷ []) (drop (suc k) out))

-- What is put in the place of a part of some bytes is stored there, so a column is.
pub put-sets : (a e : ℕ) (xs ys : List ℕ) → a ≤ e → e ≤ length xs → length ys ≡ e - a → put_mid a (e - a) xs ys ≡ sets xs a ys
put-sets a e xs ys h g l =
    let w : a + length ys ≡ e = omega arith in
    ap (λ (zs : List ℕ). take a xs ++ (ys ++ zs)) (Post-is a e xs h ∙ ap (λ (n : ℕ). drop n xs) (sym w))
    ∙ sym (append_assoc (take a xs) ys (drop (a + length ys) xs)) ∙ sym (sets-eq ys xs a (omega arith))

pub column-stored : (a e n : ℕ) (xs ys : List ℕ) → a ≤ e → e ≤ length xs → ys ≡ column_text (length (mid_of a (e - a) xs)) n
    → put_mid a (e - a) xs ys ≡ sets xs a (column_text (e - a) n)
column-stored a e n xs ys h g q =
    let f : ys ≡ column_text (e - a) n = q ∙ ap (λ (w : ℕ). column_text w n) (mid_len a e xs g) in
    put-sets a e xs ys h g (ap length f ∙ column-length (e - a) n) ∙ ap (sets xs a) f

-- One that is as wide as its number is long has the digits alone.
pub digits-stored : (a n size : ℕ) (xs ys : List ℕ) → size ≡ length (decimal_text 3 n) → a + size ≤ length xs
    → ys ≡ column_text (length (mid_of a (a + size - a) xs)) n → put_mid a (a + size - a) xs ys ≡ sets xs a (decimal_text 3 n)
digits-stored a n size xs ys s h e =
    column-stored a (a + size) n xs ys (omega arith) h e ∙ ap (sets xs a) (column-exact 3 n (a + size - a) (omega arith))

-- What reads a column back goes on behind what it has read, and passes over spaces.
read-append : (m : ℕ) (xs ys : List ℕ) → read_from m (xs ++ ys) ≡ read_from (read_from m xs) ys
read-append m [] ys = refl
read-append m (x ∷ xs) ys = read-append (cond (eqb x space) m (10 * m + (x - code "0"))) xs ys

read-spaces : (k m : ℕ) → read_from m (replicate k space) ≡ m
read-spaces zero m = refl
read-spaces (suc k) m = read-spaces k m

-- One digit more.
read-digit : (m d : ℕ) → d < 10 → read_from m (digit_code d ∷ []) ≡ 10 * m + d
unfolding digit_code
read-digit m d h =
    let e : eqb (48 + d) 32 ≡ false = ne_eqb (48 + d) 32 (λ q. omega arith) in
    rw (lt-ltb d 10 h, e) (omega arith)

read-decimal : (k n : ℕ) → n < column_end k → read_from 0 (decimal_text k n) ≡ n
read-decimal zero n h = omega arith
read-decimal (suc k) n h = go (ltb n 10) refl (read-decimal k (n / 10))
  where
    go : (b : Bool) → ltb n 10 ≡ b → (n / 10 < column_end k → read_from 0 (decimal_text k (n / 10)) ≡ n / 10) → read_from 0 (decimal_text (suc k) n) ≡ n
    go true e more =
        let w = ltb-true n 10 e in
        ap (read_from 0) (digits-one k n w) ∙ read-digit 0 (n % 10) (omega arith) ∙ omega arith
    go false e more =
        let w = ltb-false n 10 e in
        ap (read_from 0) (digits_more k n w) ∙ read-append 0 (decimal_text k (n / 10)) (digit_code (n % 10) ∷ [])
        ∙ ap (λ (m : ℕ). read_from m (digit_code (n % 10) ∷ [])) (more (omega arith)) ∙ read-digit (n / 10) (n % 10) (omega arith) ∙ omega arith

-- "right-aligned in": a number that fits its column stands there whole.
pub column-read : (width n : ℕ) → n < column_end width → read_column (column_text width n) ≡ n
unfolding column_text
column-read width n h =
    let k = width - length (decimal_text width n) in
    read-append 0 (replicate k space) (decimal_text width n) ∙ ap (λ (m : ℕ). read_from m (decimal_text width n)) (read-spaces k 0) ∙ read-decimal width n h

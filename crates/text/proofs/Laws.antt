-- A text stored character by character at the front of lent bytes is printed.
use mathlib.Core.Path.{◌≡◌, refl, sym, ◌∙◌}
use mathlib.Core.List.{List, [], ◌∷◌, ◌++◌}
use Prim.Native.Nat.{ℕ, suc, ◌+◌, ◌-◌, ◌*◌, ◌/◌, ◌%◌, ◌<◌, ◌≤◌}
use native.Mathlib.Omega.{arith}
use lib.ListN.{length, drop, set, get_or, length-append}
use lib.Seq.{set-set, drop-cons, sets, sets-eq}
use borrow.Author.Tests.{le-leb, lt-leb}
use Rattle.text.specs.Text.{space, line_feed, digit_code, bytes_text, decimal_text, refused_word, refused_text, Prints}

printed : (text lent after : List ℕ) (r : ℕ) → length text ≤ length lent → r ≡ length text → after ≡ sets lent 0 text
    → Prints text lent after r
printed text lent after r h n e =
    let fits = le-leb (length text) (length lent) h in
    let w : 0 + length text ≡ length text = omega arith in
    record { number = rw fits n; bytes = rw (fits, n) (e ∙ (rw w at (sets-eq text lent 0 (omega arith)))) }

not-printed : (text lent : List ℕ) → length lent < length text → Prints text lent lent 0
not-printed text lent h =
    let fails = lt-leb (length text) (length lent) h in
    record { number = rw fails; bytes = rw fails }

pub sets-append : (l : List ℕ) (i : ℕ) (xs ys : List ℕ) → sets l i (xs ++ ys) ≡ sets (sets l i xs) (i + length xs) ys
sets-append l i [] ys = let e : i + 0 ≡ i = omega arith in rw e
sets-append l i (x ∷ xs) ys =
    let e : i + suc (length xs) ≡ suc i + length xs = omega arith in
    rw e (sets-append (set l i x) (suc i) xs ys)

-- Bytes with a space behind each.
abbrev pub spaced : List ℕ → List ℕ
spaced [] = []
spaced (b ∷ bs) = digit_code (b / 16) ∷ digit_code (b % 16) ∷ space ∷ spaced bs

pub text-length : (bs : List ℕ) → length (bytes_text bs) ≡ 3 * length bs - 1 + 1
text-length [] = refl
text-length (b ∷ []) = refl
text-length (b ∷ c ∷ bs) = let q = text-length (c ∷ bs) in omega arith

-- One byte more.
pub one-spaced : (bs out : List ℕ) (i : ℕ) → i < length bs
    → sets (set (set (set out (3 * i) (digit_code (get_or bs i 0 / 16))) (3 * i + 1) (digit_code (get_or bs i 0 % 16))) (3 * i + 2) space)
    (3 * (i + 1)) (spaced (drop (i + 1) bs))
    ≡ sets out (3 * i) (spaced (drop i bs))
one-spaced bs out i h =
    let e : 3 * (i + 1) ≡ suc (suc (suc (3 * i))) = omega arith in
    let f : 3 * i + 1 ≡ suc (3 * i) = omega arith in
    let g : 3 * i + 2 ≡ suc (suc (3 * i)) = omega arith in
    let d : i + 1 ≡ suc i = omega arith in
    rw (e, f, g, d, drop-cons bs i 0 h)

-- The line feed takes the place of the last space.
ended : (l bs : List ℕ) → set (sets l 0 (spaced bs)) (3 * length bs - 1) line_feed ≡ sets l 0 (bytes_text bs)
ended l [] = refl
ended l (b ∷ bs) =
    let e : 3 * suc (length bs) - 1 ≡ 0 + 2 + 3 * length bs = omega arith in
    rw e (last bs b l 0)
  where
    last : (bs : List ℕ) (b : ℕ) (l : List ℕ) (i : ℕ)
        → set (sets l i (spaced (b ∷ bs))) (i + 2 + 3 * length bs) line_feed ≡ sets l i (bytes_text (b ∷ bs))
    last [] b l i = let e : i + 2 + 3 * 0 ≡ suc (suc i) = omega arith in rw (e, set-set)
    last (c ∷ bs) b l i =
        let e : i + 2 + 3 * suc (length bs) ≡ suc (suc (suc i)) + 2 + 3 * length bs = omega arith in
        rw e (last bs c _ (suc (suc (suc i))))

pub shown-printed : (bs lent out : List ℕ) (end : ℕ) → end ≡ 3 * length bs - 1 → end < length lent → out ≡ sets lent 0 (spaced bs)
    → Prints (bytes_text bs) lent (set out end line_feed) (end + 1)
shown-printed bs lent out end e h f =
    let n = text-length bs in
    printed (bytes_text bs) lent (set out end line_feed) (end + 1) (omega arith) (omega arith) (rw (f, e) (ended lent bs))

pub shown-not-printed : (bs lent : List ℕ) → length lent ≤ 3 * length bs - 1 → Prints (bytes_text bs) lent lent 0
shown-not-printed bs lent h = let n = text-length bs in not-printed (bytes_text bs) lent (omega arith)

-- The parts of a refusal's text, stored one after another.
pub refused-length : (n : ℕ) → length (refused_text n) ≡ 8 + length (decimal_text 3 n) + 1
refused-length n = omega (arith, length-append (decimal_text 3 n) (line_feed ∷ []))

pub refused-printed : (n : ℕ) (lent word decimal : List ℕ) (size : ℕ) → size ≡ length (decimal_text 3 n) → 8 + size < length lent
    → word ≡ sets lent 0 refused_word → decimal ≡ sets word 8 (decimal_text 3 n)
    → Prints (refused_text n) lent (set decimal (8 + size) line_feed) (8 + size + 1)
refused-printed n lent word decimal size s h e f =
    printed (refused_text n) lent (set decimal (8 + size) line_feed) (8 + size + 1) (omega (arith, refused-length n))
    (omega (arith, refused-length n))
    (rw (f, e, s) (sym (sets-append lent 0 refused_word (decimal_text 3 n ++ (line_feed ∷ []))
    ∙ sets-append (sets lent 0 refused_word) 8 (decimal_text 3 n) (line_feed ∷ []))))

pub refused-not-printed : (n : ℕ) (lent : List ℕ) (size : ℕ) → size ≡ length (decimal_text 3 n) → length lent ≤ 8 + size
    → Prints (refused_text n) lent lent 0
refused-not-printed n lent size s h = not-printed (refused_text n) lent (omega (arith, refused-length n))

-- The parts of a line, stored one behind another, are the line; lines put one behind another.
use mathlib.Core.Path.{◌≡◌, refl, sym, ap, subst, ◌∙◌}
use mathlib.Core.List.{List, [], ◌∷◌, ◌++◌, append_assoc}
use Prim.Native.Nat.{ℕ, ◌+◌, ◌-◌, ◌<◌, ◌≤◌}
use native.Mathlib.Omega.{arith}
use lib.ListN.{length, drop, set, length-append, length-drop}
use lib.Seq.{sets, sets-eq, length-sets}
use borrow.Author.Tests.{lt-ltb}
use borrow.Rule.Slice.PartMut.{mid_of, put_mid}
use Rattle.text.specs.Text.{space, line_feed, digit_code, column_text}
use Rattle.text.proofs.Columns.{column-length, column-stored}
use Rattle.text.proofs.Laws.{sets-append}
use Rattle.words.proofs.WriteLaws.{wrote-more}
use Rattle.pager.specs.InnerLines.{Put}

-- The digit of the number of the zone at an index.
pub number-digit : (i : ℕ) → i < 8 → 49 + i ≡ digit_code (i + 1)
unfolding digit_code
number-digit i h = rw (lt-ltb (i + 1) 10 (omega arith)) (omega arith)

-- The last number and the line feed; before it, a number in 4 and a space.
pub last_stored : (n : ℕ) (xs ys : List ℕ) → 17 ≤ length xs → ys ≡ column_text (length (mid_of 10 (16 - 10) xs)) n
    → set (put_mid 10 (16 - 10) xs ys) 16 line_feed ≡ sets xs 10 (column_text 6 n ++ (line_feed ∷ []))
last_stored n xs ys h e =
    let l = column-length 6 n in
    let w : 10 + length (column_text 6 n) ≡ 16 = omega arith in
    ap (λ (zs : List ℕ). set zs 16 line_feed) (column-stored 10 16 n xs ys (omega arith) (omega arith) e)
    ∙ ap (λ (i : ℕ). sets (sets xs 10 (column_text 6 n)) i (line_feed ∷ [])) (sym w) ∙ sym (sets-append xs 10 (column_text 6 n) (line_feed ∷ []))

pub both_stored : (n : ℕ) (rest xs ys : List ℕ) → 17 ≤ length xs → ys ≡ column_text (length (mid_of 5 (9 - 5) xs)) n
    → sets (set (put_mid 5 (9 - 5) xs ys) 9 space) 10 rest ≡ sets xs 5 (column_text 4 n ++ (space ∷ rest))
both_stored n rest xs ys h e =
    let l = column-length 4 n in
    let w : 5 + length (column_text 4 n) ≡ 9 = omega arith in
    ap (λ (zs : List ℕ). sets (set zs 9 space) 10 rest) (column-stored 5 9 n xs ys (omega arith) (omega arith) e)
    ∙ ap (λ (i : ℕ). sets (sets xs 5 (column_text 4 n)) i (space ∷ rest)) (sym w) ∙ sym (sets-append xs 5 (column_text 4 n) (space ∷ rest))

pub both-length : (n : ℕ) (xs ys : List ℕ) → 17 ≤ length xs → ys ≡ column_text (length (mid_of 5 (9 - 5) xs)) n
    → length (set (put_mid 5 (9 - 5) xs ys) 9 space) ≡ length xs
both-length n xs ys h e = ap length (both_stored n [] xs ys h e) ∙ length-sets xs 5 (column_text 4 n ++ (space ∷ []))

-- What is stored from the front on is put there.
pub text-put : (text xs out : List ℕ) (n : ℕ) → length text ≡ n → n ≤ length xs → out ≡ sets xs 0 text → Put text xs out n
text-put text xs out n l h e =
    let w : 0 + length text ≡ n = omega arith in
    record { number = sym l; bytes = e ∙ sets-eq text xs 0 (omega arith) ∙ ap (λ (k : ℕ). text ++ drop k xs) w }

pub line-put : (front rest xs out : List ℕ) → length front ≡ 5 → length (front ++ rest) ≡ 17 → 17 ≤ length xs
    → out ≡ sets (sets xs 0 front) 5 rest → Put (front ++ rest) xs out 17
line-put front rest xs out f l h e =
    let w : 0 + length front ≡ 5 = omega arith in
    text-put (front ++ rest) xs out 17 l h (e ∙ ap (λ (i : ℕ). sets (sets xs 0 front) i rest) (sym w) ∙ sym (sets-append xs 0 front rest))

pub none-put : (o : List ℕ) → Put [] o o 0
none-put o = record { number = refl; bytes = refl }

-- The same text by another name.
pub put_as : {p q o out : List ℕ} {n : ℕ} → p ≡ q → Put p o out n → Put q o out n
put_as {o = o} {out} {n} e h = subst (λ (text : List ℕ). Put text o out n) e h

pub put-length : {text o out : List ℕ} {n : ℕ} → Put text o out n → n ≤ length o → length out ≡ length o
put-length {text} {o} {out} {n} p h = omega (arith, ap length p.bytes, length-append text (drop n o), p.number, length-drop n o)

-- One text behind another: its writer was lent what the first one left.
pub more-put : (p q o out ys : List ℕ) (at n : ℕ) → Put p o out at → at + n ≤ length o
    → Put q (mid_of at (length out - at) out) ys n → Put (p ++ q) o (put_mid at (length out - at) out ys) (at + n)
more-put p q o out ys at n a h b = record {
  number = omega (arith, length-append p q, a.number, b.number);
  bytes = wrote-more p q o out ys at n (sym a.number) h a.bytes b.bytes ∙ sym (append_assoc p q (drop (at + n) o));
}

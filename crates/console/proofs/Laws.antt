-- What two reads took of the known bytes, one behind the other.
use Rattle.std.proofs.Common.{◌≡◌, ℕ, ◌+◌, List, ◌++◌, None, Some, take, drop, sym, ap, ◌∙◌, subst, append_assoc, take-add, arith}
use Rattle.std.proofs.lemmas.Grind.{common_steps}
use Rattle.std.specs.Prelude.{Option, length, ◌≤◌}
use Rattle.std.specs.Io.KnownBytes.{Consumes}

front : (at n : ℕ) (xs ys zs : List ℕ) → at ≤ length xs → n ≤ length ys → take (at + n) (take at xs ++ (ys ++ zs)) ≡ take at xs ++ take n ys
front at n xs ys zs here room = grind (arith, common_steps, take-add)

consumes_both : (a b c : Option (List ℕ)) (bs cs : List ℕ) → Consumes a b bs → Consumes b c cs → Consumes a c (bs ++ cs)
consumes_both None b c bs cs p q = tt
consumes_both (Some x) None c bs cs p q = absurd p
consumes_both (Some x) (Some y) None bs cs p q = absurd q
consumes_both (Some x) (Some y) (Some z) bs cs p q = p ∙ ap (λ l. bs ++ l) q ∙ sym (append_assoc bs cs z)

-- What a read gave behind the first bytes, of which zs are what it left as it was.
pub consumes_behind : (a b c : Option (List ℕ)) (xs ys zs : List ℕ) (at n : ℕ) → at ≤ length xs → n ≤ length ys
    → Consumes a b (take at xs) → Consumes b c (take n ys) → Consumes a c (take (at + n) (take at xs ++ (ys ++ zs)))
consumes_behind a b c xs ys zs at n here room before read =
    subst (Consumes a c) (sym (front at n xs ys zs here room)) (consumes_both a b c _ _ before read)

-- Where xs held what was taken before, ys holds it and, behind it, the n bytes that a read took.
pub consumes_further : (a b c : Option (List ℕ)) (xs ys : List ℕ) (at n : ℕ) → take at ys ≡ take at xs
    → Consumes a b (take at xs) → Consumes b c (take n (drop at ys)) → Consumes a c (take (at + n) ys)
consumes_further a b c xs ys at n front before read =
    subst (Consumes a c) (ap (λ l. l ++ take n (drop at ys)) (sym front) ∙ sym (take-add at n ys)) (consumes_both a b c _ _ before read)

-- The same where the read took none.
pub consumes_ended : (a b c : Option (List ℕ)) (xs ys : List ℕ) (at n m : ℕ) → n ≡ 0 → at ≡ m → take at ys ≡ take at xs
    → Consumes a b (take at xs) → Consumes b c (take n (drop at ys)) → Consumes a c (take m ys)
consumes_ended a b c xs ys at n m none is_m front before read =
    let whole : at + n ≡ m = omega (arith, none, is_m) in
    subst (λ (k : ℕ). Consumes a c (take k ys)) whole (consumes_further a b c xs ys at n front before read)

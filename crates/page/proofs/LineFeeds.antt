-- "Each line of the page has 16 characters and a line feed": the page is made up of such lines.
use mathlib.Core.Path.{◌≡◌, refl, sym, ap, ap₂, ◌∙◌}
use mathlib.Core.Bool.{Bool, true, false, cond}
use mathlib.Core.Logic.{◌≢◌}
use mathlib.Core.List.{List, [], ◌∷◌, ◌++◌, append_assoc, append-nil}
use Prim.Native.Nat.{ℕ, zero, suc, ◌+◌, ◌-◌, ◌/◌, ◌%◌, ◌≤◌}
use Prim.Native.Char.{code}
use native.Mathlib.Omega.{arith}
use lib.Dec.{ltb}
use lib.ListN.{length, replicate, length-append}
use Rattle.rules.specs.Below.{sum}
use Rattle.rules.specs.Cut.{Snapshot}
use Rattle.rules.proofs.Lists.{All, all_append, all_map}
use Rattle.text.specs.Text.{space, line_feed, digit_code, decimal_text, column_text}
use Rattle.recording.specs.Layout.{join_below}
use Rattle.page.specs.Claims.{Line, joined, OfLines}
use Rattle.page.specs.Layout.{line_text, firm_code, zone_text, zone_line, channel_text, channel_line, channels_text, total_text, page_with}
use Rattle.page.proofs.Lines.{zone-length, channel-length, total-length}

-- Digits, letters and spaces stand behind the line feed among the codes.
abbrev Seen : ℕ → Type 0
Seen c = 32 ≤ c

digit-seen : (d : ℕ) → Seen (digit_code d)
unfolding digit_code
digit-seen d = go (ltb d 10)
  where
    go : (b : Bool) → Seen (cond b (code "0" + d) (code "A" + (d - 10)))
    go true = omega arith
    go false = omega arith

decimal-seen : (k n : ℕ) → All Seen (decimal_text k n)
decimal-seen zero n = tt
decimal-seen (suc k) n = go (ltb n 10) (decimal-seen k (n / 10))
  where
    go : (b : Bool) → All Seen (decimal_text k (n / 10)) → All Seen (cond b [] (decimal_text k (n / 10)) ++ (digit_code (n % 10) ∷ []))
    go true h = (digit-seen (n % 10), tt)
    go false h = all_append Seen (decimal_text k (n / 10)) (digit_code (n % 10) ∷ []) h (digit-seen (n % 10), tt)

spaces-seen : (k : ℕ) → All Seen (replicate k space)
spaces-seen zero = tt
spaces-seen (suc k) = (omega arith, spaces-seen k)

column-seen : (width n : ℕ) → All Seen (column_text width n)
unfolding column_text
column-seen width n =
    all_append Seen (replicate (width - length (decimal_text width n)) space) (decimal_text width n) (spaces-seen (width - length (decimal_text width n)))
    (decimal-seen width n)

-- What is seen, with a line feed behind it, is a line where it has 17 bytes.
line_of : (text : List ℕ) → length (text ++ (line_feed ∷ [])) ≡ 17 → All Seen text → Line (text ++ (line_feed ∷ []))
line_of text l h = record {
  text = text;
  characters = omega (arith, l, length-append text (line_feed ∷ []));
  unbroken = all_map Seen (λ c. c ≢ line_feed) text (λ c s e. absurd (omega (arith, s, e))) h;
  ended = refl;
}

as_line : {l m : List ℕ} → l ≡ m → Line m → Line l
as_line e h = record { text = h.text; characters = h.characters; unbroken = h.unbroken; ended = e ∙ h.ended }

two-numbers : (front : List ℕ) (four six : ℕ) → length (line_text front four six) ≡ 17 → All Seen front → Line (line_text front four six)
two-numbers front four six l h =
    let rest : List ℕ = column_text 4 four ++ (space ∷ column_text 6 six) in
    let e : line_text front four six ≡ (front ++ rest) ++ (line_feed ∷ []) =
    ap (λ (xs : List ℕ). front ++ xs) (sym (append_assoc (column_text 4 four) (space ∷ column_text 6 six) (line_feed ∷ [])))
    ∙ sym (append_assoc front rest (line_feed ∷ [])) in
    as_line e (line_of (front ++ rest) (sym (ap length e) ∙ l)
    (all_append Seen front rest h (all_append Seen (column_text 4 four) (space ∷ column_text 6 six) (column-seen 4 four) (omega arith, column-seen 6 six))))

firm-seen : (b : Bool) → Seen (firm_code b)
firm-seen true = omega arith
firm-seen false = omega arith

pub zone-line : (i : ℕ) (recorded : Bool) (events stock : ℕ) → Line (zone_text i recorded events stock)
unfolding zone_text
zone-line i recorded events stock =
    two-numbers (code "Z" ∷ digit_code (i + 1) ∷ space ∷ firm_code recorded ∷ space ∷ []) events stock (zone-length i recorded events stock)
    (omega arith, (digit-seen (i + 1), (omega arith, (firm-seen recorded, (omega arith, tt)))))

pub channel-line : (i j items cars : ℕ) → Line (channel_text i j items cars)
unfolding channel_text
channel-line i j items cars =
    two-numbers (code "L" ∷ digit_code (i + 1) ∷ digit_code (j + 1) ∷ space ∷ space ∷ []) items cars (channel-length i j items cars)
    (omega arith, (digit-seen (i + 1), (digit-seen (j + 1), (omega arith, (omega arith, tt)))))

pub total-line : (n : ℕ) → Line (total_text n)
unfolding total_text
total-line n =
    let front : List ℕ = code "T" ∷ replicate 9 space in
    let e : total_text n ≡ (front ++ column_text 6 n) ++ (line_feed ∷ []) = sym (append_assoc front (column_text 6 n) (line_feed ∷ [])) in
    as_line e (line_of (front ++ column_text 6 n) (sym (ap length e) ∙ total-length n)
    (all_append Seen front (column_text 6 n) (omega arith, spaces-seen 9) (column-seen 6 n)))

-- Texts of lines, one behind another.
no_lines : OfLines []
no_lines = record { lines = []; whole = refl; each = tt }

one_line : {l : List ℕ} → Line l → OfLines l
one_line {l} h = record { lines = l ∷ []; whole = append-nil l; each = (h, tt) }

joined-append : (xs ys : List (List ℕ)) → joined (xs ++ ys) ≡ joined xs ++ joined ys
joined-append [] ys = refl
joined-append (x ∷ xs) ys = ap (λ (zs : List ℕ). x ++ zs) (joined-append xs ys) ∙ sym (append_assoc x (joined xs) (joined ys))

more-lines : {a b : List ℕ} → OfLines a → OfLines b → OfLines (a ++ b)
more-lines {a} {b} x y = record {
  lines = x.lines ++ y.lines;
  whole = joined-append x.lines y.lines ∙ ap₂ ◌++◌ x.whole y.whole;
  each = all_append Line x.lines y.lines x.each y.each;
}

below-lines : (n : ℕ) (f : ℕ → List ℕ) → ((k : ℕ) → OfLines (f k)) → OfLines (join_below n f)
below-lines zero f h = no_lines
below-lines (suc n) f h = more-lines (below-lines n f h) (h n)

channel-lines : (i j : ℕ) (cs : List ℕ) → OfLines (channel_line i j cs)
channel-lines i j [] = no_lines
channel-lines i j (c ∷ cs) = one_line (channel-line i j (length (c ∷ cs)) (sum (c ∷ cs)))

pub page-lines : (count : ℕ) (s : Snapshot) (n : ℕ) → OfLines (page_with count s n)
unfolding page_with channels_text
page-lines count s n =
    more-lines (below-lines count (zone_line s) (λ i. one_line (zone-line i (s.recorded i) (s.events i) (s.park.stock i))))
    (more-lines
    (below-lines 64 (λ k. channel_line (k / 8) (k % 8) (s.park.channel (k / 8) (k % 8))) (λ k. channel-lines (k / 8) (k % 8) (s.park.channel (k / 8) (k % 8))))
    (one_line (total-line n)))

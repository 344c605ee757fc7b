-- The text for any journal has at most 6,102 characters: the bytes that the program lends are enough.
use mathlib.Core.Bool.{Bool, true, false, cond}
use mathlib.Core.List.{List, [], ◌∷◌}
use Prim.Native.Nat.{ℕ, zero, suc, ◌*◌, ◌≤◌}
use native.Mathlib.Omega.{arith}
use lib.Dec.{eqb}
use lib.ListN.{length, take, replicate, length-replicate}
use Rattle.recording.specs.Journal.{record_journal}
use Rattle.text.specs.Text.{bytes_text, refused_text}
use Rattle.text.proofs.Columns.{digits-few}
use Rattle.text.proofs.Laws.{text-length, refused-length}
use Rattle.report.specs.Report.{report_text}
use Rattle.report.proofs.Laws.{written-fits}

take-most : (n : ℕ) (l : List ℕ) → length (take n l) ≤ n
take-most zero l = omega arith
take-most (suc n) [] = omega arith
take-most (suc n) (x ∷ xs) = omega (arith, take-most n xs)

-- Both texts of a choice fit.
either-fits : (b : Bool) (xs ys : List ℕ) (n : ℕ) → length xs ≤ n → length ys ≤ n → length (cond b xs ys) ≤ n
either-fits true xs ys n h k = h
either-fits false xs ys n h k = k

-- A byte takes three characters at most, a refusal's number three and its text twelve.
shown-fits : (bs : List ℕ) (n : ℕ) → length bs ≤ n → 1 ≤ n → length (bytes_text bs) ≤ 3 * n
shown-fits bs n h k = omega (arith, text-length bs)

pub refused-fits : (n : ℕ) → length (refused_text n) ≤ 12
refused-fits n = omega (arith, refused-length n, digits-few 3 n)

pub report-fits : (journal : List ℕ) → length (report_text journal) ≤ 6102
unfolding report_text
report-fits journal =
    let o = record_journal journal (replicate 2034 0) in
    either-fits (eqb o.answer.refusal 0) _ _ 6102
    (shown-fits (take o.answer.written o.bytes) 2034
    (
    omega (
      arith,
      take-most o.answer.written o.bytes,
      written-fits journal (replicate 2034 0),
      length-replicate {A = ℕ} 2034 0,
    )
    )
    (omega arith))
    (omega (arith, refused-fits o.answer.refusal))

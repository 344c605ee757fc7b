-- The text for a journal, and its conversion, are told by its first 2,019 bytes: the bytes of input that the programs read are enough.
use mathlib.Core.Path.{◌≡◌, refl, sym, ◌∙◌, ap, ap₂}
use mathlib.Core.Bool.{Bool, true, false, cond, ◌&&◌}
use mathlib.Core.List.{List}
use Prim.Native.Nat.{ℕ, ◌+◌, ◌*◌, ◌<◌, ◌≤◌}
use native.Mathlib.Omega.{arith}
use borrow.Author.Tests.{leb-true, leb-false, le-leb, ne_eqb, eqb-true}
use lib.Dec.{leb, eqb}
use lib.ListN.{length, take, replicate}
use lib.Seq.{length-take-le, take_all, get_or-take}
use Rattle.rules.specs.Edition.{is_edition}
use Rattle.rules.proofs.Tests.{and_right}
use Rattle.words.specs.Bytes.{word_at}
use Rattle.words.specs.Header.{edition_in, zones_in, number_in}
use Rattle.journal.specs.Reading.{unread, zones_of, records_of, is_header, read_call}
use Rattle.journal.specs.Answers.{Reading}
use Rattle.journal.proofs.Front.{read-begins}
use Rattle.recording.specs.Journal.{record_journal}
use Rattle.conversion.specs.Call.{convert_from, convert_call}
use Rattle.conversion.specs.declared.Conversion.{Conversion}
use Rattle.report.specs.Report.{output_text, report_text}

-- What the reader answers of a journal with this header that is longer than any header tells.
abbrev overlong : ℕ → Reading
overlong header =
    cond (is_edition (edition_in header)) (cond (leb 2 (zones_in header) && leb (number_in header) 1000) (unread 0 17) (unread 0 16)) (unread 0 15)

overlong-read : (bytes : List ℕ) → 2019 ≤ length bytes → read_call bytes ≡ overlong (word_at bytes 0)
unfolding read_call
overlong-read bytes h = go (is_header bytes) refl
  where
    go : (b : Bool) → is_header bytes ≡ b → read_call bytes ≡ overlong (word_at bytes 0)
    go true e =
        let n = leb-true (records_of bytes) 1000 (and_right (leb 2 (zones_of bytes)) _ e) in
        rw (
          le-leb 2 (length bytes) (omega arith),
          e,
          ne_eqb (length bytes) (2 + 2 * zones_of bytes + 2 * records_of bytes) (λ l. omega arith),
        )
    go false e = rw (le-leb 2 (length bytes) (omega arith), e)

-- The header stands in the first bytes.
header-overlong : (journal : List ℕ) → word_at (take 2019 journal) 0 ≡ word_at journal 0
header-overlong journal = ap₂ (λ (x y : ℕ). x * 256 + y) (get_or-take 2019 journal 0 0 (omega arith)) (get_or-take 2019 journal 1 0 (omega arith))

-- They are refused with the same number.
cut-read : (bytes : List ℕ) → 2019 < length bytes → read_call (take 2019 bytes) ≡ read_call bytes
cut-read bytes h =
    overlong-read (take 2019 bytes) (omega (arith, length-take-le 2019 bytes (omega arith)))
    ∙ ap overlong (header-overlong bytes)
    ∙ sym (overlong-read bytes (omega arith))

pub read-overlong : (journal : List ℕ) → read_call (take 2019 journal) ≡ read_call journal
read-overlong journal = go (leb (length journal) 2019) refl
  where
    go : (b : Bool) → leb (length journal) 2019 ≡ b → read_call (take 2019 journal) ≡ read_call journal
    go true e = ap read_call (take_all 2019 journal (leb-true (length journal) 2019 e))
    go false e = cut-read journal (leb-false (length journal) 2019 e)

record-overlong : (journal lent : List ℕ) → record_journal (take 2019 journal) lent ≡ record_journal journal lent
unfolding record_journal
record-overlong journal lent = rw (read-overlong journal)

pub report-overlong : (journal : List ℕ) → report_text (take 2019 journal) ≡ report_text journal
unfolding report_text
report-overlong journal = ap output_text (record-overlong journal (replicate 2034 0))

-- The conversion asks the edition in the header first; an accepted journal is no longer.
pub convert-overlong : (c : Conversion) (journal lent : List ℕ) → convert_call c (take 2019 journal) lent ≡ convert_call c journal lent
unfolding convert_from
convert-overlong c journal lent = go (eqb (read_call journal).refusal 0) refl
  where
    go : (b : Bool) → eqb (read_call journal).refusal 0 ≡ b → convert_call c (take 2019 journal) lent ≡ convert_call c journal lent
    go true e =
        let h = read-begins journal (eqb-true (read_call journal).refusal 0 e) in
        ap (λ (bytes : List ℕ). convert_call c bytes lent) (take_all 2019 journal (omega (arith, h.long, h.number)))
    go false e = rw (header-overlong journal, read-overlong journal, e)

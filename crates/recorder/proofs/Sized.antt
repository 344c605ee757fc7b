-- Question 14 by the number of items, and what is answered on either side of it.
use mathlib.Core.Path.{◌≡◌, sym, ◌∙◌, ap, ap₂}
use mathlib.Core.List.{List, ◌∷◌, ◌++◌}
use Prim.Native.Nat.{ℕ, ◌+◌, ◌*◌, ◌<◌, ◌≤◌}
use native.Mathlib.Omega.{arith}
use lib.ListN.{length, drop, length-append, length-drop}
use borrow.Author.Tests.{le-leb, lt-leb}
use Rattle.words.specs.Bytes.{words_bytes}
use Rattle.journal.specs.Format.{header_of}
use Rattle.recording.specs.Call.{not_recorded}
use Rattle.recording.specs.InnerTotal.{total_in}
use Rattle.words.proofs.ByteLaws.{bytes-length}
use Rattle.items.specs.InnerItems.{all_words}
use Rattle.words.specs.InnerWrote.{Wrote}
use Rattle.recorder.specs.InnerWords.{zones_words, shown_events, recorded_bytes, sized_output, written_total}
use Rattle.recorder.proofs.Shown.{zones-length}
use Rattle.run.specs.State.{terms_of, count_of}
use Rattle.run.specs.declared.Head.{Head}

module _ (h : Head) (ws ns shown : List ℕ) (number : ℕ) (lent : List ℕ)
    (es : shown ≡ shown_events h) (en : number ≡ length (all_words (count_of h) shown ws ns)) where
  abbrev words : List ℕ
  words = header_of (terms_of h) number ∷ zones_words h ++ all_words (count_of h) shown ws ns

  bytes-are : recorded_bytes h ws ns ≡ words_bytes words
  unfolding recorded_bytes
  bytes-are = rw (en, es)

  size : length (recorded_bytes h ws ns) ≡ 2 + 4 * count_of h + 2 * number
  size =
      ap length bytes-are ∙ bytes-length words
      ∙ omega (arith, length-append (zones_words h) (all_words (count_of h) shown ws ns), zones-length h)

  pub too_few : (total : ℕ) → length lent < 2 + 4 * count_of h + 2 * number → sized_output lent total (recorded_bytes h ws ns) ≡ not_recorded lent 14
  unfolding sized_output
  too_few total b = rw (lt-leb (length (recorded_bytes h ws ns)) (length lent) (omega (arith, size)))

  -- What is written, and the total that it shows.
  module _ (out : List ℕ) (n total : ℕ) (w : Wrote words lent out n) where
    length-is : length (recorded_bytes h ws ns) ≡ n
    length-is = ap length bytes-are ∙ bytes-length words ∙ sym w.number

    out-is : out ≡ recorded_bytes h ws ns ++ drop (length (recorded_bytes h ws ns)) lent
    out-is = w.bytes ∙ ap₂ (λ (xs : List ℕ) (k : ℕ). xs ++ drop k lent) (sym bytes-are) (sym length-is)

    shows : total ≡ total_in (count_of h) number out → total ≡ written_total h ws ns lent
    shows e = e ∙ ap₂ (total_in (count_of h)) (en ∙ ap (λ (xs : List ℕ). length (all_words (count_of h) xs ws ns)) es) out-is

    pub enough : 2 + 4 * count_of h + 2 * number ≤ length lent → total ≡ total_in (count_of h) number out
        → sized_output lent (written_total h ws ns lent) (recorded_bytes h ws ns)
        ≡ record { answer = record { refusal = 0; written = n; total = total }; bytes = out }
    unfolding sized_output
    enough b e = rw (le-leb (length (recorded_bytes h ws ns)) (length lent) (omega (arith, size)), shows e, out-is, length-is)

-- What was written upon is as long as before.
pub wrote-room : (ws lent out : List ℕ) (n m : ℕ) → Wrote ws lent out n → m ≤ length lent → m ≤ length out
wrote-room ws lent out n m w h =
    omega (arith, ap length w.bytes, length-append (words_bytes ws) (drop n lent), length-drop n lent, bytes-length ws, w.number)

-- `recorder::write_sized` meets its contract: the number of items decides question 14.
use Rattle.std.proofs.Common.{rules, ◌≡◌, ◌≤◌, ℕ, List, length, refl, ◌∙◌, ap, arith}
use Rattle.run.specs.State.{count_of}
use Rattle.items.specs.InnerItems.{all_words}
use Rattle.items.proofs.Counting.{counted_of}
use Rattle.items.proofs.Writing.{all-number}
use Rattle.recorder.proofs.Sized.{too_few, enough, wrote-room}
use Rattle.recorder.specs.InnerWords.{written_total}
use Rattle.recorder.proofs.write_sized.Goals.{After-number-number}
use Rattle.recorder.proofs.write_sized.Goals as goal

-- The number of items, and its bound.
module _ (c : After-number-number) where
  number_is : let a = c.args in c.number-number.result ≡ length (all_words (count_of a.head) c.shown_events-shown.result a.words.now a.ordinals.now)
  number_is = c.number-number.ensures ∙ all-number _ _ _ _ _ (counted_of c.counted-seen.ensures)

  few : c.number-number.result ≤ 1000
  few =
      let a = c.args in
      let e = number_is ∙ ap (λ (l : List ℕ). length (all_words (count_of a.head) l a.words.now a.ordinals.now)) c.shown_events-shown.ensures in
      omega (arith, e, c.requires.items)

pub overflow_mul-number : goal.overflow_mul-number
overflow_mul-number c = let h = few (goal.at.overflow_mul-number c).After-number-number in record { fits = omega arith }

pub overflow_add-count-2 : goal.overflow_add-count-2
overflow_add-count-2 c = let h = few (goal.at.overflow_add-count-2 c).After-number-number in record { fits = omega (arith, h, c.requires.most) }

pub returns-then-out-count : goal.returns-then-out-count
returns-then-out-count c =
    let a = c.args in
    let e = too_few a.head a.words.now a.ordinals.now _ _ a.out.now c.shown_events-shown.ensures (number_is (goal.at.returns-then-out-count c).After-number-number)
    (written_total a.head a.words.now a.ordinals.now a.out.now) c.if-out-count.true in
    rw e (refl, refl)

pub overflow_cast-number : goal.overflow_cast-number
overflow_cast-number c = let h = few (goal.at.overflow_cast-number c).After-number-number in record { fits = omega arith }

pub write_all-written-requires : goal.write_all-written-requires
write_all-written-requires c =
    let p = c.requires in
    let n = (goal.at.write_all-written-requires c).After-number-number in
    (p.fewest, p.most, p.events, p.numbers, counted_of c.counted-seen.ensures, few n, number_is n, search (rules, c.if-out-count.false), p.edition)

pub total_in-total-requires : goal.total_in-total-requires
total_in-total-requires c =
    let n = (goal.at.total_in-total-requires c).After-number-number in
    (c.requires.most, few n, wrote-room _ _ _ _ _ c.write_all-written.ensures (search (rules, c.if-out-count.false)))

pub returns : goal.returns
returns c =
    let w = c.write_all-written in
    let a = c.args in
    let e = enough a.head a.words.now a.ordinals.now _ _ a.out.now c.shown_events-shown.ensures (number_is (goal.at.returns c).After-number-number)
    w.new.out w.result c.total_in-total.result w.ensures c.if-out-count.false c.total_in-total.ensures in
    rw e (refl, refl)

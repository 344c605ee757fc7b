-- `recorder::write_all` meets its contract: each writer is lent what the one before it left.
use Rattle.std.proofs.Common.{◌≡◌, ◌+◌, ◌-◌, ◌*◌, ◌∷◌, ℕ, List, length, subst, arith}
use lib.ListN.{length-take, length-drop}
use borrow.Rule.Slice.PartMut.{put_mid}
use Rattle.rules.proofs.Editions.{edition-range}
use Rattle.words.specs.InnerWrote.{Wrote}
use Rattle.run.specs.State.{terms_of, count_of}
use Rattle.journal.specs.Format.{header_of}
use Rattle.items.proofs.Writing.{more-wrote, word-wrote, wrote-length}
use Rattle.recorder.specs.InnerWords.{zones_words}
use Rattle.recorder.proofs.Shown.{zones-length}
use Rattle.recorder.proofs.write_all.Goals.{After-write_zones-n}
use Rattle.recorder.proofs.write_all.Goals as goal

-- The header and the zones are written, and there is room for the items.
module _ (c : After-write_zones-n) where
  size : c.write_zones-n.result ≡ 4 * count_of c.args.head
  size = omega (arith, c.write_zones-n.ensures.number, zones-length c.args.head)

  abbrev filled : List ℕ
  filled =
      let x = c.write_word.new.out in
      put_mid 2 (length x - 2) x c.write_zones-n.new.out

  front : Wrote (header_of (terms_of c.args.head) c.args.number ∷ zones_words c.args.head)
      c.args.out.now filled (2 + c.write_zones-n.result)
  front =
      let h = size in
      subst (λ (w : ℕ). Wrote (w ∷ zones_words c.args.head) c.args.out.now filled (2 + c.write_zones-n.result))
      c.header-first.ensures
      (more-wrote _ _ _ _ _ _ _ (word-wrote _ _ _ c.write_word.ensures) (omega (arith, h, c.requires.7)) c.write_zones-n.ensures)

  same : length filled ≡ length c.args.out.now
  same = let h = size in wrote-length front (omega (arith, h, c.requires.7))

pub header-first-requires : goal.header-first-requires
header-first-requires c =
    let p = c.requires in
    (omega (arith, (edition-range _ p.8).1), p.0, p.1, omega (arith, p.5))

pub overflow_add-at : goal.overflow_add-at
overflow_add-at c = let h = size (goal.at.overflow_add-at c).After-write_zones-n in record { fits = omega (arith, h, c.requires.1) }

pub slice_bounds-write-count : goal.slice_bounds-write-count
slice_bounds-write-count c =
    let z = (goal.at.slice_bounds-write-count c).After-write_zones-n in
    let h = size z in
    let m = same z in
    omega (arith, h, m, c.requires.7)

pub slice_bounds-write-start : goal.slice_bounds-write-start
slice_bounds-write-start c =
    let z = (goal.at.slice_bounds-write-start c).After-write_zones-n in
    let h = size z in
    let m = same z in
    omega (arith, h, m, c.requires.7)

pub write-m-requires : goal.write-m-requires
write-m-requires c =
    let z = (goal.at.write-m-requires c).After-write_zones-n in
    let h = size z in
    let m = same z in
    let p = c.requires in
    (p.3, p.4, simp (length-take, length-drop) (omega (arith, h, m, p.6, p.7)))

pub overflow_add-result : goal.overflow_add-result
overflow_add-result c =
    let h = size (goal.at.overflow_add-result c).After-write_zones-n in
    let p = c.requires in
    record { fits = omega (arith, h, c.write-m.ensures.number, p.1, p.5, p.6) }

pub returns : goal.returns
returns c =
    let z = (goal.at.returns c).After-write_zones-n in
    let h = size z in
    let p = c.requires in
    let w = c.write-m.ensures in
    more-wrote _ _ _ _ _ _ _ (front z) (omega (arith, h, w.number, p.6, p.7)) w

-- `items::write` meets its contract: a record further back is no item, or is written, and once no item is missing, all are written.
use Rattle.std.proofs.Common.{◌≡◌, suc, ◌+◌, ◌-◌, ◌*◌, ◌<◌, ◌≤◌, get_or, length, sym, ◌∙◌, arith, rules}
use lib.ListN.{length-take, length-drop}
use Rattle.items.specs.InnerItems.{is_sent, begin_at}
use Rattle.items.proofs.ChannelBegins.{RecordAt}
use Rattle.items.proofs.Walking.{Walked, Known, final, ahead, walked_none, walked_to, walked-unsent, walked-received, walked-written, wrote-all}
use Rattle.items.proofs.write.Goals as goal
use Rattle.items.proofs.write.Goals.{After-begins-begins, After-high_byte-k, Else-end-begins, else-loop-i-test, then-loop-i-test+then-missing-eq0}

-- What is known when the begins are.
known : (c : After-begins-begins) →
    let a = c.args in
    Known a.count a.seen.now a.shown a.words.now a.ordinals.now c.begins-begins.result a.out.now
known c = record { counted = c.requires.1; found = c.begins-begins.ensures; room = c.requires.2 }

pub loop-i-init : goal.loop-i-init
loop-i-init c =
    let z = known (goal.at.loop-i-init c).After-begins-begins in
    let w = walked_none z in
    (ahead z w, w)

-- The records behind it are walked; it is a record.
walked : (c : After-high_byte-k) →
    let a = c.args in
    let l = c.loop-i in
    let all = final a.count a.seen.now a.shown a.words.now a.ordinals.now a.out.now in
    Walked (begin_at a.count a.seen.now) a.shown a.words.now a.ordinals.now all l.out l.ends l.missing (suc (l.i - 1))
walked c = walked_to c.loop-i.invariant.1 (omega arith)

at : (c : After-high_byte-k) →
    let a = c.args in
    RecordAt a.shown a.words.now a.ordinals.now (c.loop-i.i - 1) c.high_byte-k.result
at c = record { inside = omega arith; numbered = c.requires.0; high_is = c.high_byte-k.ensures.0 }

pub loop-i-preserved-then-not-is_sent : goal.loop-i-preserved-then-not-is_sent
loop-i-preserved-then-not-is_sent c =
    let p = goal.at.loop-i-preserved-then-not-is_sent c in
    let h = p.After-high_byte-k in
    let w = walked-unsent (walked h) (at h) (sym c.is_sent.ensures ∙ c.if-not-is_sent.true) in
    (ahead (known p.After-begins-begins) w, w)

pub loop-i-preserved-then-end-begins : goal.loop-i-preserved-then-end-begins
loop-i-preserved-then-end-begins c =
    let p = goal.at.loop-i-preserved-then-end-begins c in
    let h = p.After-high_byte-k in
    let z = known p.After-begins-begins in
    let t = sym c.is_sent.ensures ∙ c.if-not-is_sent.false in
    let w = walked-received z (walked h) (record { at = at h; sent = t }) c.if-end-begins.true in
    (ahead z w, w)

-- It is an item, with room for its word.
item : (c : Else-end-begins) →
    let end = get_or c.loop-i.ends (c.high_byte-k.result + 1) 0 in
    (1 ≤ end) × (2 * end ≤ length c.loop-i.out)
unfolding is_sent
item c =
    let l = c.loop-i.invariant.0 in
    let h : c.high_byte-k.result < 64 = search rules in
    (omega (arith, l.rising c.high_byte-k.result h), l.room c.high_byte-k.result h)

pub overflow_sub-ends : goal.overflow_sub-ends
overflow_sub-ends c = (item (goal.at.overflow_sub-ends c).Else-end-begins).0

pub overflow_sub-end : goal.overflow_sub-end
overflow_sub-end c = (item (goal.at.overflow_sub-end c).Else-end-begins).0

pub overflow_mul-end : goal.overflow_mul-end
overflow_mul-end c =
    let e = item (goal.at.overflow_mul-end c).Else-end-begins in
    record { fits = omega (arith, e.1) }

pub slice_bounds-write_word-count : goal.slice_bounds-write_word-count
slice_bounds-write_word-count c =
    let e = item (goal.at.slice_bounds-write_word-count c).Else-end-begins in
    omega (arith, e.1)

pub slice_bounds-write_word-start : goal.slice_bounds-write_word-start
slice_bounds-write_word-start c =
    let e = item (goal.at.slice_bounds-write_word-start c).Else-end-begins in
    omega (arith, e.1)

pub write_word-requires : goal.write_word-requires
write_word-requires c =
    let e = item (goal.at.write_word-requires c).Else-end-begins in
    simp (length-take, length-drop) (omega (arith, e.0, e.1))

pub loop-i-preserved : goal.loop-i-preserved
loop-i-preserved c =
    let p = goal.at.loop-i-preserved c in
    let h = p.After-high_byte-k in
    let z = known p.After-begins-begins in
    let t = sym c.is_sent.ensures ∙ c.if-not-is_sent.false in
    let w = walked-written z (walked h) (record { at = at h; sent = t }) c.if-end-begins.false _ c.write_word.ensures in
    (ahead z w, w)

-- The walk ends where no item is missing, or before the first record, where none can be.
none-missing : (c : goal.Left-loop-i) → c.loop-i.missing ≡ 0
none-missing c =
    elim c.loop-i-test.branch [
      | else-loop-i-test w ↦ omega (arith, c.loop-i.invariant.0.further)
      | then-loop-i-test+then-missing-eq0 w ↦ omega arith
    ]

pub returns : goal.returns
returns c = wrote-all (known (goal.at.returns c).After-begins-begins) c.loop-i.invariant.1 (none-missing c)

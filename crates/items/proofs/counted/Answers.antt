-- `items::counted` meets its contract: a record more is counted at its high byte.
use Rattle.std.proofs.Common.{arith, rules, length, length-append, ◌∙◌, ap}
use Rattle.std.proofs.lemmas.Slice.Zip.{zip_turn, zip_end}
use Rattle.items.proofs.Counting.{one, byte_one, seen_none, seen_more, seen_all}
use Rattle.items.proofs.counted.Goals as goal

pub loop-word-init : goal.loop-word-init
loop-word-init c = seen_none _ _ _

pub loop-word-preserved : goal.loop-word-preserved
loop-word-preserved c =
    let a = c.args in
    let at = c.loop-word in
    let h = c.high_byte-high in
    let t = zip_turn a.words.now a.ordinals.now at.yielded c.into_iter-word-iterator.result at.word-iterator c.next.new.self c.next.result (search rules) (search rules) at.yielded_by _ c.in-Some.is c.next.ensures.steps in
    simp length-append (seen_more at.seen a.shown a.words.now a.ordinals.now (length at.yielded) h.result c.shown_for.result c.from.result at.invariant t.0 c.requires.1 (h.ensures.0 ∙ rw (t.2 0)) h.ensures.1 c.shown_for.ensures (c.from.ensures ∙ byte_one c.inside.result ∙ ap one (c.inside.ensures ∙ rw (t.3 0))))

pub returns : goal.returns
returns c =
    let a = c.args in
    let at = c.loop-word in
    let t = zip_end a.words.now a.ordinals.now at.yielded c.into_iter-word-iterator.result at.word-iterator c.next.new.self c.next.result (search rules) (search rules) at.yielded_by c.in-None.is c.next.ensures.steps in
    seen_all at.seen a.shown a.words.now a.ordinals.now (length at.yielded) (omega (arith, t, c.requires.1)) at.invariant

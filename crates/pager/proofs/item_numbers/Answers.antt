-- `pager::item_numbers` meets its contract, by the numbers of the items before the next one.
use Rattle.std.proofs.Common.{◌<◌, ◌/◌, arith}
use Rattle.pager.proofs.Tables.{on-channel, items-none, items-room, items-next}
use Rattle.pager.proofs.item_numbers.Goals as goal
use Rattle.pager.proofs.item_numbers.Goals.{After-word_at-word}

pub loop-i-init : goal.loop-i-init
loop-i-init c = items-none

-- The next word is of an item on a channel.
channel : (c : After-word_at-word) → c.word_at-word.result / 256 < 64
channel c = let a = c.args in rw c.word_at-word.ensures (on-channel a.recording.now a.at a.number c.loop-i.i c.requires.2 (omega arith))

pub bounds-items-word : goal.bounds-items-word
bounds-items-word c = channel (goal.at.bounds-items-word c).After-word_at-word

pub bounds-items-word-in-loop-i : goal.bounds-items-word-in-loop-i
bounds-items-word-in-loop-i c = channel (goal.at.bounds-items-word-in-loop-i c).After-word_at-word

pub overflow_add-items : goal.overflow_add-items
overflow_add-items c =
    let t = c.loop-i in
    let a = c.args in
    let h = items-room a.recording.now a.at t.i c.word_at-word.result (channel (goal.at.overflow_add-items c).After-word_at-word) t.invariant in
    record { fits = omega (arith, h, c.requires.0) }

pub loop-i-preserved : goal.loop-i-preserved
loop-i-preserved c =
    let t = c.loop-i in
    let a = c.args in
    items-next a.recording.now a.at t.i c.word_at-word.result (channel (goal.at.loop-i-preserved c).After-word_at-word) c.word_at-word.ensures t.invariant

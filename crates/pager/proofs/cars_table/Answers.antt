-- `pager::cars_table` meets its contract, by the cars of the items before the next one.
use Rattle.std.proofs.Common.{◌<◌, ◌/◌, arith}
use Rattle.pager.proofs.Tables.{on-channel, table_none, table-room, table-next}
use Rattle.pager.proofs.cars_table.Goals as goal
use Rattle.pager.proofs.cars_table.Goals.{After-word_at-word}

pub loop-i-init : goal.loop-i-init
loop-i-init c = table_none

-- The next word is of an item on a channel.
channel : (c : After-word_at-word) → c.word_at-word.result / 256 < 64
channel c = let a = c.args in rw c.word_at-word.ensures (on-channel a.recording.now a.at a.number c.loop-i.i c.requires.2 (omega arith))

pub bounds-cars-k : goal.bounds-cars-k
bounds-cars-k c = let h = channel (goal.at.bounds-cars-k c).After-word_at-word in omega arith

pub bounds-cars-k-in-loop-i-2 : goal.bounds-cars-k-in-loop-i-2
bounds-cars-k-in-loop-i-2 c = let h = channel (goal.at.bounds-cars-k-in-loop-i-2 c).After-word_at-word in omega arith

pub overflow_add-cars : goal.overflow_add-cars
overflow_add-cars c =
    let t = c.loop-i in
    let a = c.args in
    let h = table-room a.recording.now a.at t.i c.word_at-word.result (channel (goal.at.overflow_add-cars c).After-word_at-word) t.invariant in
    record { fits = omega (arith, h, c.requires.0) }

pub loop-i-preserved : goal.loop-i-preserved
loop-i-preserved c =
    let t = c.loop-i in
    let a = c.args in
    table-next a.recording.now a.at t.i c.word_at-word.result (channel (goal.at.loop-i-preserved c).After-word_at-word) c.word_at-word.ensures t.invariant

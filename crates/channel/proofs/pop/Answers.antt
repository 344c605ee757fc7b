-- `pop` meets its contract: what is copied is what is moved down.
use Rattle.std.proofs.Common.{◌≡◌, ◌-◌, ◌+◌, ◌*◌, refl, sym, ◌∙◌, ap, arith, length, drop, ◌<◌}
use lib.Seq.{get_or-set_same, paste}
use Rattle.channel.specs.Channels.{moved_down, popped}
use Rattle.channel.proofs.Laws.{down-copied, has-place}
use Rattle.channel.proofs.pop.Goals as goal

pub returns : goal.returns
unfolding popped
returns c =
    let a = c.args in
    let n : a.k * 16 + 16 - (a.k * 16 + 1) ≡ 15 = omega arith in
    let b : a.k * 16 + 15 < length a.items.now = omega arith in
    let d : c.copy_within.new.self ≡ moved_down a.items.now (a.k * 16) 15 =
    c.copy_within.ensures.after ∙ ap (paste a.items.now (a.k * 16) (drop (a.k * 16 + 1) a.items.now)) n ∙ sym (down-copied a.items.now (a.k * 16) 15 b) in
    (refl, sym (get_or-set_same a.lens.now a.k _ 0 (has-place a.lens.now a.k c.requires.1)), rw (d))

-- `request_all` meets its contract: each turn sends to the lowest zone that is left.
use Rattle.std.proofs.Common.{◌≡◌, ℕ, ◌-◌, ◌∙◌, sym, refl, ap, length, zero-add, arith}
use lib.Bits.{and_le_l}
use Rattle.rules.specs.Sets.{members}
use Rattle.rules.proofs.Members.{members_step, members-length, lowest-lt}
use Rattle.channel.specs.Channels.{requested_all}
use Rattle.channel.proofs.Laws.{some_left, none_left}
use Rattle.channel.proofs.request_all.Goals as goal

pub loop-init : goal.loop-init
loop-init c = (c.ranges.to.fits, zero-add _ ∙ sym (members-length c.args.to c.ranges.to.fits), refl)

pub channel_index-at-requires : goal.channel_index-at-requires
channel_index-at-requires c =
    let l = c.loop in
    (c.requires, lowest-lt l.rest l.invariant.0 (some_left _ _ _ l.invariant.1 c.loop-test.true))

pub overflow_sub-rest : goal.overflow_sub-rest
overflow_sub-rest c = some_left _ _ _ c.loop.invariant.1 c.loop-test.true

pub loop-preserved : goal.loop-preserved
loop-preserved c =
    let l = c.loop in
    let s = l.rest in
    let step = members_step s l.invariant.0 (some_left _ _ _ l.invariant.1 c.loop-test.true) in (
      omega (arith, and_le_l s (s - 1), l.invariant.0),
      omega (arith, l.invariant.1, ap (length {A = ℕ}) step),
      rw (c.push.ensures, c.channel_index-at.ensures.0) (rw (step) at l.invariant.2),
    )

pub returns : goal.returns
unfolding requested_all
returns c =
    let l = c.loop in
    let e : length (members l.rest) ≡ 0 = omega (arith, l.invariant.1, c.loop-test.false) in
    rw (none_left (members l.rest) e) at l.invariant.2

-- `pager::write_channels` meets its contract: the lines of the channels before the next one.
use Rattle.std.proofs.Common.{◌≡◌, ◌≤◌, ◌+◌, ◌*◌, length, get_or, ◌∙◌, ap, arith}
use lib.Dec.{eqb}
use lib.ListN.{length-take, length-drop}
use Rattle.pager.specs.InnerLines.{lines_in}
use Rattle.pager.proofs.Joined.{line_of, line-size, seventeen, line-more, no_lines, lines-size, lines-before}
use Rattle.pager.proofs.Stored.{none-put, put_as, put-length, more-put}
use Rattle.pager.proofs.write_channels.Goals as goal

pub loop-k-init : goal.loop-k-init
loop-k-init c = rw (no_lines _ _) (none-put _)

pub write_line-at-requires : goal.write_line-at-requires
write_line-at-requires c =
    let items = c.args.items.now in
    let k = c.loop-k.k in
    let p = c.loop-k.invariant in
    let h : c.loop-k.at + 17 * line_of (get_or items k 0) ≤ length c.args.out.now =
    omega (arith, p.number, lines-size items c.args.cars k, lines-before items k 64 c.loop-k-test.true, c.requires) in
    let s = put-length p (omega arith) in
    let one = seventeen (eqb (get_or items k 0) 0) in
    (c.loop-k-test.true, simp (length-take, length-drop) (omega (arith, one, h, s)))

pub loop-k-preserved : goal.loop-k-preserved
loop-k-preserved c =
    let items = c.args.items.now in
    let k = c.loop-k.k in
    let p = c.loop-k.invariant in
    let h : c.loop-k.at + 17 * line_of (get_or items k 0) ≤ length c.args.out.now =
    omega (arith, p.number, lines-size items c.args.cars k, lines-before items k 64 c.loop-k-test.true, c.requires) in
    let e = c.write_line-at.ensures in
    rw (line-more items c.args.cars k) (more-put _ _ _ _ _ _ _ p (omega (arith, h, (e.number ∙ line-size _ _ _))) e)

pub returns : goal.returns
returns c =
    let e : c.loop-k.k ≡ 64 = omega arith in
    put_as (ap (lines_in c.args.items.now c.args.cars) e) c.loop-k.invariant

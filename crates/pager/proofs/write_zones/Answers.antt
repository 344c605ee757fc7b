-- `pager::write_zones` meets its contract: the lines of the zones before the next one.
use Rattle.std.proofs.Common.{◌≡◌, ◌≤◌, ◌+◌, ◌*◌, ◌%◌, ℕ, length, ◌∙◌, ap, ap₂, arith}
use lib.Dec.{leb}
use lib.ListN.{length-take, length-drop}
use Rattle.pager.specs.InnerLines.{zone_lines}
use Rattle.pager.proofs.Joined.{zone-more, zones-size, no-zones}
use Rattle.page.specs.Layout.{zone_text}
use Rattle.page.proofs.Lines.{zone-length}
use Rattle.pager.proofs.Stored.{none-put, put_as, put-length, more-put}
use Rattle.pager.proofs.write_zones.Goals as goal

pub loop-i-init : goal.loop-i-init
loop-i-init c = rw (no-zones _) (none-put _)

pub write_zone-at-requires : goal.write_zone-at-requires
write_zone-at-requires c =
    let p = c.loop-i.invariant in
    let e : c.loop-i.at ≡ 17 * c.loop-i.i = omega (arith, p.number, zones-size c.args.recording.now c.loop-i.i) in
    let h : c.loop-i.at + 17 ≤ length c.args.out.now = omega (arith, c.requires.1) in
    let s = put-length p (omega arith) in
    (omega (arith, c.requires.0), simp (length-take, length-drop) (omega (arith, h, s)))

pub loop-i-preserved : goal.loop-i-preserved
loop-i-preserved c =
    let l = c.loop-i in
    let p = l.invariant in
    let e : l.at ≡ 17 * l.i = omega (arith, p.number, zones-size c.args.recording.now l.i) in
    let h : l.at + 17 ≤ length c.args.out.now = omega (arith, c.requires.1) in
    let w = c.write_zone-at.ensures in
    let bytes = c.args.recording.now in
    let line = ap₂ (λ (word stock : ℕ). zone_text l.i (leb 32768 word) (word % 1024) stock) c.word_at-word.ensures c.word_at-stock.ensures in
    rw (zone-more bytes l.i) (more-put _ _ _ _ _ _ _ p (omega (arith, h, (w.number ∙ zone-length _ _ _ _))) (put_as line w))

pub returns : goal.returns
returns c =
    let l = c.loop-i in
    let a = c.args in
    let e : l.i ≡ a.count = omega arith in
    put_as (ap (zone_lines a.recording.now) e) l.invariant

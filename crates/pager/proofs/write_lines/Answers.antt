-- `pager::write_lines` meets its contract: each writer is lent what the one before it left.
use Rattle.std.proofs.Common.{◌≡◌, ◌+◌, ◌-◌, ◌*◌, ◌++◌, ℕ, List, length, ◌∙◌, arith}
use lib.ListN.{length-take, length-drop}
use borrow.Rule.Slice.PartMut.{put_mid}
use Rattle.page.proofs.Lines.{total-length}
use Rattle.pager.specs.InnerLines.{Put, zone_lines, lines_in, lines_number}
use Rattle.pager.proofs.Joined.{zones-size, lines-size}
use Rattle.pager.proofs.Stored.{put-length, more-put}
use Rattle.pager.proofs.write_lines.Goals.{After-write_zones-n, After-write_channels-m}
use Rattle.pager.proofs.write_lines.Goals as goal

-- The zones' lines, and the room behind them.
module _ (c : After-write_zones-n) where
  zones : c.write_zones-n.result ≡ 17 * c.args.count
  zones = c.write_zones-n.ensures.number ∙ zones-size _ _

  zones-room : length c.write_zones-n.new.out ≡ length c.args.out.now
  zones-room = let h = zones in put-length c.write_zones-n.ensures (omega (arith, h, c.requires.1))

-- Those of the channels, and the room behind them.
module _ (c : After-write_channels-m) (h : c.write_zones-n.result ≡ 17 * c.args.count) where
  channels : c.write_channels-m.result ≡ 17 * lines_number c.args.items.now 64
  channels = c.write_channels-m.ensures.number ∙ lines-size _ _ _

  abbrev filled : List ℕ
  filled =
      let z = c.write_zones-n in
      put_mid z.result (length z.new.out - z.result) z.new.out c.write_channels-m.new.out

  both : Put (zone_lines c.args.recording.now c.args.count ++ lines_in c.args.items.now c.args.cars 64)
      c.args.out.now filled (c.write_zones-n.result + c.write_channels-m.result)
  both = let k = channels in more-put _ _ _ _ _ _ _ c.write_zones-n.ensures (omega (arith, h, k, c.requires.1)) c.write_channels-m.ensures

  both-room : length filled ≡ length c.args.out.now
  both-room = let k = channels in put-length both (omega (arith, h, k, c.requires.1))

pub slice_bounds-write_channels-count : goal.slice_bounds-write_channels-count
slice_bounds-write_channels-count c =
    let w = (goal.at.slice_bounds-write_channels-count c).After-write_zones-n in
    let z = zones w in
    let m = zones-room w in
    omega (arith, z, m, c.requires.1)

pub write_channels-m-requires : goal.write_channels-m-requires
write_channels-m-requires c =
    let w = (goal.at.write_channels-m-requires c).After-write_zones-n in
    let z = zones w in
    let m = zones-room w in
    simp (length-take, length-drop) (omega (arith, z, m, c.requires.1))

pub slice_bounds-write_total-count : goal.slice_bounds-write_total-count
slice_bounds-write_total-count c =
    let z = zones (goal.at.slice_bounds-write_total-count c).After-write_zones-n in
    let w = (goal.at.slice_bounds-write_total-count c).After-write_channels-m in
    let k = channels w z in
    let m = both-room w z in
    omega (arith, z, k, m, c.requires.1)

pub write_total-l-requires : goal.write_total-l-requires
write_total-l-requires c =
    let z = zones (goal.at.write_total-l-requires c).After-write_zones-n in
    let w = (goal.at.write_total-l-requires c).After-write_channels-m in
    let k = channels w z in
    let m = both-room w z in
    simp (length-take, length-drop) (omega (arith, z, k, m, c.requires.1))

pub overflow_add-result : goal.overflow_add-result
overflow_add-result c =
    let z = zones (goal.at.overflow_add-result c).After-write_zones-n in
    let k = channels (goal.at.overflow_add-result c).After-write_channels-m z in
    record { fits = omega (arith, z, k, c.write_total-l.ensures.number ∙ total-length _, c.requires.1) }

pub returns : goal.returns
returns c =
    let z = zones (goal.at.returns c).After-write_zones-n in
    let w = (goal.at.returns c).After-write_channels-m in
    let k = channels w z in
    let t = c.write_total-l.ensures.number ∙ total-length _ in
    more-put _ _ _ _ _ _ _ (both w z) (omega (arith, z, k, t, c.requires.1)) c.write_total-l.ensures

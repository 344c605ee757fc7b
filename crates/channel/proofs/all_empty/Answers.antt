-- `channel::all_empty` meets its contract.
use Rattle.std.proofs.Common.{◌∙◌, arith}
use Rattle.channel.proofs.Indices.{empty-from}
use Rattle.channel.proofs.all_empty.Goals as goal

pub returns : goal.returns
returns c = c.eq.ensures ∙ empty-from c.args.lens.now c.args.from _ c.as_chunks.ensures.front (omega arith) c.requires

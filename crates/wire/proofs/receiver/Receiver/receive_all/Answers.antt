use Rattle.std.proofs.Common.{◌∙◌, rules}
use Rattle.wire.proofs.Byte.{shows_bytes_by}
use Rattle.wire.proofs.Only.{more_levels, all_levels}
use Rattle.wire.proofs.receiver.Receiver.receive_all.Goals as goal

pub loop-pair-preserved : goal.loop-pair-preserved
loop-pair-preserved c =
    more_levels c.loop-pair.self _ c.args.levels.now c.loop-pair.pair-index _ (search rules) c.receive.ensures.after
    ∙ c.loop-pair.invariant

pub returns : goal.returns
returns c =
    let both = all_levels c.args.self.now c.loop-pair.self c.args.levels.now c.loop-pair.pair-index (search rules) c.loop-pair.invariant in
    record { after = both.0; only = both.1; bytes = shows_bytes_by c.self.inside _ c.self.view_is }

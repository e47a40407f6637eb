use Rattle.std.proofs.Common.{◌≡◌, ap, ◌∙◌, rules}
use Rattle.wire.specs.Changes.{changed}
use Rattle.wire.specs.Lines.{Line}
use Rattle.wire.specs.Receive.{at_levels, reacted}
use Rattle.wire.proofs.Byte.{byte_to_send, shows_bytes}
use Rattle.wire.proofs.Levelled.{levelled}
use Rattle.wire.proofs.receiver.Receiver.receive.Goals as goal

pub returns-clause-byte : goal.returns-clause-byte
returns-clause-byte c = byte_to_send c.self.inside

pub returns-clause-bytes : goal.returns-clause-bytes
returns-clause-bytes c = shows_bytes c.self.inside.part

pub returns-clause-after : goal.returns-clause-after
returns-clause-after c =
    let r = c.args.self.now in
    let l = c.args.levels in
    let change : c.between.result ≡ changed r.levels l r.drives = search rules in
    ap (λ (x : Line). at_levels x l) (c.self.view_is ∙ c.react-2.ensures ∙ ap (reacted r) change) ∙ levelled l r (changed r.levels l r.drives)

pub returns-clause-sda : goal.returns-clause-sda
returns-clause-sda c = ap (λ (x : Line). x.drives) (returns-clause-after c)

use Rattle.std.proofs.Common.{◌≡◌, length, rules}
use Rattle.registers.specs.Rows.{mask_of}
use Rattle.registers.proofs.Kept.{held_written}
use Rattle.std.proofs.lemmas.List.{set_past}
use Rattle.registers.proofs.settings.Settings.write.Goals as goal

pub invariant_of-self : goal.invariant_of-self
invariant_of-self c =
    let l : length c.args.self.now.bytes ≡ 70 = search rules in
    let m : c.writable.result ≡ mask_of c.args.register = c.writable.ensures in
    record { held = rw m (held_written c.args.self.now.bytes c.args.register c.args.byte l (search rules) c.args.self.now.held) }

pub returns-else-index-lt-COUNT : goal.returns-else-index-lt-COUNT
returns-else-index-lt-COUNT c = search (rules, set_past)

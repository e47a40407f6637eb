use Rattle.std.proofs.Common.{◌≡◌, ◌<◌, ◌≤◌, Err, rules}
use Rattle.bus.specs.declared.sender.PutFault.TheVariants as fault
use Rattle.bus.proofs.Calls.{put_run, put_unsent}
use Rattle.bus.proofs.sender.put.Goals as goal

pub returns-in_err-target-clause-run : goal.returns-in_err-target-clause-run
returns-in_err-target-clause-run g c =
    let far : 128 ≤ c.args.address = search rules in
    let gone : c.from_residual.result ≡ Err fault.Address = search rules in
    rw gone (put_unsent c.args.address c.args.register c.args.byte far)

pub returns-clause-run : goal.returns-clause-run
returns-clause-run g c =
    let near : c.args.address < 128 = search rules in
    let same : c.in_ok-target.target.bits ≡ c.args.address = search rules in
    put_run c.args.address c.args.register c.args.byte c.send_put-sent.result near c.start.ensures (rw same at c.send_put-sent.ensures) c.stop.ensures

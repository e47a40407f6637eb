use Rattle.std.proofs.Common.{◌≡◌, ◌<◌, ◌≤◌, false, eqb, length, Err, arith, rules}
use borrow.Author.Tests.{eqb-false}
use Rattle.bus.specs.declared.sender.ReadFault.TheVariants as fault
use Rattle.bus.proofs.Calls.{read_run, read_unsent, read_none}
use Rattle.bus.proofs.sender.read.Goals as goal

pub returns-in_err-target-clause-run : goal.returns-in_err-target-clause-run
returns-in_err-target-clause-run g c =
    let far : 128 ≤ c.args.address = search rules in
    let gone : c.from_residual.result ≡ Err fault.Address = search rules in
    rw gone (read_unsent c.args.address c.args.register c.args.into.now far)

pub returns-then-is_empty-clause-run : goal.returns-then-is_empty-clause-run
returns-then-is_empty-clause-run g c = read_none c.args.address c.args.register c.args.into.now (search rules)

pub returns-clause-run : goal.returns-clause-run
returns-clause-run g c =
    let near : c.args.address < 128 = search rules in
    let same : c.in_ok-target.target.bits ≡ c.args.address = search rules in
    let e : eqb (length c.args.into.now) 0 ≡ false = cc in
    read_run c.args.address c.args.register c.send_read-taken.new.into c.send_read-taken.result near (omega (arith, eqb-false _ _ e)) c.start.ensures
    (rw same at c.send_read-taken.ensures.run)
    c.stop.ensures

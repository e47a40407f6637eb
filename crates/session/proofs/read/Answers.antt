use Rattle.session.proofs.Limits.{taken}
use Rattle.session.proofs.read.Goals as goal

pub returns : goal.returns
returns g c = taken (g.R.Read.remaining c.args.input) 65537 _ _ c.new-script.ensures.items (rw (c.take.ensures.limit, c.take.ensures.inner) at c.in_ok-read_to_end.ensures.bytes)

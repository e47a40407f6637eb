use Rattle.std.proofs.Common.{arith}
use Rattle.script.proofs.Steps.{field_taken}
use Rattle.script.proofs.rest.Rest.field.Goals as goal

pub returns : goal.returns
returns c =
    let s = c.shape-class.ensures in
    let t = c.take.ensures in
    field_taken c.args.kind _ _ _ _ (rw (s.class, s.most) at c.run_length-count.ensures) (omega arith) t.front t.back t.column t.moved

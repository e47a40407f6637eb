use Rattle.std.proofs.Common.{sym, ap, ◌∙◌}
use Rattle.script.specs.Commands.{meant}
use Rattle.script.proofs.reader.command.Goals as goal

pub returns : goal.returns
returns c = let s = c.in_ok-said.ensures in (s.right _ _ s.read, c.meaning.ensures ∙ ap meant (sym s.read.0))

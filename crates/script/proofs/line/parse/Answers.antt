use Rattle.script.proofs.Stands.{said_is_right, wrong_right}
use Rattle.script.proofs.line.parse.Goals as goal

pub returns-then-line-gt-LONGEST-clause-right : goal.returns-then-line-gt-LONGEST-clause-right
returns-then-line-gt-LONGEST-clause-right c = said_is_right

pub returns-then-line-gt-LONGEST-clause-apart : goal.returns-then-line-gt-LONGEST-clause-apart
returns-then-line-gt-LONGEST-clause-apart c = wrong_right

pub returns-in-empty-clause-right : goal.returns-in-empty-clause-right
returns-in-empty-clause-right c = said_is_right

pub returns-in-empty-clause-apart : goal.returns-in-empty-clause-apart
returns-in-empty-clause-apart c = wrong_right

pub returns-in-len1-up-clause-right : goal.returns-in-len1-up-clause-right
returns-in-len1-up-clause-right c = said_is_right

pub returns-in-len1-up-clause-apart : goal.returns-in-len1-up-clause-apart
returns-in-len1-up-clause-apart c = wrong_right

-- What the code has in hand, as an outcome.
use Rattle.std.specs.Prelude.{ℕ, List, Ok, Err, Result}
use Rattle.console.specs.declared.fault.Cause.{Cause}
use Rattle.console.specs.declared.Reply.{Reply}
use Rattle.console.specs.declared.Reply.TheVariants.{Done, Byte, Report}
use Rattle.console.specs.Outcomes.{Outcome, done, byte, report, refused}

-- the bytes are what stands in the report's buffer
abbrev pub told : Result Reply Cause → List ℕ → Outcome
told (Ok Done) bytes = done
told (Ok (Byte b)) bytes = byte b
told (Ok Report) bytes = report bytes
told (Err c) bytes = refused c

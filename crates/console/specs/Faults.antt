-- Faults of the console, each with its number.
use Rattle.std.specs.Prelude.{ℕ}
use Rattle.reading.specs.Reading.{fault_number as reading_number}
use Rattle.console.specs.declared.fault.Cause.{Cause}
use Rattle.console.specs.declared.fault.Cause.TheVariants.{Form, Reading}
use Rattle.console.specs.declared.fault.ConsoleFault.{ConsoleFault}
use Rattle.console.specs.declared.fault.ConsoleFault.TheVariants.{Size, Line}

abbrev pub cause_number : Cause → ℕ
cause_number (Form column) = 6
cause_number (Reading fault) = reading_number fault

abbrev pub fault_number : ConsoleFault → ℕ
fault_number Size = 5
fault_number (Line line cause) = cause_number cause

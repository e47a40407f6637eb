-- What a command comes to on a rig that means m, at the address a: what there is to say, and what it leaves.
use Rattle.std.specs.Prelude.{ℕ, cond, List}
use Rattle.registers.specs.declared.causes.Trip.TheVariants as trip
use Rattle.part.specs.declared.events.Pin.TheVariants as pin
use Rattle.rig.specs.declared.Refusal.TheVariants.{Silence}
use Rattle.rig.specs.Meaning as rig
use Rattle.reading.specs.declared.ReadingFault.TheVariants.{Refused}
use Rattle.reading.specs.Report.{report as report_on}
use Rattle.reading.specs.Reading.{read_next}
use Rattle.script.specs.declared.command.Command.{Command}
use Rattle.script.specs.declared.command.Command.TheVariants.{Tick, On, Pol, Fast, Slow, Put, Get, Read}
use Rattle.console.specs.declared.fault.Cause.{Cause}
use Rattle.console.specs.declared.fault.Cause.TheVariants.{Reading}

pub data Outcome : Type 0 where
  done : Outcome
  byte : ℕ → Outcome
  report : List ℕ → Outcome
  refused : Cause → Outcome

-- a rig's refusal comes up in a reading's fault
abbrev pub heard : rig.Answer → Outcome
heard rig.done = done
heard (rig.byte b) = byte b
heard (rig.bytes bs) = done
heard (rig.levels l) = done
heard (rig.refused e) = refused (Reading (Refused e))

abbrev pub outcome : rig.Meaning → ℕ → Command → Outcome
outcome m a (Tick i v) = heard (rig.answer m (rig.tick i v))
outcome m a (On l) = done
outcome m a (Pol l) = done
outcome m a Fast = done
outcome m a Slow = done
outcome m a (Put r x) = heard (rig.answer m (rig.put a r x))
outcome m a (Get r) = heard (rig.answer m (rig.get a r))
outcome m a Read = cond (rig.hears m a) (report (report_on m.part)) (refused (Reading (Refused Silence)))

abbrev pub left_by : rig.Meaning → ℕ → Command → rig.Meaning
left_by m a (Tick i v) = rig.next m (rig.tick i v)
left_by m a (On l) = rig.next m (rig.pin pin.On l)
left_by m a (Pol l) = rig.next m (rig.pin pin.Pol l)
left_by m a Fast = rig.next m (rig.trip trip.Fast)
left_by m a Slow = rig.next m (rig.trip trip.Slow)
left_by m a (Put r x) = rig.next m (rig.put a r x)
left_by m a (Get r) = rig.next m (rig.get a r)
left_by m a Read = read_next m a 270

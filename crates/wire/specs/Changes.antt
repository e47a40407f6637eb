-- What happens on SCL and SDA between one pair of levels and the next.
use Rattle.std.specs.Prelude.{Bool, true, false, Option, Some, None}
use Rattle.bus.specs.declared.levels.Levels.{Levels}
use Rattle.wire.specs.declared.change.Change.{Change}
use Rattle.wire.specs.declared.change.Change.TheVariants.{Start, Stop, Rise, Fall}

-- with SCL high: SDA falling is START, SDA rising is STOP
abbrev pub moved : Bool → Bool → Option Change
moved true true = None
moved true false = Some Start
moved false true = Some Stop
moved false false = None

-- by SCL before and after, and SDA on the bus before and after
abbrev pub clocked : Bool → Bool → Bool → Bool → Option Change
clocked true true a b = moved a b
clocked true false a b = Some Fall
clocked false true a b = Some (Rise b)
clocked false false a b = None

-- SDA on the bus is low if either end pulls: the master by its pair, the receiver while `drives` is false
abbrev pub on_bus : Bool → Bool → Bool
on_bus true b = b
on_bus false b = false

abbrev pub changed : Levels → Levels → Bool → Option Change
changed was is drives = clocked was.scl is.scl (on_bus drives was.sda) (on_bus drives is.sda)

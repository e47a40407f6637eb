-- What is logged, and the bytes that show it.
use Rattle.std.specs.Prelude.{ℕ, ◌+◌, Bool, false, cond, not, ◌||◌, ◌==◌}
use Rattle.registers.specs.declared.causes.Trip.TheVariants.{Fast, Slow}
use Rattle.registers.specs.declared.causes.Compare.{Compare}
use Rattle.registers.specs.declared.causes.Compare.TheVariants.{Uv1, Uv2, Ov1, Ov2, Oi}
use Rattle.registers.specs.declared.causes.Cause.{Cause}
use Rattle.registers.specs.declared.causes.Cause.TheVariants as cause
use Rattle.registers.specs.declared.causes.Compares.{Compares}
use Rattle.registers.specs.declared.causes.Logs.{Logs}

abbrev pub holds : Compare → Compares → Bool
holds Uv1 f = f.uv1
holds Uv2 f = f.uv2
holds Ov1 f = f.ov1
holds Ov2 f = f.ov2
holds Oi f = f.oi

-- the flags that a test of each compare gives
abbrev pub compares : (Compare → Bool) → Compares
compares f = record { uv1 = f Uv1; uv2 = f Uv2; ov1 = f Ov1; ov2 = f Ov2; oi = f Oi }

abbrev pub has : Cause → Logs → Bool
has (cause.Trip Fast) l = l.fast
has (cause.Trip Slow) l = l.slow
has (cause.Compare q) l = holds q l.compares

-- the log that a test of each cause gives
abbrev pub logs : (Cause → Bool) → Logs
logs f = record { fast = f (cause.Trip Fast); slow = f (cause.Trip Slow); compares = compares (λ q. f (cause.Compare q)) }

abbrev pub no_compare : Compares
no_compare = compares (λ q. false)

abbrev pub nothing : Logs
nothing = logs (λ q. false)

-- a flag as a bit of that weight
abbrev pub weight : Bool → ℕ → ℕ
weight b n = cond b n 0

-- 0x31: slow in bit 4, fast in bit 0
abbrev pub trip_byte : Logs → ℕ
trip_byte l = weight l.slow 16 + weight l.fast 1

-- 0x35 and 0x36: critical in bit 4, warning in bit 0
abbrev pub under_byte : Logs → ℕ
under_byte l = weight l.compares.uv2 16 + weight l.compares.uv1 1

abbrev pub over_byte : Logs → ℕ
over_byte l = weight l.compares.ov2 16 + weight l.compares.ov1 1

-- 0x37: overcurrent in bit 0
abbrev pub current_byte : Logs → ℕ
current_byte l = weight l.compares.oi 1

-- FAULT is asserted: the log of trips is not 0
abbrev pub tripped : Logs → Bool
tripped l = not (trip_byte l == 0)

-- ALERT is asserted: one of the four logs is not 0
abbrev pub alerted : Logs → Bool
alerted l = tripped l || not (under_byte l == 0) || not (over_byte l == 0) || not (current_byte l == 0)

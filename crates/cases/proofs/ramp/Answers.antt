use Rattle.std.proofs.Common.{◌+◌, rules}
use Rattle.samples.proofs.Calls.{made}
use Rattle.cases.proofs.Steps.{full_scale, latch, silences}
use Rattle.cases.proofs.Bay.{readouts, power_good}
use Rattle.cases.proofs.Stops.{stop_delays}
use Rattle.cases.proofs.Apart.{reports}
use Rattle.cases.proofs.ramp.Goals as goal

pub returns-clause-values : goal.returns-clause-values
returns-clause-values c = made _ (λ s. s.value) (λ k. k + 1) _ _ _ (λ i y q l k. search rules) 0 c.from_fn.ensures.items

pub returns-clause-bench : goal.returns-clause-bench
returns-clause-bench c = record {
  full_scale = full_scale;
  readouts = readouts;
  stop_delay = stop_delays;
  power_good = power_good;
  latch = latch;
  silences = silences;
  reports = reports;
}

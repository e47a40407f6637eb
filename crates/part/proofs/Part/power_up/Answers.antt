use Rattle.std.proofs.Common.{◌≡◌, false, rules}
use Rattle.part.specs.declared.Part.{Part}
use Rattle.part.specs.Model.{model, powered}
use Rattle.part.proofs.First.{powered_up}
use Rattle.part.proofs.Part.power_up.Goals as goal

pub returns : goal.returns
returns c =
    let made : Part =
    record {
      pins = c.args.pins;
      settings = c.power_up.result;
      current = c.new.result;
      voltage = c.new-2.result;
      logs = c.none.result;
      latched = false;
      power_good = false;
      good_count = 0;
      earlier = c.none-2.result;
    } in
    let whole : model made ≡ powered c.args.pins = search rules in
    record { whole = whole; registers = powered_up (model made) c.args.pins whole }

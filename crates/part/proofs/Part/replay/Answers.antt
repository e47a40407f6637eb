use Rattle.part.specs.Model.{model}
use Rattle.part.specs.Runs.{history}
use Rattle.part.proofs.Stands.{stands_at}
use Rattle.part.proofs.Part.replay.Goals as goal

pub returns : goal.returns
returns c =
    let both = stands_at c.args.pins (history c.args.events.now) (model c.power_up-part.result) (model c.run.new.self) c.power_up-part.ensures.whole c.run.ensures in
    record { whole = both.0; laws = both.1 }

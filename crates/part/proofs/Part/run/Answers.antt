use Rattle.std.proofs.Common.{rules}
use Rattle.part.specs.Model.{model}
use Rattle.part.proofs.Stands.{ran_more, ran_all}
use Rattle.part.proofs.Part.run.Goals as goal

pub loop-event-preserved : goal.loop-event-preserved
loop-event-preserved c =
    ran_more (model c.args.self.now) (model c.loop-event.self) _ c.args.events.now c.loop-event.event-index c.event-item.result (search rules) c.event-item.is c.loop-event.invariant c.apply.ensures

pub returns : goal.returns
returns c = ran_all (model c.args.self.now) _ c.args.events.now c.loop-event.event-index (search rules) c.loop-event.invariant

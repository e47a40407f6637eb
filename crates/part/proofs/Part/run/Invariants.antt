use Rattle.std.proofs.Common.{◌≡◌, take}
use Rattle.part.specs.Model.{model}
use Rattle.part.specs.Runs.{ran, history}
use Rattle.part.proofs.Part.run.Given as goal

abbrev pub invariant-loop-event : goal.invariant-loop-event
invariant-loop-event l = model l.self ≡ ran (model l.initial.self) (history (take l.event-index l.events))

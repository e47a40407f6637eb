-- Receivers, each with its part: the laws of frames, said of them and not of lines alone.
use Rattle.std.specs.Prelude.{◌≡◌, Bool}
use Rattle.bus.specs.declared.levels.Levels.{Levels}
use Rattle.wire.specs.declared.receiver.Receiver.TheInside.{Inside}
use Rattle.wire.specs.Receive.{view, received}
use Rattle.wire.specs.Laws.{Frames}

-- a pair of levels is taken, and SDA answered
abbrev pub Takes : Inside → Levels → Bool → Inside → Type 0
Takes r l a s = (view s ≡ received (view r) l) × (a ≡ (view s).drives)

abbrev pub FramesOfReceivers : Type 0
FramesOfReceivers = Frames view Takes

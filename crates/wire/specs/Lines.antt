-- What contracts see of a receiver.
use Rattle.std.specs.Prelude.{ℕ, Bool}
use Rattle.bus.specs.declared.levels.Levels.{Levels}
use Rattle.part.specs.Model.{Model}
use Rattle.wire.specs.declared.receiver.Phase.{Phase}

-- what stands behind the bus: the part, the pointer, and how many bytes this read has sent, round at a hundred
pub record Behind : Type 0 where
  pub part : Model
  pub pointer : ℕ
  pub place : ℕ

-- a receiver: the levels last taken, the SDA that it drives itself (false pulls), what it waits for, the silences owed, and what stands behind
pub record Line : Type 0 where
  pub levels : Levels
  pub drives : Bool
  pub phase : Phase
  pub owed : ℕ
  pub behind : Behind

-- What a part shows are bytes, and its settings have no bit that their registers do not keep.
use Rattle.std.specs.Prelude.{ℕ, ◌<◌}
use Rattle.samples.specs.declared.signal.Signal.{Signal}
use Rattle.samples.specs.History.{byte_at}
use Rattle.registers.specs.Held.{Held}
use Rattle.registers.specs.Questions.{resolution}
use Rattle.part.specs.Model.{Model, monitor}
use Rattle.part.specs.Shown.{shown}

-- each register is a byte, and so is each place of a ring's readout, in the resolution that is set; a setting keeps within its mask
pub record ShowsBytes (m : Model) : Type 0 where
  pub registers : (n : ℕ) → n < 70 → shown m n < 256
  pub readouts : (s : Signal) (k : ℕ) → byte_at (resolution m.settings s) (monitor s m).ring k < 256
  pub settings : Held m.settings

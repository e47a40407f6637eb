use Rattle.std.proofs.Common.{◌≡◌, ℕ, ◌<◌, true, length, get_or}
use Rattle.part.specs.Shown.{shown}
use Rattle.rig.specs.Meaning.{hears}
use Rattle.reading.proofs.gets.registers.Given as goal

abbrev pub invariant-loop-number : goal.invariant-loop-number
invariant-loop-number g l =
    (length l.byte-items ≡ 70)
    × (g.R.Rig.meaning l.rig ≡ g.R.Rig.meaning l.initial.rig)
    × (0 < l.number → hears (g.R.Rig.meaning l.initial.rig) l.address ≡ true)
    × ((j : ℕ) → j < l.number → get_or l.byte-items j 0 ≡ shown (g.R.Rig.meaning l.initial.rig).part j)

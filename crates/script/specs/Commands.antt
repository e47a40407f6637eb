-- The command that a right line means, by its letter and the places of its fields.
use Rattle.std.specs.Prelude.{ℕ, ◌+◌, cond, List, take, drop, ◌==◌, slice_index}
use Rattle.std.specs.Str.Parse.{digits_value}
use Rattle.registers.specs.Pins.{level_of}
use Rattle.script.specs.declared.command.Command.{Command}
use Rattle.script.specs.declared.command.Command.TheVariants.{Tick, On, Pol, Fast, Slow, Put, Get, Read}
use Rattle.script.specs.Steps.{run}

-- the numbers of the digits from the third byte on, and of what follows the space after them
abbrev pub ticked : List ℕ → Command
ticked fields = Tick (digits_value 10 (take (run 4 fields) fields)) (digits_value 10 (drop (run 4 fields + 1) fields))

-- a line of any other letter is not right, so its meaning is never asked for
abbrev pub meant : List ℕ → Command
meant line =
    cond (slice_index line 0 == 84) (ticked (drop 2 line))
    (cond (slice_index line 0 == 79) (On (level_of (slice_index line 2 == 49)))
    (cond (slice_index line 0 == 76) (Pol (level_of (slice_index line 2 == 49)))
    (cond (slice_index line 0 == 70) Fast
    (cond (slice_index line 0 == 83) Slow
    (cond (slice_index line 0 == 87) (Put (digits_value 16 (take 2 (drop 2 line))) (digits_value 16 (drop 5 line)))
    (cond (slice_index line 0 == 71) (Get (digits_value 16 (drop 2 line)))
    Read))))))

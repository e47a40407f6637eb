-- The first line of a text, and what follows its line feed.
use Rattle.std.specs.Prelude.{ℕ, ◌+◌, Bool, not, List, take, drop, ◌==◌}
use Rattle.std.specs.List.{prefix_len}

abbrev pub in_line : ℕ → Bool
in_line b = not (b == 10)

abbrev pub line_of : List ℕ → List ℕ
line_of text = take (prefix_len in_line text) text

abbrev pub after_line : List ℕ → List ℕ
after_line text = drop (prefix_len in_line text + 1) text

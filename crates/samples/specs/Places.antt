-- Places in a ring of n places, counted from 0.
use Rattle.std.specs.Prelude.{ℕ, ◌+◌, ◌%◌, cond, ◌==◌, nat_lt}

-- the place after p: the first follows the last
abbrev pub following : ℕ → ℕ → ℕ
following p n = cond (nat_lt (p + 1) n) (p + 1) 0

-- the place k steps on from p; a ring of no places answers 0
abbrev pub onward : ℕ → ℕ → ℕ → ℕ
onward p k n = cond (n == 0) 0 ((p + k) % n)

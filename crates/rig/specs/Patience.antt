-- What a rig means to one that tries again up to p times: the same part, and the debt shared out over the tries.
use Rattle.std.specs.Prelude.{◌≡◌, ℕ, zero, suc, ◌+◌, ◌/◌, ◌<◌, true}
use Rattle.rig.specs.declared.Refusal.TheVariants.{Silence}
use Rattle.rig.specs.Meaning.{Meaning, Call, refused, next, answer, accepts, reaches}

abbrev pub eased : Meaning → ℕ → Meaning
eased m p = record { part = m.part; owed = m.owed / (p + 1) }

-- the same call k times
abbrev pub again : Meaning → Call → ℕ → Meaning
again m c zero = m
again m c (suc k) = next (again m c k) c

-- a call that reaches the part is met by n silences and then accepted
abbrev pub Waits : Meaning → ℕ → Type 0
Waits m n = (c : Call) → reaches m.part c ≡ true → ((k : ℕ) → k < n → answer (again m c k) c ≡ refused Silence) × (accepts (again m c n) c ≡ true)

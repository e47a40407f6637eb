-- A line says one thing.
use Rattle.std.proofs.Common.{◌≡◌, ℕ, List, Ok, Err, Result, sym, ap, subst, ◌∙◌}
use Rattle.script.specs.declared.command.Command.{Command}
use Rattle.script.proofs.Stands.{wrong_right, one_wrong, first_wrong_right, first_one_wrong}
use Rattle.console.specs.Answering.{Reads}
use Rattle.console.specs.Booting.{FirstReads}

pub reads_one : (line : List ℕ) (s t : Result Command ℕ) → Reads line s → Reads line t → s ≡ t
reads_one line (Ok c) (Ok d) r q = ap Ok (r.1 ∙ sym q.1)
reads_one line (Ok c) (Err k) r q = absurd (wrong_right line k q r.0)
reads_one line (Err k) (Ok d) r q = absurd (wrong_right line k r q.0)
reads_one line (Err k) (Err l) r q = ap Err (one_wrong line k l r q)

pub first_one : (line : List ℕ) (s t : Result ℕ ℕ) → FirstReads line s → FirstReads line t → s ≡ t
first_one line (Ok c) (Ok d) r q = ap Ok (r.1 ∙ sym q.1)
first_one line (Ok c) (Err k) r q = absurd (first_wrong_right line k q r.0)
first_one line (Err k) (Ok d) r q = absurd (first_wrong_right line k r q.0)
first_one line (Err k) (Err l) r q = ap Err (first_one_wrong line k l r q)

-- what holds of the one thing that a line says holds of each thing that it says
pub reads_each : (line : List ℕ) (s : Result Command ℕ) → Reads line s → (P : Result Command ℕ → Type 0) → P s → (t : Result Command ℕ) → Reads line t → P t
reads_each line s r P p t q = subst P (reads_one line s t r q) p

pub first_each : (line : List ℕ) (s : Result ℕ ℕ) → FirstReads line s → (P : Result ℕ ℕ → Type 0) → P s → (t : Result ℕ ℕ) → FirstReads line t → P t
first_each line s r P p t q = subst P (first_one line s t r q) p

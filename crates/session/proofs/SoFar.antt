-- A text that is answered line by line, part of the way.
use Rattle.std.proofs.Common.{◌≡◌, ℕ, ◌<◌, List, [], ◌∷◌, ◌++◌, length, Option, Result, sym, refl, ◌∙◌, subst, append_assoc, append-nil}
use Rattle.std.specs.Io.KnownBytes.{Appends}
use Rattle.rig.specs.Meaning.{Meaning}
use Rattle.script.specs.declared.command.Command.{Command}
use Rattle.console.specs.Answering.{Reads, line_outcome, line_left, said, next_line}
use Rattle.session.specs.Lines.{line_of, after_line}
use Rattle.session.specs.Answered.{ReadAs, answers}
use Rattle.session.proofs.Written.{appends_nothing, appends_both}

-- from a rig that means m, line n and a text to a rig that means m', line n' and the rest of the text; a writer held old and holds new
pub record SoFar (m : Meaning) (a n : ℕ) (text : List ℕ) (old : Option (List ℕ)) (m' : Meaning) (a' n' : ℕ) (rest : List ℕ) (new : Option (List ℕ)) : Type 0 where
  pub done : List ℕ
  pub appended : Appends old new done
  pub on : (ss : List (Result Command ℕ)) → ReadAs rest ss → (all : List (Result Command ℕ)) × ReadAs text all × (answers m a n all ≡ done ++ answers m' a' n' ss)

pub nothing_yet : (m : Meaning) (a n : ℕ) (text : List ℕ) (old : Option (List ℕ)) → SoFar m a n text old m a n text old
nothing_yet m a n text old = record { done = []; appended = appends_nothing old; on = λ ss h. (ss, h, refl) }

module _ {m : Meaning} {a n : ℕ} {text : List ℕ} {old : Option (List ℕ)} {m' : Meaning} {a' n' : ℕ} {rest : List ℕ} {new : Option (List ℕ)} (f : SoFar m a n text old m' a' n' rest new) where
  pub one_more :
      (s : Result Command ℕ) → 0 < length rest → Reads (line_of rest) s → (m'' : Meaning) (a'' n'' : ℕ) (rest' : List ℕ) (newer : Option (List ℕ)) →
      m'' ≡ line_left m' a' s → a'' ≡ a' → n'' ≡ next_line n' → rest' ≡ after_line rest → Appends new newer (said (next_line n') (line_outcome m' a' s)) → SoFar m a n text old m'' a'' n'' rest' newer
  one_more s some reads m'' a'' n'' rest' newer left at line after wrote =
      let said_now : List ℕ = said (next_line n') (line_outcome m' a' s) in
      record {
        done = f.done ++ said_now;
        appended = appends_both old new newer f.done said_now f.appended wrote;
        on = λ ss h.
            let whole = f.on (s ∷ ss) (some, reads, subst (λ (t : List ℕ). ReadAs t ss) after h) in
            (whole.0, whole.1, whole.2 ∙ sym (append_assoc f.done said_now _) ∙ (λ i. (f.done ++ said_now) ++ answers (sym left i) (sym at i) (sym line i) ss));
      }

  pub all_answered : length rest ≡ 0 → (ss : List (Result Command ℕ)) × ReadAs text ss × Appends old new (answers m a n ss)
  all_answered none =
      let whole = f.on [] none in
      (whole.0, whole.1, subst (Appends old new) (sym (whole.2 ∙ append-nil f.done)) f.appended)

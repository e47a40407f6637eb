-- Runs of a recorder.
use Rattle.std.proofs.Common.{◌≡◌, Bool, true, false, List, [], ◌∷◌, ◌++◌, vec_items, sym, refl, ◌∙◌, append_assoc, append-nil}
use Rattle.bus.specs.declared.levels.Levels.{Levels}
use Rattle.bus.specs.declared.recorder.Recorded.{Recorded}
use Rattle.bus.specs.declared.recorder.Recorder.{Recorder}
use Rattle.bus.specs.Frames.{Beat, Driven, done, told, heard}
use Rattle.bus.specs.Recording.{entry, Records, Follows, ended, tells, hears, KeepsRuns}

-- the bus below goes through the same beats
below : {B : Type 0} {R : B → Levels → Bool → B → Type 0} {s t : Recorder B} {ks : List Beat}
    → Driven (Records R) s ks t → Driven R s.bus ks t.bus
below done = done
below (told r p) = told r.below (below p)
below (heard r p) = heard r.below (below p)

-- a record that is complete was complete all the time
kept : (b c : Bool) → (b ≡ true → c ≡ true) → c ≡ false → b ≡ false
kept true c f e = sym (f refl) ∙ e
kept false c f e = refl

before : {B : Type 0} {R : B → Levels → Bool → B → Type 0} {s t : Recorder B} {ks : List Beat}
    → Driven (Records R) s ks t → t.lost ≡ false → s.lost ≡ false
before done e = e
before {s = s} (told {m = m} r p) e = kept s.lost m.lost r.stays (before p e)
before {s = s} (heard {m = m} r p) e = kept s.lost m.lost r.stays (before p e)

-- a complete record has grown by entries that follow the beats
more : {B : Type 0} {R : B → Levels → Bool → B → Type 0} {s m : Recorder B} {l : Levels} {a : Bool} (xs es : List Recorded)
    → Records R s l a m → m.lost ≡ false → xs ≡ vec_items m.entries ++ es → xs ≡ vec_items s.entries ++ (entry l a ∷ es)
more xs es r e f = f ∙ rw (r.grows, e) (simp append_assoc)

recorded : {B : Type 0} {R : B → Levels → Bool → B → Type 0} {s t : Recorder B} {ks : List Beat}
    → Driven (Records R) s ks t → t.lost ≡ false → (es : List Recorded) × (vec_items t.entries ≡ vec_items s.entries ++ es) × Follows ks es
recorded {t = t} done e = ([], sym (append-nil (vec_items t.entries)), ended)
recorded {t = t} (told {l = l} {a = a} r p) e =
    let q = recorded p e in
    (entry l a ∷ q.0, more (vec_items t.entries) q.0 r (before p e) q.1, tells q.2)
recorded {t = t} (heard {l = l} {a = a} r p) e =
    let q = recorded p e in
    (entry l a ∷ q.0, more (vec_items t.entries) q.0 r (before p e) q.1, hears q.2)

pub keeps_runs : {B : Type 0} (R : B → Levels → Bool → B → Type 0) → KeepsRuns R
keeps_runs R s t ks p = record { below = below p; follows = recorded p }

-- Calls from START to STOP, of what they send in between.
use Rattle.std.proofs.Common.{◌≡◌, ℕ, ◌<◌, ◌≤◌, Bool, true, false, eqb, ltb, List, ◌++◌, length, Ok, Err, Result, append_assoc, arith, le-ltb, lt-ltb, eq-eqb, ne_eqb}
use Rattle.bus.specs.declared.levels.Levels.{Levels}
use Rattle.bus.specs.declared.sender.PutFault.{PutFault}
use Rattle.bus.specs.declared.sender.PutFault.TheVariants as put
use Rattle.bus.specs.declared.sender.ReadFault.{ReadFault}
use Rattle.bus.specs.declared.sender.ReadFault.TheVariants as read
use Rattle.bus.specs.Frames.{Driven, done, start_frame, stop_frame, put_frame, read_frame}
use Rattle.bus.specs.Between.{put_bytes, read_bytes}
use Rattle.bus.proofs.Runs.{then}

put_joined : (a r x : ℕ) (o : Result (Unit {0}) PutFault) → a < 128 → start_frame ++ (put_bytes a r x o ++ stop_frame) ≡ put_frame a r x o
put_joined a r x (Ok u) h = simp append_assoc
put_joined a r x (Err put.Address) h = let e : ltb a 128 ≡ true = lt-ltb a 128 h in rw e
put_joined a r x (Err put.Register) h = simp append_assoc
put_joined a r x (Err put.Data) h = simp append_assoc

read_joined : (a r : ℕ) (ns : List ℕ) (o : Result (Unit {0}) ReadFault) → a < 128 → 0 < length ns
    → start_frame ++ (read_bytes a r ns o ++ stop_frame) ≡ read_frame a r ns o
read_joined a r ns (Ok u) h k = let e : eqb (length ns) 0 ≡ false = ne_eqb (length ns) 0 (omega arith) in rw e (simp append_assoc)
read_joined a r ns (Err read.Address) h k = let e : ltb a 128 ≡ true = lt-ltb a 128 h in rw e
read_joined a r ns (Err read.Register) h k = simp append_assoc
read_joined a r ns (Err read.Repeat) h k = simp append_assoc

pub put_run : {B : Type 0} {R : B → Levels → Bool → B → Type 0} {s m n t : B} (a r x : ℕ) (o : Result (Unit {0}) PutFault) → a < 128
    → Driven R s start_frame m → Driven R m (put_bytes a r x o) n → Driven R n stop_frame t → Driven R s (put_frame a r x o) t
put_run a r x o h p q z = rw (← put_joined a r x o h) (then p (then q z))

pub read_run : {B : Type 0} {R : B → Levels → Bool → B → Type 0} {s m n t : B} (a r : ℕ) (ns : List ℕ) (o : Result (Unit {0}) ReadFault) → a < 128 → 0 < length ns
    → Driven R s start_frame m → Driven R m (read_bytes a r ns o) n → Driven R n stop_frame t → Driven R s (read_frame a r ns o) t
read_run a r ns o h k p q z = rw (← read_joined a r ns o h k) (then p (then q z))

-- an address above 0x7F, and a read of no bytes, drive nothing
pub put_unsent : {B : Type 0} {R : B → Levels → Bool → B → Type 0} {s : B} (a r x : ℕ) → 128 ≤ a → Driven R s (put_frame a r x (Err put.Address)) s
put_unsent a r x h = let e : ltb a 128 ≡ false = le-ltb a 128 h in rw e done

pub read_unsent : {B : Type 0} {R : B → Levels → Bool → B → Type 0} {s : B} (a r : ℕ) (ns : List ℕ) → 128 ≤ a → Driven R s (read_frame a r ns (Err read.Address)) s
read_unsent a r ns h = let e : ltb a 128 ≡ false = le-ltb a 128 h in rw e done

pub read_none : {B : Type 0} {R : B → Levels → Bool → B → Type 0} {s : B} (a r : ℕ) (ns : List ℕ) → length ns ≡ 0 → Driven R s (read_frame a r ns (Ok tt)) s
read_none a r ns h = let e : eqb (length ns) 0 ≡ true = eq-eqb (length ns) 0 h in rw e done

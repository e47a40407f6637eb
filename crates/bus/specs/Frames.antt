-- What a master drives on a bus and what it hears, as lists of beats, and the runs of a bus through one.
use Rattle.std.specs.Prelude.{ℕ, zero, suc, ◌+◌, ◌-◌, ◌*◌, ◌/◌, ◌%◌, ◌^◌, Bool, true, false, cond, not, List, [], ◌∷◌, ◌++◌, length, Ok, Err, Result, ◌==◌, nat_lt, slice_index}
use Rattle.bus.specs.declared.levels.Levels.{Levels}
use Rattle.bus.specs.declared.sender.PutFault.{PutFault}
use Rattle.bus.specs.declared.sender.PutFault.TheVariants as put
use Rattle.bus.specs.declared.sender.ReadFault.{ReadFault}
use Rattle.bus.specs.declared.sender.ReadFault.TheVariants as read

abbrev pub pair : Bool → Bool → Levels
pair c d = record { scl = c; sda = d }

-- one pair of levels: whatever SDA answers, or at one answer
pub data Beat : Type 0 where
  tell : Levels → Beat
  hear : Levels → Bool → Beat

-- a bus that answers by the relation R goes from one state through the beats to another
pub data Driven {B : Type 0} (R : B → Levels → Bool → B → Type 0) : B → List Beat → B → Type 0 where
  done : {s : B} → Driven R s [] s
  told : {s m t : B} {l : Levels} {a : Bool} {ks : List Beat} → R s l a m → Driven R m ks t → Driven R s (tell l ∷ ks) t
  heard : {s m t : B} {l : Levels} {a : Bool} {ks : List Beat} → R s l a m → Driven R m ks t → Driven R s (hear l a ∷ ks) t

-- ---- START from rest, repeated START, STOP

unfoldable pub start_frame : List Beat
start_frame = tell (pair true false) ∷ []

unfoldable pub repeat_frame : List Beat
repeat_frame = tell (pair false true) ∷ (tell (pair true true) ∷ (tell (pair true false) ∷ []))

unfoldable pub stop_frame : List Beat
stop_frame = tell (pair false false) ∷ (tell (pair true false) ∷ (tell (pair true true) ∷ []))

-- ---- bits: SDA is set with SCL low, SCL rises and falls

abbrev pub bit_frame : Bool → List Beat
bit_frame b = tell (pair false b) ∷ (tell (pair true b) ∷ (tell (pair false b) ∷ []))

-- a bit in which SDA is heard with SCL high
abbrev pub heard_frame : Bool → Bool → List Beat
heard_frame b a = tell (pair false b) ∷ (hear (pair true b) a ∷ (tell (pair false b) ∷ []))

-- ---- bytes that are sent

-- the bit of weight 2 ^ k
abbrev pub bit_at : ℕ → ℕ → Bool
bit_at n k = n / 2 ^ k % 2 == 1

-- the first i bits of a byte, the most significant first
unfoldable pub bits_frame : ℕ → ℕ → List Beat
bits_frame n zero = []
bits_frame n (suc i) = bits_frame n i ++ bit_frame (bit_at n (7 - i))

-- a byte, and whether it is acknowledged: SDA is then heard low
unfoldable pub byte_frame : ℕ → Bool → List Beat
byte_frame n acked = bits_frame n 8 ++ heard_frame true (not acked)

-- ---- bytes that are taken

-- the i low bits of n are heard, the most significant first
unfoldable pub taken_bits : ℕ → ℕ → List Beat
taken_bits n zero = []
taken_bits n (suc i) = taken_bits (n / 2) i ++ heard_frame true (n % 2 == 1)

-- the first i bytes of ns are heard, and each but the last of ns is acknowledged
unfoldable pub taken_bytes : List ℕ → ℕ → List Beat
taken_bytes ns zero = []
taken_bytes ns (suc i) = taken_bytes ns i ++ (taken_bits (slice_index ns i) 8 ++ bit_frame (i + 1 == length ns))

-- ---- calls, by how they ended: a missing acknowledge is followed by STOP; an address above 0x7F is never sent

abbrev pub write_address : ℕ → ℕ
write_address a = a * 2

abbrev pub read_address : ℕ → ℕ
read_address a = a * 2 + 1

-- a byte x into register r of the part at address a
abbrev pub put_frame : ℕ → ℕ → ℕ → Result (Unit {0}) PutFault → List Beat
put_frame a r x (Ok u) = start_frame ++ (byte_frame (write_address a) true ++ (byte_frame r true ++ (byte_frame x true ++ stop_frame)))
put_frame a r x (Err put.Address) = cond (nat_lt a 128) (start_frame ++ (byte_frame (write_address a) false ++ stop_frame)) []
put_frame a r x (Err put.Register) = start_frame ++ (byte_frame (write_address a) true ++ (byte_frame r false ++ stop_frame))
put_frame a r x (Err put.Data) = start_frame ++ (byte_frame (write_address a) true ++ (byte_frame r true ++ (byte_frame x false ++ stop_frame)))

-- the bytes ns from register r, or ring base r, of the part at address a; no bytes are read by doing nothing
abbrev pub read_frame : ℕ → ℕ → List ℕ → Result (Unit {0}) ReadFault → List Beat
read_frame a r ns (Ok u) =
    cond (length ns == 0) []
    (start_frame ++ (byte_frame (write_address a) true ++ (byte_frame r true ++ (repeat_frame ++ (byte_frame (read_address a) true ++ (taken_bytes ns (length ns) ++ stop_frame))))))
read_frame a r ns (Err read.Address) = cond (nat_lt a 128) (start_frame ++ (byte_frame (write_address a) false ++ stop_frame)) []
read_frame a r ns (Err read.Register) = start_frame ++ (byte_frame (write_address a) true ++ (byte_frame r false ++ stop_frame))
read_frame a r ns (Err read.Repeat) = start_frame ++ (byte_frame (write_address a) true ++ (byte_frame r true ++ (repeat_frame ++ (byte_frame (read_address a) false ++ stop_frame))))

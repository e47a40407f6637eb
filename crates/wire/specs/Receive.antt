-- What a receiver holds, and what it makes of each pair of levels.
use Rattle.std.specs.Prelude.{ℕ, ◌+◌, ◌-◌, ◌*◌, ◌/◌, ◌%◌, Bool, true, false, cond, ◌==◌, nat_le, nat_lt, Option, Some, None}
use Rattle.bus.specs.declared.levels.Levels.{Levels}
use Rattle.bus.specs.Frames.{pair}
use Rattle.samples.specs.History.{byte_at}
use Rattle.samples.specs.Places.{following}
use Rattle.registers.specs.Questions.{resolution}
use Rattle.part.specs.Events.{Event, step, write, block}
use Rattle.part.specs.Model.{Model, model, address, monitor}
use Rattle.part.specs.Shown.{shown}
use Rattle.rig.specs.Meaning.{ring_base, ring_at}
use Rattle.wire.specs.Changes.{changed}
use Rattle.wire.specs.declared.change.Change.{Change}
use Rattle.wire.specs.declared.change.Change.TheVariants.{Start, Stop, Rise, Fall}
use Rattle.wire.specs.declared.receiver.Shift.{Shift}
use Rattle.wire.specs.declared.receiver.Next.{Next}
use Rattle.wire.specs.declared.receiver.Next.TheVariants as next
use Rattle.wire.specs.declared.receiver.Phase.{Phase}
use Rattle.wire.specs.declared.receiver.Phase.TheVariants.{Idle, Address, Register, Data, Acknowledge, Acknowledged, Send, Sent}
use Rattle.wire.specs.declared.receiver.Receiver.TheInside.{Inside}
use Rattle.wire.specs.Lines.{Line, Behind}

abbrev pub view : Inside → Line
view r = record { levels = r.levels; drives = r.drives; phase = r.phase; owed = r.owed; behind = record { part = model r.part; pointer = r.pointer; place = r.place } }

-- on a bus at rest, with the pointer at the first register
abbrev pub resting : Model → ℕ → Line
resting p n = record { levels = pair true true; drives = true; phase = Idle; owed = n; behind = record { part = p; pointer = 0; place = 0 } }

abbrev pub in_phase : Line → Phase → Line
in_phase r p = record { levels = r.levels; drives = r.drives; phase = p; owed = r.owed; behind = r.behind }

abbrev pub driving : Line → Bool → Phase → Line
driving r d p = record { levels = r.levels; drives = d; phase = p; owed = r.owed; behind = r.behind }

abbrev pub at_levels : Line → Levels → Line
at_levels r l = record { levels = l; drives = r.drives; phase = r.phase; owed = r.owed; behind = r.behind }

abbrev pub with_behind : Line → Behind → Phase → Line
with_behind r b p = record { levels = r.levels; drives = r.drives; phase = p; owed = r.owed; behind = b }

-- ---- bits, the most significant first

abbrev pub bit : Bool → ℕ
bit true = 1
bit false = 0

abbrev pub empty : Shift
empty = record { bits = 0; count = 0 }

-- a byte is whole at its eighth bit
abbrev pub completed : Shift → Bool → Option ℕ
completed s b = cond (nat_lt s.count 7) None (Some (s.bits % 128 * 2 + bit b))

-- and then the next one begins
abbrev pub shifted : Shift → Bool → Shift
shifted s b = cond (nat_lt s.count 7) (record { bits = s.bits % 128 * 2 + bit b; count = s.count + 1 }) empty

-- ---- an address byte: acknowledged at the part's address, unless a silence is owed

abbrev pub silenced : Line → Line
silenced r = record { levels = r.levels; drives = r.drives; phase = Idle; owed = r.owed - 1; behind = r.behind }

-- a read stops the ring at whose base the pointer stands, and starts at the readout's first byte
abbrev pub read_from : Behind → Behind
read_from b = record { part = cond (ring_base b.pointer) (step b.part (block (ring_at b.pointer))) b.part; pointer = b.pointer; place = 0 }

abbrev pub opened : Line → Line
opened r = with_behind r (read_from r.behind) (Acknowledge next.Send)

abbrev pub addressed : Line → ℕ → Line
addressed r n =
    cond (n / 2 == address r.behind.part)
    (cond (r.owed == 0) (cond (n % 2 == 1) (opened r) (in_phase r (Acknowledge next.Register))) (silenced r))
    (in_phase r Idle)

-- ---- a register byte: acknowledged up to the ring bases

abbrev pub pointing : Behind → ℕ → Behind
pointing b n = record { part = b.part; pointer = n; place = b.place }

abbrev pub pointed : Line → ℕ → Line
pointed r n = cond (nat_le n 0x47) (with_behind r (pointing r.behind n) (Acknowledge next.Data)) (in_phase r Idle)

-- ---- a data byte: acknowledged for a register, and not for a ring base

-- on to the next register, from 0x45 to 0x00; a ring base stays
abbrev pub next_pointer : ℕ → ℕ
next_pointer p = cond (nat_lt p 0x45) (p + 1) (cond (p == 0x45) 0 p)

abbrev pub wrote : Behind → ℕ → Behind
wrote b n = record { part = step b.part (write b.pointer n); pointer = next_pointer b.pointer; place = b.place }

abbrev pub written : Line → ℕ → Line
written r n = cond (nat_le r.behind.pointer 0x45) (with_behind r (wrote r.behind n) (Acknowledge next.Data)) (in_phase r Idle)

-- ---- bytes that are sent

abbrev pub ring_byte : Model → ℕ → ℕ → ℕ
ring_byte p base k = byte_at (resolution p.settings (ring_at base)) (monitor (ring_at base) p).ring k

abbrev pub to_send : Behind → ℕ
to_send b = cond (ring_base b.pointer) (ring_byte b.part b.pointer b.place) (cond (nat_lt b.pointer 70) (shown b.part b.pointer) 0)

-- a readout repeats after a hundred bytes at the latest
abbrev pub next_place : ℕ → ℕ
next_place k = following k 100

abbrev pub passed : Behind → Behind
passed b = record { part = b.part; pointer = next_pointer b.pointer; place = next_place b.place }

-- as SCL falls: s counts the bits that are out; with the eighth the byte counts as read
abbrev pub sent : Line → Shift → Line
sent r s =
    cond (nat_lt s.count 8)
    (record {
      levels = r.levels;
      drives = nat_lt 127 s.bits;
      phase = Send (record { bits = s.bits % 128 * 2; count = s.count + 1 });
      owed = r.owed;
      behind = cond (s.count == 7) (passed r.behind) r.behind;
    })
    (driving r true Sent)

abbrev pub begun : Line → Next → Line
begun r next.Register = driving r true (Register empty)
begun r next.Data = driving r true (Data empty)
begun r next.Send = sent r (record { bits = to_send r.behind; count = 0 })

-- ---- by change and phase

-- which byte is coming in
pub data Kind : Type 0 where
  address_byte : Kind
  register_byte : Kind
  data_byte : Kind

abbrev pub taking_phase : Kind → Shift → Phase
taking_phase address_byte s = Address s
taking_phase register_byte s = Register s
taking_phase data_byte s = Data s

abbrev pub whole : Line → Kind → ℕ → Line
whole r address_byte n = addressed r n
whole r register_byte n = pointed r n
whole r data_byte n = written r n

-- by the byte that is whole with a bit, and the bits that are in after it
abbrev pub bit_taken : Line → Kind → Option ℕ → Shift → Line
bit_taken r k None s = in_phase r (taking_phase k s)
bit_taken r k (Some n) s = whole r k n

abbrev pub risen : Line → Phase → Bool → Line
risen r Idle b = r
risen r (Address s) b = bit_taken r address_byte (completed s b) (shifted s b)
risen r (Register s) b = bit_taken r register_byte (completed s b) (shifted s b)
risen r (Data s) b = bit_taken r data_byte (completed s b) (shifted s b)
risen r (Acknowledge n) b = r
risen r (Acknowledged n) b = r
risen r (Send s) b = r
risen r Sent b = in_phase r (cond b Idle (Acknowledged next.Send))

abbrev pub fallen : Line → Phase → Line
fallen r Idle = r
fallen r (Address s) = r
fallen r (Register s) = r
fallen r (Data s) = r
fallen r (Acknowledge n) = driving r false (Acknowledged n)
fallen r (Acknowledged n) = begun r n
fallen r (Send s) = sent r s
fallen r Sent = r

abbrev pub reacted : Line → Option Change → Line
reacted r (Some Start) = driving r true (Address empty)
reacted r (Some Stop) = driving r true Idle
reacted r (Some (Rise b)) = risen r r.phase b
reacted r (Some Fall) = fallen r r.phase
reacted r None = r

abbrev pub received : Line → Levels → Line
received r l = reacted (at_levels r l) (changed r.levels l r.drives)

-- ---- an event of the part, from elsewhere than the bus

abbrev pub happened : Line → Event → Line
happened r e = with_behind r (record { part = step r.behind.part e; pointer = r.behind.pointer; place = r.behind.place }) r.phase

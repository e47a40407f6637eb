-- What a change comes to leaves the levels, and does not depend on them.
use Rattle.std.proofs.Common.{◌≡◌, ℕ, ◌/◌, ◌%◌, Bool, true, false, cond, eqb, ltb, leb, Option, Some, None, refl}
use Rattle.bus.specs.declared.levels.Levels.{Levels}
use Rattle.part.specs.Model.{address}
use Rattle.wire.specs.declared.change.Change.{Change}
use Rattle.wire.specs.declared.change.Change.TheVariants.{Start, Stop, Rise, Fall}
use Rattle.wire.specs.declared.receiver.Shift.{Shift}
use Rattle.wire.specs.declared.receiver.Next.TheVariants as next
use Rattle.wire.specs.declared.receiver.Phase.{Phase}
use Rattle.wire.specs.declared.receiver.Phase.TheVariants.{Idle, Address, Register, Data, Acknowledge, Acknowledged, Send, Sent}
use Rattle.wire.specs.Lines.{Line}
use Rattle.wire.specs.Receive.{at_levels, reacted, risen, fallen, sent, completed, shifted, bit_taken, Kind, address_byte, register_byte, data_byte, opened, silenced, in_phase, with_behind, driving, pointing, wrote, to_send}

module _ (l : Levels) where
  either : (t : Bool) (x y : Line) → at_levels (cond t x y) l ≡ cond t (at_levels x l) (at_levels y l)
  either true x y = refl
  either false x y = refl

  one_of_four : (t u v : Bool) (w x y z : Line) → at_levels (cond t (cond u (cond v w x) y) z) l ≡ cond t (cond u (cond v (at_levels w l) (at_levels x l)) (at_levels y l)) (at_levels z l)
  one_of_four true true true w x y z = refl
  one_of_four true true false w x y z = refl
  one_of_four true false v w x y z = refl
  one_of_four false u v w x y z = refl

  by_bit : (r : Line) (k : Kind) (t : Option ℕ) (s : Shift) → at_levels (bit_taken r k t s) l ≡ bit_taken (at_levels r l) k t s
  by_bit r k None s = refl
  by_bit r address_byte (Some n) s = one_of_four (eqb (n / 2) (address r.behind.part)) (eqb r.owed 0) (eqb (n % 2) 1) (opened r) (in_phase r (Acknowledge next.Register)) (silenced r) (in_phase r Idle)
  by_bit r register_byte (Some n) s = either (leb n 0x47) (with_behind r (pointing r.behind n) (Acknowledge next.Data)) (in_phase r Idle)
  by_bit r data_byte (Some n) s = either (leb r.behind.pointer 0x45) (with_behind r (wrote r.behind n) (Acknowledge next.Data)) (in_phase r Idle)

  by_rise : (r : Line) (f : Phase) (b : Bool) → at_levels (risen r f b) l ≡ risen (at_levels r l) f b
  by_rise r Idle b = refl
  by_rise r (Address s) b = by_bit r address_byte (completed s b) (shifted s b)
  by_rise r (Register s) b = by_bit r register_byte (completed s b) (shifted s b)
  by_rise r (Data s) b = by_bit r data_byte (completed s b) (shifted s b)
  by_rise r (Acknowledge n) b = refl
  by_rise r (Acknowledged n) b = refl
  by_rise r (Send s) b = refl
  by_rise r Sent b = refl

  by_send : (r : Line) (s : Shift) → at_levels (sent r s) l ≡ sent (at_levels r l) s
  by_send r s = either (ltb s.count 8) _ (driving r true Sent)

  by_fall : (r : Line) (f : Phase) → at_levels (fallen r f) l ≡ fallen (at_levels r l) f
  by_fall r Idle = refl
  by_fall r (Address s) = refl
  by_fall r (Register s) = refl
  by_fall r (Data s) = refl
  by_fall r (Acknowledge n) = refl
  by_fall r (Acknowledged next.Register) = refl
  by_fall r (Acknowledged next.Data) = refl
  by_fall r (Acknowledged next.Send) = by_send r (record { bits = to_send r.behind; count = 0 })
  by_fall r (Send s) = by_send r s
  by_fall r Sent = refl

  pub levelled : (r : Line) (c : Option Change) → at_levels (reacted r c) l ≡ reacted (at_levels r l) c
  levelled r (Some Start) = refl
  levelled r (Some Stop) = refl
  levelled r (Some (Rise b)) = by_rise r r.phase b
  levelled r (Some Fall) = by_fall r r.phase
  levelled r None = refl

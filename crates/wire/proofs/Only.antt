-- Whatever levels come, only whole calls reach the part.
use Rattle.std.proofs.Common.{◌≡◌, ℕ, Option, Some, None, ◌+◌, ◌*◌, ◌/◌, ◌%◌, ◌<◌, ◌≤◌, Bool, true, false, cond, eqb, ltb, leb, List, [], ◌∷◌, ◌++◌, length, get_or, drop, sym, refl, ap, ◌∙◌, IfSome, arith}
use mathlib.Core.Path.{subst⁻¹}
use Rattle.std.proofs.lemmas.List.{at_drop_more, at_drop_all}
use Rattle.std.proofs.lemmas.Bool.{and_parts, and_from, cond_both, lt-ltb}
use Rattle.bus.specs.declared.levels.Levels.{Levels}
use Rattle.part.specs.Events.{Event, write, block, step}
use Rattle.part.specs.Model.{Model, address}
use Rattle.part.specs.Runs.{ran}
use Rattle.rig.specs.Meaning.{ring_base, ring_at}
use Rattle.wire.specs.Changes.{changed}
use Rattle.wire.specs.declared.change.Change.{Change}
use Rattle.wire.specs.declared.change.Change.TheVariants.{Start, Stop, Rise, Fall}
use Rattle.wire.specs.declared.receiver.Shift.{Shift}
use Rattle.wire.specs.declared.receiver.Next.TheVariants as next
use Rattle.wire.specs.declared.receiver.Phase.{Phase}
use Rattle.wire.specs.declared.receiver.Phase.TheVariants.{Idle, Address, Register, Data, Acknowledge, Acknowledged, Send, Sent}
use Rattle.wire.specs.Lines.{Line, Behind}
use Rattle.wire.specs.Receive.{at_levels, received, reacted, risen, fallen, sent, bit, completed, shifted, bit_taken, Kind, address_byte, register_byte, data_byte, addressed, pointed, written, opened, in_phase, with_behind, wrote, passed, pointing, to_send}
use Rattle.wire.specs.Laws.{received_all, from_bus, all_from_bus, OnlyCalls}

same : (p : Model) → OnlyCalls p p
same p = ([], refl, refl)

-- one run after another
ran-++ : (p : Model) (fs es : List Event) → ran p (fs ++ es) ≡ ran (ran p es) fs
ran-++ p [] es = refl
ran-++ p (f ∷ fs) es = ap (λ m. step m f) (ran-++ p fs es)

all-++ : (fs es : List Event) → all_from_bus fs ≡ true → all_from_bus es ≡ true → all_from_bus (fs ++ es) ≡ true
all-++ [] es a b = b
all-++ (f ∷ fs) es a b =
    let parts = and_parts (from_bus f) (all_from_bus fs) a in
    and_from (from_bus f) (all_from_bus (fs ++ es)) parts.0 (all-++ fs es parts.1 b)

joined : (p q r : Model) → OnlyCalls p q → OnlyCalls q r → OnlyCalls p r
joined p q r a b = (b.0 ++ a.0, all-++ b.0 a.0 b.1 a.1, b.2 ∙ ap (λ m. ran m b.0) a.2 ∙ sym (ran-++ p b.0 a.0))

-- of two ways
either : (p : Model) (t : Bool) (x y : Line) → OnlyCalls p x.behind.part → OnlyCalls p y.behind.part → OnlyCalls p (cond t x y).behind.part
either p true x y a b = a
either p false x y a b = b

ring_stops : (t : Bool) (p : Model) (b : ℕ) → OnlyCalls p (cond t (step p (block (ring_at b))) p)
ring_stops true p b = (block (ring_at b) ∷ [], refl, refl)
ring_stops false p b = same p

by_address : (r : Line) (n : ℕ) → OnlyCalls r.behind.part (addressed r n).behind.part
by_address r n =
    let p = r.behind.part in
    either p (eqb (n / 2) (address p)) _ _
    (either p (eqb r.owed 0) _ _ (either p (eqb (n % 2) 1) (opened r) (in_phase r (Acknowledge next.Register)) (ring_stops (ring_base r.behind.pointer) p r.behind.pointer) (same p)) (same p))
    (same p)

by_register : (r : Line) (n : ℕ) → OnlyCalls r.behind.part (pointed r n).behind.part
by_register r n = either r.behind.part (leb n 0x47) (with_behind r (pointing r.behind n) (Acknowledge next.Data)) (in_phase r Idle) (same r.behind.part) (same r.behind.part)

by_data : (r : Line) (n : ℕ) → n < 256 → OnlyCalls r.behind.part (written r n).behind.part
by_data r n fits =
    either r.behind.part (leb r.behind.pointer 0x45) (with_behind r (wrote r.behind n) (Acknowledge next.Data)) (in_phase r Idle)
    (write r.behind.pointer n ∷ [], and_from (ltb n 256) true (lt-ltb n 256 fits) refl, refl) (same r.behind.part)

-- eight bits are a byte
whole_fits : (s : Shift) (b : Bool) → IfSome (completed s b) (λ n. n < 256)
whole_fits s b = cond_both (ltb s.count 7) None (Some (s.bits % 128 * 2 + bit b)) (λ t. IfSome t (λ n. n < 256)) (λ _. tt) (λ _. bits_fit s b)
  where
    bits_fit : (s : Shift) (b : Bool) → s.bits % 128 * 2 + bit b < 256
    bits_fit s true = omega arith
    bits_fit s false = omega arith

by_bit : (r : Line) (k : Kind) (t : Option ℕ) (s : Shift) → IfSome t (λ n. n < 256) → OnlyCalls r.behind.part (bit_taken r k t s).behind.part
by_bit r k None s fits = same r.behind.part
by_bit r address_byte (Some n) s fits = by_address r n
by_bit r register_byte (Some n) s fits = by_register r n
by_bit r data_byte (Some n) s fits = by_data r n fits

by_rise : (r : Line) (f : Phase) (b : Bool) → OnlyCalls r.behind.part (risen r f b).behind.part
by_rise r Idle b = same r.behind.part
by_rise r (Address s) b = by_bit r address_byte (completed s b) (shifted s b) (whole_fits s b)
by_rise r (Register s) b = by_bit r register_byte (completed s b) (shifted s b) (whole_fits s b)
by_rise r (Data s) b = by_bit r data_byte (completed s b) (shifted s b) (whole_fits s b)
by_rise r (Acknowledge n) b = same r.behind.part
by_rise r (Acknowledged n) b = same r.behind.part
by_rise r (Send s) b = same r.behind.part
by_rise r Sent b = same r.behind.part

passed_part : (t : Bool) (b : Behind) → (cond t (passed b) b).part ≡ b.part
passed_part true b = refl
passed_part false b = refl

by_send : (r : Line) (s : Shift) → OnlyCalls r.behind.part (sent r s).behind.part
by_send r s = either r.behind.part (ltb s.count 8) _ _ ([], refl, passed_part (eqb s.count 7) r.behind) (same r.behind.part)

by_fall : (r : Line) (f : Phase) → OnlyCalls r.behind.part (fallen r f).behind.part
by_fall r Idle = same r.behind.part
by_fall r (Address s) = same r.behind.part
by_fall r (Register s) = same r.behind.part
by_fall r (Data s) = same r.behind.part
by_fall r (Acknowledge n) = same r.behind.part
by_fall r (Acknowledged next.Register) = same r.behind.part
by_fall r (Acknowledged next.Data) = same r.behind.part
by_fall r (Acknowledged next.Send) = by_send r (record { bits = to_send r.behind; count = 0 })
by_fall r (Send s) = by_send r s
by_fall r Sent = same r.behind.part

by_change : (r : Line) (c : Option Change) → OnlyCalls r.behind.part (reacted r c).behind.part
by_change r (Some Start) = same r.behind.part
by_change r (Some Stop) = same r.behind.part
by_change r (Some (Rise b)) = by_rise r r.phase b
by_change r (Some Fall) = by_fall r r.phase
by_change r None = same r.behind.part

only_one : (r : Line) (l : Levels) → OnlyCalls r.behind.part (received r l).behind.part
only_one r l = by_change (at_levels r l) (changed r.levels l r.drives)

only_all : (r : Line) (ls : List Levels) → OnlyCalls r.behind.part (received_all r ls).behind.part
only_all r [] = same r.behind.part
only_all r (l ∷ ls) = joined r.behind.part (received r l).behind.part (received_all (received r l) ls).behind.part (only_one r l) (only_all (received r l) ls)

-- one turn of a loop over levels, and its end
pub more_levels : (r s : Line) (ls : List Levels) (i : ℕ) (d : Levels) → i < length ls → s ≡ received r (get_or ls i d) → received_all s (drop (i + 1) ls) ≡ received_all r (drop i ls)
more_levels r s ls i d h e =
    let on : received_all r (drop i ls) ≡ received_all (received r (get_or ls i d)) (drop (i + 1) ls) = at_drop_more (received_all r) ls i d h in
    ap (λ x. received_all x (drop (i + 1) ls)) e ∙ sym on

pub all_levels : (r s : Line) (ls : List Levels) (i : ℕ) → length ls ≤ i → received_all s (drop i ls) ≡ received_all r ls → (s ≡ received_all r ls) × OnlyCalls r.behind.part s.behind.part
all_levels r s ls i h inv =
    let d : received_all s (drop i ls) ≡ s = at_drop_all (received_all s) ls i h in
    let is : s ≡ received_all r ls = sym d ∙ inv in
    (is, subst⁻¹ (λ (x : Line). OnlyCalls r.behind.part x.behind.part) is (only_all r ls))

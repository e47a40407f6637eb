-- What the frame of a call makes of a receiver at rest.
use Rattle.std.proofs.Common.{◌≡◌, ℕ, zero, suc, ◌+◌, ◌-◌, ◌*◌, ◌/◌, ◌%◌, ◌^◌, ◌<◌, ◌≤◌, Bool, true, false, cond, eqb, ltb, leb, List, [], ◌++◌, length, get_or, Ok, Err, Result, sym, refl, ap, ◌∙◌, subst, pow-suc, add-one, arith, below_more}
use Rattle.std.proofs.lemmas.Bool.{lt-ltb, eq-eqb, ne_eqb, le-leb, eqb-true, eqb-false, ltb-true, ltb-false, not-true, not-false, cond-true, cond-false}
use Rattle.bus.specs.declared.sender.PutFault.{PutFault}
use Rattle.bus.specs.declared.sender.PutFault.TheVariants as put
use Rattle.bus.specs.declared.sender.ReadFault.{ReadFault}
use Rattle.bus.specs.declared.sender.ReadFault.TheVariants as read
use Rattle.bus.specs.Frames.{Beat, Driven, done, told, heard, pair, bit_at, bit_frame, heard_frame, bits_frame, byte_frame, start_frame, repeat_frame, stop_frame, taken_bits, taken_bytes, put_frame, read_frame, write_address, read_address}
use Rattle.part.specs.Model.{address}
use Rattle.wire.specs.declared.receiver.Next.TheVariants as next
use Rattle.wire.specs.declared.receiver.Phase.TheVariants.{Idle, Acknowledge, Send, Sent}
use Rattle.wire.specs.Lines.{Line, Behind}
use Rattle.wire.specs.Receive.{Kind, address_byte, register_byte, data_byte, in_phase, with_behind, pointing, wrote, read_from, passed, to_send}
use Rattle.wire.specs.Rests.{Receives, rest}
use Rattle.wire.proofs.Runs.{from, split}
use Rattle.wire.proofs.Joined.{front}
use Rattle.wire.proofs.Fed.{feed, taking, eighth, fed, bit_heard, byte_run}

abbrev listening : ℕ → Behind → Kind → Line
listening o b k = taking o b k 0 0 (pair false true)

abbrev idle : ℕ → Behind → Line
idle o b = in_phase (listening o b address_byte) Idle

-- ---- START, repeated START, STOP

started : (o : ℕ) (b : Behind) {t : Line} {ks : List Beat} → Driven Receives (rest o b) (start_frame ++ ks) t → Driven Receives (taking o b address_byte 0 0 (pair true false)) ks t
unfolding start_frame
started o b (told s q) = from s.goes q

restarted : {t s : Line} (o : ℕ) (b : Behind) → s ≡ listening o b data_byte → Driven Receives s repeat_frame t → t ≡ taking o b address_byte 0 0 (pair true false)
unfolding repeat_frame
restarted o b e p = fed p ∙ ap (λ (x : Line). feed x repeat_frame) e

stopped : {t s : Line} (o : ℕ) (b : Behind) → s ≡ listening o b data_byte → Driven Receives s stop_frame t → t ≡ rest o b
unfolding stop_frame
stopped o b e p = fed p ∙ ap (λ (x : Line). feed x stop_frame) e

idle_stopped : {t s : Line} (o : ℕ) (b : Behind) → s ≡ idle o b → Driven Receives s stop_frame t → t ≡ rest o b
unfolding stop_frame
idle_stopped o b e p = fed p ∙ ap (λ (x : Line). feed x stop_frame) e

-- ---- the first address byte

own : (o : ℕ) (b : Behind) (a : ℕ) → address b.part ≡ a → o ≡ 0 → eighth o b address_byte (write_address a) ≡ in_phase (taking o b address_byte (front (write_address a) 7) 7 (pair true (bit_at (write_address a) 0))) (Acknowledge next.Register)
own o b a e z =
    let x : eqb (a * 2 / 2) (address b.part) ≡ true = eq-eqb _ _ (omega arith) in
    let y : eqb o 0 ≡ true = eq-eqb _ _ z in
    let w : eqb (a * 2 % 2) 1 ≡ false = ne_eqb _ _ (omega arith) in
    simp (x, y, w)

own_run : {t : Line} (o : ℕ) (b : Behind) (a : ℕ) (acked : Bool) → address b.part ≡ a → o ≡ 0 → a < 128
    → Driven Receives (taking o b address_byte 0 0 (pair true false)) (byte_frame (write_address a) acked) t → (acked ≡ true) × (t ≡ listening o b register_byte)
own_run o b a acked e z h p =
    let q = byte_run o b address_byte (write_address a) true false acked _ (omega arith) (own o b a e z) p in
    (not-false acked q.0, q.1)

-- a first byte that is not acknowledged, and leaves the debt n
abbrev Hushed : ℕ → ℕ → Behind → ℕ → Type 0
Hushed o n b a = eighth o b address_byte (write_address a) ≡ in_phase (taking n b address_byte (front (write_address a) 7) 7 (pair true (bit_at (write_address a) 0))) Idle

hushed_run : {t : Line} (o n : ℕ) (b : Behind) (a : ℕ) (acked : Bool) → a < 128 → Hushed o n b a
    → Driven Receives (taking o b address_byte 0 0 (pair true false)) (byte_frame (write_address a) acked) t → (acked ≡ false) × (t ≡ idle n b)
hushed_run o n b a acked h e p =
    let q = byte_run o b address_byte (write_address a) true false acked _ (omega arith) e p in
    (not-true acked q.0, q.1)

pub hushed_other : (o : ℕ) (b : Behind) (a : ℕ) → (address b.part ≡ a → ⊥) → Hushed o o b a
hushed_other o b a e = let x : eqb (a * 2 / 2) (address b.part) ≡ false = ne_eqb _ _ (λ f. e (omega arith)) in simp x

pub hushed_owing : (o : ℕ) (b : Behind) (a : ℕ) → address b.part ≡ a → (o ≡ 0 → ⊥) → Hushed o (o - 1) b a
hushed_owing o b a e z =
    let x : eqb (a * 2 / 2) (address b.part) ≡ true = eq-eqb _ _ (omega arith) in
    let y : eqb o 0 ≡ false = ne_eqb _ _ z in
    simp (x, y)

-- ---- register and data bytes

register_run : {t : Line} (o : ℕ) (b : Behind) (n : ℕ) (acked : Bool) → n ≤ 0x47
    → Driven Receives (listening o b register_byte) (byte_frame n acked) t → (acked ≡ true) × (t ≡ listening o (pointing b n) data_byte)
register_run o b n acked h p =
    let x : leb n 0x47 ≡ true = le-leb _ _ h in
    let u : eighth o b register_byte n ≡ with_behind (taking o b register_byte (front n 7) 7 (pair true (bit_at n 0))) (pointing b n) (Acknowledge next.Data) = simp x in
    let q = byte_run o b register_byte n false true acked _ (omega arith) u p in
    (not-false acked q.0, q.1)

data_run : {t : Line} (o : ℕ) (b : Behind) (n : ℕ) (acked : Bool) → n < 256 → b.pointer ≤ 0x45
    → Driven Receives (listening o b data_byte) (byte_frame n acked) t → (acked ≡ true) × (t ≡ listening o (wrote b n) data_byte)
data_run o b n acked h k p =
    let x : leb b.pointer 0x45 ≡ true = le-leb _ _ k in
    let u : eighth o b data_byte n ≡ with_behind (taking o b data_byte (front n 7) 7 (pair true (bit_at n 0))) (wrote b n) (Acknowledge next.Data) = simp x in
    let q = byte_run o b data_byte n false true acked _ h u p in
    (not-false acked q.0, q.1)

-- an address of seven bits is sent
sent_out : {t s : Line} {ks : List Beat} (a : ℕ) → a < 128 → Driven Receives s (cond (ltb a 128) ks []) t → Driven Receives s ks t
sent_out {t = t} {s = s} {ks = ks} a h p = subst (λ xs. Driven Receives s xs t) (cond-true (ltb a 128) ks [] (lt-ltb a 128 h)) p

-- ---- the first byte of a call, answered or not

module _ (o : ℕ) (b : Behind) (a : ℕ) (e : address b.part ≡ a) (z : o ≡ 0) (h : a < 128) where
  own_answered : {t : Line} {ks : List Beat} → Driven Receives (rest o b) (start_frame ++ (byte_frame (write_address a) true ++ ks)) t → Driven Receives (listening o b register_byte) ks t
  own_answered p = let q = split (byte_frame (write_address a) true) (started o b p) in from (own_run o b a true e z h q.1).1 q.2

  own_unanswered : {t : Line} → Driven Receives (rest o b) (cond (ltb a 128) (start_frame ++ (byte_frame (write_address a) false ++ stop_frame)) []) t → ⊥
  own_unanswered p = let acked = (own_run o b a false e z h (split (byte_frame (write_address a) false) (started o b (sent_out a h p))).1).0 in cc

module _ (o n : ℕ) (b : Behind) (a : ℕ) (h : a < 128) (e : Hushed o n b a) where
  hushed_answered : {t : Line} (ks : List Beat) → Driven Receives (rest o b) (start_frame ++ (byte_frame (write_address a) true ++ ks)) t → ⊥
  hushed_answered ks p = let acked = (hushed_run o n b a true h e (split (byte_frame (write_address a) true) (started o b p)).1).0 in cc

  hushed_unanswered : {t : Line} → Driven Receives (rest o b) (cond (ltb a 128) (start_frame ++ (byte_frame (write_address a) false ++ stop_frame)) []) t → t ≡ rest n b
  hushed_unanswered p =
      let q = split (byte_frame (write_address a) false) (started o b (sent_out a h p)) in
      idle_stopped n b (hushed_run o n b a false h e q.1).1 q.2

-- ---- put

-- to the part's own address, nothing being owed: the byte is written
pub put_own : {t : Line} (o : ℕ) (b : Behind) (a r x : ℕ) (f : Result (Unit {0}) PutFault) → address b.part ≡ a → o ≡ 0 → a < 128 → r ≤ 0x45 → x < 256
    → Driven Receives (rest o b) (put_frame a r x f) t → (f ≡ Ok tt) × (t ≡ rest o (wrote (pointing b r) x))
put_own o b a r x (Ok u) e z h k l p =
    let q = split (byte_frame r true) (own_answered o b a e z h p) in
    let q₂ = split (byte_frame x true) (from (register_run o b r true (omega arith) q.1).1 q.2) in
    (refl, stopped o (wrote (pointing b r) x) (data_run o (pointing b r) x true l k q₂.1).1 q₂.2)
put_own o b a r x (Err put.Address) e z h k l p = absurd (own_unanswered o b a e z h p)
put_own o b a r x (Err put.Register) e z h k l p =
    let q = split (byte_frame r false) (own_answered o b a e z h p) in
    let acked = (register_run o b r false (omega arith) q.1).0 in cc
put_own o b a r x (Err put.Data) e z h k l p =
    let q = split (byte_frame r true) (own_answered o b a e z h p) in
    let q₂ = split (byte_frame x false) (from (register_run o b r true (omega arith) q.1).1 q.2) in
    let acked = (data_run o (pointing b r) x false l k q₂.1).0 in cc

-- where the first byte is not acknowledged: nothing but the debt changes
pub put_hushed : {t : Line} (o n : ℕ) (b : Behind) (a r x : ℕ) (f : Result (Unit {0}) PutFault) → a < 128 → Hushed o n b a
    → Driven Receives (rest o b) (put_frame a r x f) t → (f ≡ Err put.Address) × (t ≡ rest n b)
put_hushed o n b a r x (Ok u) h e p = absurd (hushed_answered o n b a h e _ p)
put_hushed o n b a r x (Err put.Address) h e p = (refl, hushed_unanswered o n b a h e p)
put_hushed o n b a r x (Err put.Register) h e p = absurd (hushed_answered o n b a h e _ p)
put_hushed o n b a r x (Err put.Data) h e p = absurd (hushed_answered o n b a h e _ p)

-- ---- bytes that the receiver sends

-- behind the receiver, with i bits of a byte out: the byte counts as read with its eighth
abbrev behind_at : Behind → ℕ → Behind
behind_at b i = cond (eqb i 7) (passed b) b

-- the receiver with i bits out besides the one that it drives, which is the top of w
abbrev sending : ℕ → Behind → Bool → ℕ → ℕ → Line
sending o b d w i = record { levels = pair false d; drives = ltb 127 w; phase = Send (record { bits = w % 128 * 2; count = i + 1 }); owed = o; behind = behind_at b i }

abbrev over : ℕ → Behind → Line
over o b = record { levels = pair false true; drives = true; phase = Sent; owed = o; behind = passed b }

-- the master's answer to a byte: enough, or one more
enough_run : {t s : Line} (o : ℕ) (b : Behind) (x : Bool) → x ≡ true → s ≡ over o b → Driven Receives s (bit_frame x) t → t ≡ idle o (passed b)
enough_run o b x f e p = fed p ∙ ap (λ (y : Line). feed y (bit_frame x)) e ∙ ap (λ (c : Bool). feed (over o b) (bit_frame c)) f

more_run : {t s : Line} (o : ℕ) (b : Behind) (x : Bool) → x ≡ false → s ≡ over o b → Driven Receives s (bit_frame x) t → t ≡ sending o (passed b) false (to_send (passed b)) 0
more_run o b x f e p = fed p ∙ ap (λ (y : Line). feed y (bit_frame x)) e ∙ ap (λ (c : Bool). feed (over o b) (bit_frame c)) f

own_read : (o : ℕ) (b : Behind) (a : ℕ) → address b.part ≡ a → o ≡ 0
    → eighth o b address_byte (read_address a) ≡ with_behind (taking o b address_byte (front (read_address a) 7) 7 (pair true (bit_at (read_address a) 0))) (read_from b) (Acknowledge next.Send)
own_read o b a e z =
    let x : eqb ((a * 2 + 1) / 2) (address b.part) ≡ true = eq-eqb _ _ (omega arith) in
    let y : eqb o 0 ≡ true = eq-eqb _ _ z in
    let w : eqb ((a * 2 + 1) % 2) 1 ≡ true = eq-eqb _ _ (omega arith) in
    simp (x, y, w)

read_run : {t : Line} (o : ℕ) (b : Behind) (a : ℕ) (acked : Bool) → address b.part ≡ a → o ≡ 0 → a < 128
    → Driven Receives (taking o b address_byte 0 0 (pair true false)) (byte_frame (read_address a) acked) t → (acked ≡ true) × (t ≡ sending o (read_from b) true (to_send (read_from b)) 0)
read_run o b a acked e z h p =
    let q = byte_run o b address_byte (read_address a) true false acked _ (omega arith) (own_read o b a e z) p in
    (not-false acked q.0, q.1)

-- one bit goes out
sends_one : {t : Line} (o : ℕ) (b : Behind) (d : Bool) (w i : ℕ) (x : Bool) → i < 7 → Driven Receives (sending o b d w i) (heard_frame true x) t
    → (x ≡ ltb 127 w) × (t ≡ sending o b true (w % 128 * 2) (i + 1))
sends_one o b d w i x h p =
    let early : eqb i 7 ≡ false = ne_eqb i 7 (omega arith) in
    let more : ltb (i + 1) 8 ≡ true = lt-ltb (i + 1) 8 (omega arith) in
    (bit_heard p, fed p ∙ rw (more, early))

top : (x w : ℕ) → x < 2 → w < 256 → eqb x 1 ≡ ltb 127 w → x * 128 + w % 128 ≡ w
top x w h k e = go (ltb 127 w) refl
  where
    go : (t : Bool) → ltb 127 w ≡ t → x * 128 + w % 128 ≡ w
    go true f = omega (arith, eqb-true x 1 (e ∙ f), ltb-true 127 w f)
    go false f = let ne : x ≡ 1 → ⊥ = eqb-false x 1 (e ∙ f) in omega (arith, ltb-false 127 w f)

abbrev double : ℕ → ℕ → ℕ
double v zero = v
double v (suc i) = 2 * double v i

abbrev later : Bool → ℕ → Bool
later d zero = d
later d (suc i) = true

sends : (o : ℕ) (b : Behind) (d : Bool) (v n i : ℕ) {t : Line} → v < 256 → i < 8 → n < 2 ^ i → Driven Receives (sending o b d v 0) (taken_bits n i) t
    → (w : ℕ) × (t ≡ sending o b (later d i) w i) × (w < 256) × (n * 256 + w ≡ double v i)
unfolding taken_bits
sends o b d v n zero h l k p = (v, fed p, h, omega arith)
sends o b d v n (suc i) {t = t} h l k p =
    let q = split (taken_bits (n / 2) i) p in
    let s = sends o b d v (n / 2) i h (omega arith) (omega (arith, pow-suc 2 i)) q.1 in
    let one = sends_one o b (later d i) s.0 i (eqb (n % 2) 1) (omega arith) (from s.1 q.2) in
    let e : n % 2 * 128 + s.0 % 128 ≡ s.0 = top (n % 2) s.0 (omega arith) s.2 one.0 in
    (s.0 % 128 * 2, one.1 ∙ ap (sending o b true (s.0 % 128 * 2)) (add-one i), omega arith, omega (arith, s.3, e))

-- the byte that is taken is the byte that was to be sent
sends_all : {t : Line} (o : ℕ) (b : Behind) (d : Bool) (v n : ℕ) → v < 256 → n < 256 → Driven Receives (sending o b d v 0) (taken_bits n 8) t → (n ≡ v) × (t ≡ over o b)
unfolding taken_bits
sends_all o b d v n h k p =
    let q = split (taken_bits (n / 2) 7) p in
    let s = sends o b d v (n / 2) 7 h (omega arith) (omega arith) q.1 in
    let z = from s.1 q.2 in
    let e : n % 2 * 128 + s.0 % 128 ≡ s.0 = top (n % 2) s.0 (omega arith) s.2 (bit_heard z) in
    (omega (arith, s.3, e), fed z)

-- ---- bytes that are taken one after another

-- behind the receiver after k bytes
abbrev pub passes : Behind → ℕ → Behind
passes b zero = b
passes b (suc k) = passed (passes b k)

abbrev pub Gives : Behind → List ℕ → ℕ → Type 0
Gives b ns i = (k : ℕ) → k < i → get_or ns k 0 ≡ to_send (passes b k)

abbrev acked_level : ℕ → Bool
acked_level zero = true
acked_level (suc i) = false

abbrev serving : ℕ → Behind → ℕ → Line
serving o b i = sending o (passes b i) (acked_level i) (to_send (passes b i)) 0

-- what is to be sent after a bit, or a byte, is a byte
bit_fits : {t s : Line} (x : Bool) → Driven Receives s (bit_frame x) t → to_send t.behind < 256
bit_fits x (told p (told q (told r done))) = r.fits

byte_fits : {t s : Line} (n : ℕ) (acked : Bool) → Driven Receives s (byte_frame n acked) t → to_send t.behind < 256
unfolding byte_frame
byte_fits n acked p = heard_fits (split (bits_frame n 8) p).2
  where
    heard_fits : {t s : Line} {b a : Bool} → Driven Receives s (heard_frame b a) t → to_send t.behind < 256
    heard_fits (told p (heard q (told r done))) = r.fits

module _ (o : ℕ) (b : Behind) (ns : List ℕ) (small : (k : ℕ) → get_or ns k 0 < 256) (first : to_send b < 256) where
  served : (i : ℕ) {t : Line} → i < length ns → Driven Receives (serving o b 0) (taken_bytes ns i) t → (t ≡ serving o b i) × (to_send (passes b i) < 256) × Gives b ns i
  unfolding taken_bytes
  served zero h p = (fed p, first, λ k l. omega arith)
  served (suc i) {t = t} h p =
      let q = split (taken_bytes ns i) p in
      let s = served i (omega arith) q.1 in
      let q₂ = split (taken_bits (get_or ns i 0) 8) (from s.0 q.2) in
      let s₂ = sends_all o (passes b i) (acked_level i) (to_send (passes b i)) (get_or ns i 0) s.1 (small i) q₂.1 in
      let e : eqb (i + 1) (length ns) ≡ false = ne_eqb _ _ (omega arith) in
      let more = more_run o (passes b i) _ e s₂.1 q₂.2 in (
        more,
        subst (λ (x : Line). to_send x.behind < 256) more (bit_fits _ q₂.2),
        λ k l. below_more (λ j. get_or ns j 0 ≡ to_send (passes b j)) i s.2 s₂.0 k (omega arith),
      )

  served_all : (i : ℕ) {t : Line} → suc i ≡ length ns → Driven Receives (serving o b 0) (taken_bytes ns (suc i)) t → (t ≡ idle o (passes b (suc i))) × Gives b ns (suc i)
  unfolding taken_bytes
  served_all i {t = t} h p =
      let q = split (taken_bytes ns i) p in
      let s = served i (omega arith) q.1 in
      let q₂ = split (taken_bits (get_or ns i 0) 8) (from s.0 q.2) in
      let s₂ = sends_all o (passes b i) (acked_level i) (to_send (passes b i)) (get_or ns i 0) s.1 (small i) q₂.1 in
      let e : eqb (i + 1) (length ns) ≡ true = eq-eqb _ _ (omega arith) in
      (enough_run o (passes b i) _ e s₂.1 q₂.2, λ k l. below_more (λ j. get_or ns j 0 ≡ to_send (passes b j)) i s.2 s₂.0 k (omega arith))

-- ---- get and block

-- the bytes that a read of n bytes at r gives, and what it leaves
abbrev pub opening : Behind → ℕ → Behind
opening b r = read_from (pointing b r)

module _ (o : ℕ) (b : Behind) (a r : ℕ) (e : address b.part ≡ a) (z : o ≡ 0) (h : a < 128) (k : r ≤ 0x47) where
  -- address and register are acknowledged, and a repeated START follows
  headed : {t : Line} {ks : List Beat} → Driven Receives (rest o b) (start_frame ++ (byte_frame (write_address a) true ++ (byte_frame r true ++ (repeat_frame ++ ks)))) t
      → Driven Receives (taking o (pointing b r) address_byte 0 0 (pair true false)) ks t
  headed p =
      let q = split (byte_frame r true) (own_answered o b a e z h p) in
      let q₂ = split repeat_frame (from (register_run o b r true k q.1).1 q.2) in
      from (restarted o (pointing b r) refl q₂.1) q₂.2

  read_done : {t : Line} (i : ℕ) (ns : List ℕ) → suc i ≡ length ns → ((k : ℕ) → get_or ns k 0 < 256)
      → Driven Receives (rest o b) (start_frame ++ (byte_frame (write_address a) true ++ (byte_frame r true ++ (repeat_frame ++ (byte_frame (read_address a) true ++ (taken_bytes ns (length ns) ++ stop_frame)))))) t
      → (t ≡ rest o (passes (opening b r) (length ns))) × Gives (opening b r) ns (length ns)
  read_done i ns l small p =
      let q = split (byte_frame (read_address a) true) (headed p) in
      let s = read_run o (pointing b r) a true e z h q.1 in
      let first : to_send (opening b r) < 256 = subst (λ (x : Line). to_send x.behind < 256) s.1 (byte_fits (read_address a) true q.1) in
      let q₂ = split (taken_bytes ns (length ns)) (from s.1 q.2) in
      let s₂ = served_all o (opening b r) ns small first i l (subst (λ y. Driven Receives (serving o (opening b r) 0) (taken_bytes ns y) q₂.0) (sym l) q₂.1) in
      (idle_stopped o (passes (opening b r) (length ns)) (s₂.0 ∙ ap (λ y. idle o (passes (opening b r) y)) l) q₂.2, subst (Gives (opening b r) ns) l s₂.1)

  -- at the part's own address, nothing being owed
  pub read_own : {t : Line} (i : ℕ) (ns : List ℕ) (f : Result (Unit {0}) ReadFault) → suc i ≡ length ns → ((k : ℕ) → get_or ns k 0 < 256)
      → Driven Receives (rest o b) (read_frame a r ns f) t
      → (f ≡ Ok tt) × (t ≡ rest o (passes (opening b r) (length ns))) × Gives (opening b r) ns (length ns)
  read_own {t = t} i ns (Ok u) l small p =
      let some : eqb (length ns) 0 ≡ false = ne_eqb _ _ (omega arith) in
      let d = read_done i ns l small (subst (λ ks. Driven Receives (rest o b) ks t) (cond-false (eqb (length ns) 0) [] _ some) p) in
      (refl, d.0, d.1)
  read_own i ns (Err read.Address) l small p = absurd (own_unanswered o b a e z h p)
  read_own i ns (Err read.Register) l small p =
      let q = split (byte_frame r false) (own_answered o b a e z h p) in
      let acked = (register_run o b r false k q.1).0 in cc
  read_own i ns (Err read.Repeat) l small p =
      let q = split (byte_frame (read_address a) false) (headed p) in
      let acked = (read_run o (pointing b r) a false e z h q.1).0 in cc

pub read_hushed : {t : Line} (o n : ℕ) (b : Behind) (a r : ℕ) (ns : List ℕ) (f : Result (Unit {0}) ReadFault) → a < 128 → Hushed o n b a → (length ns ≡ 0 → ⊥)
    → Driven Receives (rest o b) (read_frame a r ns f) t → (f ≡ Err read.Address) × (t ≡ rest n b)
read_hushed {t = t} o n b a r ns (Ok u) h e some p =
    absurd (hushed_answered o n b a h e _ (subst (λ ks. Driven Receives (rest o b) ks t) (cond-false (eqb (length ns) 0) [] _ (ne_eqb _ _ some)) p))
read_hushed o n b a r ns (Err read.Address) h e some p = (refl, hushed_unanswered o n b a h e p)
read_hushed o n b a r ns (Err read.Register) h e some p = absurd (hushed_answered o n b a h e _ p)
read_hushed o n b a r ns (Err read.Repeat) h e some p = absurd (hushed_answered o n b a h e _ p)

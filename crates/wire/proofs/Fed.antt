-- What a receiver makes of whole bytes.
use Rattle.std.proofs.Common.{◌≡◌, ℕ, Some, None, zero, suc, ◌+◌, ◌-◌, ◌<◌, Bool, true, false, cond, not, ltb, List, [], ◌∷◌, ◌++◌, refl, ap, ◌∙◌, add-one, arith}
use Rattle.std.proofs.lemmas.Bool.{lt-ltb}
use Rattle.bus.specs.declared.levels.Levels.{Levels}
use Rattle.bus.specs.Frames.{Beat, tell, hear, Driven, done, told, heard, pair, bit_at, bit_frame, heard_frame, bits_frame, byte_frame}
use Rattle.wire.specs.Lines.{Line, Behind}
use Rattle.wire.specs.Receive.{received, Kind, address_byte, register_byte, data_byte, taking_phase, whole, bit_taken, empty}
use Rattle.wire.specs.Rests.{Receives}
use Rattle.wire.proofs.Runs.{split}
use Rattle.wire.proofs.Joined.{shift_in, front, front_all}

abbrev pub feed : Line → List Beat → Line
feed r [] = r
feed r (tell l ∷ ks) = feed (received r l) ks
feed r (hear l a ∷ ks) = feed (received r l) ks

pub feed-++ : (r : Line) (xs ys : List Beat) → feed r (xs ++ ys) ≡ feed (feed r xs) ys
feed-++ r [] ys = refl
feed-++ r (tell l ∷ xs) ys = feed-++ (received r l) xs ys
feed-++ r (hear l a ∷ xs) ys = feed-++ (received r l) xs ys

-- the receiver while it takes a byte, with i bits in
abbrev pub taking : ℕ → Behind → Kind → ℕ → ℕ → Levels → Line
taking o b k m i l = record { levels = l; drives = true; phase = taking_phase k (record { bits = m; count = i }); owed = o; behind = b }

module _ (o : ℕ) (b : Behind) where
  -- one bit in, whatever SCL was before
  abbrev One : Kind → ℕ → ℕ → Bool → Bool → Bool → Type 0
  One k m i c d x = feed (taking o b k m i (pair c d)) (bit_frame x) ≡ received (bit_taken (taking o b k m i (pair true x)) k (cond (ltb i 7) None (Some (shift_in m x))) (cond (ltb i 7) (record { bits = shift_in m x; count = i + 1 }) empty)) (pair false x)

  one_bit : (k : Kind) (m i : ℕ) (c d x : Bool) → One k m i c d x
  one_bit address_byte m i true d x = refl
  one_bit address_byte m i false d x = refl
  one_bit register_byte m i true d x = refl
  one_bit register_byte m i false d x = refl
  one_bit data_byte m i true d x = refl
  one_bit data_byte m i false d x = refl

  settles : (k : Kind) (m i : ℕ) (x : Bool) → received (taking o b k m i (pair true x)) (pair false x) ≡ taking o b k m i (pair false x)
  settles address_byte m i x = refl
  settles register_byte m i x = refl
  settles data_byte m i x = refl

  bit_more : (k : Kind) (m i : ℕ) (c d x : Bool) → ltb i 7 ≡ true → feed (taking o b k m i (pair c d)) (bit_frame x) ≡ taking o b k (shift_in m x) (i + 1) (pair false x)
  bit_more k m i c d x h =
      one_bit k m i c d x
      ∙ ap (λ (t : Bool). received (bit_taken (taking o b k m i (pair true x)) k (cond t None (Some (shift_in m x))) (cond t (record { bits = shift_in m x; count = i + 1 }) empty)) (pair false x)) h
      ∙ settles k (shift_in m x) (i + 1) x

  -- the levels after i bits of n
  abbrev after : Bool → Bool → ℕ → ℕ → Levels
  after c d n zero = pair c d
  after c d n (suc i) = pair false (bit_at n (7 - i))

  bits_fed : (k : Kind) (n : ℕ) (c d : Bool) (i : ℕ) → i < 8 → feed (taking o b k 0 0 (pair c d)) (bits_frame n i) ≡ taking o b k (front n i) i (after c d n i)
  unfolding bits_frame
  bits_fed k n c d zero h = refl
  bits_fed k n c d (suc i) h =
      feed-++ (taking o b k 0 0 (pair c d)) (bits_frame n i) (bit_frame (bit_at n (7 - i)))
      ∙ ap (λ (x : Line). feed x (bit_frame (bit_at n (7 - i)))) (bits_fed k n c d i (omega arith))
      ∙ bit_more k (front n i) i (after c d n i).scl (after c d n i).sda (bit_at n (7 - i)) (lt-ltb i 7 (omega arith))
      ∙ ap (λ (j : ℕ). taking o b k (front n (suc i)) j (pair false (bit_at n (7 - i)))) (add-one i)

  -- the receiver at a byte's eighth bit
  abbrev pub eighth : Kind → ℕ → Line
  eighth k n = whole (taking o b k (front n 7) 7 (pair true (bit_at n 0))) k n

  byte_fed : (k : Kind) (n : ℕ) (c d : Bool) → n < 256 → feed (taking o b k 0 0 (pair c d)) (bits_frame n 8) ≡ received (eighth k n) (pair false (bit_at n 0))
  unfolding bits_frame
  byte_fed k n c d h =
      feed-++ (taking o b k 0 0 (pair c d)) (bits_frame n 7) (bit_frame (bit_at n 0))
      ∙ ap (λ (x : Line). feed x (bit_frame (bit_at n 0))) (bits_fed k n c d 7 (omega arith))
      ∙ one_bit k (front n 7) 7 (after c d n 7).scl (after c d n 7).sda (bit_at n 0)
      ∙ ap (λ (x : ℕ). received (whole (taking o b k (front n 7) 7 (pair true (bit_at n 0))) k x) (pair false (bit_at n 0))) (front_all n h)

-- a run of a receiver is what it makes of the beats
pub fed : {t s : Line} {ks : List Beat} → Driven Receives s ks t → t ≡ feed s ks
fed done = refl
fed (told {l = l} {ks = ks} r p) = fed p ∙ ap (λ (x : Line). feed x ks) r.goes
fed (heard {l = l} {ks = ks} r p) = fed p ∙ ap (λ (x : Line). feed x ks) r.goes

-- what is heard in a bit is what the receiver drives while SCL is high
pub bit_heard : {t s : Line} {b a : Bool} → Driven Receives s (heard_frame b a) t → a ≡ (received (received s (pair false b)) (pair true b)).drives
bit_heard {b = b} (told p (heard q z)) =
    q.says ∙ ap (λ (x : Line). x.drives) (q.goes ∙ ap (λ (x : Line). received x (pair true b)) p.goes)

-- a byte, and the answer to it: u is the receiver at its eighth bit
pub byte_run : {t : Line} (o : ℕ) (b : Behind) (k : Kind) (n : ℕ) (c d acked : Bool) (u : Line) → n < 256 → eighth o b k n ≡ u
    → Driven Receives (taking o b k 0 0 (pair c d)) (byte_frame n acked) t
    → (not acked ≡ (received (received (received u (pair false (bit_at n 0))) (pair false true)) (pair true true)).drives)
    × (t ≡ feed (received u (pair false (bit_at n 0))) (bit_frame true))
unfolding byte_frame
byte_run o b k n c d acked u h e p =
    let q = split (bits_frame n 8) p in
    let f : q.0 ≡ received u (pair false (bit_at n 0)) = fed q.1 ∙ byte_fed o b k n c d h ∙ ap (λ (x : Line). received x (pair false (bit_at n 0))) e in (
      bit_heard q.2 ∙ ap (λ (x : Line). (received (received x (pair false true)) (pair true true)).drives) f,
      fed q.2 ∙ ap (λ (x : Line). feed x (bit_frame true)) f,
    )

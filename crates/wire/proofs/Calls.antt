-- What the frame of a call means: the call.
use Rattle.std.proofs.Common.{◌≡◌, ℕ, zero, suc, ◌+◌, ◌-◌, ◌<◌, ◌≤◌, Bool, true, false, cond, ◌&&◌, eqb, ltb, leb, List, [], length, get_or, is_err, Ok, Err, Result, sym, refl, ap, ◌∙◌, ⊎_elim, add-one, arith, lit<}
use Rattle.std.proofs.lemmas.List.FromFn.{fill_by_all}
use Rattle.std.proofs.lemmas.Bool.{cases_eq, cases_lt, cases_Bool, eq-eqb, ne_eqb, lt-ltb, le-ltb, le-leb, leb-true, cond-true, cond-false, and_from, and_parts, or_from, or_cases, eqb-true, ltb-true}
use Rattle.bus.specs.declared.sender.PutFault.{PutFault}
use Rattle.bus.specs.declared.sender.PutFault.TheVariants as put
use Rattle.bus.specs.declared.sender.ReadFault.{ReadFault}
use Rattle.bus.specs.declared.sender.ReadFault.TheVariants as read
use Rattle.bus.specs.Frames.{Beat, Driven, pair, put_frame, read_frame}
use Rattle.samples.specs.History.{byte_at}
use Rattle.registers.specs.declared.pins.Strap.{Strap}
use Rattle.registers.specs.declared.pins.Strap.TheVariants.{Low, High, Open}
use Rattle.registers.specs.Pins.{address_of}
use Rattle.registers.specs.Questions.{resolution}
use Rattle.part.specs.Events.{step, block as stop}
use Rattle.part.specs.Model.{Model, address, monitor}
use Rattle.part.specs.Shown.{shown}
use Rattle.part.proofs.Steps.{block_settings, block_ring}
use Rattle.rig.specs.declared.Refusal.{Refusal}
use Rattle.rig.specs.declared.Refusal.TheVariants.{Silence, Length as TooLong, Register as NoRegister}
use Rattle.rig.specs.Meaning.{Meaning, Call, put as puts, get as gets, block as blocks, Answer, done, byte, bytes, refused, sized, ring_base, ring_at, hears, block_of, answer, accepts, reaches, does, next, filled}
use Rattle.rig.proofs.Bus.{on_bus, good, bad, same_meaning, block_accepted, block_answered}
use Rattle.rig.proofs.Waits.{one}
use Rattle.wire.specs.declared.receiver.Phase.{Phase}
use Rattle.wire.specs.declared.receiver.Phase.TheVariants.{Idle, Address, Register, Data, Acknowledge, Acknowledged, Send, Sent}
use Rattle.wire.specs.Lines.{Line, Behind}
use Rattle.wire.specs.Receive.{pointing, wrote, to_send, next_pointer, next_place}
use Rattle.wire.specs.Rests.{Receives, rest, is_idle, rests, meaning_of, or_silence}
use Rattle.wire.specs.Laws.{told_as, Does, PutFrames, GetFrames, BlockFrames, FramesAreCalls}
use Rattle.wire.proofs.Runs.{from}
use Rattle.wire.proofs.Fed.{feed, fed}
use Rattle.wire.proofs.Law.{put_own, put_hushed, hushed_other, hushed_owing, passes, Gives, opening, read_own, read_hushed}

-- ---- rest

resting_is : (c d x : Bool) (p : Phase) (o : ℕ) (b : Behind) → ((c && d) && (x && is_idle p)) ≡ true
    → ◌≡◌ {A = Line} (record { levels = pair c d; drives = x; phase = p; owed = o; behind = b }) (rest o b)
resting_is true true true Idle o b e = refl
resting_is true true true (Address s) o b e = cc
resting_is true true true (Register s) o b e = cc
resting_is true true true (Data s) o b e = cc
resting_is true true true (Acknowledge n) o b e = cc
resting_is true true true (Acknowledged n) o b e = cc
resting_is true true true (Send s) o b e = cc
resting_is true true true Sent o b e = cc
resting_is true true false p o b e = cc
resting_is true false x p o b e = cc
resting_is false d x p o b e = cc

pub rest_is : (v : Line) → rests v ≡ true → v ≡ rest v.owed v.behind
rest_is v e = resting_is v.levels.scl v.levels.sda v.drives v.phase v.owed v.behind e

pub rest_rests : (v : Line) (o : ℕ) (b : Behind) → v ≡ rest o b → rests v ≡ true
rest_rests v o b e = ap rests e

-- ---- addresses have seven bits

seven_bits : (x y : Strap) → address_of x y < 128
seven_bits Low Low = lit< tt
seven_bits Low High = lit< tt
seven_bits Low Open = lit< tt
seven_bits High Low = lit< tt
seven_bits High High = lit< tt
seven_bits High Open = lit< tt
seven_bits Open Low = lit< tt
seven_bits Open High = lit< tt
seven_bits Open Open = lit< tt

pub address_small : (p : Model) → address p < 128
address_small p = seven_bits p.pins.a1 p.pins.a0

-- ---- a bus call past its tests, to the address a

pub record SentTo (m : Meaning) (c : Call) (a : ℕ) : Type 0 where
  pub on : on_bus c ≡ true
  pub there : reaches m.part c ≡ eqb a (address m.part)
  pub mute : bad c ≡ refused Silence

module _ (m : Meaning) (c : Call) (a : ℕ) (to : SentTo m c a) where
  -- it is not answered
  unanswered : (reaches m.part c && eqb m.owed 0) ≡ false → (accepts m c ≡ false) × (answer m c ≡ refused Silence)
  unanswered t =
      let i = one m c to.on in
      (i.takes ∙ t, i.says ∙ ap (λ x. cond x (good m.part c) (bad c)) t ∙ to.mute)

  pub elsewhere : (address m.part ≡ a → ⊥) → (answer m c ≡ refused Silence) × (m ≡ next m c)
  elsewhere ne =
      let away : reaches m.part c ≡ false = to.there ∙ ne_eqb a (address m.part) (λ e. ne (sym e)) in
      let u = unanswered (ap (λ x. x && eqb m.owed 0) away) in
      (u.1, same_meaning m (next m c) (sym (ap (λ x. cond x (does m.part c) m.part) u.0)) (sym (ap (λ x. cond x (m.owed - 1) m.owed) away)))

  pub while_owing : address m.part ≡ a → (m.owed ≡ 0 → ⊥) → (answer m c ≡ refused Silence) × (record { part = m.part; owed = m.owed - 1 } ≡ next m c)
  while_owing e owes =
      let here : reaches m.part c ≡ true = to.there ∙ eq-eqb a (address m.part) (sym e) in
      let u = unanswered (ap (λ x. x && eqb m.owed 0) here ∙ ne_eqb m.owed 0 owes) in
      (u.1, same_meaning (record { part = m.part; owed = m.owed - 1 }) (next m c) (sym (ap (λ x. cond x (does m.part c) m.part) u.0)) (sym (ap (λ x. cond x (m.owed - 1) m.owed) here)))

  pub answered : address m.part ≡ a → m.owed ≡ 0 → (answer m c ≡ good m.part c) × (record { part = does m.part c; owed = m.owed } ≡ next m c)
  answered e none =
      let here : reaches m.part c ≡ true = to.there ∙ eq-eqb a (address m.part) (sym e) in
      let t : (reaches m.part c && eqb m.owed 0) ≡ true = ap (λ x. x && eqb m.owed 0) here ∙ eq-eqb m.owed 0 none in
      let i = one m c to.on in (
        i.says ∙ ap (λ x. cond x (good m.part c) (bad c)) t,
        same_meaning (record { part = does m.part c; owed = m.owed }) (next m c)
            (sym (ap (λ x. cond x (does m.part c) m.part) (i.takes ∙ t)))
            (sym (ap (λ x. cond x (m.owed - 1) m.owed) here ∙ (let z : m.owed - 1 ≡ m.owed = omega arith in z))),
      )

-- ---- put

pub said_ok : {F : Type 0} (f : Result (Unit {0}) F) (g : Answer) (u : Unit {0}) → Ok u ≡ or_silence f → told_as g f ≡ g
said_ok (Ok x) g u e = refl
said_ok (Err x) g u e = cc

pub was_err : {F : Type 0} (f : Result (Unit {0}) F) (e : Refusal) → Err e ≡ or_silence f → is_err f ≡ true
was_err (Ok x) e is = cc
was_err (Err x) e is = refl

pub said_err : {F : Type 0} (f : Result (Unit {0}) F) (g : Answer) (e : Refusal) → Err e ≡ or_silence f → told_as g f ≡ refused e
said_err (Ok x) g e is = cc
said_err (Err x) g e is = cc

put_to : (m : Meaning) (a r x : ℕ) → r ≤ 0x45 → SentTo m (puts a r x) a
put_to m a r x h =
    let t : leb r 0x45 ≡ true = le-leb r 0x45 h in
    record { on = refl; there = ap (λ y. y && eqb a (address m.part)) t; mute = ap (λ y. cond y (refused Silence) (refused NoRegister)) t }

-- nothing goes out to an address above seven bits
unsent : (v w : Line) (c : Call) (a : ℕ) (told : Answer) → SentTo (meaning_of v) c a → 128 ≤ a → rests v ≡ true → w ≡ v → told ≡ refused Silence → Does v w c told
unsent v w c a told to far r same t =
    let e = elsewhere (meaning_of v) c a to (λ f. let no : ⊥ = omega (arith, address_small v.behind.part) in no) in
    record { answers = t ∙ sym e.0; after = ap meaning_of same ∙ e.1; rested = ap rests same ∙ r }

nothing_driven : (s : Line) {t : Line} {ks : List Beat} → ks ≡ [] → Driven Receives s ks t → t ≡ s
nothing_driven s e p = fed p ∙ ap (feed s) e

module _ (v w : Line) (still : rests v ≡ true) where
  -- a first byte that nobody acknowledged: the address is another's, or a silence was owed
  hushed : (c : Call) (a : ℕ) (told : Answer) → SentTo (meaning_of v) c a → told ≡ refused Silence
      → (address v.behind.part ≡ a → ⊥) → w ≡ rest v.owed v.behind → Does v w c told
  hushed c a told to t ne is =
      let e = elsewhere (meaning_of v) c a to ne in
      record { answers = t ∙ sym e.0; after = ap meaning_of is ∙ e.1; rested = rest_rests w _ _ is }

  owing : (c : Call) (a : ℕ) (told : Answer) → SentTo (meaning_of v) c a → told ≡ refused Silence
      → address v.behind.part ≡ a → (v.owed ≡ 0 → ⊥) → w ≡ rest (v.owed - 1) v.behind → Does v w c told
  owing c a told to t here owes is =
      let e = while_owing (meaning_of v) c a to here owes in
      record { answers = t ∙ sym e.0; after = ap meaning_of is ∙ e.1; rested = rest_rests w _ _ is }

  done_call : (c : Call) (a : ℕ) (told : Answer) (b : Behind) → SentTo (meaning_of v) c a → told ≡ good v.behind.part c
      → address v.behind.part ≡ a → v.owed ≡ 0 → b.part ≡ does v.behind.part c → w ≡ rest v.owed b → Does v w c told
  done_call c a told b to t here none part is =
      let e = answered (meaning_of v) c a to here none in
      record {
        answers = t ∙ sym e.0;
        after = ap meaning_of is ∙ ap (λ p. record { part = p; owed = v.owed }) part ∙ e.1;
        rested = rest_rests w _ _ is;
      }

  module _ (a r x : ℕ) (f : Result (Unit {0}) PutFault) (low : r ≤ 0x45) (small : x < 256) (above : 128 ≤ a → f ≡ Err put.Address) (run : Driven Receives v (put_frame a r x f) w) where
    put_rest : Driven Receives (rest v.owed v.behind) (put_frame a r x f) w
    put_rest = from (rest_is v still) run

    pub put_means : Does v w (puts a r x) (told_as done f)
    put_means =
        let to = put_to (meaning_of v) a r x low in
        ⊎_elim
        (λ (near : a < 128).
        ⊎_elim
        (λ (here : address v.behind.part ≡ a).
        ⊎_elim
        (λ (none : v.owed ≡ 0).
        let q = put_own v.owed v.behind a r x f here none near low small put_rest in
        done_call (puts a r x) a (told_as done f) (wrote (pointing v.behind r) x) to (ap (told_as done) q.0) here none refl q.1)
        (λ owes.
        let q = put_hushed v.owed (v.owed - 1) v.behind a r x f near (hushed_owing v.owed v.behind a here owes) put_rest in
        owing (puts a r x) a (told_as done f) to (ap (told_as done) q.0) here owes q.1)
        (cases_eq v.owed 0))
        (λ ne.
        let q = put_hushed v.owed v.owed v.behind a r x f near (hushed_other v.owed v.behind a ne) put_rest in
        hushed (puts a r x) a (told_as done f) to (ap (told_as done) q.0) ne q.1)
        (cases_eq (address v.behind.part) a))
        (λ (far : 128 ≤ a).
        let is = above far in
        let none : put_frame a r x f ≡ [] = ap (put_frame a r x) is ∙ cond-false (ltb a 128) _ [] (le-ltb a 128 far) in
        unsent v w (puts a r x) a (told_as done f) to far still (nothing_driven v none run) (ap (told_as done) is))
        (cases_lt a 128)

  -- ---- get and block: n bytes are taken into ns

  -- what a read leaves of the part
  passes_part : (b : Behind) (k : ℕ) → (passes b k).part ≡ b.part
  passes_part b zero = refl
  passes_part b (suc k) = passes_part b k

  module _ (c : Call) (a r n : ℕ) (ns : List ℕ) (f : Result (Unit {0}) ReadFault) (g : Answer)
      (to : SentTo (meaning_of v) c a) (base : r ≤ 0x47) (len : length ns ≡ suc n)
      (small : (k : ℕ) → get_or ns k 0 < 256)
      (does_it : (opening v.behind r).part ≡ does v.behind.part c)
      (gives : Gives (opening v.behind r) ns (length ns) → g ≡ good v.behind.part c)
      (above : 128 ≤ a → f ≡ Err read.Address) (run : Driven Receives v (read_frame a r ns f) w) where
    read_rest : Driven Receives (rest v.owed v.behind) (read_frame a r ns f) w
    read_rest = from (rest_is v still) run

    some : length ns ≡ 0 → ⊥
    some e = omega arith

    pub read_means : Does v w c (told_as g f)
    read_means =
        ⊎_elim
        (λ (near : a < 128).
        ⊎_elim
        (λ (here : address v.behind.part ≡ a).
        ⊎_elim
        (λ (none : v.owed ≡ 0).
        let q = read_own v.owed v.behind a r here none near base n ns f (sym len) small read_rest in
        done_call c a (told_as g f) (passes (opening v.behind r) (length ns)) to (ap (told_as g) q.0 ∙ gives q.2) here none
        (passes_part (opening v.behind r) (length ns) ∙ does_it) q.1)
        (λ owes.
        let q = read_hushed v.owed (v.owed - 1) v.behind a r ns f near (hushed_owing v.owed v.behind a here owes) some read_rest in
        owing c a (told_as g f) to (ap (told_as g) q.0) here owes q.1)
        (cases_eq v.owed 0))
        (λ ne.
        let q = read_hushed v.owed v.owed v.behind a r ns f near (hushed_other v.owed v.behind a ne) some read_rest in
        hushed c a (told_as g f) to (ap (told_as g) q.0) ne q.1)
        (cases_eq (address v.behind.part) a))
        (λ (far : 128 ≤ a).
        let is = above far in
        let none : read_frame a r ns f ≡ [] = ap (read_frame a r ns) is ∙ cond-false (ltb a 128) _ [] (le-ltb a 128 far) in
        unsent v w c a (told_as g f) to far still (nothing_driven v none run) (ap (told_as g) is))
        (cases_lt a 128)

-- ---- a register is read

no_ring : (r : ℕ) → r ≤ 0x45 → ring_base r ≡ false
no_ring r h = or_from (eqb r 0x46) (eqb r 0x47) (ne_eqb r 0x46 (omega arith)) (ne_eqb r 0x47 (omega arith))

module _ (b : Behind) (r : ℕ) (low : r ≤ 0x45) where
  pub register_part : (opening b r).part ≡ b.part
  register_part = ap (λ x. cond x (step b.part (stop (ring_at r))) b.part) (no_ring r low)

  pub register_sent : to_send (opening b r) ≡ shown b.part r
  register_sent =
      cond-false (ring_base r) _ _ (no_ring r low)
      ∙ ap (λ x. cond x (shown (opening b r).part r) 0) (lt-ltb r 70 (omega arith))
      ∙ ap (λ p. shown p r) register_part

pub get_to : (m : Meaning) (a r : ℕ) → r ≤ 0x45 → SentTo m (gets a r) a
get_to m a r h =
    let t : leb r 0x45 ≡ true = le-leb r 0x45 h in
    record { on = refl; there = ap (λ y. y && eqb a (address m.part)) t; mute = ap (λ y. cond y (refused Silence) (refused NoRegister)) t }

-- ---- a ring is read

module _ (b : Behind) (base : ℕ) (ring : ring_base base ≡ true) where
  pub ring_part : (opening b base).part ≡ step b.part (stop (ring_at base))
  ring_part = ap (λ x. cond x (step b.part (stop (ring_at base))) b.part) ring

  high_base : 0x46 ≤ base
  high_base = ⊎_elim (λ e. omega (arith, eqb-true base 0x46 e)) (λ e. omega (arith, eqb-true base 0x47 e)) (or_cases (eqb base 0x46) (eqb base 0x47) ring)

  stays : next_pointer base ≡ base
  stays = cond-false (ltb base 0x45) _ _ (le-ltb base 0x45 (omega (arith, high_base))) ∙ cond-false (eqb base 0x45) _ _ (ne_eqb base 0x45 (omega (arith, high_base)))

  -- the pointer rests, and the place counts
  pub ring_passes : (k : ℕ) → k < 100 → ((passes (opening b base) k).pointer ≡ base) × ((passes (opening b base) k).place ≡ k)
  ring_passes zero h = (refl, refl)
  ring_passes (suc k) h =
      let q = ring_passes k (omega arith) in (
        ap next_pointer q.0 ∙ stays,
        ap next_place q.1 ∙ cond-true (ltb (k + 1) 100) (k + 1) 0 (lt-ltb (k + 1) 100 (omega arith)) ∙ add-one k,
      )

  passed_part : (k : ℕ) → (passes (opening b base) k).part ≡ step b.part (stop (ring_at base))
  passed_part zero = ring_part
  passed_part (suc k) = passed_part k

  pub ring_sent : (k : ℕ) → k < 100 → to_send (passes (opening b base) k) ≡ byte_at (resolution b.part.settings (ring_at base)) (monitor (ring_at base) b.part).ring k
  ring_sent k h =
      let q = ring_passes k h in
      ap (λ x. to_send (record { part = x; pointer = (passes (opening b base) k).pointer; place = (passes (opening b base) k).place })) (passed_part k)
      ∙ ap (λ x. to_send (record { part = step b.part (stop (ring_at base)); pointer = x; place = (passes (opening b base) k).place })) q.0
      ∙ ap (λ x. to_send (record { part = step b.part (stop (ring_at base)); pointer = base; place = x })) q.1
      ∙ cond-true (ring_base base) _ _ ring
      ∙ ap (λ x. byte_at (resolution x (ring_at base)) (monitor (ring_at base) (step b.part (stop (ring_at base)))).ring k) (block_settings b.part (ring_at base))
      ∙ ap (λ x. byte_at (resolution b.part.settings (ring_at base)) x k) (block_ring b.part (ring_at base) (ring_at base))

  pub ring_bytes : (ns : List ℕ) → length ns ≤ 100 → Gives (opening b base) ns (length ns) → ns ≡ block_of b.part base (length ns)
  ring_bytes ns few gives = fill_by_all (byte_at (resolution b.part.settings (ring_at base)) (monitor (ring_at base) b.part).ring) ns (length ns) 0 refl (λ k h. gives k h ∙ ring_sent k (omega arith))

low_base : (base : ℕ) → ring_base base ≡ true → base ≤ 0x47
low_base base ring = ⊎_elim (λ e. omega (arith, eqb-true base 0x46 e)) (λ e. omega (arith, eqb-true base 0x47 e)) (or_cases (eqb base 0x46) (eqb base 0x47) ring)

sub_one_suc : (n : ℕ) → 0 < n → n ≡ suc (n - 1)
sub_one_suc n h = omega arith

pub block_to : (m : Meaning) (a base n : ℕ) → sized n ≡ true → ring_base base ≡ true → SentTo m (blocks a base n) a
block_to m a base n t u =
    record {
      on = refl;
      there = ap (λ y. y && eqb a (address m.part)) (and_from (sized n) (ring_base base) t u);
      mute = ap (λ y. cond y (cond (ring_base base) (refused Silence) (refused NoRegister)) (refused TooLong)) t ∙ ap (λ y. cond y (refused Silence) (refused NoRegister)) u;
    }

-- ---- each frame is its call

pub put_frames : PutFrames (λ v. v) Receives
put_frames v w a r x f still low small above run = put_means v w still a r x f low small above run

pub get_frames : GetFrames (λ v. v) Receives
get_frames v w a r ns f still low len small above run =
    read_means v w still (gets a r) a r 0 ns f (byte (get_or ns 0 0)) (get_to (meaning_of v) a r low) (omega arith) len small
    (register_part v.behind r low)
    (λ gives. ap byte (gives 0 (omega arith) ∙ register_sent v.behind r low))
    above run

pub block_frames : BlockFrames (λ v. v) Receives
block_frames v w a base ns f still fits ring small above run =
    let parts = and_parts (ltb 0 (length ns)) (leb (length ns) 100) fits in
    let some : 0 < length ns = ltb-true 0 (length ns) parts.0 in
    let few : length ns ≤ 100 = leb-true (length ns) 100 parts.1 in
    read_means v w still (blocks a base (length ns)) a base (length ns - 1) ns f (bytes ns) (block_to (meaning_of v) a base (length ns) fits ring) (low_base base ring) (sub_one_suc (length ns) some) small
    (ring_part v.behind base ring)
    (λ gives. ap bytes (ring_bytes v.behind base ring ns few gives))
    above run

pub frames_are_calls : FramesAreCalls
frames_are_calls = record { puts = put_frames; gets = get_frames; blocks = block_frames }

-- ---- the caller's buffer after a block, by its answer
module _ (m : Meaning) (a base : ℕ) (out : List ℕ) (fits : sized (length out) ≡ true) (ring : ring_base base ≡ true) where
  by_answer : (h : Bool) → hears m a ≡ h → (answer m (blocks a base (length out)) ≡ cond h (bytes (block_of m.part base (length out))) (refused Silence)) × (filled m a base out ≡ cond h (block_of m.part base (length out)) out)
  by_answer h t = (block_answered m m a base (length out) fits ring h t, ap (λ x. cond x (block_of m.part base (length out)) out) (block_accepted m m a base (length out) fits ring h t))

  pub filled_done : (ns : List ℕ) → bytes ns ≡ answer m (blocks a base (length out)) → ns ≡ filled m a base out
  filled_done ns e =
      ⊎_elim
      (λ (t : hears m a ≡ true). let q = by_answer true t in let says = q.0 in let fills = q.1 in cc)
      (λ (t : hears m a ≡ false). let says = (by_answer false t).0 in cc)
      (cases_Bool (hears m a))

  pub filled_refused : (e : Refusal) → refused e ≡ answer m (blocks a base (length out)) → out ≡ filled m a base out
  filled_refused e is =
      ⊎_elim
      (λ (t : hears m a ≡ true). let says = (by_answer true t).0 in cc)
      (λ (t : hears m a ≡ false). sym (by_answer false t).1)
      (cases_Bool (hears m a))

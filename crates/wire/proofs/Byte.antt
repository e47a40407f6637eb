-- What a receiver's part shows are bytes, and so what it would send next is one.
use Rattle.std.proofs.Common.{◌≡◌, ◌<◌, ltb, arith, subst}
use Rattle.std.proofs.lemmas.Bool.{cond_both, ltb-true}
use Rattle.part.specs.declared.Part.{Part}
use Rattle.part.specs.Model.{model}
use Rattle.part.proofs.Bounds.{shown_fits, block_fits}
use Rattle.rig.specs.Meaning.{ring_base, ring_at}
use Rattle.wire.specs.declared.receiver.Receiver.TheInside.{Inside}
use Rattle.wire.specs.Lines.{Line}
use Rattle.wire.specs.Receive.{view, to_send}
use Rattle.wire.specs.Bytes.{ShowsBytes}

pub shows_bytes : (p : Part) → ShowsBytes (model p)
shows_bytes p = record { registers = shown_fits p; readouts = block_fits p; settings = p.settings.held }

-- a receiver's line is the view of its fields
pub shows_bytes_by : (r : Inside) (v : Line) → view r ≡ v → ShowsBytes v.behind.part
shows_bytes_by r v e = subst (λ (x : Line). ShowsBytes x.behind.part) e (shows_bytes r.part)

pub byte_to_send : (r : Inside) → to_send (view r).behind < 256
byte_to_send r =
    cond_both (ring_base r.pointer) _ _ (λ n. n < 256)
    (λ _. block_fits r.part (ring_at r.pointer) r.place)
    (λ _. cond_both (ltb r.pointer 70) _ _ (λ n. n < 256) (λ low. shown_fits r.part r.pointer (ltb-true r.pointer 70 low)) (λ _. omega arith))

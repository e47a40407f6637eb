use Rattle.std.proofs.Common.{sym, ap, ◌∙◌}
use Rattle.samples.specs.declared.signal.Signal.TheVariants.{Current, Voltage}
use Rattle.registers.specs.Questions.{setting}
use Rattle.rig.specs.Meaning.{Meaning, hears}
use Rattle.reading.specs.Report.{ring_told}
use Rattle.reading.specs.Reading.{ring_read}
use Rattle.reading.proofs.Finished.{bits_read, still_hears, still_bits, still_told}
use Rattle.reading.proofs.parts.Parts.read.Goals as goal

pub read_ring-requires : goal.read_ring-requires
read_ring-requires g c =
    let m : Meaning = g.R.Rig.meaning c.args.rig.now in
    let all = c.in_ok-registers.ensures in
    record {
      answers = ap (λ x. hears x c.args.address) all.2 ∙ all.1;
      bits = bits_read m c.in_ok-registers.registers all.0 ∙ ap (λ x. setting x.part.settings 0x3F) (sym all.2);
    }

pub read_ring-requires-2 : goal.read_ring-requires-2
read_ring-requires-2 g c =
    let m : Meaning = g.R.Rig.meaning c.args.rig.now in
    let all = c.in_ok-registers.ensures in
    let then = c.in_ok-voltage.ensures.1 ∙ ap (λ x. ring_read x Voltage) all.2 in
    record {
      answers = ap (λ x. hears x c.args.address) then ∙ still_hears m c.args.address Voltage all.1;
      bits = bits_read m c.in_ok-registers.registers all.0 ∙ sym (still_bits m Voltage) ∙ ap (λ x. setting x.part.settings 0x3F) (sym then);
    }

pub returns : goal.returns
returns g c =
    let m : Meaning = g.R.Rig.meaning c.args.rig.now in
    let all = c.in_ok-registers.ensures in
    let v = c.in_ok-voltage.ensures in
    let i = c.in_ok-current.ensures in
    let then = v.1 ∙ ap (λ x. ring_read x Voltage) all.2 in (
      all.0,
      v.0 ∙ ap (λ x. ring_told x.part Voltage) all.2,
      i.0 ∙ ap (λ x. ring_told x.part Current) then ∙ still_told m.part Voltage Current,
      all.1,
      i.1 ∙ ap (λ x. ring_read x Current) then,
    )

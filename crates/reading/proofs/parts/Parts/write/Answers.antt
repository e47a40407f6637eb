use Rattle.std.proofs.Common.{◌≡◌, length, ◌∙◌, arith, rules}
use Rattle.reading.specs.Report.{words}
use Rattle.reading.proofs.Words.{length_words, three_parts}
use Rattle.reading.proofs.parts.Parts.write.Goals as goal

pub returns : goal.returns
returns c =
    let n : length c.args.self.now.voltage ≡ 50 = search rules in
    let i : length c.args.self.now.current ≡ 50 = search rules in
    let k : length c.args.self.now.registers ≡ 70 = search rules in
    let v = length_words c.args.self.now.voltage in
    let w = length_words c.args.self.now.current in
    three_parts c.args.report.now c.copy_from_slice.new.self c.copy_from_slice-2.new.self c.copy_from_slice-3.new.self c.args.self.now.registers (words c.args.self.now.voltage) (words c.args.self.now.current) (search rules) k (omega arith) (omega arith) c.copy_from_slice.ensures.after (c.copy_from_slice-2.ensures.after ∙ c.as_flattened.ensures.value ∙ c.sample_bytes.ensures) (c.copy_from_slice-3.ensures.after ∙ c.as_flattened-2.ensures.value ∙ c.sample_bytes-2.ensures)

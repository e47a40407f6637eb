use Rattle.std.proofs.Common.{[], rules}
use Rattle.reading.proofs.Words.{flattened}
use Rattle.reading.proofs.parts.sample_bytes.Goals as goal

pub returns : goal.returns
returns c = flattened c.args.samples.now c.map.result (search rules) (λ i l. c.fits-samples i) (λ i l. search (rules, c.map.ensures.items.at i 0 []))

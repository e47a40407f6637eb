use Rattle.std.proofs.Common.{◌≡◌, ℕ, ◌-◌, List, ◌++◌, map, length, ◌∙◌}
use borrow.Rule.Slice.PartMut.{mid_of, post_of}
use Rattle.std.specs.List.{range_with_len}
use Rattle.rig.specs.Meaning.{Meaning, block, filled, next}
use Rattle.samples.specs.History.{ring_bytes}
use Rattle.reading.specs.Readouts.{told_at}
use Rattle.reading.proofs.Readouts.{blank, length_first, same_bits, ring_is_told, ring_is_read}
use Rattle.reading.proofs.rings.read_ring.Goals as goal

pub returns : goal.returns
returns g c =
    let m : Meaning = g.R.Rig.meaning c.args.rig.now in
    let entry : List ℕ = mid_of 0 (c.ring_bytes-bytes.result - 0) blank in
    let filled_is : c.block.new.out ≡ filled (g.R.Rig.meaning c.args.rig.now) c.args.address c.base_of.result (mid_of 0 (c.ring_bytes-bytes.result - 0) blank) = c.block.ensures.filled in
    let after_is : g.R.Rig.meaning c.block.new.self ≡ next (g.R.Rig.meaning c.args.rig.now) (block c.args.address c.base_of.result (length (mid_of 0 (c.ring_bytes-bytes.result - 0) blank))) = c.block.ensures.after in
    let told : c.oldest_first.result ≡ map (told_at c.resolution-resolution.result (c.block.new.out ++ post_of 0 (c.ring_bytes-bytes.result - 0) blank)) (range_with_len 0 50) = c.oldest_first.ensures in
    let fine = same_bits c.args.registers.now m c.args.signal c.resolution-resolution.result c.resolution-resolution.ensures c.requires.bits in
    let size : length (mid_of 0 (c.ring_bytes-bytes.result - 0) blank) ≡ ring_bytes c.resolution-resolution.result = length_first c.ring_bytes-bytes.result c.resolution-resolution.result c.ring_bytes-bytes.ensures in (
      told ∙ ring_is_told m c.args.address c.args.signal c.requires.answers c.resolution-resolution.result c.base_of.result entry c.block.new.out (post_of 0 (c.ring_bytes-bytes.result - 0) blank) c.base_of.ensures size fine filled_is,
      after_is ∙ ring_is_read m c.args.address c.args.signal c.requires.answers c.resolution-resolution.result c.base_of.result entry c.base_of.ensures size,
    )

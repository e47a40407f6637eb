-- Where the first line feed of a text stands.
use Rattle.std.proofs.Common.{◌≡◌, ℕ, List, length, Some, None, ◌==◌, arith}
use Rattle.std.proofs.lemmas.Bool.Decides.{nat_tests}
use Rattle.std.proofs.lemmas.List.Sums.{prefix_len-le-length}
use Rattle.std.specs.List.{prefix_len, position}
use Rattle.session.specs.Lines.{in_line}

pub feed_at : (text : List ℕ) (end : ℕ) → position (λ b. b == 10) text ≡ Some end → prefix_len in_line text ≡ end
feed_at text end e = grind (arith, nat_tests)

pub no_feed : (text : List ℕ) → position (λ b. b == 10) text ≡ None → prefix_len in_line text ≡ length text
no_feed text e = grind (arith, nat_tests, prefix_len-le-length in_line text)

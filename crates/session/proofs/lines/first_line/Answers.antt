use Rattle.std.proofs.Common.{◌+◌, take, sym, ap, ◌∙◌, arith}
use Rattle.std.proofs.lemmas.List.{take_all, drop_all}
use Rattle.std.proofs.lemmas.Grind.{common_steps}
use Rattle.std.specs.List.{prefix_len}
use Rattle.session.specs.Lines.{in_line}
use Rattle.session.proofs.Feeds.{feed_at, no_feed}
use Rattle.session.proofs.lines.first_line.Goals as goal

pub returns-in-Some-clause-line : goal.returns-in-Some-clause-line
returns-in-Some-clause-line c =
    let stands = feed_at c.args.text.now c.in-Some.end (sym c.line_feed.ensures ∙ c.in-Some.is) in
    ap (λ n. take n c.args.text.now) (sym stands)

pub returns-in-Some-clause-after : goal.returns-in-Some-clause-after
returns-in-Some-clause-after c =
    let stands = feed_at c.args.text.now c.in-Some.end (sym c.line_feed.ensures ∙ c.in-Some.is) in
    grind (arith, common_steps)

pub returns-in-None-clause-line : goal.returns-in-None-clause-line
returns-in-None-clause-line c =
    let whole = no_feed c.args.text.now (sym c.line_feed.ensures ∙ c.in-None.is) in
    sym (take_all (prefix_len in_line c.args.text.now) c.args.text.now (omega arith))

pub returns-in-None-clause-after : goal.returns-in-None-clause-after
returns-in-None-clause-after c =
    let whole = no_feed c.args.text.now (sym c.line_feed.ensures ∙ c.in-None.is) in
    sym (drop_all (prefix_len in_line c.args.text.now + 1) c.args.text.now (omega arith))

use Rattle.std.proofs.Common.{◌≡◌, ◌+◌, length, subst, rules, arith}
use Rattle.words.specs.Lines.{LineStart}
use Rattle.words.proofs.Parting.{feed_of}
use Rattle.words.proofs.lines.ended_lines.Goals as goal

pub returns-in-None-clause-start : goal.returns-in-None-clause-start
returns-in-None-clause-start c = search (rules, feed_of c.args.text.now c.rfind.result)

pub returns-in-Some-clause-start : goal.returns-in-Some-clause-start
returns-in-Some-clause-start c =
    let n : c.in-Some.at + 1 ≡ length c.range.result.now = omega (arith, c.range.ensures.len) in
    subst (LineStart c.args.text.now (length c.args.text.now)) n (search (rules, feed_of c.args.text.now c.rfind.result))

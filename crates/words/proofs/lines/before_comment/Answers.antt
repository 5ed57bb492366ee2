use Rattle.std.proofs.Common.{rules}
use Rattle.words.proofs.Parting.{front_of}
use Rattle.words.proofs.lines.before_comment.Goals as goal

pub returns-in-Some : goal.returns-in-Some
returns-in-Some c = search (rules, front_of c.args.line.now c.split_once.result c.split_once.ensures.cases)

pub returns-in-None : goal.returns-in-None
returns-in-None c = search (rules, front_of c.args.line.now c.split_once.result c.split_once.ensures.cases)

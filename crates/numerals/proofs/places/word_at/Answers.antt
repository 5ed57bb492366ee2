use Rattle.std.proofs.Common.{rules, arith}
use Rattle.numerals.proofs.Reading.{texts_or}
use Rattle.numerals.proofs.places.word_at.Goals as goal

pub returns : goal.returns
returns c = rw (c.unwrap_or.ensures, c.copied.ensures, c.get.ensures.lookup.4 (omega arith) _) (search (rules, texts_or))

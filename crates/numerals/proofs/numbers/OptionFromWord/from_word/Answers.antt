use Rattle.std.proofs.Common.{rules}
use Rattle.numerals.specs.Words.{maybe}
use Rattle.numerals.proofs.Reading.{read_word}
use Rattle.numerals.proofs.numbers.OptionFromWord.from_word.Goals as goal

pub returns-in-text : goal.returns-in-text
unfolding maybe
returns-in-text g c = search (rules, c.in-text.is)

pub returns-in_ok-from_word-in_default : goal.returns-in_ok-from_word-in_default
returns-in_ok-from_word-in_default g c = read_word g.T.FromWord.written c.args.word.now _ c.in_default.not-text c.in_ok-from_word-in_default.ensures

pub returns-in_err-from_word-in_default : goal.returns-in_err-from_word-in_default
returns-in_err-from_word-in_default g c = search (rules, read_word g.T.FromWord.written c.args.word.now _ c.in_default.not-text c.in_err-from_word-in_default.ensures)

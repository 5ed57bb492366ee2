use Rattle.std.proofs.Common.{refl, rules}
use Rattle.numerals.specs.Words.{mark_of}
use Rattle.numerals.proofs.Reading.{unlike}
use Rattle.numerals.proofs.numbers.BoolFromWord.from_word.Goals as goal

pub returns-in-text : goal.returns-in-text
unfolding mark_of
returns-in-text c = search (rules, c.in-text.is)

pub returns-in-text-2 : goal.returns-in-text-2
unfolding mark_of
returns-in-text-2 c = search (rules, c.in-text-2.is)

pub returns-in_default : goal.returns-in_default
unfolding mark_of
returns-in_default c = rw (unlike _ _ c.in_default.not-text, unlike _ _ c.in_default.not-text-2) refl

-- The numbers of refusals.
use Rattle.std.specs.Prelude.{ℕ}
use Rattle.outlook.specs.declared.refusal.Refusal.{Refusal}
use Rattle.outlook.specs.declared.refusal.Refusal.TheVariants.{WrongLength, Unlawful}

-- 31 is the question of how many entries there are, 32 whether each is lawful
abbrev pub number : Refusal → ℕ
number WrongLength = 31
number Unlawful = 32

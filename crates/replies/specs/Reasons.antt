-- The numbers of reasons.
use Rattle.std.specs.Prelude.{ℕ}
use Rattle.calls.specs.Numbers as calls
use Rattle.model.specs.Questions as questions
use Rattle.outlook.specs.Numbers as outlook
use Rattle.stair.specs.Stairs as stairs
use Rattle.replies.specs.declared.reason.Reason.{Reason}
use Rattle.replies.specs.declared.reason.Reason.TheVariants.{Opening, Call, Outlook, Stair}

-- the number of the question that was answered by no
abbrev pub number : Reason → ℕ
number (Opening r) = questions.number r
number (Call r) = calls.number r
number (Outlook r) = outlook.number r
number (Stair r) = stairs.number r

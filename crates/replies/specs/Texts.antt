-- How replies are written, but for a choice, whose scales are floating numbers, and a status.
use Rattle.std.specs.Prelude.{ℕ, ℤ, Bool, cond, List, ◌++◌, Some, None, Option, codes}
use Rattle.std.specs.Fmt.{decimal, signed_decimal}
use Rattle.replies.specs.Reasons.{number}
use Rattle.replies.specs.declared.reply.Name.{Name}
use Rattle.replies.specs.declared.reply.Name.TheVariants.{Curve, Stair, List as Listed, Pattern, Open, Choose, Trial, Report, Withdraw, Show, Status}
use Rattle.replies.specs.declared.reply.Reply.{Reply}
use Rattle.replies.specs.declared.reply.Reply.TheVariants.{Accepted, Refused, Closed, Opened, Chosen, Charged, Told}

-- the name of a line
abbrev pub name_text : Name → List ℕ
name_text Curve = codes "curve"
name_text Stair = codes "stair"
name_text Listed = codes "list"
name_text Pattern = codes "pattern"
name_text Open = codes "open"
name_text Choose = codes "choose"
name_text Trial = codes "trial"
name_text Report = codes "report"
name_text Withdraw = codes "withdraw"
name_text Show = codes "show"
name_text Status = codes "status"

-- a mark, 1 or 0
abbrev pub mark_text : Bool → List ℕ
mark_text b = decimal (cond b 1 0)

-- a reply; of a choice and of a status nothing is said
abbrev pub reply_text : Reply → Option (List ℕ)
reply_text (Accepted n) = Some (name_text n ++ codes " ok")
reply_text (Refused n r) = Some (name_text n ++ codes " refused " ++ decimal (number r))
reply_text (Closed n) = Some (name_text n ++ codes " closed")
reply_text (Opened s) = Some (codes "open credit=" ++ signed_decimal s.credit ++ codes " limit=" ++ signed_decimal s.limit ++ codes " fullness=" ++ signed_decimal s.fullness)
reply_text (Chosen t d) = None
reply_text (Charged r) = Some (codes "report charge=" ++ decimal r.charge ++ codes " dropped=" ++ mark_text r.dropped)
reply_text (Told s) = None

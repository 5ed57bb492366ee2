use Rattle.std.proofs.Common.{◌≡◌, ◌≤◌, length, vec_items, vec_len, vec_capacity}
use Rattle.run.proofs.Replaying.{Replaying}
use Rattle.run.proofs.running.perform_all.Given as goal

abbrev pub invariant-loop-call : goal.invariant-loop-call
invariant-loop-call g l =
    (vec_len l.answers ≡ l.call-index)
    × (length l.calls ≤ vec_capacity l.answers)
    × Replaying g.M.BitModel.meaning g.O.Outlook.entries l.outlooks
    (record { core = l.initial.controller.core; model = l.initial.controller.model }) l.calls
    l.call-index l.controller.core l.controller.model (vec_items l.answers)

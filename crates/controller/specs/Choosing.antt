-- A choice: what it counts, what it has to share, the base that it finds, and the quantizer that follows.
use Rattle.std.specs.Prelude.{ℕ, ◌≤◌, Bool, true, false, cond, List, ℤ, Some, None, Ok, Err, Option, Result, ◌==◌, nat_lt}
use Rattle.model.specs.Meaning.{Meaning}
use Rattle.model.specs.declared.room.Room.{Room}
use Rattle.flat.specs.declared.subtype.Subtype.{Subtype}
use Rattle.flat.specs.Flat.{ac_log, code_of, log_q_of, subtype_of_code}
use Rattle.quantize.specs.Answer.{parameters_of, Lawful}
use Rattle.outlook.specs.declared.counts.Counts.{Counts}
use Rattle.outlook.specs.Bytes.{front}
use Rattle.outlook.specs.Counting.{tally}
use Rattle.search.specs.declared.found.Found.{Found}
use Rattle.search.specs.Predict.{forecast}
use Rattle.search.specs.Hunt.{hunt, Hits}
use Rattle.aim.specs.declared.bounds.Aim.{Aim}
use Rattle.aim.specs.Bounds.{highest_of, set_of, near, under, over}
use Rattle.aim.specs.Totals.{rate_total}
use Rattle.calls.specs.declared.answer.Decision.{Decision}
use Rattle.calls.specs.declared.refusal.Refusal.{Refusal}
use Rattle.calls.specs.declared.refusal.Refusal.TheVariants.{TicketOut, NoSuchSubtype}
use Rattle.controller.specs.declared.state.Core.{Core}
use Rattle.controller.specs.declared.ticket.Choice.{Choice}
use Rattle.controller.specs.After.{After, refused, any_out, next_number, chosen_core}

-- the outlook is counted for delay units
abbrev pub ahead : Core → List ℕ → Counts
ahead s entries = tally (front s.profile.delay entries)

-- the bits that the frames ahead have to share
unfoldable pub total : Core → Counts → ℤ
total s a = rate_total s.reservoir.fullness s.reservoir.target s.reservoir.credit s.rate_bias s.coded a

-- the search begins at the logs of the lowest and the highest index
unfoldable pub bottom : Core → ℤ
bottom s = ac_log s.profile.lowest s.profile.depth

unfoldable pub top : Core → ℤ
top s = ac_log (highest_of s.profile.highest) s.profile.depth

-- the room that the next frame has in the reservoir
abbrev pub room_of : Core → Room
room_of s = record {
  fullness = s.reservoir.fullness;
  credit = s.reservoir.credit;
  limit = s.reservoir.limit;
  highest = set_of s.profile.highest;
}

-- is no ticket out? is the subtype 0 to 3? The number of the first no, or 0
abbrev pub choose_question : Core → ℕ → ℕ
choose_question s k = cond (any_out s.out) 11 (cond (nat_lt k 4) 0 12)

module _ {M : Type 0} (meaning : Meaning M) (s : Core) (m : M) where
  -- what the search finds for a total
  unfoldable pub found_for : Counts → ℤ → Found
  found_for a t = hunt (forecast meaning m a.kinds) t 60 (bottom s) (top s) 0

  -- the base near the previous one, and its log quantizer as the model trims it
  abbrev pub trimmed_aim : Subtype → ℤ → Aim
  trimmed_aim k b = record { log_base_q = b; log_q = meaning.trimmed m (code_of k) (log_q_of k b) (room_of s) }

  -- base and log quantizer, once the highest and then the lowest index were seen to
  unfoldable pub aimed : Subtype → Option ℤ → ℤ → Aim
  aimed k previous found =
      over s.profile.lowest s.profile.depth k (under s.profile.highest s.profile.depth k (trimmed_aim k (near previous found)))

  -- the figures of a choice from its total, what was found, and what is aimed at
  abbrev pub decided : Subtype → ℤ → ℤ → Found → Aim → Decision
  decided k mean t f x = record {
    found = f.base;
    total = t;
    tries = f.tries;
    quantizer = parameters_of x.log_base_q x.log_q s.profile.depth s.profile.sampling (code_of k == 0) mean;
  }

  -- the figures of a choice
  unfoldable pub decision : Counts → Subtype → Option ℤ → ℤ → Decision
  decision a k previous mean =
      decided k mean (total s a) (found_for a (total s a)) (aimed k previous (found_for a (total s a)).base)

  -- an accepted choice leaves the model as it was, and its ticket out
  abbrev pub chosen : Decision → Subtype → After M Decision
  chosen d k = record { core = chosen_core s (record { subtype = k; log_q = d.quantizer.log_target_q }); model = m; answer = Ok d }

  -- is no ticket out? is there such a subtype? Then the choice is accepted
  abbrev pub choose_on : Bool → Option Subtype → Counts → Option ℤ → ℤ → After M Decision
  choose_on true k a previous mean = refused s m TicketOut
  choose_on false None a previous mean = refused s m NoSuchSubtype
  choose_on false (Some k) a previous mean = chosen (decision a k previous mean) k

  abbrev pub choose_after : List ℕ → ℕ → Option ℤ → ℤ → After M Decision
  choose_after entries k previous mean = choose_on (any_out s.out) (subtype_of_code k) (ahead s entries) previous mean

-- an accepted choice comes with the ticket of its number
abbrev pub issued : Core → Result Decision Refusal → Result Choice Refusal
issued s (Ok d) = Ok (record { ticket = record { number = next_number s; spent = false }; decision = d })
issued s (Err e) = Err e

-- the found base predicts the total or lies where the predictions cross it, after at most 60 tries, and the indexes and scales are lawful
pub record Decides (predicts : ℤ → ℤ) (s : Core) (d : Decision) : Type 0 where
  pub few : d.tries ≤ 60
  pub hits : Hits predicts d.total (bottom s) (top s) d.found
  pub lawful : Lawful s.profile.sampling d.quantizer

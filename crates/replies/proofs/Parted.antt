-- A script is played block by block.
use Rattle.std.proofs.Common.{◌≡◌, ℕ, suc, cond, List, [], ◌∷◌, ◌++◌, length, take, drop, is_some, Some, None, Option, sym, refl, ap, ◌∙◌, append_assoc, arith}
use Rattle.calls.specs.declared.answer.Answer.{Answer}
use Rattle.model.specs.declared.settings.Settings.{Settings}
use Rattle.scripts.specs.declared.line.Line.{Line}
use Rattle.replies.specs.declared.reply.Reply.{Reply}
use Rattle.replies.specs.declared.standing.Standing.{Standing}
use Rattle.replies.specs.Blocks.{after, stands, call_of, calls_of, opening_of, until_open, block_length}
use Rattle.replies.specs.Replied.{replied, next_answer, left, replies_of}
use Rattle.replies.specs.Played.{Runs, begun, had, block_answers, played}

module _ (run : Runs) where
  -- what a line leaves, once its answers are known
  step : Standing → Line → List Line → List Answer → List Reply
  step s l ls xs = replied l (next_answer l xs) ∷ played run (after s l) (left (call_of None l) xs) ls

  -- the lines up to the next opening are replied by the answers that are left, and what is left then does not matter
  Parts : List Line → ℕ → Type 0
  Parts ls k =
      (s : Standing) (xs : List Answer) → played run s xs ls ≡ replies_of (take k ls) xs ++ played run (stands s (take k ls)) [] (drop k ls)

  -- the answers at a line whose opening is known
  had_as : (s : Standing) (l : Line) (ls : List Line) (xs : List Answer) (o : Option Settings) → opening_of l ≡ o
      → had run s l ls xs ≡ begun o (λ p. run p s.stair (calls_of s (l ∷ take (until_open ls) ls))) xs
  had_as s l ls xs o e = ap (λ (p : Option Settings). begun p (λ q. run q s.stair (calls_of s (l ∷ take (until_open ls) ls))) xs) e

  parted_line : (l : Line) (ls : List Line) (o : Option Settings) → opening_of l ≡ o → Parts ls (until_open ls) → Parts (l ∷ ls) (cond (is_some o) 0 (suc (until_open ls)))
  unfolding Parts step played replies_of
  parted_line l ls None e h s xs =
      ap (step s l ls) (had_as s l ls xs None e) ∙ ap (λ (rs : List Reply). replied l (next_answer l xs) ∷ rs) (h (after s l) (left (call_of None l) xs))
  parted_line l ls (Some o) e h s xs = ap (step s l ls) (had_as s l ls xs (Some o) e ∙ sym (had_as s l ls [] (Some o) e))

  parted : (ls : List Line) → Parts ls (until_open ls)
  unfolding Parts played replies_of until_open
  parted [] s xs = refl
  parted (l ∷ ls) s xs = parted_line l ls (opening_of l) refl (parted ls) s xs

  -- one block
  pub played_block : (s : Standing) (ls : List Line) → played run s [] ls
      ≡ replies_of (take (block_length ls) ls) (block_answers run s (take (block_length ls) ls)) ++ played run (stands s (take (block_length ls) ls)) [] (drop (block_length ls) ls)
  unfolding Parts played replies_of
  played_block s [] = refl
  played_block s (l ∷ ls) =
      ap (λ (rs : List Reply). replied l (next_answer l (had run s l ls [])) ∷ rs) (parted ls (after s l) (left (call_of None l) (had run s l ls [])))

  -- one block more, and none
  pub played_more : (ls block later : List Line) (s t : Standing) (rs qs r : List Reply) → block ≡ take (block_length ls) ls → later ≡ drop (block_length ls) ls
      → t ≡ stands s block → qs ≡ rs ++ replies_of block (block_answers run s block) → rs ++ played run s [] ls ≡ r → qs ++ played run t [] later ≡ r
  played_more ls block later s t rs qs r b d e k h =
      ap (λ (xs : List Reply). xs ++ played run t [] later) k
      ∙ append_assoc rs (replies_of block (block_answers run s block)) (played run t [] later)
      ∙ ap (λ (u : Standing). rs ++ (replies_of block (block_answers run s block) ++ played run u [] later)) e
      ∙ ap (λ (xs : List Line). rs ++ (replies_of block (block_answers run s block) ++ played run (stands s block) [] xs)) d
      ∙ ap (λ (xs : List Line). rs ++ (replies_of xs (block_answers run s xs) ++ played run (stands s xs) [] (drop (block_length ls) ls))) b
      ∙ ap (λ (xs : List Reply). rs ++ xs) (sym (played_block s ls))
      ∙ h

  pub played_all : (ls : List Line) (s : Standing) (rs r : List Reply) → length ls ≡ 0 → rs ++ played run s [] ls ≡ r → rs ++ [] ≡ r
  unfolding played
  played_all [] s rs r l h = h
  played_all (x ∷ ls) s rs r l h = absurd (omega (arith, l))

-- Walks over the lines of a script and over the answers to their calls.
use Rattle.std.proofs.Common.{◌≡◌, ℕ, suc, ◌+◌, ◌<◌, ◌≤◌, nat_lt, Bool, true, false, cond, List, [], ◌∷◌, ◌++◌, length, get_or, drop, Some, None, Option, sym, refl, ap, ◌∙◌, append_assoc, append-nil, arith}
use Rattle.std.proofs.lemmas.List.{at_drop_more, at_drop_all}
use Rattle.std.specs.List.{cons_option, position, position_or_len}
use Rattle.std.specs.Option.{option_to_list, unwrap_or}
use Rattle.std.proofs.lemmas.Bool.Decides.{nat_tests}
use Rattle.std.proofs.lemmas.List.Sums.{prefix_len-le-length}
use Rattle.std.proofs.lemmas.List.Recursion.{is_position_or_len}
use Rattle.calls.specs.declared.answer.Answer.{Answer}
use Rattle.calls.specs.declared.call.Call.{Call}
use Rattle.scripts.specs.declared.line.Line.{Line}
use Rattle.replies.specs.declared.reply.Reply.{Reply}
use Rattle.replies.specs.declared.standing.Standing.{Standing}
use Rattle.replies.specs.Blocks.{after, call_of, calls_of, opens, until_open, block_length}
use Rattle.replies.specs.Replied.{replied, left, next_answer, replies_of}

call_before : (o : Option Call) (cs : List Call) → option_to_list o ++ cs ≡ cons_option o cs
call_before None cs = refl
call_before (Some c) cs = refl

-- one line more makes its call
pub calls_more : (ls : List Line) (i : ℕ) (d : Line) (s t : Standing) (o : Option Call) (cs ds r : List Call) → i < length ls → t ≡ after s (get_or ls i d)
    → o ≡ call_of s.outlook (get_or ls i d) → ds ≡ cs ++ option_to_list o → cs ++ calls_of s (drop i ls) ≡ r → ds ++ calls_of t (drop (i + 1) ls) ≡ r
unfolding calls_of
calls_more ls i d s t o cs ds r l e m k h =
    ap (λ (xs : List Call). xs ++ calls_of t (drop (i + 1) ls)) k
    ∙ append_assoc cs (option_to_list o) (calls_of t (drop (i + 1) ls))
    ∙ ap (λ (xs : List Call). cs ++ xs) (call_before o (calls_of t (drop (i + 1) ls)))
    ∙ ap (λ (p : Option Call). cs ++ cons_option p (calls_of t (drop (i + 1) ls))) m
    ∙ ap (λ (u : Standing). cs ++ cons_option (call_of s.outlook (get_or ls i d)) (calls_of u (drop (i + 1) ls))) e
    ∙ sym (at_drop_more (λ (xs : List Line). cs ++ calls_of s xs) ls i d l)
    ∙ h

pub calls_all : (ls : List Line) (i : ℕ) (s : Standing) (cs r : List Call) → length ls ≤ i → cs ++ calls_of s (drop i ls) ≡ r → cs ≡ r
unfolding calls_of
calls_all ls i s cs r l h = sym (append-nil cs) ∙ sym (at_drop_all (λ (xs : List Line). cs ++ calls_of s xs) ls i l) ∙ h

-- one line more is replied
pub replies_more : (ls : List Line) (i : ℕ) (d : Line) (o : Option Answer) (zs bs : List Answer) (y : Reply) (rs ts r : List Reply) → i < length ls
    → y ≡ replied (get_or ls i d) o → o ≡ next_answer (get_or ls i d) zs → bs ≡ left (call_of None (get_or ls i d)) zs → ts ≡ rs ++ (y ∷ [])
    → rs ++ replies_of (drop i ls) zs ≡ r → ts ++ replies_of (drop (i + 1) ls) bs ≡ r
unfolding replies_of
replies_more ls i d o zs bs y rs ts r l e a b k h =
    ap (λ (xs : List Reply). xs ++ replies_of (drop (i + 1) ls) bs) k
    ∙ append_assoc rs (y ∷ []) (replies_of (drop (i + 1) ls) bs)
    ∙ ap (λ (z : Reply). rs ++ (z ∷ replies_of (drop (i + 1) ls) bs)) e
    ∙ ap (λ (p : Option Answer). rs ++ (replied (get_or ls i d) p ∷ replies_of (drop (i + 1) ls) bs)) a
    ∙ ap (λ (xs : List Answer). rs ++ (replied (get_or ls i d) (next_answer (get_or ls i d) zs) ∷ replies_of (drop (i + 1) ls) xs)) b
    ∙ sym (at_drop_more (λ (xs : List Line). rs ++ replies_of xs zs) ls i d l)
    ∙ h

pub replies_all : (ls : List Line) (i : ℕ) (zs : List Answer) (rs r : List Reply) → length ls ≤ i → rs ++ replies_of (drop i ls) zs ≡ r → rs ≡ r
unfolding replies_of
replies_all ls i zs rs r l h = sym (append-nil rs) ∙ sym (at_drop_all (λ (xs : List Line). rs ++ replies_of xs zs) ls i l) ∙ h

-- the lines before the next opening are those before the first that opens a run
until_step : (b : Bool) (n : ℕ) → cond b 0 (suc n) ≡ cond b 0 (1 + n)
until_step true n = refl
until_step false n = omega arith

until_nil : until_open [] ≡ 0
unfolding until_open
until_nil = refl

until_cons : (l : Line) (ls : List Line) → until_open (l ∷ ls) ≡ cond (opens l) 0 (1 + until_open ls)
unfolding until_open
until_cons l ls = until_step (opens l) (until_open ls)

until_open_is : (ls : List Line) → until_open ls ≡ position_or_len opens ls
until_open_is ls = is_position_or_len until_open opens until_nil until_cons ls

place_or_len : (n m : ℕ) → n ≤ m → unwrap_or (cond (nat_lt n m) (Some n) None) m ≡ n
place_or_len n m h = grind (arith, nat_tests)

-- the first line, and those before the next opening
pub block_of : (ls later : List Line) (l : Line) (o : Option ℕ) (n : ℕ) → ls ≡ l ∷ later → o ≡ position opens later → n ≡ unwrap_or o (length later) → 1 + n ≡ block_length ls
block_of ls later l o n e p u =
    let le : position_or_len opens later ≤ length later = prefix_len-le-length _ later in
    let q : n ≡ until_open later = u ∙ ap (λ (r : Option ℕ). unwrap_or r (length later)) p ∙ place_or_len _ _ le ∙ sym (until_open_is later) in
    let s : 1 + n ≡ suc (until_open later) = omega arith in
    s ∙ ap block_length (sym e)

-- How the lines of a text are read, one after the other.
use Rattle.std.proofs.Common.{◌≡◌, ℕ, ◌+◌, ◌<◌, Bool, true, List, [], ◌∷◌, ◌++◌, length, get_or, take, Some, None, Option, sym, refl, arith}
use Rattle.std.proofs.lemmas.List.{take_more}
use Rattle.std.proofs.lemmas.Bool.{both_ways}
use Rattle.words.specs.Words.{then}
use Rattle.words.specs.Lines.{words_in}
use Rattle.operands.specs.declared.fault.Fault as fault
use Rattle.operands.specs.declared.fault.Fault.TheVariants.{Malformed, NotText, NoMemory}
use Rattle.operands.specs.Faults.{Told}
use Rattle.operands.specs.Reading.{line_adds, all_add, ToldWrong}

then_some : {H : Type 0} (o : Option H) → then o (λ t. Some t) ≡ o
then_some None = refl
then_some (Some s) = refl

module _ {H : Type 0} (adds : List (List ℕ) → H → Option H) where
  pub no_words : (line : List ℕ) (ws : List (List ℕ)) (s : H) → ws ≡ words_in line → length ws ≡ 0 → line_adds adds line s ≡ Some s
  unfolding line_adds
  no_words line [] s e l = rw (sym e) refl
  no_words line (w ∷ ws) s e l = absurd (omega (arith, l))

  pub some_words : (line : List ℕ) (ws : List (List ℕ)) (s : H) → ws ≡ words_in line → 0 < length ws → adds ws s ≡ line_adds adds line s
  unfolding line_adds
  some_words line [] s e l = absurd (omega (arith, l))
  some_words line (w ∷ ws) s e l = rw (sym e) refl

  all_then : (o : Option H) (ls : List (List ℕ)) (l : List ℕ) → ((t : H) → all_add adds (ls ++ (l ∷ [])) t ≡ then (all_add adds ls t) (line_adds adds l))
      → then o (λ t. all_add adds (ls ++ (l ∷ [])) t) ≡ then (then o (λ t. all_add adds ls t)) (line_adds adds l)
  all_then None ls l f = refl
  all_then (Some s) ls l f = f s

  all_push : (ls : List (List ℕ)) (l : List ℕ) (s : H) → all_add adds (ls ++ (l ∷ [])) s ≡ then (all_add adds ls s) (line_adds adds l)
  unfolding all_add
  all_push [] l s = then_some (line_adds adds l s)
  all_push (k ∷ ks) l s = all_then (line_adds adds k s) ks l (λ t. all_push ks l t)

  pub all_none : (ls : List (List ℕ)) (s : H) → all_add adds (take 0 ls) s ≡ Some s
  unfolding all_add
  all_none ls s = refl

  -- one more line
  pub all_more : (ls : List (List ℕ)) (i : ℕ) (first s t : H) → i < length ls → all_add adds (take i ls) first ≡ Some s → line_adds adds (get_or ls i []) s ≡ Some t
      → all_add adds (take (i + 1) ls) first ≡ Some t
  all_more ls i first s t l h e = rw (take_more ls i [] l, all_push (take i ls) (get_or ls i []) first, h) e

  -- a line that cannot be read, after lines that can
  pub told_first : (ls : List (List ℕ)) (i n : ℕ) (first s : H) (e : fault.Fault) → n ≡ i + 1 → i < length ls → all_add adds (take i ls) first ≡ Some s
      → Told (line_adds adds (get_or ls i []) s) e → ToldWrong adds first ls true n e
  told_first ls i n first s (Malformed m) k l h w = (i, s, omega (arith, k), l, h, w)
  told_first ls i n first s NotText k l h w = absurd w
  told_first ls i n first s NoMemory k l h w = tt

  -- what is told of lines that are text is told of them where more bytes follow
  pub told_before : (ls : List (List ℕ)) (first : H) (whole : Bool) (n : ℕ) (e : fault.Fault) → ToldWrong adds first ls true n e → ToldWrong adds first ls whole n e
  told_before ls first whole n (Malformed m) w = w
  told_before ls first whole n NotText (h, t, _, _) = absurd (both_ways true t refl)
  told_before ls first whole n NoMemory w = tt

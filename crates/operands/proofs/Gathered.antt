-- How the values of a line's words are gathered, one word after the other.
use Rattle.std.proofs.Common.{◌≡◌, ℕ, suc, ◌+◌, ◌<◌, ◌≤◌, List, [], ◌∷◌, ◌++◌, length, get_or, drop, Some, None, Option, sym, refl, ap, ◌∙◌, append_assoc, append-nil, arith}
use Rattle.std.proofs.lemmas.List.{drop_more, drop_all}
use Rattle.words.specs.Words.{then}
use Rattle.operands.specs.Line.{values}

-- the values so far, and then those of the words that are left
abbrev pub prefixed : {X : Type 0} → List X → Option (List X) → Option (List X)
prefixed ns o = then o (λ ms. Some (ns ++ ms))

module _ {X : Type 0} where
  prefixed_more : (ns : List X) (n : X) (o : Option (List X)) → prefixed (ns ++ (n ∷ [])) o ≡ prefixed ns (then o (λ ms. Some (n ∷ ms)))
  prefixed_more ns n None = refl
  prefixed_more ns n (Some ms) = ap Some (append_assoc ns (n ∷ []) ms)

  -- what is left after no word
  pub gathered_none : (o : Option (List X)) → prefixed [] o ≡ o
  gathered_none None = refl
  gathered_none (Some ms) = refl

  -- one value more
  pub gathered_more : (read : List ℕ → Option X) (ws : List (List ℕ)) (i : ℕ) (n : X) (ns : List X) (o : Option (List X)) → i < length ws → Some n ≡ read (get_or ws i [])
      → prefixed ns (values read (drop i ws)) ≡ o → prefixed (ns ++ (n ∷ [])) (values read (drop (i + 1) ws)) ≡ o
  unfolding values
  gathered_more read ws i n ns o l e h =
      prefixed_more ns n (values read (drop (i + 1) ws))
      ∙ ap (λ (u : Option X). prefixed ns (then u (λ m. then (values read (drop (i + 1) ws)) (λ ms. Some (m ∷ ms))))) e
      ∙ sym (ap (λ (vs : List (List ℕ)). prefixed ns (values read vs)) (drop_more ws i [] l))
      ∙ h

  -- a word that writes none
  pub gathered_bad : (read : List ℕ → Option X) (ws : List (List ℕ)) (i : ℕ) (ns : List X) (o : Option (List X)) → i < length ws → None ≡ read (get_or ws i [])
      → prefixed ns (values read (drop i ws)) ≡ o → o ≡ None
  unfolding values
  gathered_bad read ws i ns o l e h =
      sym h
      ∙ ap (λ (vs : List (List ℕ)). prefixed ns (values read vs)) (drop_more ws i [] l)
      ∙ sym (ap (λ (u : Option X). prefixed ns (then u (λ m. then (values read (drop (i + 1) ws)) (λ ms. Some (m ∷ ms))))) e)

  -- no word is left
  pub gathered_all : (read : List ℕ → Option X) (ws : List (List ℕ)) (i : ℕ) (ns : List X) (o : Option (List X)) → length ws ≤ i
      → prefixed ns (values read (drop i ws)) ≡ o → o ≡ Some ns
  unfolding values
  gathered_all read ws i ns o l h =
      sym h ∙ ap (λ (vs : List (List ℕ)). prefixed ns (values read vs)) (drop_all i ws l) ∙ ap Some (append-nil ns)

  length_then : (u : Option X) (o : Option (List X)) (ns : List X) (n : ℕ) → then u (λ m. then o (λ ms. Some (m ∷ ms))) ≡ Some ns
      → ((ms : List X) → o ≡ Some ms → length ms ≡ n) → length ns ≡ suc n
  length_then None o ns n h f = let z : ◌≡◌ {A = ℕ} 0 1 = cc in absurd (omega (arith, z))
  length_then (Some m) None ns n h f = let z : ◌≡◌ {A = ℕ} 0 1 = cc in absurd (omega (arith, z))
  length_then (Some m) (Some ms) ns n h f = let e : ns ≡ m ∷ ms = cc in ap length e ∙ ap suc (f ms refl)

  pub length_values : (read : List ℕ → Option X) (ws : List (List ℕ)) (ns : List X) → values read ws ≡ Some ns → length ns ≡ length ws
  unfolding values
  length_values read [] ns h = let e : ns ≡ [] = cc in ap length e
  length_values read (w ∷ ws) ns h = length_then (read w) (values read ws) ns (length ws) h (λ ms e. length_values read ws ms e)

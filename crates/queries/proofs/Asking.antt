-- The questions that lines add are those that they ask.
use Rattle.std.proofs.Common.{◌≡◌, ℕ, Bool, List, [], ◌∷◌, ◌++◌, take, get_or, Some, None, Option, sym, refl, ap, ◌∙◌, subst, append_assoc, append-nil, arith}
use Rattle.words.specs.Words.{then}
use Rattle.words.specs.Lines.{words_in, lines_in}
use Rattle.operands.specs.Reading as reading
use Rattle.operands.specs.declared.fault.Fault as fault
use Rattle.operands.specs.declared.fault.Fault.TheVariants.{Malformed, NotText, NoMemory}
use Rattle.queries.specs.declared.query.Query.{Query}
use Rattle.queries.specs.Asked.{asked}
use Rattle.queries.specs.Read.{asked_by, asks_more, line_asks, joined, all_asked, ToldWrong, WrongIn}

-- some questions, and then others where there are any
abbrev after : List Query → Option (List Query) → Option (List Query)
after qs o = then o (λ rs. Some (qs ++ rs))

one_more : (qs : List Query) (o : Option Query) → then o (λ q. Some (qs ++ (q ∷ []))) ≡ after qs (then o (λ q. Some (q ∷ [])))
one_more qs None = refl
one_more qs (Some q) = refl

by_words : (ws : List (List ℕ)) (qs : List Query) → reading.words_add asks_more ws qs ≡ after qs (asked_by ws)
by_words [] qs = ap Some (sym (append-nil qs))
by_words (w ∷ ws) qs = one_more qs (asked (w ∷ ws))

line_adds : (line : List ℕ) (qs : List Query) → reading.line_adds asks_more line qs ≡ after qs (line_asks line)
unfolding line_asks reading.line_adds
line_adds line qs = by_words (words_in line) qs

after_joined : (qs : List Query) (x y : Option (List Query)) (ls : List (List ℕ)) → ((ps : List Query) → reading.all_add asks_more ls ps ≡ after ps y)
    → then (after qs x) (λ k. reading.all_add asks_more ls k) ≡ after qs (joined x y)
after_joined qs None y ls h = refl
after_joined qs (Some a) None ls h = h (qs ++ a)
after_joined qs (Some a) (Some b) ls h = h (qs ++ a) ∙ ap Some (append_assoc qs a b)

all_adds : (ls : List (List ℕ)) (qs : List Query) → reading.all_add asks_more ls qs ≡ after qs (all_asked ls)
unfolding all_asked reading.all_add
all_adds [] qs = ap Some (sym (append-nil qs))
all_adds (l ∷ ls) qs =
    ap (λ (o : Option (List Query)). then o (λ k. reading.all_add asks_more ls k)) (line_adds l qs) ∙ after_joined qs (line_asks l) (all_asked ls) ls (λ ps. all_adds ls ps)

after_none : (o : Option (List Query)) → after [] o ≡ o
after_none None = refl
after_none (Some rs) = refl

none_after : (qs : List Query) (o : Option (List Query)) → after qs o ≡ None → o ≡ None
none_after qs None h = refl
none_after qs (Some rs) h = absurd (let n : ◌≡◌ {A = ℕ} 0 1 = cc in omega (arith, n))

-- from no questions on, what the lines add is all that they ask
all_right : (ls : List (List ℕ)) (qs : List Query) → reading.all_add asks_more ls [] ≡ Some qs → all_asked ls ≡ Some qs
all_right ls qs h = sym (after_none (all_asked ls)) ∙ sym (all_adds ls []) ∙ h

wrong_by : (ls : List (List ℕ)) (whole : Bool) (n : ℕ) (e : fault.Fault) → reading.ToldWrong asks_more [] ls whole n e → ToldWrong ls whole n e
wrong_by ls whole n (Malformed m) (i, qs, k, l, h, w) = (i, qs, k, l, none_after qs _ (sym (line_adds (get_or ls i []) qs) ∙ w), all_right (take i ls) qs h)
wrong_by ls whole n NotText (qs, t, k, h) = (qs, t, k, all_right ls qs h)
wrong_by ls whole n NoMemory w = tt

-- the first line that cannot be read is the same
pub wrong_in : (bs : List ℕ) (first : List Query) (n : ℕ) (e : fault.Fault) → first ≡ [] → reading.WrongIn asks_more first bs n e → WrongIn bs n e
wrong_in bs first n e z w =
    let v = subst (λ (qs : List Query). reading.WrongIn asks_more qs bs n e) z w in
    (v.0, v.1, v.2, wrong_by (lines_in v.0) v.1 n e v.3)

-- all that the lines add is all that they ask
pub all_in : (ls : List (List ℕ)) (first qs : List Query) → first ≡ [] → reading.all_add asks_more ls first ≡ Some qs → all_asked ls ≡ Some qs
all_in ls first qs z h = all_right ls qs (ap (λ (ps : List Query). reading.all_add asks_more ls ps) (sym z) ∙ h)

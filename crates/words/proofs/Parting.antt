-- How the library's ways to cut a text give its lines, and those to cut a line its words.
use Rattle.std.proofs.Common.{◌≡◌, ℕ, zero, suc, ◌+◌, ◌-◌, ◌<◌, ◌≤◌, Bool, true, false, eqb, List, [], ◌∷◌, ◌++◌, map, length, get_or, take, drop, Some, None, Ok, Err, Vec, Result, vec_items, IfOk, Option, sym, refl, ap, ◌∙◌, subst, append_assoc, append-nil, add-zero, arith, Bor, rules, MatchOption}
use Rattle.std.specs.Str.{IsValidUpTo, IsCharBoundary, IsTrimAsciiStart, NoCharPasses}
use Rattle.std.specs.Str.Iter.{split_ascii_whitespace_steps, split_ascii_whitespace_text, IsAsciiSeparator}
use Rattle.std.specs.Str.Pattern.{RFindsChar}
use Rattle.std.specs.Char.{is_ascii_whitespace}
use Rattle.std.specs.List.{All, AllPass, AllWithin, HoldsAt, slice_split, onto_first}
use Rattle.std.proofs.lemmas.List.{length-take, get_or-take, get_or-drop, get_or_default, take-take, take-append-drop, drop_more}
use Rattle.std.proofs.lemmas.List.Splits.{length-slice_split, slice_split_at, slice_split_none}
use Rattle.std.proofs.lemmas.Iterator.{YieldsList}
use Rattle.std.proofs.lemmas.Iterator.Consumers.{YieldsList-from_shown}
use Rattle.std.proofs.lemmas.Str.{NoCharPasses-byte}
use Rattle.std.proofs.lemmas.Str.Pattern.{IsSplitOnceResult, split_parts, rfind_char}
use Rattle.numerals.specs.Words.{texts}
use Rattle.words.specs.Lines.{before_comment, ended, parted, lines_in, LineStart}

-- a text with no `#` is its own front
uncommented : (bs : List ℕ) → ((i : ℕ) → i < length bs → get_or bs i 0 ≡ 35 → ⊥) → bs ≡ before_comment bs
uncommented [] h = refl
uncommented (c ∷ cs) h =
    let e : eqb c 35 ≡ false = search (rules, h 0) in
    rw (e, ← uncommented cs (λ i l. h (suc i) (omega arith))) refl

commented : (xs ys : List ℕ) → ((i : ℕ) → i < length xs → get_or xs i 0 ≡ 35 → ⊥) → xs ≡ before_comment (xs ++ (35 ∷ ys))
commented [] ys h = refl
commented (c ∷ cs) ys h =
    let e : eqb c 35 ≡ false = search (rules, h 0) in
    rw (e, ← commented cs ys (λ i l. h (suc i) (omega arith))) refl

-- what `split_once` at `#` answers, by the definition
pub front_of : (bs : List ℕ) (r : Option (Bor (List ℕ) × Bor (List ℕ))) → IsSplitOnceResult 35 bs r → MatchOption r (bs ≡ before_comment bs) (λ x. x.0.now ≡ before_comment bs)
front_of bs None h = uncommented bs (split_parts 35 bs None h (omega arith))
front_of bs (Some x) h =
    let p = split_parts 35 bs (Some x) h (omega arith) in
    commented x.0.now x.1.now p.1 ∙ ap before_comment (sym p.0)

pub texts_push : (ws : List (Bor (List ℕ))) (w : Bor (List ℕ)) → texts (ws ++ (w ∷ [])) ≡ texts ws ++ (w.now ∷ [])
texts_push [] w = refl
texts_push (v ∷ ws) w = ap (λ (r : List (List ℕ)). v.now ∷ r) (texts_push ws w)

pub texts_map : (ws : List (Bor (List ℕ))) → texts ws ≡ map (λ w. w.now) ws
texts_map [] = refl
texts_map (w ∷ ws) = ap (λ (r : List (List ℕ)). w.now ∷ r) (texts_map ws)

-- what a `Vec` of references holds that took pieces
pub collected : {Z E : Type 0} (r : Result (Vec (Bor (List ℕ)) Z) E) (xs ys : List (List ℕ)) → xs ≡ ys
    → IfOk r (λ v. map (λ w. w.now) (vec_items v) ≡ xs) → IfOk r (λ v. texts (vec_items v) ≡ ys)
collected (Ok v) xs ys e h = texts_map (vec_items v) ∙ h ∙ e
collected (Err x) xs ys e h = tt

-- the pieces of w and then a text, from those of the text
onto : List ℕ → List (List ℕ) → List (List ℕ)
onto w [] = []
onto w (p ∷ ps) = (w ++ p) ∷ ps

onto_nil : (ps : List (List ℕ)) → onto [] ps ≡ ps
unfolding onto
onto_nil [] = refl
onto_nil (p ∷ ps) = refl

onto_more : (w : List ℕ) (c : ℕ) (ps : List (List ℕ)) → 0 < length ps → onto w (onto_first c ps) ≡ onto (w ++ (c ∷ [])) ps
unfolding onto
onto_more w c [] l = absurd (omega (arith, l))
onto_more w c (p ∷ ps) l = ap (λ (v : List ℕ). v ∷ ps) (sym (append_assoc w (c ∷ []) p))

by_test : (test : ℕ → Bool) (w : List ℕ) (c : ℕ) (cs : List ℕ) (b : Bool) → test c ≡ b
    → ((v : List ℕ) → parted (λ line later. line ∷ later) test v cs ≡ onto v (slice_split test cs))
    → parted (λ line later. line ∷ later) test w (c ∷ cs) ≡ onto w (slice_split test (c ∷ cs))
unfolding onto
by_test test w c cs true e h =
    rw (e, append-nil w) (ap (λ (ps : List (List ℕ)). w ∷ ps) (h [] ∙ onto_nil (slice_split test cs)))
by_test test w c cs false e h =
    rw e (h (w ++ (c ∷ [])) ∙ sym (onto_more w c (slice_split test cs) (omega (arith, length-slice_split test cs))))

parted_split : (test : ℕ → Bool) (w bs : List ℕ) → parted (λ line later. line ∷ later) test w bs ≡ onto w (slice_split test bs)
unfolding onto
parted_split test w [] = ap (λ (v : List ℕ). v ∷ []) (sym (append-nil w))
parted_split test w (c ∷ cs) = by_test test w c cs (test c) refl (λ v. parted_split test v cs)

-- the parts at line feeds are the lines
pub lines_split : (text : List ℕ) → lines_in text ≡ slice_split (λ c. eqb c 10) text
unfolding lines_in
lines_split text = parted_split (λ c. eqb c 10) [] text ∙ onto_nil (slice_split (λ c. eqb c 10) text)

white_ascii : (c : ℕ) → is_ascii_whitespace c ≡ true → c < 128
white_ascii c e = grind (arith, e)

-- no byte of a word is white space
AllBlack : List ℕ → Type 0
AllBlack x = (i : ℕ) → i < length x → is_ascii_whitespace (get_or x i 0) ≡ false

black_or : (x : List ℕ) (i : ℕ) (b : Bool) → is_ascii_whitespace (get_or x i 0) ≡ b → NoCharPasses is_ascii_whitespace x → i < length x → b ≡ false
black_or x i true e h l = sym e ∙ NoCharPasses-byte is_ascii_whitespace x i h l (white_ascii _ e)
black_or x i false e h l = refl

all_black : (x : List ℕ) → NoCharPasses is_ascii_whitespace x → AllBlack x
unfolding AllBlack
all_black x h i l = black_or x i (is_ascii_whitespace (get_or x i 0)) refl h l

-- white space before a word is passed over
over_gap : (gap bs : List ℕ) → AllPass is_ascii_whitespace gap → parted ended is_ascii_whitespace [] (gap ++ bs) ≡ parted ended is_ascii_whitespace [] bs
over_gap [] bs h = refl
over_gap (c ∷ cs) bs h = rw (h 0 0 (omega arith)) (over_gap cs bs (λ i d l. h (suc i) d (omega arith)))

over_word : (w x bs : List ℕ) → AllBlack x → parted ended is_ascii_whitespace w (x ++ bs) ≡ parted ended is_ascii_whitespace (w ++ x) bs
unfolding AllBlack
over_word w [] bs h = rw (append-nil w) refl
over_word w (c ∷ cs) bs h =
    rw (h 0 (omega arith)) (over_word (w ++ (c ∷ [])) cs bs (λ i l. h (suc i) (omega arith)) ∙ ap (λ (v : List ℕ). parted ended is_ascii_whitespace v bs) (append_assoc w (c ∷ []) cs))

pub ended_some : (w : List ℕ) (ws : List (List ℕ)) → 0 < length w → ended w ws ≡ w ∷ ws
ended_some [] ws l = absurd (omega (arith, l))
ended_some (c ∷ cs) ws l = refl

pub ended_none : (w : List ℕ) (ws : List (List ℕ)) → length w ≡ 0 → ended w ws ≡ ws
ended_none [] ws e = refl
ended_none (c ∷ cs) ws e = absurd (omega (arith, e))

-- a word ends at the byte after it, or with the text
over_end : (x sep rest : List ℕ) → 0 < length x → IsAsciiSeparator sep rest → parted ended is_ascii_whitespace x (sep ++ rest) ≡ x ∷ parted ended is_ascii_whitespace [] rest
over_end x [] [] l h = ended_some x [] l
over_end x [] (c ∷ cs) l h = absurd (omega (arith, h.2 refl))
over_end x (c ∷ []) rest l h = rw (h.0 0 0 (omega arith)) (ended_some x (parted ended is_ascii_whitespace [] rest) l)
over_end x (c ∷ d ∷ ds) rest l h = absurd (omega (arith, h.1))

words_end : (s t : _) → split_ascii_whitespace_steps s None t → length (parted ended is_ascii_whitespace [] (split_ascii_whitespace_text s)) ≡ 0
words_end s t h =
    ap (λ (bs : List ℕ). length (parted ended is_ascii_whitespace [] bs)) (sym (append-nil (split_ascii_whitespace_text s)))
    ∙ ap length (over_gap (split_ascii_whitespace_text s) [] h.0)

words_more : (s : _) (x : Bor (List ℕ)) (t : _) → split_ascii_whitespace_steps s (Some x) t
    → parted ended is_ascii_whitespace [] (split_ascii_whitespace_text s) ≡ x.now ∷ parted ended is_ascii_whitespace [] (split_ascii_whitespace_text t)
words_more s x t (some, black, _, (gap, sep, e, white, after)) =
    ap (parted ended is_ascii_whitespace []) e
    ∙ over_gap gap (x.now ++ (sep ++ split_ascii_whitespace_text t)) white
    ∙ over_word [] x.now (sep ++ split_ascii_whitespace_text t) (all_black x.now black)
    ∙ over_end x.now sep (split_ascii_whitespace_text t) some after

-- what `split_ascii_whitespace` yields
pub yields_words : {s : _} (bs : List ℕ) → split_ascii_whitespace_text s ≡ bs → YieldsList split_ascii_whitespace_steps (λ x. x.now) s (parted ended is_ascii_whitespace [] bs)
yields_words {s} bs e =
    subst (λ (text : List ℕ). YieldsList split_ascii_whitespace_steps (λ x. x.now) s (parted ended is_ascii_whitespace [] text)) e
    (YieldsList-from_shown split_ascii_whitespace_steps (λ x. x.now) (λ u. parted ended is_ascii_whitespace [] (split_ascii_whitespace_text u)) words_end words_more s)

-- ---- a walk from piece to piece: i is where the first byte of the text stands that ends one
abbrev pub FirstAt : (ℕ → Bool) → List ℕ → ℕ → Type 0
FirstAt test bs i = (i < length bs) × HoldsAt (λ c. test c ≡ true) bs i × AllWithin (λ c. test c ≡ false) bs 0 i

-- no byte of the text ends a piece
abbrev pub NoneIn : (ℕ → Bool) → List ℕ → Type 0
NoneIn test bs = AllWithin (λ c. test c ≡ false) bs 0 (length bs)

-- the pieces with one more, then those of what is left
pub one_more : (ws : List (Bor (List ℕ))) (w : Bor (List ℕ)) (p : List ℕ) (ps qs all : List (List ℕ))
    → w.now ≡ p → ps ≡ p ∷ qs → texts ws ++ ps ≡ all → texts (ws ++ (w ∷ [])) ++ qs ≡ all
one_more ws w p ps qs all v e h =
    ap (λ (us : List (List ℕ)). us ++ qs) (texts_push ws w)
    ∙ append_assoc (texts ws) (w.now ∷ []) qs
    ∙ ap (λ (x : List ℕ). texts ws ++ (x ∷ qs)) v
    ∙ ap (λ (us : List (List ℕ)). texts ws ++ us) (sym e)
    ∙ h

-- the text about a place in it
about : (bs : List ℕ) (i : ℕ) → i < length bs → bs ≡ take i bs ++ (get_or bs i 0 ∷ drop (i + 1) bs)
about bs i l = sym (take-append-drop i bs) ∙ ap (λ (r : List ℕ). take i bs ++ r) (drop_more bs i 0 l)

front_none : (test : ℕ → Bool) (bs : List ℕ) (i : ℕ) → i ≤ length bs → AllWithin (λ c. test c ≡ false) bs 0 i → All (λ c. test c ≡ false) (take i bs)
front_none test bs i l h k d m =
    let n : length (take i bs) ≡ i = simp length-take (omega (arith, l)) in
    let below : k < i = omega (arith, n, m) in
    ap test (get_or-take i bs k d below) ∙ h k d (omega arith) below

-- the byte after which a piece begins is ASCII
pub feed_ascii : (bs : List ℕ) (i : ℕ) → FirstAt (λ c. eqb c 10) bs i → get_or bs i 0 < 128
feed_ascii bs i (l, end, before) = let e = end 0 in grind (arith, e)

pub white_at : (bs : List ℕ) (i : ℕ) → FirstAt is_ascii_whitespace bs i → get_or bs i 0 < 128
white_at bs i (l, end, before) = white_ascii (get_or bs i 0) (end 0)

-- the first line, and the lines after it
pub first_line : (bs : List ℕ) (i : ℕ) → FirstAt (λ c. eqb c 10) bs i → lines_in bs ≡ take i bs ∷ lines_in (drop (i + 1) bs)
first_line bs i (l, end, before) =
    lines_split bs
    ∙ ap (slice_split (λ c. eqb c 10)) (about bs i l)
    ∙ slice_split_at (λ c. eqb c 10) (take i bs) (get_or bs i 0) (drop (i + 1) bs) (front_none (λ c. eqb c 10) bs i (omega (arith, l)) before) (end 0)
    ∙ ap (λ (ls : List (List ℕ)). take i bs ∷ ls) (sym (lines_split (drop (i + 1) bs)))

pub last_line : (bs : List ℕ) → NoneIn (λ c. eqb c 10) bs → lines_in bs ≡ bs ∷ []
last_line bs h = lines_split bs ∙ slice_split_none (λ c. eqb c 10) bs (λ k d l. h k d (omega arith) l)

-- a text that white space does not begin
abbrev pub Begun : List ℕ → Type 0
Begun bs = 0 < length bs → is_ascii_whitespace (get_or bs 0 0) ≡ false

not_empty : (bs : List ℕ) (i : ℕ) → Begun bs → FirstAt is_ascii_whitespace bs i → 0 < i
not_empty bs zero black (l, end, before) = let e = black l in let w = end 0 in absurd (cc (e, w))
not_empty bs (suc i) black h = omega arith

front_black : (bs : List ℕ) (i : ℕ) → i ≤ length bs → AllWithin (λ c. is_ascii_whitespace c ≡ false) bs 0 i → AllBlack (take i bs)
unfolding AllBlack
front_black bs i l h k m = front_none is_ascii_whitespace bs i l h k 0 m

all_of_none : (bs : List ℕ) → NoneIn is_ascii_whitespace bs → AllBlack bs
unfolding AllBlack
all_of_none bs h k l = h k 0 (omega arith) l

-- the first word, and the words after it
pub first_word : (bs : List ℕ) (i : ℕ) → Begun bs → FirstAt is_ascii_whitespace bs i
    → parted ended is_ascii_whitespace [] bs ≡ take i bs ∷ parted ended is_ascii_whitespace [] (drop (i + 1) bs)
first_word bs i black (l, end, before) =
    let n : length (take i bs) ≡ i = simp length-take (omega (arith, l)) in
    let some : 0 < length (take i bs) = omega (arith, n, not_empty bs i black (l, end, before)) in
    ap (parted ended is_ascii_whitespace []) (about bs i l)
    ∙ over_word [] (take i bs) (get_or bs i 0 ∷ drop (i + 1) bs) (front_black bs i (omega (arith, l)) before)
    ∙ rw (end 0) (ended_some (take i bs) (parted ended is_ascii_whitespace [] (drop (i + 1) bs)) some)

pub last_word : (bs : List ℕ) → NoneIn is_ascii_whitespace bs → parted ended is_ascii_whitespace [] bs ≡ ended bs []
last_word bs h = ap (parted ended is_ascii_whitespace []) (sym (append-nil bs)) ∙ over_word [] bs [] (all_of_none bs h)

gap : (s : List ℕ) (n : ℕ) → n ≤ length s → ((i : ℕ) → i < n → is_ascii_whitespace (get_or s i 0) ≡ true) → AllPass is_ascii_whitespace (take n s)
gap s n l h k d m =
    let size : length (take n s) ≡ n = simp length-take (omega (arith, l)) in
    let below : k < n = omega (arith, size, m) in
    ap is_ascii_whitespace (get_or-take n s k d below ∙ get_or_default s k d 0 (omega (arith, below, l))) ∙ h k below

-- white space at the front gives no word, and what is left after it begins with none
pub trimmed : (s r : List ℕ) → IsTrimAsciiStart s r → Begun r × (parted ended is_ascii_whitespace [] s ≡ parted ended is_ascii_whitespace [] r)
trimmed s r (n, e, size, white, stop) = (
  λ l. ap (λ (bs : List ℕ). is_ascii_whitespace (get_or bs 0 0)) e ∙ ap is_ascii_whitespace (get_or-drop n s 0 0) ∙ ap (λ (k : ℕ). is_ascii_whitespace (get_or s k 0)) (add-zero n) ∙ stop (omega (arith, size, l)),
  ap (parted ended is_ascii_whitespace []) (sym (take-append-drop n s))
      ∙ over_gap (take n s) (drop n s) (gap s n (omega (arith, size)) white)
      ∙ ap (parted ended is_ascii_whitespace []) (sym e),
)

-- the text up to its last line feed
pub ended_at : (bs : List ℕ) (i : ℕ) → i < length bs → get_or bs i 0 ≡ 10 → ((k : ℕ) → i < k → k < length bs → get_or bs k 0 ≡ 10 → ⊥) → LineStart bs (length bs) (i + 1)
ended_at bs i l e h =
    let back : i + 1 - 1 ≡ i = omega arith in
    record { within = omega (arith, l); after = λ p. ap (λ (k : ℕ). get_or bs k 0) back ∙ e; none = λ k a b. h k (omega (arith, a)) b }

-- where no line feed stands the text begins its one line
pub unended : (bs : List ℕ) → ((k : ℕ) → k < length bs → get_or bs k 0 ≡ 10 → ⊥) → LineStart bs (length bs) 0
unended bs h = record { within = omega arith; after = λ p. absurd (omega (arith, p)); none = λ k a b. h k b }

-- what `rfind` at a line feed answers
pub feed_of : (bs : List ℕ) (r : Option ℕ) → MatchOption r (RFindsChar 10 bs None) (λ i. (j : ℕ) × RFindsChar 10 bs (Some (i, j)) × (i ≤ j) × IsCharBoundary bs i × IsCharBoundary bs j)
    → MatchOption r (LineStart bs (length bs) 0) (λ i. (i < length bs) × (get_or bs i 0 ≡ 10) × LineStart bs (length bs) (i + 1))
feed_of bs None h = unended bs (rfind_char 10 bs None h (omega arith))
feed_of bs (Some i) h =
    let p = rfind_char 10 bs (Some i) h (omega arith) in
    (p.0, p.1, ended_at bs i p.0 p.1 p.2)

-- where the line begins in which the bytes cease to be text
pub start_of : (bs : List ℕ) (stop start : ℕ) → IsValidUpTo bs stop → LineStart (take stop bs) (length (take stop bs)) start → LineStart bs stop start
start_of bs stop start v h =
    let n : length (take stop bs) ≡ stop = simp length-take (omega (arith, v.short)) in
    let within : start ≤ stop = omega (arith, n, h.within) in
    record {
      within = within;
      after = λ p. sym (get_or-take stop bs (start - 1) 0 (omega (arith, within, p))) ∙ h.after p;
      none = λ k a b e. h.none k a (omega (arith, n, b)) (get_or-take stop bs k 0 b ∙ e);
    }

-- the whole lines of the text before those bytes are a front of them
pub front_of_text : (bs text front : List ℕ) (stop : ℕ) → IsValidUpTo bs stop → text ≡ take stop bs → front ≡ take (length front) text
    → LineStart text (length text) (length front) → (start : ℕ) × LineStart bs stop start × (front ≡ take start bs)
front_of_text bs text front stop v t f h =
    let l = start_of bs stop (length front) v (subst (λ (x : List ℕ). LineStart x (length x) (length front)) t h) in
    (length front, l, f ∙ ap (take (length front)) t ∙ take-take (length front) stop bs (omega (arith, l.within)))

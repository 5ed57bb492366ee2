-- What each kind of line leaves of a script.
use Rattle.std.proofs.Common.{◌≡◌, ℕ, ◌/◌, true, false, eqb, List, map, length, drop, Some, None, Ok, Err, Option, Result, sym, refl, ap, ◌∙◌, arith, MatchResult}
use Rattle.std.specs.Result.{IsOkAnd}
use Rattle.std.specs.Simd.{first_chunks}
use Rattle.std.proofs.lemmas.List.{length-map, map_push, drop-drop}
use Rattle.words.specs.Words.{unsigned}
use Rattle.operands.specs.Faults.{Told}
use Rattle.operands.specs.Line.{values}
use Rattle.operands.specs.declared.fault.Fault as fault
use Rattle.operands.specs.declared.fault.Fault.TheVariants.{Malformed, NotText, NoMemory}
use Rattle.outlook.specs.Bytes.{repeated}
use Rattle.outlook.specs.Either.{entries_known}
use Rattle.outlook.specs.Making.{Answered, listed, patterned, list_question, pattern_question}
use Rattle.outlook.specs.declared.known.Known.{Known}
use Rattle.outlook.specs.declared.known.Known.TheVariants as known
use Rattle.outlook.specs.declared.list.List.{List as Listed}
use Rattle.outlook.specs.declared.pattern.Pattern.{Pattern}
use Rattle.outlook.specs.declared.refusal.NotMade.{NotMade}
use Rattle.outlook.specs.declared.refusal.NotMade.TheVariants as unmade
use Rattle.outlook.specs.declared.refusal.Refusal as outlook
use Rattle.stair.specs.Stairs.{stair_made}
use Rattle.stair.specs.declared.refusal.Refusal as stair
use Rattle.stair.specs.declared.stair.Stair.{Stair}
use Rattle.scripts.specs.declared.line.Line.{Line}
use Rattle.scripts.specs.declared.line.Line.TheVariants as line
use Rattle.scripts.specs.Read.{Read, rows, kept, place_of, with_line, with_stair, with_outlook, unless, settled, stair_line, list_line, pattern_line, other_line}
use Rattle.scripts.specs.Said.{said}

-- the four rows are the chunks of the counts
pub rows_right : (cs : List ℕ) (n : ℕ) → n ≡ 256 → first_chunks 64 (n / 64) cs ≡ rows cs
rows_right cs n e =
    let four : n / 64 ≡ 4 = omega (arith, e) in
    rw (four, drop-drop, drop-drop) refl

-- what stops the operands of a line stops the line
pub stopped : {X Y : Type 0} (o : Option X) (p : Option Y) (f : fault.Fault) → (o ≡ None → p ≡ None) → Told o f → Told p f
stopped o p (Malformed m) h t = h t
stopped o p NotText h t = t
stopped o p NoMemory h t = tt

-- the entries of an outlook that was made
abbrev pub entries : {E : Type 0} → Result Known E → Result (List ℕ) E
entries (Ok k) = Ok (entries_known k)
entries (Err e) = Err e

abbrev pub over : (List ℕ → List ℕ) → Result (List ℕ) NotMade → Result (List ℕ) NotMade
over g (Ok xs) = Ok (g xs)
over g (Err e) = Err e

listed_known : (r : Result Listed NotMade) (m : Result Known NotMade) → MatchResult r (λ x. IsOkAnd m (λ y. y ≡ known.Listed x)) (λ e. m ≡ Err e) → entries m ≡ over (λ xs. xs) (listed r)
listed_known (Ok x) (Ok y) h = rw h refl
listed_known (Ok x) (Err e) h = absurd h
listed_known (Err e) m h = rw h refl

patterned_known : (r : Result Pattern NotMade) (m : Result Known NotMade) → MatchResult r (λ x. IsOkAnd m (λ y. y ≡ known.Repeated x)) (λ e. m ≡ Err e) → entries m ≡ over repeated (patterned r)
patterned_known (Ok x) (Ok y) h = rw h refl
patterned_known (Ok x) (Err e) h = absurd h
patterned_known (Err e) m h = rw h refl

-- what was made is settled as the question asks
settles : (q : Option outlook.Refusal) (bs : List ℕ) (g : List ℕ → List ℕ) (b : Result (List ℕ) NotMade) (m : Result Known NotMade) (k : Result Known outlook.Refusal)
    → Answered q bs b → entries m ≡ over g b → settled m ≡ Some k → entries k ≡ unless q (g bs)
settles None bs g (Ok ys) (Ok x) (Ok z) a e s = cc
settles None bs g (Ok ys) (Ok x) (Err z) a e s = absurd (let n : ◌≡◌ {A = ℕ} 0 1 = cc in omega (arith, n))
settles None bs g (Ok ys) (Err x) k a e s = absurd (let n : ◌≡◌ {A = ℕ} 0 1 = cc in omega (arith, n))
settles None bs g (Err y) (Ok x) k a e s = absurd (let n : ◌≡◌ {A = ℕ} 0 1 = cc in omega (arith, n))
settles None bs g (Err y) (Err (unmade.Refused x)) k a e s = absurd (let n : ◌≡◌ {A = ℕ} 0 1 = cc in omega (arith, n))
settles None bs g (Err y) (Err unmade.NoMemory) k a e s = absurd (let n : ◌≡◌ {A = ℕ} 0 1 = cc in omega (arith, n))
settles (Some q) bs g (Ok ys) m k a e s = absurd (let n : ◌≡◌ {A = ℕ} 0 1 = cc in omega (arith, n))
settles (Some q) bs g (Err y) (Ok x) k a e s = absurd (let n : ◌≡◌ {A = ℕ} 0 1 = cc in omega (arith, n))
settles (Some q) bs g (Err y) (Err (unmade.Refused x)) (Ok z) a e s = absurd (let n : ◌≡◌ {A = ℕ} 0 1 = cc in omega (arith, n))
settles (Some q) bs g (Err y) (Err (unmade.Refused x)) (Err z) a e s = cc
settles (Some q) bs g (Err y) (Err unmade.NoMemory) k a e s = absurd (let n : ◌≡◌ {A = ℕ} 0 1 = cc in omega (arith, n))

kept_entries : (k : Result Known outlook.Refusal) (os : List Known) → map entries_known (kept k os) ≡ kept (entries k) (map entries_known os)
kept_entries (Ok x) os = map_push entries_known os x
kept_entries (Err e) os = refl

place_entries : (k : Result Known outlook.Refusal) (os : List Known) → place_of k os ≡ place_of (entries k) (map entries_known os)
place_entries (Ok x) os = ap Ok (sym (length-map os entries_known))
place_entries (Err e) os = refl

-- an outlook that is kept, and its line behind the others
pub added : (f : Result ℕ outlook.Refusal → Line) (lines : List Line) (stairs : List Stair) (os ks : List Known) (k : Result Known outlook.Refusal) (place : Result ℕ outlook.Refusal)
    → place ≡ place_of k os → ks ≡ kept k os
    → with_line (f place) (record { lines = lines; outlooks = map entries_known ks; stairs = stairs })
    ≡ with_outlook f (entries k) (record { lines = lines; outlooks = map entries_known os; stairs = stairs })
added f lines stairs os ks k place p h =
    let e : map entries_known ks ≡ kept (entries k) (map entries_known os) = ap (map entries_known) h ∙ kept_entries k os in
    let q : place ≡ place_of (entries k) (map entries_known os) = p ∙ place_entries k os in
    rw (e, q) refl

-- a stair that is kept, and its line behind the others
pub added_stair : (lines : List Line) (outlooks : List (List ℕ)) (ss ks : List Stair) (made : Result Stair stair.Refusal) (place : Result ℕ stair.Refusal)
    → place ≡ place_of made ss → ks ≡ kept made ss
    → with_line (line.Stair place) (record { lines = lines; outlooks = outlooks; stairs = ks }) ≡ with_stair made (record { lines = lines; outlooks = outlooks; stairs = ss })
added_stair lines outlooks ss ks made place p h = rw (p, h) refl

pub stair_short : (ws : List (List ℕ)) (s : Read) → eqb (length ws) 257 ≡ false → stair_line ws s ≡ None
unfolding stair_line
stair_short ws s e = rw e refl

pub stair_bad : (ws : List (List ℕ)) (s : Read) → eqb (length ws) 257 ≡ true → values (unsigned 32) (drop 1 ws) ≡ None → stair_line ws s ≡ None
unfolding stair_line
stair_bad ws s e h = rw (e, h) refl

pub stair_good : (ws : List (List ℕ)) (s : Read) (cs : List ℕ) → eqb (length ws) 257 ≡ true → values (unsigned 32) (drop 1 ws) ≡ Some cs
    → stair_line ws s ≡ Some (with_stair (stair_made (rows cs)) s)
unfolding stair_line
stair_good ws s cs e h = rw (e, h) refl

pub list_bad : (ws : List (List ℕ)) (s : Read) → values (unsigned 8) (drop 1 ws) ≡ None → list_line ws s ≡ None
unfolding list_line
list_bad ws s h = rw h refl

pub list_good : (ws : List (List ℕ)) (s : Read) (bs : List ℕ) (r : Result Listed NotMade) (m : Result Known NotMade) (k : Result Known outlook.Refusal)
    → values (unsigned 8) (drop 1 ws) ≡ Some bs → Answered (list_question bs) bs (listed r)
    → MatchResult r (λ x. IsOkAnd m (λ y. y ≡ known.Listed x)) (λ e. m ≡ Err e) → settled m ≡ Some k
    → list_line ws s ≡ Some (with_outlook (λ p. line.List p) (entries k) s)
unfolding list_line
list_good ws s bs r m k h a e t = rw (h, settles (list_question bs) bs (λ xs. xs) (listed r) m k a (listed_known r m e) t) refl

pub pattern_bad : (ws : List (List ℕ)) (s : Read) → values (unsigned 8) (drop 1 ws) ≡ None → pattern_line ws s ≡ None
unfolding pattern_line
pattern_bad ws s h = rw h refl

pub pattern_good : (ws : List (List ℕ)) (s : Read) (bs : List ℕ) (r : Result Pattern NotMade) (m : Result Known NotMade) (k : Result Known outlook.Refusal)
    → values (unsigned 8) (drop 1 ws) ≡ Some bs → Answered (pattern_question bs) bs (patterned r)
    → MatchResult r (λ x. IsOkAnd m (λ y. y ≡ known.Repeated x)) (λ e. m ≡ Err e) → settled m ≡ Some k
    → pattern_line ws s ≡ Some (with_outlook (λ p. line.Pattern p) (entries k) s)
unfolding pattern_line
pattern_good ws s bs r m k h a e t = rw (h, settles (pattern_question bs) bs repeated (patterned r) m k a (patterned_known r m e) t) refl

pub other_bad : (ws : List (List ℕ)) (s : Read) → None ≡ said ws → other_line ws s ≡ None
unfolding other_line
other_bad ws s h = rw (sym h) refl

pub other_good : (ws : List (List ℕ)) (s : Read) (l : Line) → Some l ≡ said ws → other_line ws s ≡ Some (with_line l s)
unfolding other_line
other_good ws s l h = rw (sym h) refl

-- The limits' ways, over plain variables.
use Rattle.std.proofs.Common.{◌≡◌, ℕ, true, false, ℤ, pos, ◌≤ℤ◌, ◌<ℤ◌, sym, ap, ◌∙◌, arith}
use lib.Signed.{lt_z}
use Rattle.std.proofs.lemmas.Int.{ints}
use Rattle.logexp.specs.LogExp.{blog64}
use Rattle.logexp.specs.Held.{◌⊖◌}
use Rattle.model.specs.Scales.{exponent, powered}
use Rattle.model.specs.declared.filter.Filter.{Filter}
use Rattle.model.specs.declared.room.Room.{Room}
use Rattle.model.specs.Trims.{margin_of, soft_of, hard_of, scaled_pixels, hard_unless, filter_trim, unpowered, eased, share_of, soft_trim, hard_trim}

not_under : (a b : ℤ) → a ≤ℤ b → lt_z b a ≡ false
not_under a b h = grind (arith, ints)

is_under : (a b : ℤ) → a <ℤ b → lt_z a b ≡ true
is_under a b h = grind (arith, ints)

pub soft_none : (e : ℕ) (pixels q soft margin : ℤ) → soft ≤ℤ pos 0 → q ≡ soft_trim e pixels q soft margin
unfolding soft_trim
soft_none e pixels q soft margin h = rw (not_under soft (pos 0) h)

pub soft_still : (e : ℕ) (pixels q soft margin p d l : ℤ) → pos 0 <ℤ soft → p ≡ powered q (pos e) → d ≡ pixels ⊖ p → l ≡ blog64 soft → l ≤ℤ d
    → q ≡ soft_trim e pixels q soft margin
unfolding soft_trim
soft_still e pixels q soft margin p d l h e1 e2 e3 g =
    let u = is_under (pos 0) soft h in
    let t : lt_z (pixels ⊖ powered q (pos e)) (blog64 soft) ≡ false = ap (λ (x : ℤ). lt_z (pixels ⊖ x) (blog64 soft)) (sym e1) ∙ ap (λ (x : ℤ). lt_z x (blog64 soft)) (sym e2) ∙ ap (lt_z d) (sym e3) ∙ not_under l d g in
    rw (u, t)

pub soft_moved : (e : ℕ) (pixels q soft margin p d l s a r : ℤ) → pos 0 <ℤ soft → p ≡ powered q (pos e) → d ≡ pixels ⊖ p → l ≡ blog64 soft → d <ℤ l
    → s ≡ share_of margin soft → a ≡ eased p pixels l s → r ≡ unpowered a e
    → r ≡ soft_trim e pixels q soft margin
unfolding soft_trim
soft_moved e pixels q soft margin p d l s a r h e1 e2 e3 g e4 e5 e6 =
    let u = is_under (pos 0) soft h in
    let t : lt_z (pixels ⊖ powered q (pos e)) (blog64 soft) ≡ true = ap (λ (x : ℤ). lt_z (pixels ⊖ x) (blog64 soft)) (sym e1) ∙ ap (λ (x : ℤ). lt_z x (blog64 soft)) (sym e2) ∙ ap (lt_z d) (sym e3) ∙ is_under d l g in
    rw (u, t) (cc)

pub hard_still : (e : ℕ) (pixels q hard p d l : ℤ) → p ≡ powered q (pos e) → d ≡ pixels ⊖ p → l ≡ blog64 hard → d ≤ℤ l
    → q ≡ hard_trim e pixels q hard
unfolding hard_trim
hard_still e pixels q hard p d l e1 e2 e3 g =
    let t : lt_z (blog64 hard) (pixels ⊖ powered q (pos e)) ≡ false = ap (λ (x : ℤ). lt_z (blog64 hard) (pixels ⊖ x)) (sym e1) ∙ ap (lt_z (blog64 hard)) (sym e2) ∙ ap (λ (x : ℤ). lt_z x d) (sym e3) ∙ not_under d l g in
    rw t

pub hard_moved : (e : ℕ) (pixels q hard p d l s r : ℤ) → p ≡ powered q (pos e) → d ≡ pixels ⊖ p → l ≡ blog64 hard → l <ℤ d
    → s ≡ pixels ⊖ l → r ≡ unpowered s e → r ≡ hard_trim e pixels q hard
unfolding hard_trim
hard_moved e pixels q hard p d l s r e1 e2 e3 g e4 e5 =
    let t : lt_z (blog64 hard) (pixels ⊖ powered q (pos e)) ≡ true = ap (λ (x : ℤ). lt_z (blog64 hard) (pixels ⊖ x)) (sym e1) ∙ ap (lt_z (blog64 hard)) (sym e2) ∙ ap (λ (x : ℤ). lt_z x d) (sym e3) ∙ is_under l d g in
    rw t (cc)

pub trim_by : (f : Filter) (pixels q : ℤ) (room : Room) (s m w t g r : ℤ) (e : ℕ)
    → e ≡ exponent f → s ≡ scaled_pixels f pixels → m ≡ margin_of room.limit → w ≡ soft_of room m
    → t ≡ soft_trim e s q w m → g ≡ hard_of room → r ≡ hard_unless room.highest e s t g
    → r ≡ filter_trim f pixels q room
unfolding filter_trim
trim_by f pixels q room s m w t g r e e1 e2 e3 e4 e5 e6 e7 = cc

-- A call stops at its first no: one lemma for each question.
use Rattle.std.proofs.Common.{◌≡◌, ℕ, ◌*◌, ◌^◌, ◌<◌, ◌≤◌, Bool, true, false, leb, Some, None, Ok, Err, Option, Result, sym, refl, ap, ◌∙◌, arith}
use Rattle.tables.specs.declared.depth.Depth.{Depth}
use Rattle.quantize.specs.declared.sampling.ChromaSampling.{ChromaSampling}
use Rattle.std.specs.Option.{ok_or}
use Rattle.tables.specs.Depths.{depth_of}
use Rattle.quantize.specs.Planes.{sampling_of}
use Rattle.setup.specs.declared.refusal.Refusal.{Refusal}
use Rattle.setup.specs.declared.refusal.Refusal.TheVariants.{Size, Rate, Bitrate, Depth as NoDepth, Sampling, Indexes, Timing, Limit}
use Rattle.setup.specs.declared.settings.Settings.{Settings}
use Rattle.setup.specs.declared.settings.Accepted.{Accepted}
use Rattle.setup.specs.Tests.{in_range, lawful_highest, sized, rated, timed}
use Rattle.setup.specs.Opening.{Lawful, credit_of, units_of, limit_of, accepted_of}
use Rattle.setup.specs.Questions.{answered, and_then, typed, limited, accepted}

-- 0 for an answer, 1 for a refusal
abbrev tag : {X : Type 0} → Result X Refusal → ℕ
tag (Ok x) = 0
tag (Err e) = 1

-- an answer is no refusal
no_refusal : {X : Type 0} (x : X) (e : Refusal) → ◌≡◌ {A = Result X Refusal} (Ok x) (Err e) → ⊥
no_refusal x e h = let g : ◌≡◌ {A = ℕ} 0 1 = ap tag h in omega (arith, g)

-- a question before an answer was answered by yes
yes : {Y : Type 0} (a : Bool) (e : Refusal) (f : Unit {0} → Result Y Refusal) (y : Y) → Ok y ≡ and_then (answered a e) f → (a ≡ true) × (Ok y ≡ f tt)
yes true e f y h = (refl, h)
yes false e f y h = absurd (no_refusal y e h)

-- a question before an answer was answered by a value
some : {X Y : Type 0} (o : Option X) (e : Refusal) (f : X → Result Y Refusal) (y : Y) (P : Type 0) → ((x : X) → Ok y ≡ f x → P) → Ok y ≡ and_then (ok_or o e) f → P
some (Some x) e f y P k h = k x h
some None e f y P k h = absurd (no_refusal y e h)

-- what is typed has been asked questions 1, 2 and 7
pub lawful_of : (s : Settings) (p : Depth × ChromaSampling) → Ok p ≡ typed s → Lawful s
lawful_of s p h =
    let a = yes (sized s) Size _ p h in
    let b = yes (rated s) Rate _ p a.1 in
    let c = yes (in_range 1 2147483647 s.bitrate) Bitrate _ p b.1 in
    some (depth_of s.depth) NoDepth _ p (Lawful s)
    (λ d g.
    some (sampling_of s.sampling) Sampling _ p (Lawful s)
    (λ m g'.
    let e = yes (lawful_highest s.lowest s.highest) Indexes _ p g' in
    (a.0, b.0, (yes (timed s) Timing _ p e.1).0))
    g)
    c.1

-- what is typed has been asked question 6, and the figures keep both indexes
pub ordered_of : (s : Settings) (p : Depth × ChromaSampling) (k u : ℕ) (f : Accepted) → Ok p ≡ typed s → f ≡ accepted_of s p.0 p.1 k u → lawful_highest f.lowest f.highest ≡ true
ordered_of s p k u f h q =
    let T = lawful_highest s.lowest s.highest ≡ true in
    let a = yes (sized s) Size _ p h in
    let b = yes (rated s) Rate _ p a.1 in
    let c = yes (in_range 1 2147483647 s.bitrate) Bitrate _ p b.1 in
    rw q (some (depth_of s.depth) NoDepth _ p T (λ d g. some (sampling_of s.sampling) Sampling _ p T (λ m g'. (yes (lawful_highest s.lowest s.highest) Indexes _ p g').0) g) c.1)

product_is : (s : Settings) (k u : ℕ) → k ≡ credit_of s → u ≡ units_of s → k * u ≡ limit_of s
product_is s k u p q = ap (λ (x : ℕ). x * u) p ∙ ap (λ (x : ℕ). credit_of s * x) q

pub limit_over : (s : Settings) (p : Depth × ChromaSampling) (k u : ℕ) → Ok p ≡ typed s → k ≡ credit_of s → u ≡ units_of s → 2 ^ 35 < k * u
    → ◌≡◌ {A = Result Accepted Refusal} (Err Limit) (accepted s)
limit_over s p k u h e g l =
    let t : leb (k * u) (2 ^ 35) ≡ false = grind arith in
    let w : leb (limit_of s) (2 ^ 35) ≡ false = ap (λ (x : ℕ). leb x (2 ^ 35)) (sym (product_is s k u e g)) ∙ t in
    let v : limited s p ≡ Err Limit = rw w refl in
    sym v ∙ ap (λ (r : Result (Depth × ChromaSampling) Refusal). and_then r (limited s)) h

pub limit_kept : (s : Settings) (p : Depth × ChromaSampling) (k u : ℕ) (f : Accepted) → Ok p ≡ typed s → k ≡ credit_of s → u ≡ units_of s → k * u ≤ 2 ^ 35
    → f ≡ accepted_of s p.0 p.1 k u → Ok f ≡ accepted s
limit_kept s p k u f h e g l q =
    let t : leb (k * u) (2 ^ 35) ≡ true = grind arith in
    let w : leb (limit_of s) (2 ^ 35) ≡ true = ap (λ (x : ℕ). leb x (2 ^ 35)) (sym (product_is s k u e g)) ∙ t in
    let v : limited s p ≡ Ok (accepted_of s p.0 p.1 (credit_of s) (units_of s)) = rw w refl in
    let z : f ≡ accepted_of s p.0 p.1 (credit_of s) (units_of s) =
    q ∙ ap (λ (x : ℕ). accepted_of s p.0 p.1 x u) e ∙ ap (λ (x : ℕ). accepted_of s p.0 p.1 (credit_of s) x) g in
    ap Ok z ∙ sym v ∙ ap (λ (r : Result (Depth × ChromaSampling) Refusal). and_then r (limited s)) h

-- The making of a curve, over plain variables.
use Rattle.std.proofs.Common.{◌≡◌, ℕ, ◌/◌, List, [], ◌∷◌, ℤ, pos, Ok, Result, ap, ◌∙◌, w64, SFits, to_z, of_z}
use Rattle.std.proofs.lemmas.Int.{to_z-of_z}
use Rattle.logexp.specs.LogExp.{blog64}
use Rattle.model.specs.Scales.{fresh_filter}
use Rattle.setup.specs.Opening.{pixels_of, credit_of, units_of}
use Rattle.model.specs.Curves.{guessed, fresh_filters, curve_of, curve_made}
use Rattle.setup.specs.Questions.{and_then, accepted}
use Rattle.setup.specs.declared.refusal.Refusal.{Refusal}
use Rattle.setup.specs.declared.settings.Accepted.{Accepted}
use Rattle.model.specs.declared.filter.Filter.{Filter}
use Rattle.model.specs.declared.filter.Guess.{Guess}
use Rattle.setup.specs.declared.settings.Settings.{Settings}
use Rattle.model.specs.declared.curve.Curve.{Curve}

one : (f : Filter) (g h : Guess) (d : ℕ) → g ≡ h → f ≡ fresh_filter g d → f ≡ fresh_filter h d
one f g h d p q = q ∙ ap (λ (x : Guess). fresh_filter x d) p

four : (a b c d a' b' c' d' : Filter) → a ≡ a' → b ≡ b' → c ≡ c' → d ≡ d' → ◌≡◌ {A = List Filter} (a ∷ b ∷ c ∷ d ∷ []) (a' ∷ b' ∷ c' ∷ d' ∷ [])
four a b c d a' b' c' d' p q r s = cc

pub filters_by : (n : ℕ) (g1 g2 g3 g4 : Guess) (f1 f2 f3 f4 : Filter)
    → g1 ≡ guessed n 1 4 (record { exp = 48; eighths = 36 }) (record { exp = 61; eighths = 55 }) (record { exp = 77; eighths = 129 }) → f1 ≡ fresh_filter g1 4
    → g2 ≡ guessed n 2 139 (record { exp = 69; eighths = 32 }) (record { exp = 104; eighths = 84 }) (record { exp = 83; eighths = 19 }) → f2 ≡ fresh_filter g2 10
    → g3 ≡ guessed n 2 92 (record { exp = 84; eighths = 30 }) (record { exp = 120; eighths = 68 }) (record { exp = 68; eighths = 4 }) → f3 ≡ fresh_filter g3 10
    → g4 ≡ guessed n 2 126 (record { exp = 87; eighths = 27 }) (record { exp = 139; eighths = 84 }) (record { exp = 61; eighths = 1 }) → f4 ≡ fresh_filter g4 10
    → (f1 ∷ f2 ∷ f3 ∷ f4 ∷ []) ≡ fresh_filters n
unfolding fresh_filters
filters_by n g1 g2 g3 g4 f1 f2 f3 f4 p1 q1 p2 q2 p3 q3 p4 q4 =
    four f1 f2 f3 f4 _ _ _ _ (one f1 g1 _ 4 p1 q1) (one f2 g2 _ 10 p2 q2) (one f3 g3 _ 10 p3 q3) (one f4 g4 _ 10 p4 q4)

pub curve_by : (s : Settings) (n k u : ℕ) (fs : List Filter) (z b : ℤ) → SFits w64 b → n ≡ pixels_of s
    → k ≡ credit_of s → fs ≡ fresh_filters (n / k) → z ≡ pos n → b ≡ blog64 z → u ≡ units_of s
    → record { filters = fs; log_npixels = to_z w64 (of_z w64 b); inter_delay_target = u / 2 } ≡ curve_of s
unfolding curve_of
curve_by s n k u fs z b f e0 e1 e2 e3 e4 e5 =
    let t = to_z-of_z w64 b f in
    cc

pub made_so : (s : Settings) (a : Accepted) (c : Curve) → Ok a ≡ accepted s → c ≡ curve_of s → Ok c ≡ curve_made s
made_so s a c h e = ap Ok e ∙ ap (λ (r : Result Accepted Refusal). and_then r (λ _. Ok (curve_of s))) h

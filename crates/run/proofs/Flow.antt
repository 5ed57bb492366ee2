-- The fullness as it runs through a ledger, and what that says of the sums and of the charges.
use Rattle.std.proofs.Common.{◌≡◌, zero, suc, ◌⊎◌, List, [], ◌∷◌, ◌++◌, ℤ, pos, ◌+ℤ◌, ◌-ℤ◌, neg_ℤ, ◌≤ℤ◌, refl, inl, inr, ⊎_elim, arith}
use Rattle.std.specs.Int.{int_min}
use Rattle.std.specs.List.{ContainsAt}
use Rattle.std.proofs.lemmas.Int.{ints, clamps, by_lt_z}
use Rattle.run.specs.Ledger.{Entry, credits, charges, capped_sums, sums}
use Rattle.run.specs.Laws.{Least}

has_here : (x y : ℤ) (ys : List ℤ) → y ≡ x → ContainsAt (y ∷ ys) x
has_here x y ys e = (0, omega arith, λ d. e)

has_there : (x y : ℤ) (ys : List ℤ) → ContainsAt ys x → ContainsAt (y ∷ ys) x
has_there x y ys h = (suc h.0, omega (arith, h.1), λ d. h.2 d)

has_cases : (x y : ℤ) (ys : List ℤ) → ContainsAt (y ∷ ys) x → (y ≡ x) ⊎ ContainsAt ys x
has_cases x y ys (zero, l, a) = inl (a x)
has_cases x y ys (suc k, l, a) = inr (k, omega arith, λ d. a d)

module _ (limit : ℤ) where
  -- the fullness after an entry
  abbrev pub settle : ℤ → Entry → ℤ
  settle f e = int_min limit (f -ℤ e.charge +ℤ e.credit)

  -- and after a ledger
  abbrev pub flow : ℤ → List Entry → ℤ
  flow f [] = f
  flow f (e ∷ es) = flow (settle f e) es

  pub flow_append : (f : ℤ) (xs ys : List Entry) → flow f (xs ++ ys) ≡ flow (flow f xs) ys
  flow_append f [] ys = refl
  flow_append f (e ∷ xs) ys = flow_append (settle f e) xs ys

  -- it is the least of the sums
  pub least : (f : ℤ) (es : List Entry) → Least (flow f es) (sums f limit es)
  least f [] =
      record { reached = has_here f (f +ℤ pos 0 -ℤ pos 0) [] (omega (arith, ints)); bound = (omega (arith, ints), tt) }
  least f (e ∷ es) =
      let k = least (settle f e) es in
      let b = k.bound.0 in
      let r : ℤ = flow (settle f e) es in
      let all : ℤ = f +ℤ credits (e ∷ es) -ℤ charges (e ∷ es) in
      let rest : ℤ = limit +ℤ credits es -ℤ charges es in
      record {
        reached = ⊎_elim
            (λ (q : settle f e +ℤ credits es -ℤ charges es ≡ flow (settle f e) es).
            by_lt_z limit (f -ℤ e.charge +ℤ e.credit)
            (λ l. has_there r all (capped_sums limit (e ∷ es)) (has_here r rest (capped_sums limit es) (omega (arith, ints, clamps))))
            (λ l. has_here r all (capped_sums limit (e ∷ es)) (omega (arith, ints, clamps))))
            (λ (q : ContainsAt (capped_sums limit es) (flow (settle f e) es)).
            has_there r all (capped_sums limit (e ∷ es)) (has_there r rest (capped_sums limit es) q))
            (has_cases r (settle f e +ℤ credits es -ℤ charges es) (capped_sums limit es) k.reached);
        bound = (omega (arith, ints, clamps), (omega (arith, ints, clamps), k.bound.1));
      }

  pub flow_full : (f : ℤ) (es : List Entry) → f ≤ℤ limit → flow f es ≤ℤ limit
  flow_full f [] h = h
  flow_full f (e ∷ es) h = flow_full (settle f e) es (omega (arith, ints, clamps))

  module _ (credit : ℤ) where
    -- the fullness never lies more than a credit under 0
    abbrev pub Above : ℤ → List Entry → Type 0
    Above f [] = neg_ℤ credit ≤ℤ f
    Above f (e ∷ es) = (neg_ℤ credit ≤ℤ f) × Above (settle f e) es

    pub above_head : (f : ℤ) (es : List Entry) → Above f es → neg_ℤ credit ≤ℤ f
    above_head f [] a = a
    above_head f (e ∷ es) a = a.0

    pub above_append : (f : ℤ) (xs ys : List Entry) → Above f (xs ++ ys) → Above (flow f xs) ys
    above_append f [] ys a = a
    above_append f (e ∷ xs) ys a = above_append (settle f e) xs ys a.1

    pub above_join : (f : ℤ) (xs ys : List Entry) → Above f xs → Above (flow f xs) ys → Above f (xs ++ ys)
    above_join f [] ys a b = b
    above_join f (e ∷ xs) ys a b = (a.0, above_join (settle f e) xs ys a.1 b)

    pub above_end : (f : ℤ) (xs : List Entry) → Above f xs → neg_ℤ credit ≤ℤ flow f xs
    above_end f [] a = a
    above_end f (e ∷ xs) a = above_end (settle f e) xs a.1

    -- so that a stretch is charged no more than was there, what it brings, and a credit
    pub stretch_charges : (f : ℤ) (before stretch after : List Entry) → f ≤ℤ limit → Above f (before ++ (stretch ++ after)) → charges stretch ≤ℤ (limit +ℤ credits stretch +ℤ credit)
    stretch_charges f before stretch after h a =
        let full = flow_full f before h in
        let low = above_head (flow (flow f before) stretch) after (above_append (flow f before) stretch after (above_append f before (stretch ++ after) a)) in
        let le = (least (flow f before) stretch).bound.0 in
        omega (arith, ints)

-- The twelve worked figures, by the definitions that the contracts cite.
use Rattle.std.specs.Prelude.{◌≡◌, ℕ, ◌+◌, ◌*◌, ◌/◌, ◌^◌, Bool, true, false, List, [], ◌++◌, ℤ, pos, negsuc, None, Ok, Option}
use Rattle.logexp.specs.LogExp.{blog64, bexp64}
use Rattle.model.specs.Meaning.{Meaning}
use Rattle.tables.specs.Tables.{ac8, dc8}
use Rattle.tables.specs.Choice.{index}
use Rattle.quantize.specs.Indexes.{lowest, highest}
use Rattle.bessel.specs.Tangent.{warped}
use Rattle.flat.specs.Flat.{code_of}
use Rattle.flat.specs.declared.subtype.Subtype.{Subtype}
use Rattle.calls.specs.declared.call.Call.{Call}
use Rattle.calls.specs.declared.call.Call.TheVariants.{Choose, Report}
use Rattle.calls.specs.declared.answer.Decision.{Decision}
use Rattle.calls.specs.declared.answer.Answer.TheVariants.{Chosen, Charged}
use Rattle.controller.specs.Opening.{opened}
use Rattle.controller.specs.Performing.{entries_at, answer_to}
use Rattle.run.specs.Answers.{State, state_after, state_after_all}
use Rattle.figures.specs.Worked.{worked_settings, worked_core, frame}

-- the figures at any model, by its meaning, and any outlooks
module _ {M O : Type 0} (meaning : Meaning M) (entries : O → List ℕ) where
  -- the worked controller over a model, with dropping on or off
  abbrev pub worked : Bool → M → State M
  worked dropping m = record { core = worked_core dropping; model = m }

  -- its fullness after calls
  abbrev pub fullness_after : List O → M → List Call → ℤ
  fullness_after outlooks m calls = (state_after_all meaning entries outlooks (worked false m) calls).core.reservoir.fullness

  -- with dropping on, and after a choice for an I frame
  abbrev pub chosen : List O → M → State M
  chosen outlooks m = state_after meaning entries outlooks (worked true m) (Choose 0 0 None (pos 0))

  -- a droppable report of bits at 279,888, the fullness and one credit, and one above
  pub record Drops (outlooks : List O) (m : M) : Type 0 where
    pub opens : opened (worked_settings true) ≡ Ok (worked_core true)
    pub charged : answer_to meaning entries outlooks (chosen outlooks m).core (chosen outlooks m).model (Report 1 279888 true true) ≡ Charged (record { charge = 279888; dropped = false })
    pub leaves : (state_after meaning entries outlooks (chosen outlooks m) (Report 1 279888 true true)).core.reservoir.fullness ≡ pos 0
    pub dropped : answer_to meaning entries outlooks (chosen outlooks m).core (chosen outlooks m).model (Report 1 279889 true true) ≡ Charged (record { charge = 0; dropped = true })

  -- a choice with nothing ahead on the fresh controller: total 0, after one try
  abbrev pub NothingAhead : List O → M → Type 0
  NothingAhead outlooks m =
      (k : Subtype) (i : ℕ) (previous : Option ℤ) (mean : ℤ) → entries_at entries outlooks i ≡ []
      → (d : Decision) × (answer_to meaning entries outlooks (worked_core false) m (Choose (code_of k) i previous mean) ≡ Chosen 1 d)
      × (d.total ≡ pos 0) × (d.tries ≡ 1)

  pub record Figures : Type 0 where
    -- 1: the logarithm of 0, and of 2^62 + 1
    pub logarithm : (blog64 (pos 0) ≡ negsuc 0) × (blog64 (pos (2 ^ 62 + 1)) ≡ pos (62 * 2 ^ 57))
    -- 2: the power of two of -1 (in Q57), of 0, and of 62
    pub power : (bexp64 (negsuc 0) ≡ pos 0) × (bexp64 (pos 0) ≡ pos 1) × (bexp64 (pos (62 * 2 ^ 57)) ≡ pos (2 ^ 62))
    -- 3: AC at 8 bits, 5 and 6
    pub first_ac : (index ac8 (pos 5) ≡ 0) × (index ac8 (pos 6) ≡ 1)
    -- 4: AC at 8 bits, one below the last entry, and the last entry
    pub last_ac : (index ac8 (pos 1827) ≡ 255) × (index ac8 (pos 1828) ≡ 255)
    -- 5: DC at 8 bits, the lower of two equal entries, and 86, between 85 and 87
    pub dc : (index dc8 (pos 8) ≡ 1) × (index dc8 (pos 86) ≡ 96)
    -- 6: the indexes that a luma AC index of 10 allows, and those of 200
    pub reach : (◌≡◌ {A = ℕ} (lowest 10) 1) × (◌≡◌ {A = ℕ} (highest 10) 73) × (◌≡◌ {A = ℕ} (lowest 200) 137) × (◌≡◌ {A = ℕ} (highest 200) 255)
    -- 7: the tangents of the delays 4 and 10
    pub tangent : (warped (2 ^ 24 / 4) ≡ 4096) × (warped (2 ^ 24 / 10) ≡ 1333)
    -- 8: credit 39,984, limit 479,808 and fullness 239,904
    pub opening : opened (worked_settings false) ≡ Ok (worked_core false)
    -- 9: a shown report of 100,000
    pub report : (outlooks : List O) (m : M) → fullness_after outlooks m (frame 1 100000) ≡ pos 179888
    -- 10: six shown reports of 0 reach the limit, and a seventh leaves it
    pub cap : (outlooks : List O) (m : M)
        → (fullness_after outlooks m (frame 1 0 ++ frame 2 0 ++ frame 3 0 ++ frame 4 0 ++ frame 5 0 ++ frame 6 0) ≡ pos 479808)
        × (fullness_after outlooks m (frame 1 0 ++ frame 2 0 ++ frame 3 0 ++ frame 4 0 ++ frame 5 0 ++ frame 6 0 ++ frame 7 0) ≡ pos 479808)
    -- 11: with dropping on, 279,888 droppable is charged and leaves 0, and 279,889 is dropped
    pub drops : (outlooks : List O) (m : M) → Drops outlooks m
    -- 12: with an empty list, total is 0 and tries is 1
    pub nothing_ahead : (outlooks : List O) (m : M) → NothingAhead outlooks m

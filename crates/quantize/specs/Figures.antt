-- The worked figures of this layer, by the definitions that the contracts use.
use Rattle.std.specs.Prelude.{◌≡◌, ℕ, pos}
use Rattle.tables.specs.Tables.{ac8, dc8}
use Rattle.tables.specs.Choice.{index}
use Rattle.quantize.specs.Indexes.{lowest, highest}

pub record Figures : Type 0 where
  -- AC at 8 bits: 5 is below the second entry by more than half a step of the logarithm, 6 is not
  pub ac_5 : index ac8 (pos 5) ≡ 0
  pub ac_6 : index ac8 (pos 6) ≡ 1
  -- one below the last entry, and the last entry
  pub ac_1827 : index ac8 (pos 1827) ≡ 255
  pub ac_1828 : index ac8 (pos 1828) ≡ 255
  -- DC at 8 bits: the lower of two equal entries, and between 85 and 87
  pub dc_8 : index dc8 (pos 8) ≡ 1
  pub dc_86 : index dc8 (pos 86) ≡ 96
  -- a luma AC index of 10 allows 1 to 73, one of 200 allows 137 to 255
  pub low_10 : ◌≡◌ {A = ℕ} (lowest 10) 1
  pub high_10 : ◌≡◌ {A = ℕ} (highest 10) 73
  pub low_200 : ◌≡◌ {A = ℕ} (lowest 200) 137
  pub high_200 : ◌≡◌ {A = ℕ} (highest 200) 255

-- The quantizer of a frame as a whole, and what holds of each.
use Rattle.std.specs.Prelude.{◌≡◌, ℕ, ◌≤◌, Bool, true, false, cond, List, [], ◌∷◌, ℤ, slice_index, slice_index_or, Float}
use Rattle.std.specs.List.{AllByRecursion}
use Rattle.tables.specs.declared.depth.Depth.{Depth}
use Rattle.planes.specs.declared.sampling.ChromaSampling.{ChromaSampling}
use Rattle.quantize.specs.declared.answer.Scales.{Scales}
use Rattle.quantize.specs.declared.answer.Scales.TheVariants.{Mono, Colour}
use Rattle.quantize.specs.declared.answer.QuantizerParameters.{QuantizerParameters}
use Rattle.quantize.specs.Scale.{Exact}
use Rattle.planes.specs.Planes.{monochrome, luma_log, chroma_u, chroma_v}
use Rattle.quantize.specs.Indexes.{scale_of, luma_index, dc_index, ac_index, GoesWith}

-- monochrome chroma indexes are 0
abbrev pub chroma : Bool → ℕ → ℕ
chroma mono i = cond mono 0 i

-- the three DC indexes, from luma's log y
abbrev pub dc_of : ℤ → Depth → ChromaSampling → ℤ → List ℕ
dc_of y d s mean =
    dc_index (luma_index y d mean) y d mean
    ∷ chroma (monochrome s) (dc_index (luma_index y d mean) (chroma_u y mean s) d mean)
    ∷ chroma (monochrome s) (dc_index (luma_index y d mean) (chroma_v y mean s) d mean)
    ∷ []

-- the three AC indexes, from luma's log y
abbrev pub ac_of : ℤ → Depth → ChromaSampling → ℤ → List ℕ
ac_of y d s mean =
    luma_index y d mean
    ∷ chroma (monochrome s) (ac_index (luma_index y d mean) (chroma_u y mean s) d mean)
    ∷ chroma (monochrome s) (ac_index (luma_index y d mean) (chroma_v y mean s) d mean)
    ∷ []

-- a monochrome answer carries one scale, a colour answer three
abbrev pub scales_of : ℤ → ℤ → ℤ → ChromaSampling → Scales
scales_of target y mean s =
    cond (monochrome s) (Mono (scale_of target y))
    (Colour (scale_of target y) (scale_of target (chroma_u y mean s)) (scale_of target (chroma_v y mean s)))

-- the quantizer of a frame: two logs that are carried, and indexes and scales by luma's log
unfoldable pub parameters_of : ℤ → ℤ → Depth → ChromaSampling → Bool → ℤ → QuantizerParameters
parameters_of logBase target d s intra mean = record {
  log_base_q = logBase;
  log_target_q = target;
  dc_qi = dc_of (luma_log target d s intra) d s mean;
  ac_qi = ac_of (luma_log target d s intra) d s mean;
  scales = scales_of target (luma_log target d s intra) mean s;
}

-- the scales of an answer as a list
abbrev pub scale_list : Scales → List Float
scale_list (Mono y) = y ∷ []
scale_list (Colour y u v) = y ∷ u ∷ v ∷ []

-- how many scales an answer carries
abbrev pub scale_count : Scales → ℕ
scale_count (Mono y) = 1
scale_count (Colour y u v) = 3

-- a chroma index beside the luma AC index a: it goes with it, or is 0 where there is no chroma
abbrev pub ChromaGoes : Bool → ℕ → ℕ → Type 0
ChromaGoes true a r = r ≡ 0
ChromaGoes false a r = GoesWith a r

-- the indexes of an answer: luma AC is 1 to 255, and every other goes with it
pub record Reaches (s : ChromaSampling) (dc ac : List ℕ) : Type 0 where
  pub least : 1 ≤ slice_index ac 0
  pub most : slice_index_or ac 0 0 ≤ 255
  pub luma : GoesWith (slice_index ac 0) (slice_index dc 0)
  pub dc_u : ChromaGoes (monochrome s) (slice_index ac 0) (slice_index dc 1)
  pub dc_v : ChromaGoes (monochrome s) (slice_index ac 0) (slice_index dc 2)
  pub ac_u : ChromaGoes (monochrome s) (slice_index ac 0) (slice_index ac 1)
  pub ac_v : ChromaGoes (monochrome s) (slice_index ac 0) (slice_index ac 2)

-- what holds of every answer at a sampling
pub record Lawful (s : ChromaSampling) (r : QuantizerParameters) : Type 0 where
  pub indexes : Reaches s r.dc_qi r.ac_qi
  -- one scale or three, each a whole number of 65,536ths
  pub count : scale_count r.scales ≡ cond (monochrome s) 1 3
  pub exact : AllByRecursion Exact (scale_list r.scales)

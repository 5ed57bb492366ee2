-- Every index of an answer goes with its luma AC index.
use Rattle.std.proofs.Common.{◌≡◌, ℕ, ◌≤◌, Bool, true, false, cond, ℤ, sym, refl, subst, arith}
use Rattle.tables.specs.declared.depth.Depth.{Depth}
use Rattle.planes.specs.declared.sampling.ChromaSampling.{ChromaSampling}
use Rattle.quantize.specs.declared.answer.QuantizerParameters.{QuantizerParameters}
use Rattle.quantize.specs.declared.answer.Scales.TheVariants.{Mono, Colour}
use Rattle.planes.specs.Planes.{monochrome, luma_log, chroma_u, chroma_v}
use Rattle.quantize.specs.Indexes.{within, scale_of, luma_index, GoesWith, AllBrought}
use Rattle.quantize.specs.Answer.{chroma, dc_of, ac_of, scales_of, scale_count, parameters_of, ChromaGoes, Reaches, Lawful}
use Rattle.quantize.proofs.Quotients.{scales_exact}

goes : (a i : ℕ) → 1 ≤ a → a ≤ 255 → GoesWith a (within a i)
goes a i h k = record { least = omega arith; most = omega arith; under_by = omega arith; over_by = omega arith }

pub brought : AllBrought
brought a i h k = record {
  goes = goes a i h k;
  same = λ x y. omega arith;
  raised = λ x. omega arith;
  lowered = λ x. omega arith;
}

-- a chroma index, with or without chroma
chroma_goes : (mono : Bool) (a i : ℕ) → 1 ≤ a → a ≤ 255 → ChromaGoes mono a (chroma mono (within a i))
chroma_goes true a i h k = refl
chroma_goes false a i h k = goes a i h k

-- luma's AC index is a byte
module _ (y : ℤ) (d : Depth) (s : ChromaSampling) (mean : ℤ) (luma-most : luma_index y d mean ≤ 255) where
  luma_least : 1 ≤ luma_index y d mean
  luma_least = omega arith

  pub reaches : Reaches s (dc_of y d s mean) (ac_of y d s mean)
  reaches = record {
    least = luma_least;
    most = luma-most;
    luma = goes _ _ luma_least luma-most;
    dc_u = chroma_goes (monochrome s) _ _ luma_least luma-most;
    dc_v = chroma_goes (monochrome s) _ _ luma_least luma-most;
    ac_u = chroma_goes (monochrome s) _ _ luma_least luma-most;
    ac_v = chroma_goes (monochrome s) _ _ luma_least luma-most;
  }

counted : (target y mean : ℤ) (s : ChromaSampling) → scale_count (scales_of target y mean s) ≡ cond (monochrome s) 1 3
counted target y mean s = go (monochrome s)
  where
    go : (b : Bool) → scale_count (cond b (Mono (scale_of target y)) (Colour (scale_of target y) (scale_of target (chroma_u y mean s)) (scale_of target (chroma_v y mean s)))) ≡ cond b 1 3
    go true = refl
    go false = refl

lawful : (logBase target : ℤ) (d : Depth) (s : ChromaSampling) (intra : Bool) (mean : ℤ) → luma_index (luma_log target d s intra) d mean ≤ 255 → Lawful s (parameters_of logBase target d s intra mean)
unfolding parameters_of
lawful logBase target d s intra mean most = record {
  indexes = reaches (luma_log target d s intra) d s mean most;
  count = counted target (luma_log target d s intra) mean s;
  exact = scales_exact target (luma_log target d s intra) mean s;
}

-- a quantizer by its parts, and what holds of it
pub whole : (logBase target : ℤ) (d : Depth) (s : ChromaSampling) (intra : Bool) (mean : ℤ) (r : QuantizerParameters)
    → r.log_base_q ≡ logBase → r.log_target_q ≡ target
    → r.dc_qi ≡ dc_of (luma_log target d s intra) d s mean → r.ac_qi ≡ ac_of (luma_log target d s intra) d s mean
    → r.scales ≡ scales_of target (luma_log target d s intra) mean s
    → luma_index (luma_log target d s intra) d mean ≤ 255
    → (r ≡ parameters_of logBase target d s intra mean) × Lawful s r
unfolding parameters_of
whole logBase target d s intra mean r b t dc ac sc most =
    let e : r ≡ parameters_of logBase target d s intra mean = rw (b, t, dc, ac, sc) in
    (e, subst (Lawful s) (sym e) (lawful logBase target d s intra mean most))

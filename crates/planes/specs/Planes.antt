-- The samplings, and the log quantizers of a frame's three planes.
use Rattle.std.specs.Prelude.{ℕ, Bool, true, false, cond, ℤ, pos, neg_ℤ, Some, None, Option, ◌==◌}
use Rattle.std.specs.Int.{int_max}
use Rattle.logexp.specs.Held.{◌⊕◌, ◌⊖◌, ◌⊗◌, ◌≫◌}
use Rattle.tables.specs.declared.depth.Depth.{Depth}
use Rattle.tables.specs.declared.depth.Depth.TheVariants.{Eight, Ten, Twelve}
use Rattle.planes.specs.declared.sampling.ChromaSampling.{ChromaSampling}
use Rattle.planes.specs.declared.sampling.ChromaSampling.TheVariants.{Cs420, Cs422, Cs444, Cs400}

-- is the sampling 0, 1, 2 or 3?
abbrev pub sampling_of : ℕ → Option ChromaSampling
sampling_of code =
    cond (code == 0) (Some Cs420) (cond (code == 1) (Some Cs422) (cond (code == 2) (Some Cs444) (cond (code == 3) (Some Cs400) None)))

-- is there no chroma?
abbrev pub monochrome : ChromaSampling → Bool
monochrome Cs420 = false
monochrome Cs422 = false
monochrome Cs444 = false
monochrome Cs400 = true

-- what the chroma offsets lose at a log x
abbrev pub gradient : ℤ → ChromaSampling → ℤ
gradient x Cs420 = x ≫ 2 ⊕ x ≫ 6
gradient x Cs422 = x ≫ 3 ⊕ x ≫ 4 ⊖ x ≫ 7
gradient x Cs444 = x ≫ 4 ⊕ x ≫ 5 ⊕ x ≫ 8
gradient x Cs400 = pos 0

-- how far U lies from luma at a log: log 7/4, less the gradient at the log or at 0
abbrev pub offset_u : ℤ → ChromaSampling → ℤ
offset_u q s = pos 0x19D_5D9F_D501_0B37 ⊖ gradient (int_max q (pos 0)) s

-- how far V lies from luma at a log: log 5/4, less the gradient at the log or at 0
abbrev pub offset_v : ℤ → ChromaSampling → ℤ
offset_v q s = pos 0xA4_D3C2_5E68_DC58 ⊖ gradient (int_max q (pos 0)) s

-- the slope of the line for 8-bit inter frames, in units of 2^-32
abbrev pub model_mul : ChromaSampling → ℤ
model_mul Cs420 = pos 0x8A0_50DD
model_mul Cs422 = pos 0x887_7666
model_mul Cs444 = pos 0x8D4_A712
model_mul Cs400 = pos 0

-- its height at 0
abbrev pub model_add : ChromaSampling → ℤ
model_add Cs420 = neg_ℤ (pos 0x24_4FE7_ECB3_DD90)
model_add Cs422 = neg_ℤ (pos 0x37_41DA_38AD_0924)
model_add Cs444 = neg_ℤ (pos 0x70_83BD_A626_311C)
model_add Cs400 = pos 0

-- the line
abbrev pub modelled : ℤ → ChromaSampling → ℤ
modelled q s = q ⊕ q ≫ 32 ⊗ model_mul s ⊕ model_add s

-- the log of the luma quantizer: on the line for 8-bit inter frames, else the frame's own
abbrev pub luma_log : ℤ → Depth → ChromaSampling → Bool → ℤ
luma_log q Eight s true = q
luma_log q Eight s false = modelled q s
luma_log q Ten s intra = q
luma_log q Twelve s intra = q

-- the log of U's quantizer, from luma's log y
abbrev pub chroma_u : ℤ → ℤ → ChromaSampling → ℤ
chroma_u y mean s = y ⊕ offset_u (y ⊕ mean) s

-- the log of V's quantizer, from luma's log y
abbrev pub chroma_v : ℤ → ℤ → ChromaSampling → ℤ
chroma_v y mean s = y ⊕ offset_v (y ⊕ mean) s

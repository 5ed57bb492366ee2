-- What a base predicts, by the meaning of a bit model.
use Rattle.std.specs.Prelude.{ℕ, List, ℤ, pos, slice_index}
use Rattle.logexp.specs.Held.{◌⊕◌, ◌⊗◌}
use Rattle.flat.specs.Flat.{code_of, log_q_of}
use Rattle.flat.specs.declared.subtype.Subtype.{Subtype}
use Rattle.flat.specs.declared.subtype.Subtype.TheVariants.{I, P, B0, B1}
use Rattle.model.specs.Meaning.{Meaning}
use Rattle.calls.specs.Numbers.{sef_bits}

-- a sum with the bits of so many frames of a subtype
unfoldable pub with_share : {M : Type 0} → Meaning M → M → Subtype → ℕ → ℤ → ℤ → ℤ
with_share meaning m k frames base sum = sum ⊕ pos frames ⊗ pos (meaning.count m (code_of k) (log_q_of k base))

-- the bits that a base predicts, by the counts of the five subtypes: I, P, B0, B1, then the shows of existing frames
unfoldable pub forecast : {M : Type 0} → Meaning M → M → List ℕ → ℤ → ℤ
forecast meaning m kinds base =
    with_share meaning m B1 (slice_index kinds 3) base
    (with_share meaning m B0 (slice_index kinds 2) base
    (with_share meaning m P (slice_index kinds 1) base (with_share meaning m I (slice_index kinds 0) base (pos 0))))
    ⊕ pos (slice_index kinds 4) ⊗ pos sef_bits

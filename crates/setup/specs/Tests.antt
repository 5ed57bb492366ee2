-- The tests of settings, one for each question that has no type of its own.
use Rattle.std.specs.Prelude.{ℕ, Bool, true, ◌&&◌, Some, None, Option, nat_le}
use Rattle.setup.specs.declared.settings.Settings.{Settings}

-- is n within low and high?
abbrev pub in_range : ℕ → ℕ → ℕ → Bool
in_range low high n = nat_le low n && nat_le n high

-- is the delay absent, or 12 to 1,024?
abbrev pub lawful_delay : Option ℕ → Bool
lawful_delay None = true
lawful_delay (Some d) = in_range 12 1024 d

-- is the highest index absent, or not under the lowest?
abbrev pub lawful_highest : ℕ → Option ℕ → Bool
lawful_highest low None = true
lawful_highest low (Some h) = nat_le low h

-- are width and height each 1 to 65,536?
abbrev pub sized : Settings → Bool
sized s = in_range 1 65536 s.width && in_range 1 65536 s.height

-- are the frame rate's numerator and denominator each 1 to 1,000,000?
abbrev pub rated : Settings → Bool
rated s = in_range 1 1000000 s.numerator && in_range 1 1000000 s.denominator

-- is the key interval 1 to 10,000, and the delay lawful?
abbrev pub timed : Settings → Bool
timed s = in_range 1 10000 s.interval && lawful_delay s.delay

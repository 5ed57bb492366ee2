-- The binary exponential and the binary logarithm by CORDIC, in whole numbers: the definitions that
-- `bexp64` and `blog64` are proved equal to. Q57 says that 2^57 stands for 1, and Q61 that 2^61 does.
use Rattle.std.specs.Prelude.{ℕ, zero, suc, ◌+◌, ◌-◌, ◌*◌, ◌/◌, ◌^◌, cond, ℤ, pos, negsuc, ◌+ℤ◌, ◌-ℤ◌, ◌*ℤ◌, ◌==◌, nat_lt, unsigned_abs}
use Rattle.std.specs.Int.Count.{count_leading_zeros}
use Rattle.logexp.specs.Cordic.{counted, upto, steps, atanhs, step, atanh, along, shr}
use Rattle.logexp.specs.Held.{held}
use Rattle.logexp.specs.declared.exp.Exp.{Exp}
use Rattle.logexp.specs.declared.exp.Tail.{Tail}
use Rattle.logexp.specs.declared.log.Log.{Log}

-- ---- the exponential

-- z doubles after turn k unless its step comes again
unfoldable pub factor : ℕ → ℕ
factor k = cond (step (k + 1) == step k) 1 2

-- z after turn k: nearer to 0 by the turn's constant, then doubled unless its step comes again
unfoldable pub turned : ℕ → ℤ → ℤ
turned k z = (z -ℤ along z (pos (atanh (step k)))) *ℤ pos (factor k)

-- turn k: w grows by its part w / 2^(step + 1) where z is not negative, else it shrinks by it
unfoldable pub exp_turn : ℕ → Exp → Exp
exp_turn k e =
    record { w = e.w +ℤ along e.z (shr e.w (step k + 1)); z = turned k e.z }

-- the state after k turns: w starts at 2^61 divided by the product of sqrt(1 - 4^-(i + 1)) over the steps i, which the turns multiply it by whatever their signs
unfoldable pub exp_turns : ℤ → ℕ → Exp
exp_turns z zero = record { w = pos 0x26A3D0E401DD846D; z = z }
exp_turns z (suc k) = exp_turn k (exp_turns z k)

-- a turn after the 34th reaches only the low digits, which have the unit 2^-62: w is not changed
unfoldable pub tail_turn : ℤ → ℕ → Tail → Tail
tail_turn w k t = record { lo = t.lo +ℤ along t.z (shr w (step k)); z = turned k t.z }

-- the low digits after k such turns
unfoldable pub tail_turns : Exp → ℕ → Tail
tail_turns e zero = record { lo = pos 0; z = e.z }
tail_turns e (suc k) = tail_turn e.w (34 + k) (tail_turns e k)

-- the low digits count where the whole part is above 30
unfoldable pub tail : ℕ → Exp → ℤ
tail ipart e = cond (nat_lt 30 ipart) (tail_turns e 30).lo (pos 0)

-- 2^62 times the power of two of the fraction z in Q57; held, as both sums are in signed 64 bits
unfoldable pub scaled : ℕ → ℤ → ℤ
scaled ipart z =
    cond (unsigned_abs z == 0) (pos (2 ^ 62))
    (held (held ((exp_turns (z *ℤ pos 32) 34).w *ℤ pos 2) +ℤ tail ipart (exp_turns (z *ℤ pos 32) 34)))

-- w / 2^(62 - ipart) to the nearest whole number, halves up
unfoldable pub rounded : ℤ → ℕ → ℤ
rounded w ipart = cond (nat_lt ipart 62) (shr (shr w (61 - ipart) +ℤ pos 1) 1) w

-- the power of the whole part and the fraction z: 0 below 0, the greatest signed 64-bit number from 63 on
unfoldable pub bexp_parts : ℤ → ℤ → ℤ
bexp_parts (negsuc n) z = pos 0
bexp_parts (pos ipart) z = cond (nat_lt ipart 63) (rounded (scaled ipart z) ipart) (pos (2 ^ 63 - 1))

-- the power of two of x in Q57: the whole part is x / 2^57 rounded down, the fraction is what is left
unfoldable pub bexp64 : ℤ → ℤ
bexp64 x = bexp_parts (shr x 57) (x -ℤ shr x 57 *ℤ pos (2 ^ 57))

-- ---- the logarithm

-- a turn of step i: y comes nearer to 0, and z counts the constant with the sign of y
unfoldable pub log_turn : ℕ → Log → Log
log_turn i l = record {
  x = l.x -ℤ along l.y (shr l.y (i + 1));
  y = l.y -ℤ along l.y (shr l.x (i + 1));
  z = l.z +ℤ along l.y (shr (pos (atanh i)) i);
}

-- the state after k turns for w / 2^61: x and y start at w + 1 and w - 1 in Q61
unfoldable pub log_turns : ℕ → ℕ → Log
log_turns w zero = record { x = pos w +ℤ pos (2 ^ 61); y = pos w -ℤ pos (2 ^ 61); z = pos 0 }
log_turns w (suc k) = log_turn (step k) (log_turns w k)

-- n with its top digit, at place ipart, moved to the place of 2^61
unfoldable pub moved : ℕ → ℕ → ℕ
moved ipart n = cond (nat_lt 61 ipart) (n / 2 ^ (ipart - 61)) (n * 2 ^ (61 - ipart))

-- the logarithm of w * 2^(ipart - 61): the whole part alone at a power of two, else with z rounded from Q61 to Q57, halves up
unfoldable pub blog_parts : ℕ → ℕ → ℤ
blog_parts ipart w =
    cond (w == 2 ^ 61) (pos (ipart * 2 ^ 57)) (pos (ipart * 2 ^ 57) +ℤ shr ((log_turns w 65).z +ℤ pos 8) 4)

-- the place of the top digit of n
unfoldable pub ipart_of : ℕ → ℕ
ipart_of n = 63 - count_leading_zeros 64 n

-- the binary logarithm of n in Q57, and -1 where n is not positive
unfoldable pub blog64 : ℤ → ℤ
blog64 (negsuc n) = negsuc 0
blog64 (pos zero) = negsuc 0
blog64 (pos (suc n)) = blog_parts (ipart_of (suc n)) (moved (ipart_of (suc n)) (suc n))

-- all that a figure has to compute: a proof that computes says `unfolding computing`
unfoldable pub computing : Unit {0}
unfolding count_leading_zeros counted upto steps atanhs step atanh along factor turned exp_turn exp_turns tail_turn tail_turns tail scaled rounded bexp_parts bexp64 log_turn log_turns moved blog_parts ipart_of blog64
computing = tt

use Rattle.std.proofs.Common.{◌≡◌, ℕ, ◌+◌, ◌^◌, ◌<◌, ◌≤◌, pos, nat_abs, sym, ap, ◌∙◌, arith, pow_pos, w64, to_z, of_z}
use Rattle.std.proofs.lemmas.Int.{ints}
use Rattle.logexp.specs.LogExp.{ipart_of, blog_parts, blog64}
use Rattle.logexp.proofs.LogTurns.{top, blog_none, blog_is, blog_most, blog_least, parts_least, one_moved}
use Rattle.logexp.proofs.LogLaws.{log_band}
use Rattle.logexp.proofs.ExactPowers.{exact_log}
use Rattle.logexp.proofs.log.blog64.Goals as goal

pub returns-then-n-le0 : goal.returns-then-n-le0
returns-then-n-le0 c =
    let v = sym (blog_none c.args.n (omega (arith, ints))) in
    record { value = v; none = λ h. omega (arith, ints); exact = exact_log c.args.n _ v; band = λ m h g. absurd (omega (arith, ints, pow_pos m)); positive = λ h. omega (arith, ints); least = λ m h. absurd (omega (arith, ints, pow_pos m)); most = λ m h. omega (arith, ints) }

pub moved-requires : goal.moved-requires
unfolding ipart_of
moved-requires c =
    let m : ℕ = nat_abs (to_z w64 (of_z w64 c.args.n)) in
    let t = top m (omega (arith, ints)) (omega (arith, ints)) in (t.0, (t.1, t.2))

pub blog_parts-requires : goal.blog_parts-requires
unfolding ipart_of
blog_parts-requires c =
    let m : ℕ = nat_abs (to_z w64 (of_z w64 c.args.n)) in
    let t = top m (omega (arith, ints)) (omega (arith, ints)) in (t.0, (c.moved.ensures.least, c.moved.ensures.most))

pub returns : goal.returns
unfolding ipart_of
returns c =
    let m : ℕ = nat_abs (to_z w64 (of_z w64 c.args.n)) in
    let e : c.args.n ≡ pos m = omega (arith, ints) in
    let p : 0 < m = omega (arith, ints) in
    let t = top m p (omega (arith, ints)) in
    let b : c.blog_parts.result ≡ blog_parts (ipart_of m) c.moved.result = c.blog_parts.ensures in
    let v : c.blog_parts.result ≡ blog64 c.args.n = b ∙ ap (blog_parts (ipart_of m)) c.moved.ensures.value ∙ sym (blog_is c.args.n m e p) in
    let r : to_z w64 (of_z w64 c.blog_parts.result) ≡ blog64 c.args.n = omega (arith, ints, v) in
    record {
      value = r;
      none = λ h. absurd (omega (arith, ints));
      exact = exact_log c.args.n _ r;
      band = λ j h g. let low : 2 ^ j ≤ m = omega (arith, ints) in let high : m < 2 ^ (j + 1) = omega (arith, ints) in omega (arith, ints, log_band (ipart_of m) c.moved.result j m c.moved.ensures.least c.moved.ensures.most t.1 t.2 low high);
      positive = λ h. omega (arith, ints, parts_least (ipart_of m) c.moved.result c.moved.ensures.least c.moved.ensures.most (λ z. c.moved.ensures.value ∙ one_moved (ipart_of m) m t.1 t.2 z));
      least = λ j h. let s : 2 ^ j ≤ m = omega (arith, ints) in omega (arith, ints, blog_least (ipart_of m) c.moved.result j m c.moved.ensures.least c.moved.ensures.most t.2 s);
      most = λ j h. let s : m < 2 ^ j = omega (arith, ints) in omega (arith, ints, blog_most (ipart_of m) c.moved.result j m c.moved.ensures.least c.moved.ensures.most t.1 s);
    }

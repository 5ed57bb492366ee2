use Rattle.std.proofs.Common.{◌≡◌, ℕ, length, take, drop, vec_items, sym, ap, ◌∙◌, append-nil, rules}
use Rattle.replies.proofs.Parted.{played_more, played_all}
use Rattle.replies.proofs.playing.play.Goals as goal

pub loop-rest-preserved : goal.loop-rest-preserved
loop-rest-preserved g c =
    let ls = c.loop-rest.rest.now in
    let b = c.split_at.ensures.front ∙ ap (λ (n : ℕ). take n ls) c.block_length.ensures.value in
    let d = c.split_at.ensures.back ∙ ap (λ (n : ℕ). drop n ls) c.block_length.ensures.value in
    played_more (g.R.Runner.answers c.args.runner.now) ls _ _ _ _ _ _ _ b d c.standing_after-standing.ensures c.in_ok-add_replies.ensures c.loop-rest.invariant

pub returns : goal.returns
returns g c =
    let l : length c.loop-rest.rest.now ≡ 0 = search rules in
    sym (append-nil (vec_items c.loop-rest.replies)) ∙ played_all (g.R.Runner.answers c.args.runner.now) c.loop-rest.rest.now _ _ _ l c.loop-rest.invariant

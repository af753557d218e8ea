use Rattle.std.specs.Prelude.{◌+◌}
use Rattle.laws.specs.Kit.{◌∙◌, ap, ℕ, get_or}
use Rattle.loops.proofs.Ends.{far_by_first, far_by_second}
use Rattle.loops.proofs.walks.far.Goals as goal

pub returns-then-u-v : goal.returns-then-u-v
returns-then-u-v c =
    let a = c.args in
    λ n k l es q.
    far_by_first q (c.wide-u.ensures ∙ ap (λ (x : ℕ). get_or a.w.now (x + a.c) 0) c.front_u_at.ensures) c.if-u-v.true
    (c.wide.ensures ∙ ap (λ (x : ℕ). get_or a.w.now (x + a.c) 0) c.front_v_at.ensures)

pub returns : goal.returns
returns c =
    let a = c.args in
    λ n k l es q.
    far_by_second q (c.wide-u.ensures ∙ ap (λ (x : ℕ). get_or a.w.now (x + a.c) 0) c.front_u_at.ensures) c.if-u-v.false

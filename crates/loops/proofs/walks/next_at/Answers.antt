use Rattle.std.specs.Prelude.{◌+◌, ◌*◌}
use Rattle.laws.specs.Kit.{◌∙◌, ap, ℕ, get_or}
use Rattle.loops.proofs.Ends.{next_by_first, next_by_second}
use Rattle.loops.proofs.walks.next_at.Goals as goal

pub returns-then-wide-v : goal.returns-then-wide-v
returns-then-wide-v c =
    let a = c.args in
    λ n k l es q.
    next_by_first q (c.wide.ensures ∙ ap (λ (x : ℕ). get_or a.w.now (x + a.c) 0) c.front_u_at.ensures) c.if-wide-v.true
    (c.wide-then-wide-v.ensures ∙ ap (λ (x : ℕ). get_or a.w.now (x + 2 * a.c) 0) c.front_links_at-from.ensures)

pub returns : goal.returns
returns c =
    let a = c.args in
    λ n k l es q.
    next_by_second q (c.wide.ensures ∙ ap (λ (x : ℕ). get_or a.w.now (x + a.c) 0) c.front_u_at.ensures) c.if-wide-v.false
    (c.wide-2.ensures ∙ ap (λ (x : ℕ). get_or a.w.now (x + (2 * a.c + 1)) 0) c.front_links_at-from.ensures)

use Rattle.std.proofs.Common.{◌+◌, ℕ, get_or, ap, ◌∙◌}
use Rattle.live_regions.proofs.Takes.{top_some, top_none}
use Rattle.live_regions.proofs.stack.top.Goals as goal

pub returns-then-i-lay : goal.returns-then-i-lay
returns-then-i-lay c =
    let a = c.args in
    λ m out seen st h. top_some a.w.now a.lay.slots a.lay.points c.wide-i.result m out seen st h (c.wide-i.ensures ∙ ap (λ (z : ℕ). get_or a.w.now (z + (a.lay.slots + 1) + a.lay.slots) 0) c.stack_at.ensures) c.if-i-lay.true

pub returns-else-i-lay : goal.returns-else-i-lay
returns-else-i-lay c =
    let a = c.args in
    λ m out seen st h. top_none a.w.now a.lay.slots a.lay.points c.wide-i.result m out seen st h (c.wide-i.ensures ∙ ap (λ (z : ℕ). get_or a.w.now (z + (a.lay.slots + 1) + a.lay.slots) 0) c.stack_at.ensures) c.if-i-lay.false

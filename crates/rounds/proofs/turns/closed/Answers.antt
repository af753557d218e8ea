use Rattle.laws.specs.Kit.{ap, not}
use mathlib.Core.Path.{sym, subst}
use Prim.Native.Nat.{ℕ, ◌*◌}
use Rattle.blocked_edges.specs.Blocks.{Blocks}
use Rattle.rounds.proofs.Places.{closed_off, closed_blocked, closed_not}
use Rattle.rounds.proofs.turns.closed.Goals as goal

pub returns-then-not-is_front : goal.returns-then-not-is_front
returns-then-not-is_front c =
    let a = c.args in
    λ m bl h. closed_off m bl a.u a.v c.requires.edge.order c.is_front.result (c.is_front.ensures m h.rep) (ap not c.if-not-is_front.true)

pub is_blocked-requires : goal.is_blocked-requires
is_blocked-requires c =
    let a = c.args in
    let h = c.requires.shows in
    record { by_index = (h.2.quads, h.2.ever, h.1, subst (λ (z : ℕ). Blocks a.w.now z (3 * a.lay.slots) a.lay.points h.2.quads h.2.ever h.1) (sym c.refused_at-b.ensures) h.2.blocks); edge = c.requires.edge }

pub returns-then-is_blocked : goal.returns-then-is_blocked
returns-then-is_blocked c =
    let a = c.args in
    λ m bl h. closed_blocked m bl a.u a.v c.requires.edge.order c.is_front.result (c.is_front.ensures m h.rep) c.is_blocked.result (ap not c.if-not-is_front.false)
    (c.is_blocked.ensures h.quads h.ever bl (subst (λ (z : ℕ). Blocks a.w.now z (3 * a.lay.slots) a.lay.points h.quads h.ever bl) (sym c.refused_at-b.ensures) h.blocks)) c.if-is_blocked.true

pub returns : goal.returns
returns c =
    let a = c.args in
    λ m bl h. closed_not m bl a.u a.v c.requires.edge.order c.is_front.result (c.is_front.ensures m h.rep) c.is_blocked.result (ap not c.if-not-is_front.false)
    (c.is_blocked.ensures h.quads h.ever bl (subst (λ (z : ℕ). Blocks a.w.now z (3 * a.lay.slots) a.lay.points h.quads h.ever bl) (sym c.refused_at-b.ensures) h.blocks)) c.if-is_blocked.false

-- The front edges of the nodes below u stand in the first k places.
use Rattle.std.specs.Prelude.{◌%◌, ◌≡◌, ◌+◌, ◌<◌}
use Rattle.laws.specs.Kit.{sym, ◌∙◌, ap, get_or, ℕ, arith, List, length}
use Rattle.definition.specs.Cells.{Mesh}
use Rattle.cells.specs.Rep.{Rep}
use Rattle.front_edges.specs.Runs.{CanWalk}
use Rattle.front_edges.specs.Noting.{EdgesTo}
use Rattle.front_edges.proofs.Fronts.{Sofar, sofar_start, sofar_more, sofar_noted, sofar_end, can_walk}
use Rattle.front_edges.proofs.front_edges.Goals as goal
use Rattle.front_edges.proofs.front_edges.Goals.{then-w-b-ne1, else-w-b-ne1}

-- node u is done
more : (w₀ w w' : List ℕ) (s p u k j n : ℕ) (m : Mesh) → Rep w₀ s p m → n ≡ length m.points → Sofar w₀ w s p u k m → u < n
    → ((m : Mesh) → CanWalk w s p u k m → EdgesTo w w' s p u k j m) → Sofar w₀ w' s p (u + 1) j m
more w₀ w w' s p u k j n m r e h l g = sofar_more w₀ s p m r w w' u k j h (g m (can_walk w₀ s p m r w u k h (omega (arith, e, l))))

pub loop-u-init : goal.loop-u-init
loop-u-init c = let a = c.args in (omega arith, λ m r e. sofar_start a.w.now a.lay.slots a.lay.points m r)

pub bounds-w-b : goal.bounds-w-b
bounds-w-b c =
    let h = (c.loop-u.invariant.1 c.requires.0 c.requires.1 c.requires.2).rep in
    omega (arith, c.notes_at-b.ensures, c.loop-u-test.true, c.requires.2, h.points, h.room.fits)

pub node_fronts-k-requires : goal.node_fronts-k-requires
node_fronts-k-requires c =
    let a = c.args in
    let m = c.requires.0 in
    let r = c.requires.1 in
    let e = c.requires.2 in
    (m, can_walk a.w.now a.lay.slots a.lay.points m r c.loop-u.w c.loop-u.u c.loop-u.k (c.loop-u.invariant.1 m r e) (omega (arith, e, c.loop-u-test.true)))

pub loop-u-preserved : goal.loop-u-preserved
loop-u-preserved c =
    let a = c.args in
    let l = c.loop-u in (
      omega (arith, c.loop-u-test.true),
      λ m r e. elim c.if-w-b-ne1.branch [
        | then-w-b-ne1 v ↦ rw (v.w-is, v.k-is) (more a.w.now l.w v.node_fronts-k.new.w a.lay.slots a.lay.points l.u l.k v.node_fronts-k.result a.n m r e (l.invariant.1 m r e) c.loop-u-test.true v.node_fronts-k.ensures)
        | else-w-b-ne1 v ↦ rw (v.w-is, v.k-is) (sofar_noted a.w.now a.lay.slots a.lay.points m r l.w l.u l.k (l.invariant.1 m r e) (omega (arith, e, c.loop-u-test.true)) (ap (λ (z : ℕ). get_or l.w (z + l.u) 0 % 4) (sym c.notes_at-b.ensures) ∙ v.if-w-b-ne1.false))
      ],
    )

pub shape_of-w : goal.shape_of-w
shape_of-w c = (c.loop-u.invariant.1 c.requires.0 c.requires.1 c.requires.2).past.len

pub returns : goal.returns
returns c = λ m r e.
    let a = c.args in
    let h = c.loop-u.invariant.1 m r e in
    (sofar_end a.w.now a.lay.slots a.lay.points m r c.loop-u.w a.n c.loop-u.k c.loop-u.u e c.loop-u.invariant.0 c.loop-u-test.false h, h.rep)

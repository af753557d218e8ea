use Rattle.laws.specs.Kit.{subst, ℕ}
use Rattle.cells.specs.Layout.{front_used_at, heads_at}
use Rattle.loops.specs.Link.{Filled}
use Rattle.loops.proofs.Linking.{cleared, list_to}
use Rattle.loops.proofs.links.list_edges.Goals as goal

pub link_all-requires : goal.link_all-requires
link_all-requires c =
    let a = c.args in
    let w = a.w.now in
    let w1 = c.fill.new.w in
    let w2 = c.fill-2.new.w in
    let x : Filled w w1 (front_used_at a.lay.slots a.lay.points) a.k 0 = subst (λ (i : ℕ). Filled w w1 i a.k 0) c.front_used_at.ensures c.fill.ensures in
    let y : Filled w1 w2 (heads_at a.lay.slots a.lay.points) a.n a.k = subst (λ (i : ℕ). Filled w1 w2 i a.n a.k) c.heads_at.ensures c.fill-2.ensures in
    (a.n, c.requires.0, cleared c.requires.1 x y)

pub returns : goal.returns
returns c =
    let a = c.args in
    let w = a.w.now in
    let w1 = c.fill.new.w in
    let w2 = c.fill-2.new.w in
    let x : Filled w w1 (front_used_at a.lay.slots a.lay.points) a.k 0 = subst (λ (i : ℕ). Filled w w1 i a.k 0) c.front_used_at.ensures c.fill.ensures in
    let y : Filled w1 w2 (heads_at a.lay.slots a.lay.points) a.n a.k = subst (λ (i : ℕ). Filled w1 w2 i a.n a.k) c.heads_at.ensures c.fill-2.ensures in
    λ es q.
    list_to q x y (c.link_all.ensures a.n es (cleared q x y))

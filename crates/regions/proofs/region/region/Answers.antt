-- The flood, and the tests of what it reached, one after the other.
use Rattle.std.specs.Prelude.{Some}
use Rattle.laws.specs.Kit.{ℕ, List, [], Float}
use Rattle.definition.specs.Cells.{Mesh}
use Rattle.regions.specs.Fill.{Shown, Drawn}
use Rattle.regions.proofs.Fills.{Cells, flooded, cells, region_none, region_outside, region_off, region_locked, region_found}
use Rattle.regions.specs.Listing.{Reached}
use Rattle.regions.proofs.region.region.Goals as goal

-- the cells reached
module _ (w w' : List ℕ) (q : List Float) (s p seed : ℕ) (m : Mesh) (a b c d : ℕ) (h : Drawn w q s p seed m) (n : ℕ)
    (f : Reached w w' s p m [] (flooded w w' s p seed m a b c d h.rep h.tri) (Some n)) where
  found : Cells w w' s p seed m a b c d h.rep h.tri n
  found = cells w w' s p seed m a b c d h.rep h.tri n f

  shown : Shown w' q s p n m found.xs
  shown = record { list = found.grown.state.list; pts = h.pts }

pub flood-requires : goal.flood-requires
flood-requires c = (c.requires.0, c.requires.1.rep, c.requires.1.tri, c.requires.4)

pub returns-in_err-n : goal.returns-in_err-n
returns-in_err-n c = λ m h k l u.
    let a = c.args in
    rw c.from_residual.ensures (region_none a.w.now c.flood.new.w a.lay.slots a.lay.points a.seed m a.a a.b a.c a.d h.rep h.tri (c.in_err-n.ensures m h.rep h.tri u))

pub all_inside-requires : goal.all_inside-requires
all_inside-requires c =
    let a = c.args in
    let h = c.requires.1 in
    let f = c.in_ok-n.ensures c.requires.0 h.rep h.tri c.requires.4 in
    let x = found a.w.now c.flood.new.w a.q.now a.lay.slots a.lay.points a.seed c.requires.0 a.a a.b a.c a.d h c.in_ok-n.n f in
    let s = shown a.w.now c.flood.new.w a.q.now a.lay.slots a.lay.points a.seed c.requires.0 a.a a.b a.c a.d h c.in_ok-n.n f in
    (c.requires.0, x.xs, s, c.requires.2)

pub returns-then-not-all_inside : goal.returns-then-not-all_inside
returns-then-not-all_inside c = λ m h k l u.
    let a = c.args in
    let f = c.in_ok-n.ensures m h.rep h.tri u in
    let x = found a.w.now c.flood.new.w a.q.now a.lay.slots a.lay.points a.seed m a.a a.b a.c a.d h c.in_ok-n.n f in
    let s = shown a.w.now c.flood.new.w a.q.now a.lay.slots a.lay.points a.seed m a.a a.b a.c a.d h c.in_ok-n.n f in
    region_outside x c.all_inside.result (c.all_inside.ensures m x.xs s k) c.if-not-all_inside.true

pub area_agrees-requires : goal.area_agrees-requires
area_agrees-requires c =
    let a = c.args in
    let h = c.requires.1 in
    let f = c.in_ok-n.ensures c.requires.0 h.rep h.tri c.requires.4 in
    let x = found a.w.now c.flood.new.w a.q.now a.lay.slots a.lay.points a.seed c.requires.0 a.a a.b a.c a.d h c.in_ok-n.n f in
    let s = shown a.w.now c.flood.new.w a.q.now a.lay.slots a.lay.points a.seed c.requires.0 a.a a.b a.c a.d h c.in_ok-n.n f in
    (c.requires.0, x.xs, s, c.requires.2)

pub returns-then-not-area_agrees : goal.returns-then-not-area_agrees
returns-then-not-area_agrees c = λ m h k l u.
    let a = c.args in
    let f = c.in_ok-n.ensures m h.rep h.tri u in
    let x = found a.w.now c.flood.new.w a.q.now a.lay.slots a.lay.points a.seed m a.a a.b a.c a.d h c.in_ok-n.n f in
    let s = shown a.w.now c.flood.new.w a.q.now a.lay.slots a.lay.points a.seed m a.a a.b a.c a.d h c.in_ok-n.n f in
    region_off x c.all_inside.result (c.all_inside.ensures m x.xs s k) c.if-not-all_inside.false
    c.area_agrees.result (c.area_agrees.ensures m x.xs s k) c.if-not-area_agrees.true

pub spares-requires : goal.spares-requires
spares-requires c =
    let a = c.args in
    let h = c.requires.1 in
    let f = c.in_ok-n.ensures c.requires.0 h.rep h.tri c.requires.4 in
    let x = found a.w.now c.flood.new.w a.q.now a.lay.slots a.lay.points a.seed c.requires.0 a.a a.b a.c a.d h c.in_ok-n.n f in
    (c.requires.0, x.xs, x.grown.state.list, c.requires.3)

pub returns-then-not-spares : goal.returns-then-not-spares
returns-then-not-spares c = λ m h k l u.
    let a = c.args in
    let f = c.in_ok-n.ensures m h.rep h.tri u in
    let x = found a.w.now c.flood.new.w a.q.now a.lay.slots a.lay.points a.seed m a.a a.b a.c a.d h c.in_ok-n.n f in
    let s = shown a.w.now c.flood.new.w a.q.now a.lay.slots a.lay.points a.seed m a.a a.b a.c a.d h c.in_ok-n.n f in
    region_locked x c.all_inside.result (c.all_inside.ensures m x.xs s k) c.if-not-all_inside.false
    c.area_agrees.result (c.area_agrees.ensures m x.xs s k) c.if-not-area_agrees.false
    c.spares.result (c.spares.ensures m x.xs s.list l) c.if-not-spares.true

pub returns : goal.returns
returns c = λ m h k l u.
    let a = c.args in
    let f = c.in_ok-n.ensures m h.rep h.tri u in
    let x = found a.w.now c.flood.new.w a.q.now a.lay.slots a.lay.points a.seed m a.a a.b a.c a.d h c.in_ok-n.n f in
    let s = shown a.w.now c.flood.new.w a.q.now a.lay.slots a.lay.points a.seed m a.a a.b a.c a.d h c.in_ok-n.n f in
    region_found x c.all_inside.result (c.all_inside.ensures m x.xs s k) c.if-not-all_inside.false
    c.area_agrees.result (c.area_agrees.ensures m x.xs s k) c.if-not-area_agrees.false
    c.spares.result (c.spares.ensures m x.xs s.list l) c.if-not-spares.false

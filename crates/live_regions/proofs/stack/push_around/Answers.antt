use mathlib.Core.Path.{◌≡◌, sym, ◌∙◌, subst}
use mathlib.Core.List.{List, foldl}
use lib.ListN.{length}
use Rattle.definition.specs.Cells.{Live, key, owners}
use Rattle.definition.specs.Candidates.{on_top}
use Rattle.live_regions.specs.Stack.{PushTo}
use Rattle.live_regions.proofs.Tallies.{mark_read}
use Rattle.live_regions.proofs.Steps.{corners_of, edge_is, around_read, push_trans}
use Rattle.live_regions.proofs.Notes.{pass_first, pass_second, pass_third}
use Rattle.live_regions.proofs.stack.push_around.Goals as goal

pub push_new-requires-clause-can_pass : goal.push_new-requires-clause-can_pass
push_new-requires-clause-can_pass c =
    let a = c.args in
    let w = a.w.now in
    let m = c.requires.can_push_all.0 in
    let out = c.requires.can_push_all.1 in
    let seen = c.requires.can_push_all.2 in
    let st = c.requires.can_push_all.3 in
    let k = c.requires.can_push_all.4 in
    let h = c.requires.can_push_all.5 in
    let d = corners_of w a.lay.slots a.lay.points a.i m h.hold.rep k in
    (m, out, seen, st, pass_first w a.lay.slots a.lay.points a.i a.n m out seen st k h.visited h.told h.hold c.node-x.result c.node-y.result (c.node-x.ensures ∙ d.read.n0) (c.node-y.ensures ∙ d.read.n1))

pub push_new-requires-clause-edge : goal.push_new-requires-clause-edge
push_new-requires-clause-edge c =
    let a = c.args in
    let m = c.requires.can_push_all.0 in
    let out = c.requires.can_push_all.1 in
    let seen = c.requires.can_push_all.2 in
    let st = c.requires.can_push_all.3 in
    let k = c.requires.can_push_all.4 in
    let h = c.requires.can_push_all.5 in
    let d = corners_of a.w.now a.lay.slots a.lay.points a.i m h.hold.rep k in
    edge_is a.lay.points (length m.points) k.t.n0 k.t.n1 c.node-x.result c.node-y.result (c.node-x.ensures ∙ d.read.n0) (c.node-y.ensures ∙ d.read.n1) d.k0 h.hold.rep.points d.d01

pub push_new-requires-2-clause-can_pass : goal.push_new-requires-2-clause-can_pass
push_new-requires-2-clause-can_pass c =
    let a = c.args in
    let w = a.w.now in
    let u = c.node-x.result in
    let v = c.node-y.result in
    let m = c.requires.can_push_all.0 in
    let out = c.requires.can_push_all.1 in
    let seen = c.requires.can_push_all.2 in
    let st = c.requires.can_push_all.3 in
    let k = c.requires.can_push_all.4 in
    let h = c.requires.can_push_all.5 in
    let d = corners_of w a.lay.slots a.lay.points a.i m h.hold.rep k in
    let eu : u ≡ k.t.n0 = c.node-x.ensures ∙ d.read.n0 in
    let ev : v ≡ k.t.n1 = c.node-y.ensures ∙ d.read.n1 in
    let f1 = c.push_new.ensures m out seen st (pass_first w a.lay.slots a.lay.points a.i a.n m out seen st k h.visited h.told h.hold u v eu ev) in
    let st1 = foldl (on_top seen) st (owners m (key u v)) in
    (m, out, seen, st1, pass_second c.push_new.new.w a.lay.slots a.lay.points a.i a.n m out seen st1 k h.visited h.told f1.to.hold v c.node-z.result ev (c.node-z.ensures ∙ d.read.n2))

pub push_new-requires-2-clause-edge : goal.push_new-requires-2-clause-edge
push_new-requires-2-clause-edge c =
    let a = c.args in
    let m = c.requires.can_push_all.0 in
    let out = c.requires.can_push_all.1 in
    let seen = c.requires.can_push_all.2 in
    let st = c.requires.can_push_all.3 in
    let k = c.requires.can_push_all.4 in
    let h = c.requires.can_push_all.5 in
    let d = corners_of a.w.now a.lay.slots a.lay.points a.i m h.hold.rep k in
    edge_is a.lay.points (length m.points) k.t.n1 k.t.n2 c.node-y.result c.node-z.result (c.node-y.ensures ∙ d.read.n1) (c.node-z.ensures ∙ d.read.n2) d.k1 h.hold.rep.points d.d12

pub push_new-requires-3-clause-can_pass : goal.push_new-requires-3-clause-can_pass
push_new-requires-3-clause-can_pass c =
    let a = c.args in
    let w = a.w.now in
    let u = c.node-x.result in
    let v = c.node-y.result in
    let y = c.node-z.result in
    let m = c.requires.can_push_all.0 in
    let out = c.requires.can_push_all.1 in
    let seen = c.requires.can_push_all.2 in
    let st = c.requires.can_push_all.3 in
    let k = c.requires.can_push_all.4 in
    let h = c.requires.can_push_all.5 in
    let d = corners_of w a.lay.slots a.lay.points a.i m h.hold.rep k in
    let eu : u ≡ k.t.n0 = c.node-x.ensures ∙ d.read.n0 in
    let ev : v ≡ k.t.n1 = c.node-y.ensures ∙ d.read.n1 in
    let ey : y ≡ k.t.n2 = c.node-z.ensures ∙ d.read.n2 in
    let f1 = c.push_new.ensures m out seen st (pass_first w a.lay.slots a.lay.points a.i a.n m out seen st k h.visited h.told h.hold u v eu ev) in
    let st1 = foldl (on_top seen) st (owners m (key u v)) in
    let f2 = c.push_new-2.ensures m out seen st1 (pass_second c.push_new.new.w a.lay.slots a.lay.points a.i a.n m out seen st1 k h.visited h.told f1.to.hold v y ev ey) in
    let st2 = foldl (on_top seen) st1 (owners m (key v y)) in
    (m, out, seen, st2, pass_third c.push_new-2.new.w a.lay.slots a.lay.points a.i a.n m out seen st2 k h.visited h.told f2.to.hold y u ey eu)

pub push_new-requires-3-clause-edge : goal.push_new-requires-3-clause-edge
push_new-requires-3-clause-edge c =
    let a = c.args in
    let m = c.requires.can_push_all.0 in
    let out = c.requires.can_push_all.1 in
    let seen = c.requires.can_push_all.2 in
    let st = c.requires.can_push_all.3 in
    let k = c.requires.can_push_all.4 in
    let h = c.requires.can_push_all.5 in
    let d = corners_of a.w.now a.lay.slots a.lay.points a.i m h.hold.rep k in
    edge_is a.lay.points (length m.points) k.t.n2 k.t.n0 c.node-z.result c.node-x.result (c.node-z.ensures ∙ d.read.n2) (c.node-x.ensures ∙ d.read.n0) d.k2 h.hold.rep.points d.d20

pub returns : goal.returns
returns c =
    let a = c.args in
    let w = a.w.now in
    let u = c.node-x.result in
    let v = c.node-y.result in
    let y = c.node-z.result in
    λ m out seen st x k h e.
    let d = corners_of w a.lay.slots a.lay.points a.i m h.hold.rep k in
    let eu : u ≡ k.t.n0 = c.node-x.ensures ∙ d.read.n0 in
    let ev : v ≡ k.t.n1 = c.node-y.ensures ∙ d.read.n1 in
    let ey : y ≡ k.t.n2 = c.node-z.ensures ∙ d.read.n2 in
    let w1 = c.push_new.new.w in
    let f1 = c.push_new.ensures m out seen st (pass_first w a.lay.slots a.lay.points a.i a.n m out seen st k h.visited h.told h.hold u v eu ev) in
    let st1 = foldl (on_top seen) st (owners m (key u v)) in
    let w2 = c.push_new-2.new.w in
    let f2 = c.push_new-2.ensures m out seen st1 (pass_second w1 a.lay.slots a.lay.points a.i a.n m out seen st1 k h.visited h.told f1.to.hold v y ev ey) in
    let st2 = foldl (on_top seen) st1 (owners m (key v y)) in
    let w3 = c.push_new-3.new.w in
    let f3 = c.push_new-3.ensures m out seen st2 (pass_third w2 a.lay.slots a.lay.points a.i a.n m out seen st2 k h.visited h.told f2.to.hold y u ey eu) in
    let st3 = foldl (on_top seen) st2 (owners m (key y u)) in
    record {
      to = subst (λ (l : List Live). PushTo w w3 a.lay.slots a.lay.points m out seen l) (sym (around_read m a.i x k e seen st u v y eu ev ey))
          (push_trans w w1 w3 a.lay.slots a.lay.points m out seen st3 f1.to.scratch (push_trans w1 w2 w3 a.lay.slots a.lay.points m out seen st3 f2.to.scratch f3.to));
      walls = mark_read m a.i k.t x e u v y c.counted-a.result c.counted-b.result c.counted-c.result c.push_new.result c.push_new-2.result c.push_new-3.result
          eu ev ey c.counted-a.ensures c.counted-b.ensures c.counted-c.ensures f1.shared f2.shared f3.shared;
    }

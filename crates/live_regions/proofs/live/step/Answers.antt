use mathlib.Core.Path.{sym, ◌∙◌}
use mathlib.Core.List.{[], ◌∷◌, ◌++◌, foldl}
use native.Mathlib.Omega.{arith}
use Rattle.definition.specs.Candidates.{on_top, neighbours}
use Rattle.live_regions.proofs.Steps.{top_tri, can_push_all, can_list, seen_few, step_near, step_far, push_trans}
use Rattle.live_regions.proofs.live.step.Goals as goal

pub is_near-requires : goal.is_near-requires
is_near-requires c =
    let a = c.args in
    let w = a.w.now in
    let w1 = c.take-b.new.w in
    let m = c.requires.0 in
    let out = c.requires.1 in
    let seen = c.requires.2 in
    let st = c.requires.3 in
    let x = c.requires.4 in
    let pts = c.requires.5 in
    let h = c.requires.6 in
    let k = top_tri w a.lay.slots a.lay.points a.n a.i m out seen st x h in
    let f1 = c.take-b.ensures m out seen st x h.top in
    record { rep = (m, f1.to.hold.rep, pts, k.t); i_lt_s = h.top.inside }

pub push_around-f-requires : goal.push_around-f-requires
push_around-f-requires c =
    let a = c.args in
    let w = a.w.now in
    let w1 = c.take-b.new.w in
    let m = c.requires.0 in
    let out = c.requires.1 in
    let seen = c.requires.2 in
    let st = c.requires.3 in
    let x = c.requires.4 in
    let pts = c.requires.5 in
    let h = c.requires.6 in
    let k = top_tri w a.lay.slots a.lay.points a.n a.i m out seen st x h in
    let f1 = c.take-b.ensures m out seen st x h.top in
    let ca = can_push_all w a.lay.slots a.lay.points a.n a.i m out seen st x h w1 c.take-b.result f1 in
    record { can_push_all = (m, out, x ∷ seen, st, k.t, ca); i_lt_s = h.top.inside }

pub list_one-requires : goal.list_one-requires
list_one-requires c =
    let a = c.args in
    let w = a.w.now in
    let w1 = c.take-b.new.w in
    let m = c.requires.0 in
    let out = c.requires.1 in
    let seen = c.requires.2 in
    let st = c.requires.3 in
    let x = c.requires.4 in
    let pts = c.requires.5 in
    let h = c.requires.6 in
    let k = top_tri w a.lay.slots a.lay.points a.n a.i m out seen st x h in
    let f1 = c.take-b.ensures m out seen st x h.top in
    let w2 = c.push_around-f.new.w in
    let ca = can_push_all w a.lay.slots a.lay.points a.n a.i m out seen st x h w1 c.take-b.result f1 in
    let f2 = c.push_around-f.ensures m out (x ∷ seen) st x k.t ca k.is in
    let st2 = foldl (on_top (x ∷ seen)) st (neighbours m x) in
    let cl = can_list w a.lay.slots a.lay.points a.n a.i m out seen st x h w2 st2 c.push_around-f.result (push_trans w w1 w2 a.lay.slots a.lay.points m out (x ∷ seen) st2 f1.to.scratch f2.to) f2.walls in
    (m, out, x ∷ seen, st2, x, cl)

pub overflow_add-result : goal.overflow_add-result
overflow_add-result c =
    let a = c.args in
    let w = a.w.now in
    let w1 = c.take-b.new.w in
    let m = c.requires.0 in
    let out = c.requires.1 in
    let seen = c.requires.2 in
    let st = c.requires.3 in
    let x = c.requires.4 in
    let pts = c.requires.5 in
    let h = c.requires.6 in
    omega (arith, h.len, h.top.hold.few, seen_few w a.lay.slots a.lay.points a.n a.i m out seen st x h, h.top.hold.rep.used, h.top.hold.rep.room.small)

pub returns-then-is_near : goal.returns-then-is_near
returns-then-is_near c =
    let a = c.args in
    let w = a.w.now in
    let w1 = c.take-b.new.w in
    λ m out seen st x pts h.
    let k = top_tri w a.lay.slots a.lay.points a.n a.i m out seen st x h in
    let f1 = c.take-b.ensures m out seen st x h.top in
    let w2 = c.push_around-f.new.w in
    let ca = can_push_all w a.lay.slots a.lay.points a.n a.i m out seen st x h w1 c.take-b.result f1 in
    let f2 = c.push_around-f.ensures m out (x ∷ seen) st x k.t ca k.is in
    let st2 = foldl (on_top (x ∷ seen)) st (neighbours m x) in
    let cl = can_list w a.lay.slots a.lay.points a.n a.i m out seen st x h w2 st2 c.push_around-f.result (push_trans w w1 w2 a.lay.slots a.lay.points m out (x ∷ seen) st2 f1.to.scratch f2.to) f2.walls in
    let w3 = c.list_one.new.w in
    let f3 = c.list_one.ensures m out (x ∷ seen) st2 x cl in
    step_near w a.lay.slots a.lay.points a.n a.i m out seen st x h a.o.at.x a.o.at.y a.o.r w3 (sym c.if-is_near.true ∙ c.is_near.ensures m f1.to.hold.rep pts k.t)
    (push_trans w w1 w3 a.lay.slots a.lay.points m (out ++ x ∷ []) (x ∷ seen) st2 f1.to.scratch (push_trans w1 w2 w3 a.lay.slots a.lay.points m (out ++ x ∷ []) (x ∷ seen) st2 f2.to.scratch f3))

pub returns : goal.returns
returns c =
    let a = c.args in
    let w = a.w.now in
    let w1 = c.take-b.new.w in
    λ m out seen st x pts h.
    let k = top_tri w a.lay.slots a.lay.points a.n a.i m out seen st x h in
    let f1 = c.take-b.ensures m out seen st x h.top in
    step_far w a.lay.slots a.lay.points a.n a.i m out seen st x h a.o.at.x a.o.at.y a.o.r w1 (sym c.if-is_near.false ∙ c.is_near.ensures m f1.to.hold.rep pts k.t) f1.to

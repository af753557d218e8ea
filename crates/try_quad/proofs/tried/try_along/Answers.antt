-- From what is measured to the stance, then by the side nodes at a.
use mathlib.Core.Bool.{true}
use Rattle.definition.specs.Floats.{◌≼◌, 1e-12, f64}
use Rattle.definition.specs.Numbers.{first_turn, tiny_length}
use Rattle.definition.specs.Attempt.{side_nodes, stance, try_along}
use Rattle.rules.specs.Settings.{settings_of}
use Rattle.plane.specs.Vectors.{vec}
use Rattle.edge_candidates.specs.Wanted.{turn}
use Rattle.outcomes.specs.Ends.{only_inserted}
use Rattle.try_quad.proofs.Standing.{sized, refused_at_once, seek_near, stands, short_target, short_edge, goes_on, first_of, first_log, along_to}
use Rattle.try_quad.proofs.Locked.{sides_lock}
use Rattle.try_quad.proofs.tried.try_along.Goals as goal

pub returns-then-target : goal.returns-then-target
unfolding tiny_length ◌≼◌ 1e-12 f64
returns-then-target c =
    let a = c.args in
    let le = c.length-span in
    let ft = c.from_to-tangent in
    let no = c.norm-long in
    let ta = c.target_of-target in
    λ base m h l lg ir. refused_at_once a.w.now a.q.now base a.t.now a.log.at a.rules a.c m h.ready lg c.without_trial.result c.without_trial.ensures
    (try_along (settings_of a.rules) m (a.edge.u, a.edge.v) a.seed a.edge.a a.edge.b)
    (short_target a.w.now a.q.now a.rules a.c a.edge.u a.edge.v m h a.edge.a a.edge.b a.seed c.requires.ends.0 c.requires.ends.1 le.result le.ensures.0 (vec ft.result) ft.ensures no.result no.ensures ta.result (ta.ensures (settings_of a.rules) (sized a.rules)) c.if-target.true)

pub returns-then-long : goal.returns-then-long
unfolding tiny_length ◌≼◌ 1e-12 f64
returns-then-long c =
    let a = c.args in
    let le = c.length-span in
    let ft = c.from_to-tangent in
    let no = c.norm-long in
    let ta = c.target_of-target in
    λ base m h l lg ir. refused_at_once a.w.now a.q.now base a.t.now a.log.at a.rules a.c m h.ready lg c.without_trial-then-long.result c.without_trial-then-long.ensures
    (try_along (settings_of a.rules) m (a.edge.u, a.edge.v) a.seed a.edge.a a.edge.b)
    (short_edge a.w.now a.q.now a.rules a.c a.edge.u a.edge.v m h a.edge.a a.edge.b a.seed c.requires.ends.0 c.requires.ends.1 le.result le.ensures.0 (vec ft.result) ft.ensures no.result no.ensures ta.result (ta.ensures (settings_of a.rules) (sized a.rules)) c.if-target.false c.if-long.true)

pub side_nodes-near-requires : goal.side_nodes-near-requires
side_nodes-near-requires c =
    let a = c.args in
    (c.requires.by_index.0, c.requires.by_index.1, seek_near a.w.now a.q.now a.rules a.c a.edge.u a.edge.v c.requires.by_index.1 c.requires.by_index.2 a.edge.a a.edge.b a.seed c.requires.ends.0 c.requires.ends.1 c.near_at.ensures, c.requires.by_index.4)

pub with_first-requires : goal.with_first-requires
with_first-requires c =
    let a = c.args in
    let le = c.length-span in
    let ft = c.from_to-tangent in
    let no = c.norm-long in
    let ta = c.target_of-target in
    let na = c.near_at in
    let sn = c.side_nodes-near in
    let no2 = c.inward_normal-normal in
    let sm = c.size_mismatch-mismatch in
    let m = c.requires.by_index.1 in
    let h = c.requires.by_index.2 in
    let g = settings_of a.rules in
    let f = stance g m (a.edge.u, a.edge.v) a.seed a.edge.a a.edge.b in
    let st = stands a.w.now a.q.now a.rules a.c a.edge.u a.edge.v m h a.edge.a a.edge.b a.seed c.requires.ends.0 c.requires.ends.1 le.result le.ensures.0 (vec ft.result) ft.ensures no.result no.ensures ta.result (ta.ensures (settings_of a.rules) (sized a.rules)) (vec no2.result) sm.result no2.ensures sm.ensures in
    let z = sn.ensures c.requires.by_index.0 m f (seek_near a.w.now a.q.now a.rules a.c a.edge.u a.edge.v m h a.edge.a a.edge.b a.seed c.requires.ends.0 c.requires.ends.1 na.ensures) c.requires.by_index.4 st.goes in
    (c.requires.by_index.0, a.q.now, a.c, side_nodes g (turn true) f (only_inserted 0) m a.edge.a a.edge.b, first_of a.w.now a.q.now a.rules a.c a.edge.u a.edge.v m h a.edge.a a.edge.b a.seed c.requires.ends.0 c.requires.ends.1 f na.ensures z, sides_lock a.j.now (only_inserted 0) m c.requires.by_index.3 g (turn true) f a.edge.a a.edge.b, first_log a.w.now a.q.now a.rules a.c a.edge.u a.edge.v m h a.edge.a a.edge.b a.seed c.requires.ends.0 c.requires.ends.1 f na.ensures z c.requires.by_index.5)

pub returns : goal.returns
unfolding first_turn tiny_length ◌≼◌ 1e-12 f64
returns c =
    let a = c.args in
    let le = c.length-span in
    let ft = c.from_to-tangent in
    let no = c.norm-long in
    let ta = c.target_of-target in
    let na = c.near_at in
    let sn = c.side_nodes-near in
    let no2 = c.inward_normal-normal in
    let sm = c.size_mismatch-mismatch in
    let wf = c.with_first in
    λ base m h l lg ir.
    let g = settings_of a.rules in
    let f = stance g m (a.edge.u, a.edge.v) a.seed a.edge.a a.edge.b in
    let st = stands a.w.now a.q.now a.rules a.c a.edge.u a.edge.v m h a.edge.a a.edge.b a.seed c.requires.ends.0 c.requires.ends.1 le.result le.ensures.0 (vec ft.result) ft.ensures no.result no.ensures ta.result (ta.ensures (settings_of a.rules) (sized a.rules)) (vec no2.result) sm.result no2.ensures sm.ensures in
    let z = sn.ensures base m f (seek_near a.w.now a.q.now a.rules a.c a.edge.u a.edge.v m h a.edge.a a.edge.b a.seed c.requires.ends.0 c.requires.ends.1 na.ensures) lg st.goes in
    along_to a.w.now a.q.now a.rules a.c a.edge.u a.edge.v m h a.edge.a a.edge.b a.seed c.requires.ends.0 c.requires.ends.1 f na.ensures z
    (goes_on a.w.now a.q.now a.rules a.c a.edge.u a.edge.v m h a.edge.a a.edge.b a.seed c.requires.ends.0 c.requires.ends.1 le.result le.ensures.0 (vec ft.result) ft.ensures no.result no.ensures ta.result (ta.ensures (settings_of a.rules) (sized a.rules)) c.if-target.false c.if-long.false)
    (wf.ensures base a.q.now a.c (side_nodes g (turn true) f (only_inserted 0) m a.edge.a a.edge.b) f (first_of a.w.now a.q.now a.rules a.c a.edge.u a.edge.v m h a.edge.a a.edge.b a.seed c.requires.ends.0 c.requires.ends.1 f na.ensures z) (sides_lock a.j.now (only_inserted 0) m l g (turn true) f a.edge.a a.edge.b) (first_log a.w.now a.q.now a.rules a.c a.edge.u a.edge.v m h a.edge.a a.edge.b a.seed c.requires.ends.0 c.requires.ends.1 f na.ensures z ir) st)

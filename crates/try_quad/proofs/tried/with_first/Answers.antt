-- By what was found at a: the attempt ends, or the side nodes at b are looked for and the pairs tried.
use Rattle.std.specs.Prelude.{Ok}
use mathlib.Core.Path.{refl, ap, ◌∙◌}
use mathlib.Core.Bool.{false}
use Rattle.definition.specs.Attempt.{Stance, side_nodes, try_first}
use Rattle.rules.specs.Settings.{settings_of}
use Rattle.cells.specs.Layout.{near_at}
use Rattle.plane.specs.Vectors.{vec}
use Rattle.edge_candidates.specs.Wanted.{turn}
use Rattle.outcomes.specs.Ends.{only_inserted}
use Rattle.try_quad.proofs.Answers.{if_missing, if_short, first_missing, first_overfull, first_found, first_sizes, seek_far, first_lock, first_log, first_round, first_valid, both_of, first_to}
use Rattle.try_quad.proofs.Locked.{sides_lock, sides_log}
use Rattle.try_quad.proofs.tried.with_first.Goals as goal

pub side_nodes-far-requires : goal.side_nodes-far-requires
side_nodes-far-requires c =
    let h = c.requires.4 in
    let e = (c.in-Ok.is ∙ ap Ok c.in-Some.is) in
    (c.requires.0, (first_found h e).m, seek_far h e c.far_at.ensures, first_log h e c.requires.6)

pub with_both-requires : goal.with_both-requires
with_both-requires c =
    let a = c.args in
    let h = c.requires.4 in
    let e = (c.in-Ok.is ∙ ap Ok c.in-Some.is) in
    let fa = c.far_at.ensures in
    let sn = c.side_nodes-far in
    let f : Stance = record { edge = (a.stance.edge.u, a.stance.edge.v); a = a.stance.edge.a; b = a.stance.edge.b; seed = a.stance.seed; normal = vec a.stance.normal; target = a.stance.target; mismatch = a.stance.mismatch } in
    let m = (first_found h e).m in
    let g = settings_of a.rules in
    let z = sn.ensures c.requires.0 m f (seek_far h e fa) (first_log h e c.requires.6) (record { from = refl; along = refl; far = refl; off = refl }) in
    let y = side_nodes g (turn false) f (only_inserted a.near.inserted) m a.stance.edge.b a.stance.edge.a in
    (c.requires.0, c.requires.1, c.requires.2, (first_found h e).cs, y, both_of h e {y = y} fa z, sides_lock a.j.now _ _ (first_lock h e c.requires.5) _ _ f _ _, sides_log g m (first_valid h e) _ f _ _ _ z.log (first_round h e c.requires.6))

pub returns-in-Err : goal.returns-in-Err
returns-in-Err c =
    let a = c.args in
    λ base q₀ c₀ x f h l lg st.
    let g = settings_of a.rules in
    if_short a.w.now q₀ a.q.now a.rules (near_at a.rules.lay.slots a.rules.lay.points) c₀ a.near (try_first g f) (first_missing g f) (first_overfull g f) base a.t.now c.at_once.result x c.in-Err.short h.is lg.log c.in-Err.is c.at_once.ensures

pub returns-in_default : goal.returns-in_default
returns-in_default c =
    let a = c.args in
    λ base q₀ c₀ x f h l lg st.
    let g = settings_of a.rules in
    if_missing a.w.now q₀ a.q.now a.rules (near_at a.rules.lay.slots a.rules.lay.points) c₀ a.near (try_first g f) (first_missing g f) (first_overfull g f) base a.t.now c.at_once-in_default.result x h.is lg.log (c.in-Ok.is ∙ ap Ok c.in_default.is) c.at_once-in_default.ensures

pub returns : goal.returns
returns c =
    let a = c.args in
    let e = (c.in-Ok.is ∙ ap Ok c.in-Some.is) in
    let fa = c.far_at.ensures in
    let sn = c.side_nodes-far in
    let wb = c.with_both in
    λ base q₀ c₀ x f h l lg st.
    let m = (first_found h e).m in
    let g = settings_of a.rules in
    let y = side_nodes g (turn false) f (only_inserted a.near.inserted) m a.stance.edge.b a.stance.edge.a in
    let z = sn.ensures base m f (seek_far h e fa) (first_log h e lg) st.goes in
    first_to h e {y = y} fa z f st.first st.second (refl {a = y}) wb.new.w wb.new.t wb.result
    (wb.ensures base q₀ c₀ (first_found h e).cs y f (both_of h e {y = y} fa z) (sides_lock a.j.now _ _ (first_lock h e l) _ _ f _ _) (sides_log g m (first_valid h e) _ f _ _ _ z.log (first_round h e lg)) st.edge st.first st.second)

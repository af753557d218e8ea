use Rattle.attempts.specs.Runs.{setup}
use Rattle.rounds.proofs.Trying.{turn_shows, can_try, turn_to}
use Rattle.rounds.proofs.turns.take_turn.Goals as goal

pub open_places-requires : goal.open_places-requires
open_places-requires c =
    let a = c.args in
    let k = c.requires.0 in
    let st = c.requires.1 in
    let l = c.requires.2 in
    let can = c.requires.3 in
    let x = setup a.rules k in
    let shows = turn_shows a.w.now a.q.now a.quads.now a.t.now x a.b a.e a.before st l can in
    (st.mesh, st.blocked, l, shows, can.places)

pub try_edges-requires : goal.try_edges-requires
try_edges-requires c =
    let a = c.args in
    let k = c.requires.0 in
    let st = c.requires.1 in
    let l = c.requires.2 in
    let can = c.requires.3 in
    let x = setup a.rules k in
    let shows = turn_shows a.w.now a.q.now a.quads.now a.t.now x a.b a.e a.before st l can in
    let w₁ = c.open_places.new.w in
    let to = c.open_places.ensures st.mesh st.blocked l shows can.places in
    let try = can_try a.w.now a.q.now a.quads.now a.t.now x a.b a.e a.before st l can w₁ to in
    (k, st, l, try, c.requires.4)

pub returns : goal.returns
returns c =
    let a = c.args in
    λ k st l can lk.
    let x = setup a.rules k in
    let shows = turn_shows a.w.now a.q.now a.quads.now a.t.now x a.b a.e a.before st l can in
    let w₁ = c.open_places.new.w in
    let to = c.open_places.ensures st.mesh st.blocked l shows can.places in
    let try = can_try a.w.now a.q.now a.quads.now a.t.now x a.b a.e a.before st l can w₁ to in
    turn_to a.w.now a.q.now a.quads.now a.t.now x a.b a.e a.before st l can w₁ to c.try_edges.new.w c.try_edges.new.q c.try_edges.new.quads c.try_edges.new.t c.try_edges.result (c.try_edges.ensures k st l try lk)

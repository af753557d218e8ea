-- From the oracle's case lattice-0007: one theorem for each attempt, and a chain of them. Made by tools/computed/chains.py.
use Rattle.std.specs.Prelude.{◌≡◌, refl, Bool, true, false, List, [], ◌∷◌, map, ℕ, suc, ℤ, pos, negsuc, Float}
use Rattle.std.proofs.Common.{ap, ◌∙◌}
use Rattle.std.specs.Float.{nan, inf, fin}
use Rattle.vectors.specs.Opened.{opened_attempts}
use Rattle.vectors.specs.Steps.{edges_none, edges_stuck, edges_progressed, edges_limited, edges_stopped, loops_none, loops_stuck, loops_progressed, loops_limited, loops_stopped, round_loops, run_progressed, run_stuck, run_limited, run_stopped}
use Rattle.definition.specs.Cells.{front, Tri, Quad, Cell, tri, quad, Live, Event, was_split, was_flipped, was_placed, Mesh}
use Rattle.definition.specs.Loops.{front_loops}
use Rattle.definition.specs.Front.{attempt, open_edges, try_edges, round, front_loop, outcome, counting, State, Progress, stuck, progressed, limited, stopped}
use Rattle.definition.specs.Call.{after_run}
use Rattle.definition.specs.Text.{bytes, reply, show_returned, lent_for, Bytes, Input}
use Rattle.definition.specs.Plane.{Node, Edge}
use Rattle.definition.specs.Numbers.{base, max_attempts, Settings}
use Rattle.definition.specs.Counts.{tally, ◌⊞◌, emptied, of_points, of_slots}

abbrev pt : Float → Float → Float → Node
pt a b c = record { x = a; y = b; z = c }

abbrev tr : ℕ → ℕ → ℕ → Tri
tr a b c = record { n0 = a; n1 = b; n2 = c }

abbrev qd : ℕ → ℕ → ℕ → ℕ → Edge → ℕ → ℕ → Quad
qd a b c d e r k = record { n0 = a; n1 = b; n2 = c; n3 = d; edge = e; round = r; replaced = k }

abbrev lv : ℕ → Cell → Live
lv n c = record { slot = n; cell = c }

s : Settings
s = record { quality = base; attempts = max_attempts 6; capacity = 96; slots = 160; room = 0; size = (fin false 5404319552844595 (negsuc 50)); even = true }

points_0 : List Node
points_0 = pt (fin false 1 (pos 1)) (fin false 0 (pos 0)) (fin false 0 (pos 0)) ∷ pt (fin false 0 (pos 0)) (fin false 0 (pos 0)) (fin false 0 (pos 0)) ∷ pt (fin false 1 (pos 1)) (fin false 1 (pos 2)) (fin false 0 (pos 0)) ∷ pt (fin false 1 (pos 2)) (fin false 0 (pos 0)) (fin false 0 (pos 0)) ∷ pt (fin false 1 (pos 2)) (fin false 1 (pos 1)) (fin false 0 (pos 0)) ∷ pt (fin false 1 (pos 2)) (fin false 1 (pos 2)) (fin false 0 (pos 0)) ∷ pt (fin false 0 (pos 0)) (fin false 1 (pos 1)) (fin false 0 (pos 0)) ∷ pt (fin false 1 (pos 1)) (fin false 1 (pos 1)) (fin false 0 (pos 0)) ∷ pt (fin false 0 (pos 0)) (fin false 1 (pos 2)) (fin false 0 (pos 0)) ∷ []

st_0 : State
st_0 = record { mesh = record { points = points_0; used = 6; live = lv 0 (tri (tr 1 2 8)) ∷ lv 1 (tri (tr 1 0 6)) ∷ lv 2 (tri (tr 5 3 4)) ∷ lv 3 (tri (tr 4 2 0)) ∷ lv 4 (tri (tr 0 1 8)) ∷ lv 5 (tri (tr 3 5 2)) ∷ []; bucket = (fin false 5404319552844595 (negsuc 50)); locked = λ e. false; room = 0; history = [] }; quads = []; blocked = []; counts = tally 0 0 0 0 0 0 0 0 0 0 }

st_1 : State
st_1 = record { mesh = record { points = points_0; used = 6; live = lv 0 (tri (tr 1 2 8)) ∷ lv 1 (tri (tr 1 0 6)) ∷ lv 2 (tri (tr 5 3 4)) ∷ lv 3 (tri (tr 4 2 0)) ∷ lv 4 (tri (tr 0 1 8)) ∷ lv 5 (tri (tr 3 5 2)) ∷ []; bucket = (fin false 5404319552844595 (negsuc 50)); locked = λ e. false; room = 0; history = [] }; quads = []; blocked = (1, 6) ∷ []; counts = tally 0 1 0 1 0 0 0 0 0 0 }

st_2 : State
st_2 = record { mesh = record { points = points_0; used = 6; live = lv 0 (tri (tr 1 2 8)) ∷ lv 1 (tri (tr 1 0 6)) ∷ lv 2 (tri (tr 5 3 4)) ∷ lv 3 (tri (tr 4 2 0)) ∷ lv 4 (tri (tr 0 1 8)) ∷ lv 5 (tri (tr 3 5 2)) ∷ []; bucket = (fin false 5404319552844595 (negsuc 50)); locked = λ e. false; room = 0; history = [] }; quads = []; blocked = (0, 6) ∷ (1, 6) ∷ []; counts = tally 0 2 0 2 0 0 0 0 0 0 }

st_3 : State
st_3 = record { mesh = record { points = points_0; used = 6; live = lv 0 (tri (tr 1 2 8)) ∷ lv 1 (tri (tr 1 0 6)) ∷ lv 2 (tri (tr 5 3 4)) ∷ lv 3 (tri (tr 4 2 0)) ∷ lv 4 (tri (tr 0 1 8)) ∷ lv 5 (tri (tr 3 5 2)) ∷ []; bucket = (fin false 5404319552844595 (negsuc 50)); locked = λ e. false; room = 0; history = [] }; quads = []; blocked = (0, 2) ∷ (0, 6) ∷ (1, 6) ∷ []; counts = tally 0 3 0 3 0 0 0 0 0 0 }

st_4 : State
st_4 = record { mesh = record { points = points_0; used = 6; live = lv 0 (tri (tr 1 2 8)) ∷ lv 1 (tri (tr 1 0 6)) ∷ lv 2 (tri (tr 5 3 4)) ∷ lv 3 (tri (tr 4 2 0)) ∷ lv 4 (tri (tr 0 1 8)) ∷ lv 5 (tri (tr 3 5 2)) ∷ []; bucket = (fin false 5404319552844595 (negsuc 50)); locked = λ e. false; room = 0; history = [] }; quads = []; blocked = (1, 2) ∷ (0, 2) ∷ (0, 6) ∷ (1, 6) ∷ []; counts = tally 0 4 0 4 0 0 0 0 0 0 }

st_5 : State
st_5 = record { mesh = record { points = points_0; used = 6; live = lv 0 (tri (tr 1 2 8)) ∷ lv 1 (tri (tr 1 0 6)) ∷ lv 2 (tri (tr 5 3 4)) ∷ lv 3 (tri (tr 4 2 0)) ∷ lv 4 (tri (tr 0 1 8)) ∷ lv 5 (tri (tr 3 5 2)) ∷ []; bucket = (fin false 5404319552844595 (negsuc 50)); locked = λ e. false; room = 0; history = [] }; quads = []; blocked = (2, 5) ∷ (1, 2) ∷ (0, 2) ∷ (0, 6) ∷ (1, 6) ∷ []; counts = tally 0 5 0 5 0 0 0 0 0 0 }

st_6 : State
st_6 = record { mesh = record { points = points_0; used = 6; live = lv 0 (tri (tr 1 2 8)) ∷ lv 1 (tri (tr 1 0 6)) ∷ lv 2 (tri (tr 5 3 4)) ∷ lv 3 (tri (tr 4 2 0)) ∷ lv 4 (tri (tr 0 1 8)) ∷ lv 5 (tri (tr 3 5 2)) ∷ []; bucket = (fin false 5404319552844595 (negsuc 50)); locked = λ e. false; room = 0; history = [] }; quads = []; blocked = (2, 8) ∷ (2, 5) ∷ (1, 2) ∷ (0, 2) ∷ (0, 6) ∷ (1, 6) ∷ []; counts = tally 0 6 0 5 1 0 0 0 0 2 }

st_7 : State
st_7 = record { mesh = record { points = points_0; used = 6; live = lv 0 (tri (tr 1 2 8)) ∷ lv 1 (tri (tr 1 0 6)) ∷ lv 2 (tri (tr 5 3 4)) ∷ lv 3 (tri (tr 4 2 0)) ∷ lv 4 (tri (tr 0 1 8)) ∷ lv 5 (tri (tr 3 5 2)) ∷ []; bucket = (fin false 5404319552844595 (negsuc 50)); locked = λ e. false; room = 0; history = [] }; quads = []; blocked = (3, 4) ∷ (2, 8) ∷ (2, 5) ∷ (1, 2) ∷ (0, 2) ∷ (0, 6) ∷ (1, 6) ∷ []; counts = tally 0 7 0 6 1 0 0 0 0 2 }

st_8 : State
st_8 = record { mesh = record { points = points_0; used = 6; live = lv 0 (tri (tr 1 2 8)) ∷ lv 1 (tri (tr 1 0 6)) ∷ lv 2 (tri (tr 5 3 4)) ∷ lv 3 (tri (tr 4 2 0)) ∷ lv 4 (tri (tr 0 1 8)) ∷ lv 5 (tri (tr 3 5 2)) ∷ []; bucket = (fin false 5404319552844595 (negsuc 50)); locked = λ e. false; room = 0; history = [] }; quads = []; blocked = (4, 5) ∷ (3, 4) ∷ (2, 8) ∷ (2, 5) ∷ (1, 2) ∷ (0, 2) ∷ (0, 6) ∷ (1, 6) ∷ []; counts = tally 0 8 1 6 1 0 0 0 0 2 }

st_9 : State
st_9 = record { mesh = record { points = points_0; used = 6; live = lv 0 (tri (tr 1 2 8)) ∷ lv 1 (tri (tr 1 0 6)) ∷ lv 2 (tri (tr 5 3 4)) ∷ lv 3 (tri (tr 4 2 0)) ∷ lv 4 (tri (tr 0 1 8)) ∷ lv 5 (tri (tr 3 5 2)) ∷ []; bucket = (fin false 5404319552844595 (negsuc 50)); locked = λ e. false; room = 0; history = [] }; quads = []; blocked = (0, 4) ∷ (4, 5) ∷ (3, 4) ∷ (2, 8) ∷ (2, 5) ∷ (1, 2) ∷ (0, 2) ∷ (0, 6) ∷ (1, 6) ∷ []; counts = tally 0 9 1 6 1 1 0 0 0 3 }

st_10 : State
st_10 = record { mesh = record { points = points_0; used = 6; live = lv 0 (tri (tr 1 2 8)) ∷ lv 1 (tri (tr 1 0 6)) ∷ lv 2 (tri (tr 5 3 4)) ∷ lv 3 (tri (tr 4 2 0)) ∷ lv 4 (tri (tr 0 1 8)) ∷ lv 5 (tri (tr 3 5 2)) ∷ []; bucket = (fin false 5404319552844595 (negsuc 50)); locked = λ e. false; room = 0; history = [] }; quads = []; blocked = (2, 4) ∷ (0, 4) ∷ (4, 5) ∷ (3, 4) ∷ (2, 8) ∷ (2, 5) ∷ (1, 2) ∷ (0, 2) ∷ (0, 6) ∷ (1, 6) ∷ []; counts = tally 0 10 1 6 1 2 0 0 0 4 }

st_11 : State
st_11 = record { mesh = record { points = points_0; used = 6; live = lv 0 (tri (tr 1 2 8)) ∷ lv 1 (tri (tr 1 0 6)) ∷ lv 2 (tri (tr 5 3 4)) ∷ lv 3 (tri (tr 4 2 0)) ∷ lv 4 (tri (tr 0 1 8)) ∷ lv 5 (tri (tr 3 5 2)) ∷ []; bucket = (fin false 5404319552844595 (negsuc 50)); locked = λ e. false; room = 0; history = [] }; quads = []; blocked = (0, 8) ∷ (2, 4) ∷ (0, 4) ∷ (4, 5) ∷ (3, 4) ∷ (2, 8) ∷ (2, 5) ∷ (1, 2) ∷ (0, 2) ∷ (0, 6) ∷ (1, 6) ∷ []; counts = tally 0 11 1 7 1 2 0 0 0 4 }

st_12 : State
st_12 = record { mesh = record { points = points_0; used = 6; live = lv 0 (tri (tr 1 2 8)) ∷ lv 1 (tri (tr 1 0 6)) ∷ lv 2 (tri (tr 5 3 4)) ∷ lv 3 (tri (tr 4 2 0)) ∷ lv 4 (tri (tr 0 1 8)) ∷ lv 5 (tri (tr 3 5 2)) ∷ []; bucket = (fin false 5404319552844595 (negsuc 50)); locked = λ e. false; room = 0; history = [] }; quads = []; blocked = (2, 3) ∷ (0, 8) ∷ (2, 4) ∷ (0, 4) ∷ (4, 5) ∷ (3, 4) ∷ (2, 8) ∷ (2, 5) ∷ (1, 2) ∷ (0, 2) ∷ (0, 6) ∷ (1, 6) ∷ []; counts = tally 0 12 1 8 1 2 0 0 0 4 }

front_is_0 : front st_0.mesh ≡ (0, 2) ∷ (0, 4) ∷ (0, 6) ∷ (0, 8) ∷ (1, 2) ∷ (1, 6) ∷ (2, 3) ∷ (2, 4) ∷ (2, 5) ∷ (2, 8) ∷ (3, 4) ∷ (4, 5) ∷ []
unfolding opened_attempts s points_0 st_0
front_is_0 = refl

loops_are_0 : front_loops st_0.mesh.points ((0, 2) ∷ (0, 4) ∷ (0, 6) ∷ (0, 8) ∷ (1, 2) ∷ (1, 6) ∷ (2, 3) ∷ (2, 4) ∷ (2, 5) ∷ (2, 8) ∷ (3, 4) ∷ (4, 5) ∷ []) ≡ ((0, 2) ∷ (1, 2) ∷ (1, 6) ∷ (0, 6) ∷ []) ∷ ((0, 4) ∷ (2, 4) ∷ (2, 3) ∷ (3, 4) ∷ (4, 5) ∷ (2, 5) ∷ (2, 8) ∷ (0, 8) ∷ []) ∷ []
unfolding opened_attempts s points_0 st_0
loops_are_0 = refl

open_is_0 : open_edges st_0 ((0, 2) ∷ (1, 2) ∷ (1, 6) ∷ (0, 6) ∷ []) ≡ (1, 6) ∷ (0, 6) ∷ (0, 2) ∷ (1, 2) ∷ []
unfolding opened_attempts s points_0 st_0
open_is_0 = refl

attempt_is_0 : attempt s 6 st_0 (1, 6) ≡ stuck st_1
unfolding opened_attempts s points_0 st_0 st_1
attempt_is_0 = refl

attempt_is_1 : attempt s 6 st_1 (0, 6) ≡ stuck st_2
unfolding opened_attempts s points_0 st_1 st_2
attempt_is_1 = refl

attempt_is_2 : attempt s 6 st_2 (0, 2) ≡ stuck st_3
unfolding opened_attempts s points_0 st_2 st_3
attempt_is_2 = refl

attempt_is_3 : attempt s 6 st_3 (1, 2) ≡ stuck st_4
unfolding opened_attempts s points_0 st_3 st_4
attempt_is_3 = refl

edges_are_0 : try_edges s 6 st_0 ((1, 6) ∷ (0, 6) ∷ (0, 2) ∷ (1, 2) ∷ []) ≡ stuck st_4
edges_are_0 = edges_stuck s 6 st_0 st_1 (1, 6) ((0, 6) ∷ (0, 2) ∷ (1, 2) ∷ []) attempt_is_0 ∙ edges_stuck s 6 st_1 st_2 (0, 6) ((0, 2) ∷ (1, 2) ∷ []) attempt_is_1 ∙ edges_stuck s 6 st_2 st_3 (0, 2) ((1, 2) ∷ []) attempt_is_2 ∙ edges_stuck s 6 st_3 st_4 (1, 2) ([]) attempt_is_3 ∙ edges_none s 6 st_4

open_is_1 : open_edges st_4 ((0, 4) ∷ (2, 4) ∷ (2, 3) ∷ (3, 4) ∷ (4, 5) ∷ (2, 5) ∷ (2, 8) ∷ (0, 8) ∷ []) ≡ (2, 5) ∷ (2, 8) ∷ (3, 4) ∷ (4, 5) ∷ (0, 4) ∷ (2, 4) ∷ (0, 8) ∷ (2, 3) ∷ []
unfolding opened_attempts s points_0 st_4
open_is_1 = refl

attempt_is_4 : attempt s 6 st_4 (2, 5) ≡ stuck st_5
unfolding opened_attempts s points_0 st_4 st_5
attempt_is_4 = refl

attempt_is_5 : attempt s 6 st_5 (2, 8) ≡ stuck st_6
unfolding opened_attempts s points_0 st_5 st_6
attempt_is_5 = refl

attempt_is_6 : attempt s 6 st_6 (3, 4) ≡ stuck st_7
unfolding opened_attempts s points_0 st_6 st_7
attempt_is_6 = refl

attempt_is_7 : attempt s 6 st_7 (4, 5) ≡ stuck st_8
unfolding opened_attempts s points_0 st_7 st_8
attempt_is_7 = refl

attempt_is_8 : attempt s 6 st_8 (0, 4) ≡ stuck st_9
unfolding opened_attempts s points_0 st_8 st_9
attempt_is_8 = refl

attempt_is_9 : attempt s 6 st_9 (2, 4) ≡ stuck st_10
unfolding opened_attempts s points_0 st_10 st_9
attempt_is_9 = refl

attempt_is_10 : attempt s 6 st_10 (0, 8) ≡ stuck st_11
unfolding opened_attempts s points_0 st_10 st_11
attempt_is_10 = refl

attempt_is_11 : attempt s 6 st_11 (2, 3) ≡ stuck st_12
unfolding opened_attempts s points_0 st_11 st_12
attempt_is_11 = refl

edges_are_1 : try_edges s 6 st_4 ((2, 5) ∷ (2, 8) ∷ (3, 4) ∷ (4, 5) ∷ (0, 4) ∷ (2, 4) ∷ (0, 8) ∷ (2, 3) ∷ []) ≡ stuck st_12
edges_are_1 = edges_stuck s 6 st_4 st_5 (2, 5) ((2, 8) ∷ (3, 4) ∷ (4, 5) ∷ (0, 4) ∷ (2, 4) ∷ (0, 8) ∷ (2, 3) ∷ []) attempt_is_4 ∙ edges_stuck s 6 st_5 st_6 (2, 8) ((3, 4) ∷ (4, 5) ∷ (0, 4) ∷ (2, 4) ∷ (0, 8) ∷ (2, 3) ∷ []) attempt_is_5 ∙ edges_stuck s 6 st_6 st_7 (3, 4) ((4, 5) ∷ (0, 4) ∷ (2, 4) ∷ (0, 8) ∷ (2, 3) ∷ []) attempt_is_6 ∙ edges_stuck s 6 st_7 st_8 (4, 5) ((0, 4) ∷ (2, 4) ∷ (0, 8) ∷ (2, 3) ∷ []) attempt_is_7 ∙ edges_stuck s 6 st_8 st_9 (0, 4) ((2, 4) ∷ (0, 8) ∷ (2, 3) ∷ []) attempt_is_8 ∙ edges_stuck s 6 st_9 st_10 (2, 4) ((0, 8) ∷ (2, 3) ∷ []) attempt_is_9 ∙ edges_stuck s 6 st_10 st_11 (0, 8) ((2, 3) ∷ []) attempt_is_10 ∙ edges_stuck s 6 st_11 st_12 (2, 3) ([]) attempt_is_11 ∙ edges_none s 6 st_12

round_is_0 : round s 6 st_0 ((0, 2) ∷ (0, 4) ∷ (0, 6) ∷ (0, 8) ∷ (1, 2) ∷ (1, 6) ∷ (2, 3) ∷ (2, 4) ∷ (2, 5) ∷ (2, 8) ∷ (3, 4) ∷ (4, 5) ∷ []) ≡ stuck st_12
round_is_0 = round_loops s 6 st_0 (0, 2) ((0, 4) ∷ (0, 6) ∷ (0, 8) ∷ (1, 2) ∷ (1, 6) ∷ (2, 3) ∷ (2, 4) ∷ (2, 5) ∷ (2, 8) ∷ (3, 4) ∷ (4, 5) ∷ []) (((0, 2) ∷ (1, 2) ∷ (1, 6) ∷ (0, 6) ∷ []) ∷ ((0, 4) ∷ (2, 4) ∷ (2, 3) ∷ (3, 4) ∷ (4, 5) ∷ (2, 5) ∷ (2, 8) ∷ (0, 8) ∷ []) ∷ []) loops_are_0 ∙ loops_stuck s 6 st_0 st_4 ((0, 2) ∷ (1, 2) ∷ (1, 6) ∷ (0, 6) ∷ []) (((0, 4) ∷ (2, 4) ∷ (2, 3) ∷ (3, 4) ∷ (4, 5) ∷ (2, 5) ∷ (2, 8) ∷ (0, 8) ∷ []) ∷ []) ((1, 6) ∷ (0, 6) ∷ (0, 2) ∷ (1, 2) ∷ []) open_is_0 edges_are_0 ∙ loops_stuck s 6 st_4 st_12 ((0, 4) ∷ (2, 4) ∷ (2, 3) ∷ (3, 4) ∷ (4, 5) ∷ (2, 5) ∷ (2, 8) ∷ (0, 8) ∷ []) ([]) ((2, 5) ∷ (2, 8) ∷ (3, 4) ∷ (4, 5) ∷ (0, 4) ∷ (2, 4) ∷ (0, 8) ∷ (2, 3) ∷ []) open_is_1 edges_are_1 ∙ loops_none s 6 st_12

given : List (List ℕ)
given = (0x4000000000000000 ∷ 0x0000000000000000 ∷ 0x0000000000000000 ∷ []) ∷ (0x0000000000000000 ∷ 0x0000000000000000 ∷ 0x0000000000000000 ∷ []) ∷ (0x4000000000000000 ∷ 0x4010000000000000 ∷ 0x0000000000000000 ∷ []) ∷ (0x4010000000000000 ∷ 0x0000000000000000 ∷ 0x0000000000000000 ∷ []) ∷ (0x4010000000000000 ∷ 0x4000000000000000 ∷ 0x0000000000000000 ∷ []) ∷ (0x4010000000000000 ∷ 0x4010000000000000 ∷ 0x0000000000000000 ∷ []) ∷ (0x0000000000000000 ∷ 0x4000000000000000 ∷ 0x0000000000000000 ∷ []) ∷ (0x4000000000000000 ∷ 0x4000000000000000 ∷ 0x0000000000000000 ∷ []) ∷ (0x0000000000000000 ∷ 0x4010000000000000 ∷ 0x0000000000000000 ∷ []) ∷ []

the_input : Input
the_input = record { size = 0x4003333333333333; stop = 1; triangles = (1 ∷ 2 ∷ 8 ∷ []) ∷ (1 ∷ 0 ∷ 6 ∷ []) ∷ (5 ∷ 3 ∷ 4 ∷ []) ∷ (4 ∷ 2 ∷ 0 ∷ []) ∷ (0 ∷ 1 ∷ 8 ∷ []) ∷ (3 ∷ 5 ∷ 2 ∷ []) ∷ []; points = given }

input_text : Bytes
input_text = bytes "triangles points size stop\n6 9 4003333333333333 1\nn0 n1 n2\n1 2 8\n1 0 6\n5 3 4\n4 2 0\n0 1 8\n3 5 2\nx y z\n4000000000000000 0000000000000000 0000000000000000\n0000000000000000 0000000000000000 0000000000000000\n4000000000000000 4010000000000000 0000000000000000\n4010000000000000 0000000000000000 0000000000000000\n4010000000000000 4000000000000000 0000000000000000\n4010000000000000 4010000000000000 0000000000000000\n0000000000000000 4000000000000000 0000000000000000\n4000000000000000 4000000000000000 0000000000000000\n0000000000000000 4010000000000000 0000000000000000\n"

output_text : Bytes
output_text = bytes "front_empty attempts placement invalid_quad recovery region odd_region mismatch_insertions limit\n0 12 1 8 1 2 0 0 0\nquads triangles points components\n0 6 9 3\nn0 n1 n2 n3 u v round replaced\nn0 n1 n2\n1 2 8\n1 0 6\n5 3 4\n4 2 0\n0 1 8\n3 5 2\nx y z\n4000000000000000 0000000000000000 0000000000000000\n0000000000000000 0000000000000000 0000000000000000\n4000000000000000 4010000000000000 0000000000000000\n4010000000000000 0000000000000000 0000000000000000\n4010000000000000 4000000000000000 0000000000000000\n4010000000000000 4010000000000000 0000000000000000\n0000000000000000 4000000000000000 0000000000000000\n4000000000000000 4000000000000000 0000000000000000\n0000000000000000 4010000000000000 0000000000000000\nsize\n3\n2\n1\n"

begins : reply input_text ≡ show_returned given (after_run (lent_for the_input) (outcome (front_loop 11202 s 6 st_0)))
unfolding opened_attempts s points_0 given input_text st_0 the_input
begins = refl

the_run : front_loop 11202 s 6 st_0 ≡ stuck st_12
the_run = run_stuck s 6 11201 st_0 st_12 ((0, 2) ∷ (0, 4) ∷ (0, 6) ∷ (0, 8) ∷ (1, 2) ∷ (1, 6) ∷ (2, 3) ∷ (2, 4) ∷ (2, 5) ∷ (2, 8) ∷ (3, 4) ∷ (4, 5) ∷ []) front_is_0 round_is_0

finishes : show_returned given (after_run (lent_for the_input) (outcome (stuck st_12))) ≡ output_text
unfolding opened_attempts s points_0 given output_text st_12 the_input
finishes = refl

case : reply input_text ≡ output_text
case = begins ∙ ap (λ r. show_returned given (after_run (lent_for the_input) (outcome r))) the_run ∙ finishes

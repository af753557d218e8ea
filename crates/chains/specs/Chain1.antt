-- From the oracle's case ring-0001: one theorem for each attempt, and a chain of them. Made by tools/computed/chains.py.
use Rattle.std.specs.Prelude.{◌≡◌, refl, Bool, true, false, List, [], ◌∷◌, map, ℕ, suc, ℤ, pos, negsuc, Float}
use Rattle.std.proofs.Common.{ap, ◌∙◌}
use Rattle.std.specs.Float.{nan, inf, fin}
use Rattle.vectors.specs.Opened.{opened_attempts}
use Rattle.vectors.specs.Steps.{edges_none, edges_stuck, edges_progressed, edges_limited, edges_stopped, loops_none, loops_stuck, loops_progressed, loops_limited, loops_stopped, round_loops, run_progressed, run_stuck, run_limited, run_stopped}
use Rattle.definition.specs.Cells.{front, Tri, Quad, Cell, tri, quad, Live, Event, was_split, was_flipped, was_placed, Mesh}
use Rattle.definition.specs.Loops.{front_loops}
use Rattle.definition.specs.Front.{attempt, open_edges, try_edges, round, front_loop, outcome, counting, State, Progress, stuck, progressed, limited, stopped}
use Rattle.definition.specs.Call.{after_run}
use Rattle.definition.specs.Text.{bytes, reply, show_returned, lent_for, Bytes, Input}
use Rattle.definition.specs.Plane.{Node, Edge}
use Rattle.definition.specs.Numbers.{base, max_attempts, Settings}
use Rattle.definition.specs.Counts.{tally, ◌⊞◌, emptied, of_points, of_slots}

abbrev pt : Float → Float → Float → Node
pt a b c = record { x = a; y = b; z = c }

abbrev tr : ℕ → ℕ → ℕ → Tri
tr a b c = record { n0 = a; n1 = b; n2 = c }

abbrev qd : ℕ → ℕ → ℕ → ℕ → Edge → ℕ → ℕ → Quad
qd a b c d e r k = record { n0 = a; n1 = b; n2 = c; n3 = d; edge = e; round = r; replaced = k }

abbrev lv : ℕ → Cell → Live
lv n c = record { slot = n; cell = c }

s : Settings
s = record { quality = base; attempts = max_attempts 6; capacity = 96; slots = 160; room = 0; size = (fin false 5404319552844595 (negsuc 53)); even = true }

points_0 : List Node
points_0 = pt (fin false 1 (pos 0)) (fin false 0 (pos 0)) (fin false 0 (pos 0)) ∷ pt (fin true 2251799813685247 (negsuc 51)) (fin false 7800463371553963 (negsuc 52)) (fin false 0 (pos 0)) ∷ pt (fin true 1125899906842625 (negsuc 50)) (fin true 975057921444245 (negsuc 49)) (fin false 0 (pos 0)) ∷ pt (fin false 3 (negsuc 0)) (fin false 0 (pos 0)) (fin false 0 (pos 0)) ∷ pt (fin true 6755399441055741 (negsuc 52)) (fin false 45705840067699 (negsuc 44)) (fin false 0 (pos 0)) ∷ pt (fin true 3377699720527875 (negsuc 51)) (fin true 2925173764332735 (negsuc 50)) (fin false 0 (pos 0)) ∷ []

points_1 : List Node
points_1 = pt (fin false 1 (pos 0)) (fin false 0 (pos 0)) (fin false 0 (pos 0)) ∷ pt (fin true 2251799813685247 (negsuc 51)) (fin false 7800463371553963 (negsuc 52)) (fin false 0 (pos 0)) ∷ pt (fin true 1125899906842625 (negsuc 50)) (fin true 975057921444245 (negsuc 49)) (fin false 0 (pos 0)) ∷ pt (fin false 3 (negsuc 0)) (fin false 0 (pos 0)) (fin false 0 (pos 0)) ∷ pt (fin true 6755399441055741 (negsuc 52)) (fin false 45705840067699 (negsuc 44)) (fin false 0 (pos 0)) ∷ pt (fin true 3377699720527875 (negsuc 51)) (fin true 2925173764332735 (negsuc 50)) (fin false 0 (pos 0)) ∷ pt (fin true 413107796105629 (negsuc 48)) (fin false 6584491472163929 (negsuc 52)) (fin false 0 (pos 0)) ∷ []

points_2 : List Node
points_2 = pt (fin false 1 (pos 0)) (fin false 0 (pos 0)) (fin false 0 (pos 0)) ∷ pt (fin true 2251799813685247 (negsuc 51)) (fin false 7800463371553963 (negsuc 52)) (fin false 0 (pos 0)) ∷ pt (fin true 1125899906842625 (negsuc 50)) (fin true 975057921444245 (negsuc 49)) (fin false 0 (pos 0)) ∷ pt (fin false 3 (negsuc 0)) (fin false 0 (pos 0)) (fin false 0 (pos 0)) ∷ pt (fin true 6755399441055741 (negsuc 52)) (fin false 45705840067699 (negsuc 44)) (fin false 0 (pos 0)) ∷ pt (fin true 3377699720527875 (negsuc 51)) (fin true 2925173764332735 (negsuc 50)) (fin false 0 (pos 0)) ∷ pt (fin true 413107796105629 (negsuc 48)) (fin false 6584491472163929 (negsuc 52)) (fin false 0 (pos 0)) ∷ pt (fin true 2397474517050931 (negsuc 52)) (fin true 2254108817735999 (negsuc 50)) (fin false 0 (pos 0)) ∷ []

st_0 : State
st_0 = record { mesh = record { points = points_0; used = 6; live = lv 0 (tri (tr 3 4 0)) ∷ lv 1 (tri (tr 4 1 0)) ∷ lv 2 (tri (tr 4 5 2)) ∷ lv 3 (tri (tr 4 2 1)) ∷ lv 4 (tri (tr 5 3 0)) ∷ lv 5 (tri (tr 5 0 2)) ∷ []; bucket = (fin false 5404319552844595 (negsuc 53)); locked = λ e. false; room = 0; history = [] }; quads = []; blocked = []; counts = tally 0 0 0 0 0 0 0 0 0 0 }

st_1 : State
st_1 = record { mesh = record { points = points_0; used = 7; live = lv 2 (tri (tr 4 5 2)) ∷ lv 3 (tri (tr 4 2 1)) ∷ lv 4 (tri (tr 5 3 0)) ∷ lv 5 (tri (tr 5 0 2)) ∷ lv 6 (quad (qd 1 0 3 4 (0, 1) 1 2)) ∷ []; bucket = (fin false 5404319552844595 (negsuc 53)); locked = λ e. false; room = 0; history = was_placed (qd 1 0 3 4 (0, 1) 1 2) (1 ∷ 0 ∷ []) ∷ [] }; quads = (qd 1 0 3 4 (0, 1) 1 2) ∷ []; blocked = []; counts = tally 0 1 0 0 0 0 0 0 0 1 }

st_2 : State
st_2 = record { mesh = record { points = points_1; used = 9; live = lv 3 (tri (tr 4 2 1)) ∷ lv 4 (tri (tr 5 3 0)) ∷ lv 5 (tri (tr 5 0 2)) ∷ lv 6 (quad (qd 1 0 3 4 (0, 1) 1 2)) ∷ lv 2 (tri (tr 4 5 6)) ∷ lv 7 (tri (tr 5 2 6)) ∷ lv 8 (tri (tr 2 4 6)) ∷ []; bucket = (fin false 5404319552844595 (negsuc 53)); locked = λ e. false; room = 0; history = was_placed (qd 1 0 3 4 (0, 1) 1 2) (1 ∷ 0 ∷ []) ∷ was_split 2 (pt (fin true 413107796105629 (negsuc 48)) (fin false 6584491472163929 (negsuc 52)) (fin false 0 (pos 0))) ∷ [] }; quads = (qd 1 0 3 4 (0, 1) 1 2) ∷ []; blocked = (1, 4) ∷ []; counts = tally 0 2 0 1 0 0 0 1 0 1 }

st_3 : State
st_3 = record { mesh = record { points = points_1; used = 9; live = lv 3 (tri (tr 4 2 1)) ∷ lv 4 (tri (tr 5 3 0)) ∷ lv 5 (tri (tr 5 0 2)) ∷ lv 6 (quad (qd 1 0 3 4 (0, 1) 1 2)) ∷ lv 2 (tri (tr 4 5 6)) ∷ lv 7 (tri (tr 5 2 6)) ∷ lv 8 (tri (tr 2 4 6)) ∷ []; bucket = (fin false 5404319552844595 (negsuc 53)); locked = λ e. false; room = 0; history = was_placed (qd 1 0 3 4 (0, 1) 1 2) (1 ∷ 0 ∷ []) ∷ was_split 2 (pt (fin true 413107796105629 (negsuc 48)) (fin false 6584491472163929 (negsuc 52)) (fin false 0 (pos 0))) ∷ [] }; quads = (qd 1 0 3 4 (0, 1) 1 2) ∷ []; blocked = (0, 3) ∷ (1, 4) ∷ []; counts = tally 0 3 1 1 0 0 0 1 0 1 }

st_4 : State
st_4 = record { mesh = record { points = points_1; used = 10; live = lv 4 (tri (tr 5 3 0)) ∷ lv 5 (tri (tr 5 0 2)) ∷ lv 6 (quad (qd 1 0 3 4 (0, 1) 1 2)) ∷ lv 9 (quad (qd 2 1 4 5 (1, 2) 2 4)) ∷ []; bucket = (fin false 5404319552844595 (negsuc 53)); locked = λ e. false; room = 0; history = was_placed (qd 1 0 3 4 (0, 1) 1 2) (1 ∷ 0 ∷ []) ∷ was_split 2 (pt (fin true 413107796105629 (negsuc 48)) (fin false 6584491472163929 (negsuc 52)) (fin false 0 (pos 0))) ∷ was_placed (qd 2 1 4 5 (1, 2) 2 4) (3 ∷ 8 ∷ 2 ∷ 7 ∷ []) ∷ [] }; quads = (qd 1 0 3 4 (0, 1) 1 2) ∷ (qd 2 1 4 5 (1, 2) 2 4) ∷ []; blocked = (0, 3) ∷ []; counts = tally 0 4 1 1 0 0 0 1 0 2 }

st_5 : State
st_5 = record { mesh = record { points = points_2; used = 12; live = lv 5 (tri (tr 5 0 2)) ∷ lv 6 (quad (qd 1 0 3 4 (0, 1) 1 2)) ∷ lv 9 (quad (qd 2 1 4 5 (1, 2) 2 4)) ∷ lv 4 (tri (tr 5 3 7)) ∷ lv 10 (tri (tr 3 0 7)) ∷ lv 11 (tri (tr 0 5 7)) ∷ []; bucket = (fin false 5404319552844595 (negsuc 53)); locked = λ e. false; room = 0; history = was_placed (qd 1 0 3 4 (0, 1) 1 2) (1 ∷ 0 ∷ []) ∷ was_split 2 (pt (fin true 413107796105629 (negsuc 48)) (fin false 6584491472163929 (negsuc 52)) (fin false 0 (pos 0))) ∷ was_placed (qd 2 1 4 5 (1, 2) 2 4) (3 ∷ 8 ∷ 2 ∷ 7 ∷ []) ∷ was_split 4 (pt (fin true 2397474517050931 (negsuc 52)) (fin true 2254108817735999 (negsuc 50)) (fin false 0 (pos 0))) ∷ [] }; quads = (qd 1 0 3 4 (0, 1) 1 2) ∷ (qd 2 1 4 5 (1, 2) 2 4) ∷ []; blocked = (2, 5) ∷ (0, 3) ∷ []; counts = tally 0 5 1 2 0 0 0 2 0 2 }

st_6 : State
st_6 = record { mesh = record { points = points_2; used = 13; live = lv 6 (quad (qd 1 0 3 4 (0, 1) 1 2)) ∷ lv 9 (quad (qd 2 1 4 5 (1, 2) 2 4)) ∷ lv 12 (quad (qd 0 2 5 3 (0, 2) 3 4)) ∷ []; bucket = (fin false 5404319552844595 (negsuc 53)); locked = λ e. false; room = 0; history = was_placed (qd 1 0 3 4 (0, 1) 1 2) (1 ∷ 0 ∷ []) ∷ was_split 2 (pt (fin true 413107796105629 (negsuc 48)) (fin false 6584491472163929 (negsuc 52)) (fin false 0 (pos 0))) ∷ was_placed (qd 2 1 4 5 (1, 2) 2 4) (3 ∷ 8 ∷ 2 ∷ 7 ∷ []) ∷ was_split 4 (pt (fin true 2397474517050931 (negsuc 52)) (fin true 2254108817735999 (negsuc 50)) (fin false 0 (pos 0))) ∷ was_placed (qd 0 2 5 3 (0, 2) 3 4) (5 ∷ 11 ∷ 4 ∷ 10 ∷ []) ∷ [] }; quads = (qd 1 0 3 4 (0, 1) 1 2) ∷ (qd 2 1 4 5 (1, 2) 2 4) ∷ (qd 0 2 5 3 (0, 2) 3 4) ∷ []; blocked = []; counts = tally 0 6 1 2 0 0 0 2 0 3 }

st_7 : State
st_7 = record { mesh = record { points = points_2; used = 13; live = lv 6 (quad (qd 1 0 3 4 (0, 1) 1 2)) ∷ lv 9 (quad (qd 2 1 4 5 (1, 2) 2 4)) ∷ lv 12 (quad (qd 0 2 5 3 (0, 2) 3 4)) ∷ []; bucket = (fin false 5404319552844595 (negsuc 53)); locked = λ e. false; room = 0; history = was_placed (qd 1 0 3 4 (0, 1) 1 2) (1 ∷ 0 ∷ []) ∷ was_split 2 (pt (fin true 413107796105629 (negsuc 48)) (fin false 6584491472163929 (negsuc 52)) (fin false 0 (pos 0))) ∷ was_placed (qd 2 1 4 5 (1, 2) 2 4) (3 ∷ 8 ∷ 2 ∷ 7 ∷ []) ∷ was_split 4 (pt (fin true 2397474517050931 (negsuc 52)) (fin true 2254108817735999 (negsuc 50)) (fin false 0 (pos 0))) ∷ was_placed (qd 0 2 5 3 (0, 2) 3 4) (5 ∷ 11 ∷ 4 ∷ 10 ∷ []) ∷ [] }; quads = (qd 1 0 3 4 (0, 1) 1 2) ∷ (qd 2 1 4 5 (1, 2) 2 4) ∷ (qd 0 2 5 3 (0, 2) 3 4) ∷ []; blocked = []; counts = tally 1 6 1 2 0 0 0 2 0 3 }

front_is_0 : front st_0.mesh ≡ (0, 1) ∷ (0, 2) ∷ (1, 2) ∷ (3, 4) ∷ (3, 5) ∷ (4, 5) ∷ []
unfolding opened_attempts s points_0 points_1 points_2 st_0
front_is_0 = refl

loops_are_0 : front_loops st_0.mesh.points ((0, 1) ∷ (0, 2) ∷ (1, 2) ∷ (3, 4) ∷ (3, 5) ∷ (4, 5) ∷ []) ≡ ((0, 1) ∷ (1, 2) ∷ (0, 2) ∷ []) ∷ ((3, 4) ∷ (4, 5) ∷ (3, 5) ∷ []) ∷ []
unfolding opened_attempts s points_0 points_1 points_2 st_0
loops_are_0 = refl

open_is_0 : open_edges st_0 ((0, 1) ∷ (1, 2) ∷ (0, 2) ∷ []) ≡ (0, 1) ∷ (1, 2) ∷ (0, 2) ∷ []
unfolding opened_attempts s points_0 points_1 points_2 st_0
open_is_0 = refl

attempt_is_0 : attempt s 6 st_0 (0, 1) ≡ progressed st_1
unfolding opened_attempts s points_0 points_1 points_2 st_0 st_1
attempt_is_0 = refl

edges_are_0 : try_edges s 6 st_0 ((0, 1) ∷ (1, 2) ∷ (0, 2) ∷ []) ≡ progressed st_1
edges_are_0 = edges_progressed s 6 st_0 st_1 (0, 1) ((1, 2) ∷ (0, 2) ∷ []) attempt_is_0

round_is_0 : round s 6 st_0 ((0, 1) ∷ (0, 2) ∷ (1, 2) ∷ (3, 4) ∷ (3, 5) ∷ (4, 5) ∷ []) ≡ progressed st_1
round_is_0 = round_loops s 6 st_0 (0, 1) ((0, 2) ∷ (1, 2) ∷ (3, 4) ∷ (3, 5) ∷ (4, 5) ∷ []) (((0, 1) ∷ (1, 2) ∷ (0, 2) ∷ []) ∷ ((3, 4) ∷ (4, 5) ∷ (3, 5) ∷ []) ∷ []) loops_are_0 ∙ loops_progressed s 6 st_0 st_1 ((0, 1) ∷ (1, 2) ∷ (0, 2) ∷ []) (((3, 4) ∷ (4, 5) ∷ (3, 5) ∷ []) ∷ []) ((0, 1) ∷ (1, 2) ∷ (0, 2) ∷ []) open_is_0 edges_are_0

front_is_1 : front st_1.mesh ≡ (0, 2) ∷ (0, 3) ∷ (1, 2) ∷ (1, 4) ∷ (3, 5) ∷ (4, 5) ∷ []
unfolding opened_attempts s points_0 points_1 points_2 st_1
front_is_1 = refl

loops_are_1 : front_loops st_1.mesh.points ((0, 2) ∷ (0, 3) ∷ (1, 2) ∷ (1, 4) ∷ (3, 5) ∷ (4, 5) ∷ []) ≡ ((0, 2) ∷ (1, 2) ∷ (1, 4) ∷ (4, 5) ∷ (3, 5) ∷ (0, 3) ∷ []) ∷ []
unfolding opened_attempts s points_0 points_1 points_2 st_1
loops_are_1 = refl

open_is_1 : open_edges st_1 ((0, 2) ∷ (1, 2) ∷ (1, 4) ∷ (4, 5) ∷ (3, 5) ∷ (0, 3) ∷ []) ≡ (1, 4) ∷ (0, 3) ∷ (1, 2) ∷ (0, 2) ∷ (4, 5) ∷ (3, 5) ∷ []
unfolding opened_attempts s points_0 points_1 points_2 st_1
open_is_1 = refl

attempt_is_1 : attempt s 6 st_1 (1, 4) ≡ stuck st_2
unfolding opened_attempts s points_0 points_1 points_2 st_1 st_2
attempt_is_1 = refl

attempt_is_2 : attempt s 6 st_2 (0, 3) ≡ stuck st_3
unfolding opened_attempts s points_0 points_1 points_2 st_2 st_3
attempt_is_2 = refl

attempt_is_3 : attempt s 6 st_3 (1, 2) ≡ progressed st_4
unfolding opened_attempts s points_0 points_1 points_2 st_3 st_4
attempt_is_3 = refl

edges_are_1 : try_edges s 6 st_1 ((1, 4) ∷ (0, 3) ∷ (1, 2) ∷ (0, 2) ∷ (4, 5) ∷ (3, 5) ∷ []) ≡ progressed st_4
edges_are_1 = edges_stuck s 6 st_1 st_2 (1, 4) ((0, 3) ∷ (1, 2) ∷ (0, 2) ∷ (4, 5) ∷ (3, 5) ∷ []) attempt_is_1 ∙ edges_stuck s 6 st_2 st_3 (0, 3) ((1, 2) ∷ (0, 2) ∷ (4, 5) ∷ (3, 5) ∷ []) attempt_is_2 ∙ edges_progressed s 6 st_3 st_4 (1, 2) ((0, 2) ∷ (4, 5) ∷ (3, 5) ∷ []) attempt_is_3

round_is_1 : round s 6 st_1 ((0, 2) ∷ (0, 3) ∷ (1, 2) ∷ (1, 4) ∷ (3, 5) ∷ (4, 5) ∷ []) ≡ progressed st_4
round_is_1 = round_loops s 6 st_1 (0, 2) ((0, 3) ∷ (1, 2) ∷ (1, 4) ∷ (3, 5) ∷ (4, 5) ∷ []) (((0, 2) ∷ (1, 2) ∷ (1, 4) ∷ (4, 5) ∷ (3, 5) ∷ (0, 3) ∷ []) ∷ []) loops_are_1 ∙ loops_progressed s 6 st_1 st_4 ((0, 2) ∷ (1, 2) ∷ (1, 4) ∷ (4, 5) ∷ (3, 5) ∷ (0, 3) ∷ []) ([]) ((1, 4) ∷ (0, 3) ∷ (1, 2) ∷ (0, 2) ∷ (4, 5) ∷ (3, 5) ∷ []) open_is_1 edges_are_1

front_is_2 : front st_4.mesh ≡ (0, 2) ∷ (0, 3) ∷ (2, 5) ∷ (3, 5) ∷ []
unfolding opened_attempts s points_0 points_1 points_2 st_4
front_is_2 = refl

loops_are_2 : front_loops st_4.mesh.points ((0, 2) ∷ (0, 3) ∷ (2, 5) ∷ (3, 5) ∷ []) ≡ ((0, 2) ∷ (2, 5) ∷ (3, 5) ∷ (0, 3) ∷ []) ∷ []
unfolding opened_attempts s points_0 points_1 points_2 st_4
loops_are_2 = refl

open_is_2 : open_edges st_4 ((0, 2) ∷ (2, 5) ∷ (3, 5) ∷ (0, 3) ∷ []) ≡ (2, 5) ∷ (0, 2) ∷ (3, 5) ∷ []
unfolding opened_attempts s points_0 points_1 points_2 st_4
open_is_2 = refl

attempt_is_4 : attempt s 6 st_4 (2, 5) ≡ stuck st_5
unfolding opened_attempts s points_0 points_1 points_2 st_4 st_5
attempt_is_4 = refl

attempt_is_5 : attempt s 6 st_5 (0, 2) ≡ progressed st_6
unfolding opened_attempts s points_0 points_1 points_2 st_5 st_6
attempt_is_5 = refl

edges_are_2 : try_edges s 6 st_4 ((2, 5) ∷ (0, 2) ∷ (3, 5) ∷ []) ≡ progressed st_6
edges_are_2 = edges_stuck s 6 st_4 st_5 (2, 5) ((0, 2) ∷ (3, 5) ∷ []) attempt_is_4 ∙ edges_progressed s 6 st_5 st_6 (0, 2) ((3, 5) ∷ []) attempt_is_5

round_is_2 : round s 6 st_4 ((0, 2) ∷ (0, 3) ∷ (2, 5) ∷ (3, 5) ∷ []) ≡ progressed st_6
round_is_2 = round_loops s 6 st_4 (0, 2) ((0, 3) ∷ (2, 5) ∷ (3, 5) ∷ []) (((0, 2) ∷ (2, 5) ∷ (3, 5) ∷ (0, 3) ∷ []) ∷ []) loops_are_2 ∙ loops_progressed s 6 st_4 st_6 ((0, 2) ∷ (2, 5) ∷ (3, 5) ∷ (0, 3) ∷ []) ([]) ((2, 5) ∷ (0, 2) ∷ (3, 5) ∷ []) open_is_2 edges_are_2

front_is_3 : front st_6.mesh ≡ []
unfolding opened_attempts s points_0 points_1 points_2 st_6
front_is_3 = refl

round_is_3 : round s 6 st_6 ([]) ≡ stuck st_7
unfolding round counting ◌⊞◌ emptied tally st_6 st_7
round_is_3 = refl

given : List (List ℕ)
given = (0x3ff0000000000000 ∷ 0x0000000000000000 ∷ 0x0000000000000000 ∷ []) ∷ (0xbfdffffffffffffc ∷ 0x3febb67ae8584cab ∷ 0x0000000000000000 ∷ []) ∷ (0xbfe0000000000004 ∷ 0xbfebb67ae8584ca8 ∷ 0x0000000000000000 ∷ []) ∷ (0x3ff8000000000000 ∷ 0x0000000000000000 ∷ 0x0000000000000000 ∷ []) ∷ (0xbfe7fffffffffffd ∷ 0x3ff4c8dc2e423980 ∷ 0x0000000000000000 ∷ []) ∷ (0xbfe8000000000006 ∷ 0xbff4c8dc2e42397e ∷ 0x0000000000000000 ∷ []) ∷ []

the_input : Input
the_input = record { size = 0x3fd3333333333333; stop = 1; triangles = (3 ∷ 4 ∷ 0 ∷ []) ∷ (4 ∷ 1 ∷ 0 ∷ []) ∷ (4 ∷ 5 ∷ 2 ∷ []) ∷ (4 ∷ 2 ∷ 1 ∷ []) ∷ (5 ∷ 3 ∷ 0 ∷ []) ∷ (5 ∷ 0 ∷ 2 ∷ []) ∷ []; points = given }

input_text : Bytes
input_text = bytes "triangles points size stop\n6 6 3fd3333333333333 1\nn0 n1 n2\n3 4 0\n4 1 0\n4 5 2\n4 2 1\n5 3 0\n5 0 2\nx y z\n3ff0000000000000 0000000000000000 0000000000000000\nbfdffffffffffffc 3febb67ae8584cab 0000000000000000\nbfe0000000000004 bfebb67ae8584ca8 0000000000000000\n3ff8000000000000 0000000000000000 0000000000000000\nbfe7fffffffffffd 3ff4c8dc2e423980 0000000000000000\nbfe8000000000006 bff4c8dc2e42397e 0000000000000000\n"

output_text : Bytes
output_text = bytes "front_empty attempts placement invalid_quad recovery region odd_region mismatch_insertions limit\n1 6 1 2 0 0 0 2 0\nquads triangles points components\n3 0 8 0\nn0 n1 n2 n3 u v round replaced\n1 0 3 4 0 1 1 2\n2 1 4 5 1 2 2 4\n0 2 5 3 0 2 3 4\nn0 n1 n2\nx y z\n3ff0000000000000 0000000000000000 0000000000000000\nbfdffffffffffffc 3febb67ae8584cab 0000000000000000\nbfe0000000000004 bfebb67ae8584ca8 0000000000000000\n3ff8000000000000 0000000000000000 0000000000000000\nbfe7fffffffffffd 3ff4c8dc2e423980 0000000000000000\nbfe8000000000006 bff4c8dc2e42397e 0000000000000000\nbfe77b82770d99d0 3fe7648f63399459 0000000000000000\nbfd108fb11e4cc66 bff0043336bb827e 0000000000000000\nsize\n"

begins : reply input_text ≡ show_returned given (after_run (lent_for the_input) (outcome (front_loop 11202 s 6 st_0)))
unfolding opened_attempts s points_0 points_1 points_2 given input_text st_0 the_input
begins = refl

the_run : front_loop 11202 s 6 st_0 ≡ stuck st_7
the_run = run_progressed s 6 11201 st_0 st_1 ((0, 1) ∷ (0, 2) ∷ (1, 2) ∷ (3, 4) ∷ (3, 5) ∷ (4, 5) ∷ []) front_is_0 round_is_0 ∙ run_progressed s 6 11200 st_1 st_4 ((0, 2) ∷ (0, 3) ∷ (1, 2) ∷ (1, 4) ∷ (3, 5) ∷ (4, 5) ∷ []) front_is_1 round_is_1 ∙ run_progressed s 6 11199 st_4 st_6 ((0, 2) ∷ (0, 3) ∷ (2, 5) ∷ (3, 5) ∷ []) front_is_2 round_is_2 ∙ run_stuck s 6 11198 st_6 st_7 ([]) front_is_3 round_is_3

finishes : show_returned given (after_run (lent_for the_input) (outcome (stuck st_7))) ≡ output_text
unfolding opened_attempts s points_0 points_1 points_2 given output_text st_7 the_input
finishes = refl

case : reply input_text ≡ output_text
case = begins ∙ ap (λ r. show_returned given (after_run (lent_for the_input) (outcome r))) the_run ∙ finishes

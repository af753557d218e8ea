-- From the oracle's case fans-0005: one theorem for each attempt, and a chain of them. Made by tools/computed/chains.py.
use Rattle.std.specs.Prelude.{◌≡◌, refl, Bool, true, false, List, [], ◌∷◌, map, ℕ, suc, ℤ, pos, negsuc, Float}
use Rattle.std.proofs.Common.{ap, ◌∙◌}
use Rattle.std.specs.Float.{nan, inf, fin}
use Rattle.vectors.specs.Opened.{opened_attempts}
use Rattle.vectors.specs.Steps.{edges_none, edges_stuck, edges_progressed, edges_limited, edges_stopped, loops_none, loops_stuck, loops_progressed, loops_limited, loops_stopped, round_loops, run_progressed, run_stuck, run_limited, run_stopped}
use Rattle.definition.specs.Cells.{front, Tri, Quad, Cell, tri, quad, Live, Event, was_split, was_flipped, was_placed, Mesh}
use Rattle.definition.specs.Loops.{front_loops}
use Rattle.definition.specs.Front.{attempt, open_edges, try_edges, round, front_loop, outcome, counting, State, Progress, stuck, progressed, limited, stopped}
use Rattle.definition.specs.Call.{after_run}
use Rattle.definition.specs.Text.{bytes, reply, show_returned, lent_for, Bytes, Input}
use Rattle.definition.specs.Plane.{Node, Edge}
use Rattle.definition.specs.Numbers.{base, max_attempts, Settings}
use Rattle.definition.specs.Counts.{tally, ◌⊞◌, emptied, of_points, of_slots}

abbrev pt : Float → Float → Float → Node
pt a b c = record { x = a; y = b; z = c }

abbrev tr : ℕ → ℕ → ℕ → Tri
tr a b c = record { n0 = a; n1 = b; n2 = c }

abbrev qd : ℕ → ℕ → ℕ → ℕ → Edge → ℕ → ℕ → Quad
qd a b c d e r k = record { n0 = a; n1 = b; n2 = c; n3 = d; edge = e; round = r; replaced = k }

abbrev lv : ℕ → Cell → Live
lv n c = record { slot = n; cell = c }

s : Settings
s = record { quality = base; attempts = max_attempts 5; capacity = 96; slots = 160; room = 0; size = (fin false 5404319552844595 (negsuc 51)); even = true }

points_0 : List Node
points_0 = pt (fin false 0 (pos 0)) (fin false 0 (pos 0)) (fin false 0 (pos 0)) ∷ pt (fin false 1 (pos 0)) (fin false 0 (pos 0)) (fin false 0 (pos 0)) ∷ pt (fin false 6993349533087659 (negsuc 52)) (fin true 2755262244098581 (negsuc 50)) (fin false 0 (pos 0)) ∷ pt (fin false 1204667831124121 (negsuc 49)) (fin false 1204667831124121 (negsuc 49)) (fin false 0 (pos 0)) ∷ pt (fin false 835196575463465 (negsuc 49)) (fin true 1416603238221783 (negsuc 49)) (fin false 0 (pos 0)) ∷ pt (fin true 1721144994106031 (negsuc 51)) (fin true 8402717597813751 (negsuc 51)) (fin false 0 (pos 0)) ∷ pt (fin false 1726035522533005 (negsuc 52)) (fin false 4045512374005615 (negsuc 50)) (fin false 0 (pos 0)) ∷ []

st_0 : State
st_0 = record { mesh = record { points = points_0; used = 5; live = lv 0 (tri (tr 0 1 2)) ∷ lv 1 (tri (tr 0 1 3)) ∷ lv 2 (tri (tr 0 1 4)) ∷ lv 3 (tri (tr 4 0 5)) ∷ lv 4 (tri (tr 3 0 6)) ∷ []; bucket = (fin false 5404319552844595 (negsuc 51)); locked = λ e. false; room = 0; history = [] }; quads = []; blocked = []; counts = tally 0 0 0 0 0 0 0 0 0 0 }

st_1 : State
st_1 = record { mesh = record { points = points_0; used = 5; live = lv 0 (tri (tr 0 1 2)) ∷ lv 1 (tri (tr 0 1 3)) ∷ lv 2 (tri (tr 0 1 4)) ∷ lv 3 (tri (tr 4 0 5)) ∷ lv 4 (tri (tr 3 0 6)) ∷ []; bucket = (fin false 5404319552844595 (negsuc 51)); locked = λ e. false; room = 0; history = [] }; quads = []; blocked = (4, 5) ∷ []; counts = tally 0 1 0 1 0 0 0 0 0 0 }

st_2 : State
st_2 = record { mesh = record { points = points_0; used = 5; live = lv 0 (tri (tr 0 1 2)) ∷ lv 2 (tri (tr 0 1 4)) ∷ lv 3 (tri (tr 4 0 5)) ∷ lv 1 (tri (tr 1 6 0)) ∷ lv 4 (tri (tr 6 1 3)) ∷ []; bucket = (fin false 5404319552844595 (negsuc 51)); locked = λ e. false; room = 0; history = was_flipped (0, 3) ∷ [] }; quads = []; blocked = (1, 4) ∷ (4, 5) ∷ []; counts = tally 0 2 0 1 0 1 0 0 0 3 }

st_3 : State
st_3 = record { mesh = record { points = points_0; used = 5; live = lv 0 (tri (tr 0 1 2)) ∷ lv 2 (tri (tr 0 1 4)) ∷ lv 3 (tri (tr 4 0 5)) ∷ lv 1 (tri (tr 0 1 3)) ∷ lv 4 (tri (tr 3 6 0)) ∷ []; bucket = (fin false 5404319552844595 (negsuc 51)); locked = λ e. false; room = 0; history = was_flipped (0, 3) ∷ was_flipped (1, 6) ∷ [] }; quads = []; blocked = (0, 5) ∷ (1, 4) ∷ (4, 5) ∷ []; counts = tally 0 3 0 1 1 1 0 0 0 5 }

st_4 : State
st_4 = record { mesh = record { points = points_0; used = 5; live = lv 0 (tri (tr 0 1 2)) ∷ lv 2 (tri (tr 0 1 4)) ∷ lv 3 (tri (tr 4 0 5)) ∷ lv 1 (tri (tr 0 1 3)) ∷ lv 4 (tri (tr 3 6 0)) ∷ []; bucket = (fin false 5404319552844595 (negsuc 51)); locked = λ e. false; room = 0; history = was_flipped (0, 3) ∷ was_flipped (1, 6) ∷ [] }; quads = []; blocked = (1, 3) ∷ (0, 5) ∷ (1, 4) ∷ (4, 5) ∷ []; counts = tally 0 4 0 1 1 1 1 0 0 6 }

st_5 : State
st_5 = record { mesh = record { points = points_0; used = 5; live = lv 0 (tri (tr 0 1 2)) ∷ lv 2 (tri (tr 0 1 4)) ∷ lv 3 (tri (tr 4 0 5)) ∷ lv 1 (tri (tr 0 1 3)) ∷ lv 4 (tri (tr 3 6 0)) ∷ []; bucket = (fin false 5404319552844595 (negsuc 51)); locked = λ e. false; room = 0; history = was_flipped (0, 3) ∷ was_flipped (1, 6) ∷ [] }; quads = []; blocked = (3, 6) ∷ (1, 3) ∷ (0, 5) ∷ (1, 4) ∷ (4, 5) ∷ []; counts = tally 0 5 0 1 1 1 2 0 0 7 }

st_6 : State
st_6 = record { mesh = record { points = points_0; used = 5; live = lv 0 (tri (tr 0 1 2)) ∷ lv 2 (tri (tr 0 1 4)) ∷ lv 3 (tri (tr 4 0 5)) ∷ lv 1 (tri (tr 1 6 0)) ∷ lv 4 (tri (tr 6 1 3)) ∷ []; bucket = (fin false 5404319552844595 (negsuc 51)); locked = λ e. false; room = 0; history = was_flipped (0, 3) ∷ was_flipped (1, 6) ∷ was_flipped (0, 3) ∷ [] }; quads = []; blocked = (1, 2) ∷ (3, 6) ∷ (1, 3) ∷ (0, 5) ∷ (1, 4) ∷ (4, 5) ∷ []; counts = tally 0 6 0 1 1 2 2 0 0 8 }

st_7 : State
st_7 = record { mesh = record { points = points_0; used = 5; live = lv 0 (tri (tr 0 1 2)) ∷ lv 2 (tri (tr 0 1 4)) ∷ lv 3 (tri (tr 4 0 5)) ∷ lv 1 (tri (tr 1 6 0)) ∷ lv 4 (tri (tr 6 1 3)) ∷ []; bucket = (fin false 5404319552844595 (negsuc 51)); locked = λ e. false; room = 0; history = was_flipped (0, 3) ∷ was_flipped (1, 6) ∷ was_flipped (0, 3) ∷ [] }; quads = []; blocked = (0, 2) ∷ (1, 2) ∷ (3, 6) ∷ (1, 3) ∷ (0, 5) ∷ (1, 4) ∷ (4, 5) ∷ []; counts = tally 0 7 0 1 1 3 2 0 0 9 }

st_8 : State
st_8 = record { mesh = record { points = points_0; used = 5; live = lv 0 (tri (tr 0 1 2)) ∷ lv 2 (tri (tr 0 1 4)) ∷ lv 3 (tri (tr 4 0 5)) ∷ lv 1 (tri (tr 1 6 0)) ∷ lv 4 (tri (tr 6 1 3)) ∷ []; bucket = (fin false 5404319552844595 (negsuc 51)); locked = λ e. false; room = 0; history = was_flipped (0, 3) ∷ was_flipped (1, 6) ∷ was_flipped (0, 3) ∷ [] }; quads = []; blocked = (0, 6) ∷ (0, 2) ∷ (1, 2) ∷ (3, 6) ∷ (1, 3) ∷ (0, 5) ∷ (1, 4) ∷ (4, 5) ∷ []; counts = tally 0 8 0 1 1 4 2 0 0 12 }

front_is_0 : front st_0.mesh ≡ (0, 2) ∷ (0, 5) ∷ (0, 6) ∷ (1, 2) ∷ (1, 3) ∷ (1, 4) ∷ (3, 6) ∷ (4, 5) ∷ []
unfolding opened_attempts s points_0 st_0
front_is_0 = refl

loops_are_0 : front_loops st_0.mesh.points ((0, 2) ∷ (0, 5) ∷ (0, 6) ∷ (1, 2) ∷ (1, 3) ∷ (1, 4) ∷ (3, 6) ∷ (4, 5) ∷ []) ≡ ((0, 5) ∷ (4, 5) ∷ (1, 4) ∷ []) ∷ ((0, 2) ∷ (1, 2) ∷ (1, 3) ∷ (3, 6) ∷ (0, 6) ∷ []) ∷ []
unfolding opened_attempts s points_0 st_0
loops_are_0 = refl

open_is_0 : open_edges st_0 ((0, 5) ∷ (4, 5) ∷ (1, 4) ∷ []) ≡ (4, 5) ∷ (1, 4) ∷ (0, 5) ∷ []
unfolding opened_attempts s points_0 st_0
open_is_0 = refl

attempt_is_0 : attempt s 5 st_0 (4, 5) ≡ stuck st_1
unfolding opened_attempts s points_0 st_0 st_1
attempt_is_0 = refl

attempt_is_1 : attempt s 5 st_1 (1, 4) ≡ stuck st_2
unfolding opened_attempts s points_0 st_1 st_2
attempt_is_1 = refl

attempt_is_2 : attempt s 5 st_2 (0, 5) ≡ stuck st_3
unfolding opened_attempts s points_0 st_2 st_3
attempt_is_2 = refl

edges_are_0 : try_edges s 5 st_0 ((4, 5) ∷ (1, 4) ∷ (0, 5) ∷ []) ≡ stuck st_3
edges_are_0 = edges_stuck s 5 st_0 st_1 (4, 5) ((1, 4) ∷ (0, 5) ∷ []) attempt_is_0 ∙ edges_stuck s 5 st_1 st_2 (1, 4) ((0, 5) ∷ []) attempt_is_1 ∙ edges_stuck s 5 st_2 st_3 (0, 5) ([]) attempt_is_2 ∙ edges_none s 5 st_3

open_is_1 : open_edges st_3 ((0, 2) ∷ (1, 2) ∷ (1, 3) ∷ (3, 6) ∷ (0, 6) ∷ []) ≡ (1, 3) ∷ (3, 6) ∷ (1, 2) ∷ (0, 2) ∷ (0, 6) ∷ []
unfolding opened_attempts s points_0 st_3
open_is_1 = refl

attempt_is_3 : attempt s 5 st_3 (1, 3) ≡ stuck st_4
unfolding opened_attempts s points_0 st_3 st_4
attempt_is_3 = refl

attempt_is_4 : attempt s 5 st_4 (3, 6) ≡ stuck st_5
unfolding opened_attempts s points_0 st_4 st_5
attempt_is_4 = refl

attempt_is_5 : attempt s 5 st_5 (1, 2) ≡ stuck st_6
unfolding opened_attempts s points_0 st_5 st_6
attempt_is_5 = refl

attempt_is_6 : attempt s 5 st_6 (0, 2) ≡ stuck st_7
unfolding opened_attempts s points_0 st_6 st_7
attempt_is_6 = refl

attempt_is_7 : attempt s 5 st_7 (0, 6) ≡ stuck st_8
unfolding opened_attempts s points_0 st_7 st_8
attempt_is_7 = refl

edges_are_1 : try_edges s 5 st_3 ((1, 3) ∷ (3, 6) ∷ (1, 2) ∷ (0, 2) ∷ (0, 6) ∷ []) ≡ stuck st_8
edges_are_1 = edges_stuck s 5 st_3 st_4 (1, 3) ((3, 6) ∷ (1, 2) ∷ (0, 2) ∷ (0, 6) ∷ []) attempt_is_3 ∙ edges_stuck s 5 st_4 st_5 (3, 6) ((1, 2) ∷ (0, 2) ∷ (0, 6) ∷ []) attempt_is_4 ∙ edges_stuck s 5 st_5 st_6 (1, 2) ((0, 2) ∷ (0, 6) ∷ []) attempt_is_5 ∙ edges_stuck s 5 st_6 st_7 (0, 2) ((0, 6) ∷ []) attempt_is_6 ∙ edges_stuck s 5 st_7 st_8 (0, 6) ([]) attempt_is_7 ∙ edges_none s 5 st_8

round_is_0 : round s 5 st_0 ((0, 2) ∷ (0, 5) ∷ (0, 6) ∷ (1, 2) ∷ (1, 3) ∷ (1, 4) ∷ (3, 6) ∷ (4, 5) ∷ []) ≡ stuck st_8
round_is_0 = round_loops s 5 st_0 (0, 2) ((0, 5) ∷ (0, 6) ∷ (1, 2) ∷ (1, 3) ∷ (1, 4) ∷ (3, 6) ∷ (4, 5) ∷ []) (((0, 5) ∷ (4, 5) ∷ (1, 4) ∷ []) ∷ ((0, 2) ∷ (1, 2) ∷ (1, 3) ∷ (3, 6) ∷ (0, 6) ∷ []) ∷ []) loops_are_0 ∙ loops_stuck s 5 st_0 st_3 ((0, 5) ∷ (4, 5) ∷ (1, 4) ∷ []) (((0, 2) ∷ (1, 2) ∷ (1, 3) ∷ (3, 6) ∷ (0, 6) ∷ []) ∷ []) ((4, 5) ∷ (1, 4) ∷ (0, 5) ∷ []) open_is_0 edges_are_0 ∙ loops_stuck s 5 st_3 st_8 ((0, 2) ∷ (1, 2) ∷ (1, 3) ∷ (3, 6) ∷ (0, 6) ∷ []) ([]) ((1, 3) ∷ (3, 6) ∷ (1, 2) ∷ (0, 2) ∷ (0, 6) ∷ []) open_is_1 edges_are_1 ∙ loops_none s 5 st_8

given : List (List ℕ)
given = (0x0000000000000000 ∷ 0x0000000000000000 ∷ 0x0000000000000000 ∷ []) ∷ (0x3ff0000000000000 ∷ 0x0000000000000000 ∷ 0x0000000000000000 ∷ []) ∷ (0x3fe8d86a12b5b7ab ∷ 0xbff393caf6a5242a ∷ 0x0000000000000000 ∷ []) ∷ (0x3ff11e8e58960264 ∷ 0x3ff11e8e58960264 ∷ 0x0000000000000000 ∷ []) ∷ (0x3fe7bcdad995c148 ∷ 0xbff4219293351f5c ∷ 0x0000000000000000 ∷ []) ∷ (0xbfd8757d2fec2abc ∷ 0xbffdda3a2590cbf7 ∷ 0x0000000000000000 ∷ []) ∷ (0x3fc88747d8c2da34 ∷ 0x3ffcbebe7ff95ede ∷ 0x0000000000000000 ∷ []) ∷ []

the_input : Input
the_input = record { size = 0x3ff3333333333333; stop = 1; triangles = (0 ∷ 1 ∷ 2 ∷ []) ∷ (0 ∷ 1 ∷ 3 ∷ []) ∷ (0 ∷ 1 ∷ 4 ∷ []) ∷ (4 ∷ 0 ∷ 5 ∷ []) ∷ (3 ∷ 0 ∷ 6 ∷ []) ∷ []; points = given }

input_text : Bytes
input_text = bytes "triangles points size stop\n5 7 3ff3333333333333 1\nn0 n1 n2\n0 1 2\n0 1 3\n0 1 4\n4 0 5\n3 0 6\nx y z\n0000000000000000 0000000000000000 0000000000000000\n3ff0000000000000 0000000000000000 0000000000000000\n3fe8d86a12b5b7ab bff393caf6a5242a 0000000000000000\n3ff11e8e58960264 3ff11e8e58960264 0000000000000000\n3fe7bcdad995c148 bff4219293351f5c 0000000000000000\nbfd8757d2fec2abc bffdda3a2590cbf7 0000000000000000\n3fc88747d8c2da34 3ffcbebe7ff95ede 0000000000000000\n"

output_text : Bytes
output_text = bytes "front_empty attempts placement invalid_quad recovery region odd_region mismatch_insertions limit\n0 8 0 1 1 4 2 0 0\nquads triangles points components\n0 5 7 1\nn0 n1 n2 n3 u v round replaced\nn0 n1 n2\n0 1 2\n1 6 0\n0 1 4\n4 0 5\n6 1 3\nx y z\n0000000000000000 0000000000000000 0000000000000000\n3ff0000000000000 0000000000000000 0000000000000000\n3fe8d86a12b5b7ab bff393caf6a5242a 0000000000000000\n3ff11e8e58960264 3ff11e8e58960264 0000000000000000\n3fe7bcdad995c148 bff4219293351f5c 0000000000000000\nbfd8757d2fec2abc bffdda3a2590cbf7 0000000000000000\n3fc88747d8c2da34 3ffcbebe7ff95ede 0000000000000000\nsize\n5\n"

begins : reply input_text ≡ show_returned given (after_run (lent_for the_input) (outcome (front_loop 11002 s 5 st_0)))
unfolding opened_attempts s points_0 given input_text st_0 the_input
begins = refl

the_run : front_loop 11002 s 5 st_0 ≡ stuck st_8
the_run = run_stuck s 5 11001 st_0 st_8 ((0, 2) ∷ (0, 5) ∷ (0, 6) ∷ (1, 2) ∷ (1, 3) ∷ (1, 4) ∷ (3, 6) ∷ (4, 5) ∷ []) front_is_0 round_is_0

finishes : show_returned given (after_run (lent_for the_input) (outcome (stuck st_8))) ≡ output_text
unfolding opened_attempts s points_0 given output_text st_8 the_input
finishes = refl

case : reply input_text ≡ output_text
case = begins ∙ ap (λ r. show_returned given (after_run (lent_for the_input) (outcome r))) the_run ∙ finishes

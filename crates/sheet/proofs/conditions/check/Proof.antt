-- One refusal after the other, in the definition's order.
use Rattle.std.specs.Prelude.{◌≡◌}
use Rattle.laws.specs.Kit.{refl, sym, ◌∙◌, ap, false, rules, lt-ltb, le-ltb, []}
use Rattle.definition.specs.Call as defined
use Rattle.definition.specs.Call.{most_slots, most_capacity, given_points}
use Rattle.definition.specs.Sheet.{Listed, listed_points, over_limit, too_short, unknown_corner, far_point}
use Rattle.sheet.specs.Promise.{listed}
use Rattle.sheet.specs.Refusals.{in_turn}
use Rattle.sheet.proofs.conditions.check.Statement.{statement}
use Rattle.sheet.proofs.conditions.check.Tie as tie

abbrev list_of : tie.Else-out-count → Listed
list_of c = let a = c.args in listed a.given a.count a.points.now a.quads.now a.out.now

no_1 : (c : tie.Else-out-count) → over_limit (list_of c) ≡ false
unfolding over_limit most_slots most_capacity
no_1 c = rw (le-ltb 16384 _ c.if-count-gt-MOST_QUADS.false, le-ltb 8192 _ c.if-given-gt-MOST_POINTS.false)

no_4 : (c : tie.Else-out-count) → too_short (list_of c) ≡ false
unfolding too_short
no_4 c = rw (le-ltb _ _ c.if-points-given.false, le-ltb _ _ c.if-quads-count.false, le-ltb _ _ c.if-out-count.false)

test_5 : (c : tie.After-unknown_corner) → c.unknown_corner.result ≡ unknown_corner (list_of c.before)
test_5 c = c.unknown_corner.ensures (list_of c.before) refl refl refl

no_5 : (c : tie.Else-unknown_corner) → unknown_corner (list_of c.before.before) ≡ false
no_5 c = sym (test_5 c.before) ∙ c.if-unknown_corner.false

given_is : (s : tie.After-standard-a) → s.standard-a.result.given ≡ (list_of s.before.before.before).given
given_is s = ap (λ z. z.given) s.standard-a.ensures

-- the lent slices of a run of which the points alone are read
abbrev points_of : tie.After-far_point → defined.Lent
points_of c = record { points = (list_of c.before.before.before.before).points; triangles = []; joints = []; quads = []; triangles_out = []; components = []; work = []; float_work = []; trace = [] }

test_7 : (c : tie.After-far_point) → c.far_point.result ≡ far_point (list_of c.before.before.before.before)
unfolding far_point listed_points defined.far_point given_points
test_7 c = c.far_point.ensures (points_of c) refl ∙ rw (given_is c.before)

returns : tie.Need-returns-then-count-gt-MOST_QUADS
unfolding over_limit too_short most_slots most_capacity
returns c = rw (in_turn, lt-ltb 16384 _ c.if-count-gt-MOST_QUADS.true)

returns_2 : tie.Need-returns-then-given-gt-MOST_POINTS
unfolding over_limit too_short most_slots most_capacity
returns_2 c = rw (in_turn, le-ltb 16384 _ c.if-count-gt-MOST_QUADS.false, lt-ltb 8192 _ c.if-given-gt-MOST_POINTS.true)

returns_3 : tie.Need-returns-then-points-given
unfolding over_limit too_short most_slots most_capacity
returns_3 c = rw (in_turn, le-ltb 16384 _ c.if-count-gt-MOST_QUADS.false, le-ltb 8192 _ c.if-given-gt-MOST_POINTS.false, lt-ltb _ _ c.if-points-given.true)

returns_4 : tie.Need-returns-then-quads-count
unfolding over_limit too_short most_slots most_capacity
returns_4 c = rw (in_turn, le-ltb 16384 _ c.if-count-gt-MOST_QUADS.false, le-ltb 8192 _ c.if-given-gt-MOST_POINTS.false, le-ltb _ _ c.if-points-given.false, lt-ltb _ _ c.if-quads-count.true)

returns_5 : tie.Need-returns-then-out-count
unfolding over_limit too_short most_slots most_capacity
returns_5 c = rw (in_turn, le-ltb 16384 _ c.if-count-gt-MOST_QUADS.false, le-ltb 8192 _ c.if-given-gt-MOST_POINTS.false, le-ltb _ _ c.if-points-given.false, le-ltb _ _ c.if-quads-count.false, lt-ltb _ _ c.if-out-count.true)

returns_6 : tie.Need-returns-then-unknown_corner
returns_6 c =
    let p = c in
    rw (in_turn, no_1 p.before.before, no_4 p.before.before, sym (test_5 c.before) ∙ c.if-unknown_corner.true)

far_point_requires : tie.Need-far_point-requires
far_point_requires c κs = rw (given_is c) c.if-points-given.false

returns_7 : tie.Need-returns-then-far_point
returns_7 c =
    let t = c in
    let p = t in
    rw (in_turn, no_1 p.before.before.before.before.before, no_4 p.before.before.before.before.before, no_5 t.before.before.before, sym (test_7 c.before) ∙ c.if-far_point.true)

returns_8 : tie.Need-returns
returns_8 c =
    let t = c in
    let p = t in
    rw (in_turn, no_1 p.before.before.before.before.before, no_4 p.before.before.before.before.before, no_5 t.before.before.before, sym (test_7 c.before) ∙ c.if-far_point.false)

pub check_spec : {M : Type 1} → statement M
check_spec =
    tie.close
    (tie.spec
    returns returns_2 (λ c. search rules) returns_3 (λ c. search rules) returns_4 (λ c. search rules) returns_5 (λ c κs. search rules) returns_6 (λ c κs. search rules) far_point_requires returns_7 returns_8)

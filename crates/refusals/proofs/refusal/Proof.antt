-- One refusal after the other, in the definition's order; `no-k` is what passing test k gave.
use Rattle.std.specs.Prelude.{◌≡◌}
use Rattle.laws.specs.Kit.{sym, ◌∙◌, false, cond, arith, rules}
use Rattle.definition.specs.Call.{Lent, over_limit, bad_size, bad_stop, bad_quality, too_short, unknown_node, repeated_node, far_point, bad_grid, bad_joints}
use Rattle.refusals.specs.Stated.{asked, Lends, blank, blank_lends}
use Rattle.refusals.specs.Passed.{Roomy, limited, roomy}
use Rattle.refusals.specs.Refusals.{first_refusal, in_turn}
use Rattle.refusals.proofs.refusal.Statement.{statement}
use Rattle.refusals.proofs.refusal.Tie as tie

abbrev top : tie.Else-over_limit → tie.Start
top c = c.before.before.before.before.before

no_1 : (c : tie.Else-over_limit) → over_limit (asked (top c).args.a) ≡ false
no_1 c = sym c.over_limit.ensures ∙ c.if-over_limit.false

abbrev top2 : tie.Else-bad_size → tie.Else-over_limit
top2 c = c.before.before

no_2 : (c : tie.Else-bad_size) → bad_size (asked (top (top2 c)).args.a) ≡ false
no_2 c = sym c.bad_size.ensures ∙ c.if-bad_size.false

abbrev top3 : tie.Else-bad_stop → tie.Else-bad_size
top3 c = c.before.before

no_3 : (c : tie.Else-bad_stop) → bad_stop (asked (top (top2 (top3 c))).args.a) ≡ false
no_3 c = sym c.bad_stop.ensures ∙ c.if-bad_stop.false

abbrev top4 : tie.Else-bad_quality → tie.Else-bad_stop
top4 c = c.before.before

no_14 : (c : tie.Else-bad_quality) → bad_quality (asked (top (top2 (top3 (top4 c)))).args.a) ≡ false
no_14 c = sym c.bad_quality.ensures ∙ c.if-bad_quality.false

abbrev top5 : tie.Else-too_short → tie.Else-bad_quality
top5 c = c.before.before

abbrev start : tie.Else-too_short → tie.Start
start c = top (top2 (top3 (top4 (top5 c))))

no_4 : (c : tie.Else-too_short) (l : Lent) → Lends l (start c).args.points.now (start c).args.triangles.now (start c).args.joints.now (start c).args.n → too_short (asked (start c).args.a) l ≡ false
no_4 c l h = sym (c.too_short.ensures l h) ∙ c.if-too_short.false

-- the slices read are long enough
room : (c : tie.Else-too_short) → Roomy (asked (start c).args.a) (blank (start c).args.points.now (start c).args.triangles.now (start c).args.joints.now (start c).args.n)
room c =
    let ps = (start c).args.points.now in
    let ts = (start c).args.triangles.now in
    let js = (start c).args.joints.now in
    let n = (start c).args.n in
    roomy _ (blank ps ts js n) (no_4 c (blank ps ts js n) (blank_lends ps ts js n))

abbrev top6 : tie.Else-unknown_node → tie.Else-too_short
top6 c = c.before.before

no_5 : (c : tie.Else-unknown_node) (l : Lent) → l.triangles ≡ (start (top6 c)).args.triangles.now → unknown_node (asked (start (top6 c)).args.a) l ≡ false
no_5 c l e = sym (c.unknown_node.ensures l e) ∙ c.if-unknown_node.false

abbrev top7 : tie.Else-repeated_node → tie.Else-unknown_node
top7 c = c.before.before

no_6 : (c : tie.Else-repeated_node) (l : Lent) → l.triangles ≡ (start (top6 (top7 c))).args.triangles.now → repeated_node (asked (start (top6 (top7 c))).args.a) l ≡ false
no_6 c l e = sym (c.repeated_node.ensures l e) ∙ c.if-repeated_node.false

-- the caller's numbers pass
numbers : (c : tie.Else-bad_quality) (l : Lent) → let a = asked (top (top2 (top3 (top4 c)))).args.a in
    first_refusal a l ≡ cond (too_short a l) 4 (cond (unknown_node a l) 5 (cond (repeated_node a l) 6 (cond (far_point a l) 7 (cond (bad_grid a l) 15 (cond (bad_joints a l) 13 0)))))
numbers c l = let p = top4 c in rw (in_turn, no_1 (top2 (top3 p)), no_2 (top3 p), no_3 p, no_14 c)

abbrev top8 : tie.Else-far_point → tie.Else-repeated_node
top8 c = c.before.before

no_7 : (c : tie.Else-far_point) (l : Lent) → l.points ≡ (start (top6 (top7 (top8 c)))).args.points.now → far_point (asked (start (top6 (top7 (top8 c)))).args.a) l ≡ false
no_7 c l e = sym (c.far_point.ensures l e) ∙ c.if-far_point.false

-- the triangles pass as well
triangles : (c : tie.Else-repeated_node) (l : Lent) → let t = start (top6 (top7 c)) in
    Lends l t.args.points.now t.args.triangles.now t.args.joints.now t.args.n
    → first_refusal (asked t.args.a) l ≡ cond (far_point (asked t.args.a) l) 7 (cond (bad_grid (asked t.args.a) l) 15 (cond (bad_joints (asked t.args.a) l) 13 0))
triangles c l h =
    let p6 = top7 c in
    rw (numbers (top5 (top6 p6)) l, no_4 (top6 p6) l h, no_5 p6 l h.triangles, no_6 c l h.triangles)

abbrev top9 : tie.Else-bad_grid → tie.Else-far_point
top9 c = c.before.before

no_15 : (c : tie.Else-bad_grid) (l : Lent) → l.points ≡ (start (top6 (top7 (top8 (top9 c))))).args.points.now → bad_grid (asked (start (top6 (top7 (top8 (top9 c))))).args.a) l ≡ false
no_15 c l e = sym (c.bad_grid.ensures l e) ∙ c.if-bad_grid.false

returns : tie.Need-returns-then-over_limit
returns c = λ l h. rw (in_turn, sym c.over_limit.ensures ∙ c.if-over_limit.true)

returns_2 : tie.Need-returns-then-bad_size
returns_2 c = λ l h. rw (in_turn, no_1 c.before.before, sym c.bad_size.ensures ∙ c.if-bad_size.true)

returns_3 : tie.Need-returns-then-bad_stop
returns_3 c = λ l h.
    let p = c in
    rw (in_turn, no_1 (top2 p.before.before), no_2 p.before.before, sym c.bad_stop.ensures ∙ c.if-bad_stop.true)

returns_4 : tie.Need-returns-then-bad_quality
returns_4 c = λ l h.
    let p = c in
    rw (in_turn, no_1 (top2 (top3 p.before.before)), no_2 (top3 p.before.before), no_3 p.before.before, sym c.bad_quality.ensures ∙ c.if-bad_quality.true)

returns_5 : tie.Need-returns-then-too_short
returns_5 c = λ l h. rw (numbers c.before.before l, sym (c.too_short.ensures l h) ∙ c.if-too_short.true)

returns_6 : tie.Need-returns-then-unknown_node
returns_6 c = λ l h.
    let p = c in
    rw (numbers (top5 p.before.before) l, no_4 p.before.before l h, sym (c.unknown_node.ensures l h.triangles) ∙ c.if-unknown_node.true)

returns_7 : tie.Need-returns-then-repeated_node
returns_7 c = λ l h.
    let p = c in
    rw (numbers (top5 (top6 p.before.before)) l, no_4 (top6 p.before.before) l h, no_5 p.before.before l h.triangles, sym (c.repeated_node.ensures l h.triangles) ∙ c.if-repeated_node.true)

far_point_requires : tie.Need-far_point-requires
far_point_requires c κs =
    let r = room (top6 (top7 c)) in
    omega arith

returns_8 : tie.Need-returns-then-far_point
returns_8 c = λ l h. rw (triangles c.before.before l h, sym (c.far_point.ensures l h.points) ∙ c.if-far_point.true)

bad_grid_requires : tie.Need-bad_grid-requires
bad_grid_requires c κs =
    let r = room (top6 (top7 (top8 c))) in
    (omega arith, λ l e. no_7 c l e)

returns_9 : tie.Need-returns-then-bad_grid
returns_9 c = λ l h.
    let p = c in
    rw (triangles (top8 p.before.before) l h, no_7 p.before.before l h.points, sym (c.bad_grid.ensures l h.points) ∙ c.if-bad_grid.true)

returns_10 : tie.Need-returns-then-bad_joints
returns_10 c = λ l h.
    let p = c in
    rw (triangles (top8 (top9 p.before.before)) l h, no_7 (top9 p.before.before) l h.points, no_15 p.before.before l h.points, sym (c.bad_joints.ensures l h.joints) ∙ c.if-bad_joints.true)

returns_11 : tie.Need-returns
returns_11 c = λ l h.
    let p = c in
    rw (triangles (top8 (top9 p.before.before)) l h, no_7 (top9 p.before.before) l h.points, no_15 p.before.before l h.points, sym (c.bad_joints.ensures l h.joints) ∙ c.if-bad_joints.false)

pub refusal_spec : {M : Type 1} → statement M
refusal_spec =
    tie.close
    (tie.spec
    (λ c κs. search rules) returns (λ c κs. search rules) returns_2 (λ c κs. search rules) returns_3 (λ c κs. search rules) returns_4 (λ c κs. limited _ (no_1 (top2 (top3 (top4 c))))) returns_5 (λ c κs. (room c).triangles) returns_6 (λ c κs. (room (top6 c)).triangles) returns_7 far_point_requires returns_8 bad_grid_requires returns_9 (λ c κs. (room (top6 (top7 (top8 (top9 c))))).joints) returns_10 returns_11)

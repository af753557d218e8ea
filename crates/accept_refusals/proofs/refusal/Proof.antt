-- `accept_refusals::refusal` meets its contract: one condition after the other, in the definition's order;
-- `no-k` is what passing test k gave.
-- Assumes nothing.
use mathlib.Core.Path.{◌≡◌, sym, ◌∙◌}
use mathlib.Core.Bool.{false}
use borrow.Author.Rules.{rules}
use Rattle.accept.specs.Call.{Handed, most, judged, over_limit, bad_limit, too_short, unknown_node, repeated_node, far_point, bad_joints}
use Rattle.accept_refusals.specs.Stated.{handed, over}
use Rattle.accept_refusals.specs.Passed.{in_turn, Long, long, limited}
use Rattle.accept_refusals.proofs.refusal.Statement.{statement}
use Rattle.accept_refusals.proofs.refusal.Tie as tie

abbrev start : tie.After-over_limit → tie.Start
start c = c.before.before.before.before.before.before.before.before.before.before

abbrev hand : tie.After-over_limit → Handed
hand c =
    let a = (start c).args in
    handed a.given.now a.triangles.now a.points.now a.quads.now a.left.now a.joints.now a.components.now a.work.now a.parents.now a.a

-- from the branch behind a test to that behind the test before it
abbrev top1 : tie.Else-over_limit → tie.After-over_limit
top1 c = c.before

abbrev top2 : tie.Else-bad_limit → tie.Else-over_limit
top2 c = c.before.before

abbrev top3 : tie.Else-too_short → tie.Else-bad_limit
top3 c = c.before.before

abbrev top4 : tie.Else-unknown_node → tie.Else-too_short
top4 c = c.before.before

abbrev top5 : tie.Else-repeated_node → tie.Else-unknown_node
top5 c = c.before.before

abbrev top6 : tie.Else-far_point → tie.Else-repeated_node
top6 c = c.before.before

abbrev hand3 : tie.Else-too_short → Handed
hand3 c = hand (top1 (top2 (top3 c)))

-- ---- what each test says
test_1 : (c : tie.After-over_limit) → c.over_limit.result ≡ over_limit (hand c)
unfolding over over_limit most
test_1 c = c.over_limit.ensures

test_14 : (c : tie.After-bad_limit) → c.bad_limit.result ≡ bad_limit (hand (top1 c.before))
unfolding bad_limit
test_14 c = c.bad_limit.ensures

test_5 : (c : tie.After-unknown_node) → c.unknown_node.result ≡ unknown_node (hand3 c.before)
unfolding unknown_node judged
test_5 c = c.unknown_node.ensures

test_6 : (c : tie.After-repeated_node) → c.repeated_node.result ≡ repeated_node (hand3 (top4 c.before))
unfolding repeated_node judged
test_6 c = c.repeated_node.ensures

test_7 : (c : tie.After-far_point) → c.far_point.result ≡ far_point (hand3 (top4 (top5 c.before)))
unfolding far_point judged
test_7 c = c.far_point.ensures

test_13 : (c : tie.After-bad_joints) → c.bad_joints.result ≡ bad_joints (hand3 (top4 (top5 (top6 c.before))))
unfolding bad_joints judged
test_13 c = c.bad_joints.ensures

-- ---- what passing them gave
no_1 : (c : tie.Else-over_limit) → over_limit (hand (top1 c)) ≡ false
no_1 c = sym (test_1 c.before) ∙ c.if-over_limit.false

no_14 : (c : tie.Else-bad_limit) → bad_limit (hand (top1 (top2 c))) ≡ false
no_14 c = sym (test_14 c.before) ∙ c.if-bad_limit.false

no_4 : (c : tie.Else-too_short) → too_short (hand3 c) ≡ false
no_4 c = sym c.too_short.ensures ∙ c.if-too_short.false

no_5 : (c : tie.Else-unknown_node) → unknown_node (hand3 (top4 c)) ≡ false
no_5 c = sym (test_5 c.before) ∙ c.if-unknown_node.false

no_6 : (c : tie.Else-repeated_node) → repeated_node (hand3 (top4 (top5 c))) ≡ false
no_6 c = sym (test_6 c.before) ∙ c.if-repeated_node.false

no_7 : (c : tie.Else-far_point) → far_point (hand3 (top4 (top5 (top6 c)))) ≡ false
no_7 c = sym (test_7 c.before) ∙ c.if-far_point.false

-- ---- what the next tests ask
room : (c : tie.Else-too_short) → Long (hand3 c)
room c = long (hand3 c) (no_4 c)

too_short_requires : tie.Need-too_short-requires
too_short_requires c κs = limited _ (sym (top1 (top2 c)).over_limit.ensures ∙ (top2 c).if-over_limit.false)

unknown_node_requires : tie.Need-unknown_node-requires
unknown_node_requires c κs = let r = room c in record { triangles = r.triangles; quads = r.quads; left = r.left }

repeated_node_requires : tie.Need-repeated_node-requires
repeated_node_requires c κs = let r = room (top4 c) in record { triangles = r.triangles; quads = r.quads; left = r.left }

far_point_requires : tie.Need-far_point-requires
far_point_requires c κs = let r = room (top4 (top5 c)) in record { given = r.given; points = r.points }

-- ---- the answers
returns : tie.Need-returns-then-over_limit
returns c = rw (in_turn, sym (test_1 c.before) ∙ c.if-over_limit.true)

returns_2 : tie.Need-returns-then-bad_limit
returns_2 c = let p = c in rw (in_turn, no_1 p.before.before, sym (test_14 c.before) ∙ c.if-bad_limit.true)

returns_3 : tie.Need-returns-then-too_short
returns_3 c = let p = c in rw (in_turn, no_1 (top2 p.before.before), no_14 p.before.before, sym c.too_short.ensures ∙ c.if-too_short.true)

returns_4 : tie.Need-returns-then-unknown_node
returns_4 c = let p = c in rw (in_turn, no_1 (top2 (top3 p.before.before)), no_14 (top3 p.before.before), no_4 p.before.before, sym (test_5 c.before) ∙ c.if-unknown_node.true)

returns_5 : tie.Need-returns-then-repeated_node
returns_5 c =
    let p4 = c in
    let p = top4 p4.before.before in
    rw (in_turn, no_1 (top2 (top3 p)), no_14 (top3 p), no_4 p, no_5 p4.before.before, sym (test_6 c.before) ∙ c.if-repeated_node.true)

returns_6 : tie.Need-returns-then-far_point
returns_6 c =
    let p5 = c in
    let p4 = top5 p5.before.before in
    let p = top4 p4 in
    rw (in_turn, no_1 (top2 (top3 p)), no_14 (top3 p), no_4 p, no_5 p4, no_6 p5.before.before, sym (test_7 c.before) ∙ c.if-far_point.true)

returns_7 : tie.Need-returns-then-bad_joints
returns_7 c =
    let p6 = c in
    let p5 = top6 p6.before.before in
    let p4 = top5 p5 in
    let p = top4 p4 in
    rw (in_turn, no_1 (top2 (top3 p)), no_14 (top3 p), no_4 p, no_5 p4, no_6 p5, no_7 p6.before.before, sym (test_13 c.before) ∙ c.if-bad_joints.true)

returns_8 : tie.Need-returns
returns_8 c =
    let p6 = c in
    let p5 = top6 p6.before.before in
    let p4 = top5 p5 in
    let p = top4 p4 in
    rw (in_turn, no_1 (top2 (top3 p)), no_14 (top3 p), no_4 p, no_5 p4, no_6 p5, no_7 p6.before.before, sym (test_13 c.before) ∙ c.if-bad_joints.false)

pub refusal_spec : {M : Type 1} → statement M
refusal_spec =
    tie.close
    (tie.spec
    (λ c κs. search rules) returns (λ c κs. search rules) returns_2 too_short_requires returns_3 unknown_node_requires returns_4 repeated_node_requires returns_5 far_point_requires returns_6 (λ c κs. (room (top4 (top5 (top6 c)))).joints) returns_7 returns_8)

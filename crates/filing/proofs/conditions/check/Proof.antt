-- One refusal after the other, in the definition's order.
use Rattle.std.specs.Prelude.{◌≡◌}
use Rattle.laws.specs.Kit.{refl, sym, ◌∙◌, ap, false, rules, lt-ltb, le-ltb}
use Rattle.definition.specs.Floats.{0·0, f64}
use Rattle.definition.specs.Call.{most_given, unknown_node, repeated_node, far_point}
use Rattle.refusals.specs.Stated as stated
use Rattle.filing.specs.Filing.{Mesh, asked, lent, over_limit, too_short, triangle_words}
use Rattle.filing.specs.Promise.{mesh}
use Rattle.filing.proofs.Refusals.{in_turn}
use Rattle.filing.proofs.conditions.check.Statement.{statement}
use Rattle.filing.proofs.conditions.check.Tie as tie

abbrev mesh_of : tie.Else-work-count → Mesh
mesh_of c = let a = c.args in mesh a.given a.count a.points.now a.triangles.now a.work.now

no_1 : (c : tie.Else-work-count) → over_limit (mesh_of c) ≡ false
unfolding over_limit most_given
no_1 c = rw (le-ltb 4096 _ c.if-count-gt-MOST_GIVEN.false, le-ltb 4096 _ c.if-given-gt-MOST_GIVEN.false)

no_4 : (c : tie.Else-work-count) → too_short (mesh_of c) ≡ false
unfolding too_short triangle_words
no_4 c = rw (le-ltb _ _ c.if-points-given.false, le-ltb _ _ c.if-triangles-count.false, le-ltb _ _ c.if-work-count.false)

-- what is stated to the tests of the mesh
stated_is : (s : tie.After-standard-a) → stated.asked s.standard-a.result ≡ asked (mesh_of s.before)
unfolding 0·0 f64
stated_is s = s.standard-a.ensures

abbrev top6 : tie.Else-unknown_node → tie.After-standard-a
top6 c = c.before.before

test_5 : (c : tie.After-unknown_node) → c.unknown_node.result ≡ unknown_node (asked (mesh_of c.before.before)) (lent (mesh_of c.before.before))
test_5 c =
    let m = mesh_of c.before.before in
    c.unknown_node.ensures (lent m) refl ∙ ap (λ z. unknown_node z (lent m)) (stated_is c.before)

no_5 : (c : tie.Else-unknown_node) → unknown_node (asked (mesh_of (top6 c).before)) (lent (mesh_of (top6 c).before)) ≡ false
no_5 c = sym (test_5 c.before) ∙ c.if-unknown_node.false

test_6 : (c : tie.After-repeated_node) → c.repeated_node.result ≡ repeated_node (asked (mesh_of (top6 c.before).before)) (lent (mesh_of (top6 c.before).before))
test_6 c =
    let m = mesh_of (top6 c.before).before in
    c.repeated_node.ensures (lent m) refl ∙ ap (λ z. repeated_node z (lent m)) (stated_is (top6 c.before))

abbrev top7 : tie.Else-repeated_node → tie.Else-unknown_node
top7 c = c.before.before

no_6 : (c : tie.Else-repeated_node) → repeated_node (asked (mesh_of (top6 (top7 c)).before)) (lent (mesh_of (top6 (top7 c)).before)) ≡ false
no_6 c = sym (test_6 c.before) ∙ c.if-repeated_node.false

test_7 : (c : tie.After-far_point) → c.far_point.result ≡ far_point (asked (mesh_of (top6 (top7 c.before)).before)) (lent (mesh_of (top6 (top7 c.before)).before))
test_7 c =
    let m = mesh_of (top6 (top7 c.before)).before in
    c.far_point.ensures (lent m) refl ∙ ap (λ z. far_point z (lent m)) (stated_is (top6 (top7 c.before)))

count_is : (s : tie.After-standard-a) → s.standard-a.result.count ≡ (mesh_of s.before).count
count_is s = ap (λ z. z.count) s.standard-a.ensures

given_is : (s : tie.After-standard-a) → s.standard-a.result.given ≡ (mesh_of s.before).given
given_is s = ap (λ z. z.given) s.standard-a.ensures

returns : tie.Need-returns-then-count-gt-MOST_GIVEN
unfolding over_limit too_short triangle_words most_given
returns c = rw (in_turn, lt-ltb 4096 _ c.if-count-gt-MOST_GIVEN.true)

returns_2 : tie.Need-returns-then-given-gt-MOST_GIVEN
unfolding over_limit too_short triangle_words most_given
returns_2 c = rw (in_turn, le-ltb 4096 _ c.if-count-gt-MOST_GIVEN.false, lt-ltb 4096 _ c.if-given-gt-MOST_GIVEN.true)

returns_3 : tie.Need-returns-then-points-given
unfolding over_limit too_short triangle_words most_given
returns_3 c = rw (in_turn, le-ltb 4096 _ c.if-count-gt-MOST_GIVEN.false, le-ltb 4096 _ c.if-given-gt-MOST_GIVEN.false, lt-ltb _ _ c.if-points-given.true)

returns_4 : tie.Need-returns-then-triangles-count
unfolding over_limit too_short triangle_words most_given
returns_4 c = rw (in_turn, le-ltb 4096 _ c.if-count-gt-MOST_GIVEN.false, le-ltb 4096 _ c.if-given-gt-MOST_GIVEN.false, le-ltb _ _ c.if-points-given.false, lt-ltb _ _ c.if-triangles-count.true)

returns_5 : tie.Need-returns-then-work-count
unfolding over_limit too_short triangle_words most_given
returns_5 c = rw (in_turn, le-ltb 4096 _ c.if-count-gt-MOST_GIVEN.false, le-ltb 4096 _ c.if-given-gt-MOST_GIVEN.false, le-ltb _ _ c.if-points-given.false, le-ltb _ _ c.if-triangles-count.false, lt-ltb _ _ c.if-work-count.true)

unknown_node_requires : tie.Need-unknown_node-requires
unknown_node_requires c κs = rw (count_is c) c.if-triangles-count.false

repeated_node_requires : tie.Need-repeated_node-requires
repeated_node_requires c κs = rw (count_is (top6 c)) (top6 c).if-triangles-count.false

far_point_requires : tie.Need-far_point-requires
far_point_requires c κs = rw (given_is (top6 (top7 c))) (top6 (top7 c)).if-points-given.false

returns_6 : tie.Need-returns-then-unknown_node
returns_6 c =
    let p = c in
    rw (in_turn, no_1 p.before.before.before, no_4 p.before.before.before, sym (test_5 c.before) ∙ c.if-unknown_node.true)

returns_7 : tie.Need-returns-then-repeated_node
returns_7 c =
    let p6 = c in
    let p = (top6 p6.before.before).before in
    rw (in_turn, no_1 p, no_4 p, no_5 p6.before.before, sym (test_6 c.before) ∙ c.if-repeated_node.true)

returns_8 : tie.Need-returns-then-far_point
returns_8 c =
    let p7 = c in
    let p = (top6 (top7 p7.before.before)).before in
    rw (in_turn, no_1 p, no_4 p, no_5 (top7 p7.before.before), no_6 p7.before.before, sym (test_7 c.before) ∙ c.if-far_point.true)

returns_9 : tie.Need-returns
returns_9 c =
    let p7 = c in
    let p = (top6 (top7 p7.before.before)).before in
    rw (in_turn, no_1 p, no_4 p, no_5 (top7 p7.before.before), no_6 p7.before.before, sym (test_7 c.before) ∙ c.if-far_point.false)

pub check_spec : {M : Type 1} → statement M
check_spec =
    tie.close
    (tie.spec
    returns returns_2 (λ c. search rules) returns_3 (λ c. search rules) returns_4 (λ c. search rules) returns_5 (λ c κs. search rules) unknown_node_requires returns_6 repeated_node_requires returns_7 far_point_requires returns_8 returns_9)

use Rattle.std.specs.Prelude.{◌≡◌, ◌<◌}
use Rattle.laws.specs.Kit.{refl, sym, ◌∙◌, false, arith, rules, not-true, not-false}
use Rattle.definition.specs.Plane.{parts}
use Rattle.definition.specs.Cells.{Mesh}
use Rattle.definition.specs.Call.{point_at}
use Rattle.crossings.specs.Nodes.{Four}
use Rattle.crossings.specs.Cross.{Drawn, stays}
use Rattle.crossings.proofs.Tests.{parts_side, not_parted, drawn_four, chosen, not_chosen}
use Rattle.crossings.proofs.cross.better_of.Statement.{statement}
use Rattle.crossings.proofs.cross.better_of.Tie as tie

abbrev top : tie.After-other_side → tie.Start
top k = k.before.before.before.before

-- whether the line through u and v parts a and x
parted : (k : tie.After-other_side)
    → k.other_side.result ≡ parts (point_at (top k).args.q.now (top k).args.u) (point_at (top k).args.q.now (top k).args.v) (point_at (top k).args.q.now (top k).args.a) (point_at (top k).args.q.now (top k).args.x)
parted k =
    let t = top k in
    let p = point_at t.args.q.now in
    parts_side (p t.args.u) (p t.args.v) (p t.args.a) (p t.args.x) k.other_side.result t.args.d t.requires.1.1 k.other_side.ensures

-- the four nodes
four : (k : tie.After-other_side) (m : Mesh) → Drawn (top k).args.q.now (top k).args.n (top k).args.bucket m → Four (top k).args.q.now m (top k).args.u (top k).args.v (top k).args.a (top k).args.x
four k m d =
    let t = top k in
    let a = t.args in
    let p = t.requires.0 in
    drawn_four a.q.now a.n a.bucket m d a.u a.v a.a a.x p.u_known p.v_known p.a_known (omega (arith, k.if-x-best.false, t.requires.1.0))

returns : tie.Need-returns-then-x-a
returns c = (omega arith, λ m d. stays refl (λ h g t. omega (arith, c.if-x-a.true, h)))

returns_2 : tie.Need-returns-then-x-best
returns_2 c = (omega arith, λ m d. stays refl (λ h g t. omega (arith, c.if-x-best.true, g)))

returns_3 : tie.Need-returns-then-not-other_side
returns_3 c =
    let k = c in
    let a = (top k.before).args in (
      omega arith,
      λ m d. not_chosen m a.u a.v a.a a.x a.best false (sym (not_parted m a.u a.v a.a a.x a.q.now (four k.before m d) (sym (parted k.before) ∙ c.if-not-other_side.true))) refl,
    )

is_crossing_requires : tie.Need-is_crossing-requires
is_crossing_requires c κs =
    let k = c in
    let t = top k.before in
    let p = t.requires.0 in
    let n : t.args.x < t.args.n = omega (arith, k.if-x-best.false, t.requires.1.0) in
    ((omega (arith, p.fits, p.u_known), omega (arith, p.fits, p.v_known), omega (arith, p.fits, p.a_known), omega (arith, p.fits, n)), sym (parted k.before) ∙ c.if-not-other_side.false)

returns_4 : tie.Need-returns-then-is_crossing
returns_4 c =
    let y = c in
    let k = y in
    let a = (top k.before.before.before).args in (
      omega (arith, k.if-x-best.false),
      λ m d. chosen m a.u a.v a.a a.x a.best y.is_crossing.result (y.is_crossing.ensures m d.side (four k.before.before.before m d)) c.if-is_crossing.true k.if-x-best.false k.if-x-a.false,
    )

returns_5 : tie.Need-returns
returns_5 c =
    let y = c in
    let k = y in
    let a = (top k.before.before.before).args in (
      omega arith,
      λ m d. not_chosen m a.u a.v a.a a.x a.best y.is_crossing.result (y.is_crossing.ensures m d.side (four k.before.before.before m d)) c.if-is_crossing.false,
    )

pub better_of_spec : {M : Type 1} → statement M
better_of_spec =
    tie.close
    (tie.spec
    returns returns_2 (λ c κs. search rules) returns_3 is_crossing_requires returns_4 returns_5)

-- `offenders::triangles::first_thin` meets its contract: the triangles passed have no sharp corner,
-- and a limit that is not below 1 asks nothing.
-- Assumes nothing.
use Rattle.std.specs.Prelude.{◌≡◌, Bool, true, List, Float, ◌+◌, ◌*◌, ◌^◌, nat_abs}
use Rattle.std.proofs.Common.{not-suc-le-zero}
use Prim.{absurd}
use borrow.Author.Count.{below_more}
use Rattle.definition.specs.Exact.{units, CosineUpTo}
use Rattle.definition.specs.Floats.{◌≺◌, f64, 1·0}
use Rattle.definition.specs.Account.{All}
use Rattle.definition.specs.Cells.{Tri}
use Rattle.exact.specs.Sides.{SameAs}
use Rattle.accept.specs.Accept.{is_blunt}
use Rattle.definition.specs.Call.{tri_at, first_tris}
use Rattle.offenders.specs.Search.{stops_here, ends_here}
use Rattle.offenders.specs.Cells.{up_to}
use Rattle.offenders.specs.Triangles.{ThreeFor, corners_of, corners_in, names_three, near_three, each_at, blunt_is, none_thin}
use Rattle.offenders.specs.declared.lent_cells.Three.{Three}
use Rattle.offenders.proofs.triangles.first_thin.Goals as goal

-- the test is of the points of the slice
tested : (t : Float) (ps : List Float) (q : Tri) (f : Three) (r : Bool) → ThreeFor ps q f → SameAs (r ≡ true) (All (CosineUpTo t) (corners_of f)) → SameAs (r ≡ true) (All (CosineUpTo t) (corners_in ps q))
tested t ps q f r h s =
    let k = each_at ps q f h (up_to (10 ^ 9 * nat_abs (units t) + 2 ^ 1074) (10 ^ 9 * 2 ^ 1074)) in
    (λ e. k.0 (s.0 e), λ g. s.1 (k.1 g))

pub loop-i-init : goal.loop-i-init
loop-i-init c k h = absurd (not-suc-le-zero h)

pub three_of-q-requires : goal.three_of-q-requires
three_of-q-requires c = names_three c.requires.0.0 c.args.n c.args.points.now c.args.triangles.now c.requires.0.1 c.loop-i.i c.loop-i-test.true

pub blunt-requires : goal.blunt-requires
blunt-requires c = near_three _ _ _ c.three_of-q.ensures

pub invariant_of-limit : goal.invariant_of-limit
unfolding ◌≺◌ 1·0 f64
invariant_of-limit c = record { least = c.requires.1; below = c.if-not-t.false }

pub returns-then-not-t : goal.returns-then-not-t
unfolding ◌≺◌ 1·0 f64
returns-then-not-t c = none_thin c.args.points.now c.args.triangles.now c.args.n c.args.t c.if-not-t.true

pub returns-then-not-blunt : goal.returns-then-not-blunt
unfolding first_tris ◌≺◌ 1·0 f64
returns-then-not-blunt c =
    λ m h j e f.
    let a = c.args in
    stops_here (is_blunt j) (tri_at a.triangles.now) (λ k. All (CosineUpTo a.t) (corners_in a.points.now (tri_at a.triangles.now k))) a.n
    (λ k l. blunt_is m a.n a.points.now a.triangles.now h j e k l a.t f c.if-not-t.false) c.loop-i.i c.loop-i.auto.i-end c.loop-i.invariant c.loop-i-test.true _ (tested c.args.t _ _ _ _ c.three_of-q.ensures c.blunt.ensures) c.if-not-blunt.true

pub loop-i-preserved : goal.loop-i-preserved
loop-i-preserved c = below_more _ _ c.loop-i.invariant ((tested c.args.t _ _ _ _ c.three_of-q.ensures c.blunt.ensures).0 c.if-not-blunt.false)

pub returns : goal.returns
unfolding first_tris ◌≺◌ 1·0 f64
returns c =
    λ m h j e f.
    let a = c.args in
    ends_here (is_blunt j) (tri_at a.triangles.now) (λ k. All (CosineUpTo a.t) (corners_in a.points.now (tri_at a.triangles.now k))) a.n
    (λ k l. blunt_is m a.n a.points.now a.triangles.now h j e k l a.t f c.if-not-t.false) c.loop-i.i c.loop-i.auto.i-end c.loop-i.invariant c.loop-i-test.false

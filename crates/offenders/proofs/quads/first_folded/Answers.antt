-- `offenders::quads::first_folded` meets its contract: the quads passed turn left at their corners. Assumes nothing.
use Rattle.std.specs.Prelude.{◌≡◌, Bool, true, List, Float}
use Rattle.std.proofs.Common.{not-suc-le-zero}
use Prim.{absurd}
use borrow.Author.Count.{below_more}
use Rattle.definition.specs.Exact.{exact_cross, AboveZero, TurnsLeft}
use Rattle.definition.specs.Account.{All}
use Rattle.definition.specs.Cells.{Quad}
use Rattle.exact.specs.Sides.{SameAs}
use Rattle.accept.specs.Accept.{is_convex}
use Rattle.accept.specs.Call.{corners_at}
use Rattle.offenders.specs.Search.{stops_here, ends_here}
use Rattle.offenders.specs.Cells.{StandFor, corners_of, corners_in, names_four, near_four, each_at, convex_is}
use Rattle.offenders.specs.declared.lent_cells.Four.{Four}
use Rattle.offenders.proofs.quads.first_folded.Goals as goal

-- the test is of the points of the slice
tested : (ps : List Float) (q : Quad) (f : Four) (r : Bool) → StandFor ps q f → SameAs (r ≡ true) (All TurnsLeft (corners_of f)) → SameAs (r ≡ true) (All TurnsLeft (corners_in ps q))
tested ps q f r h s =
    let k = each_at ps q f h (λ u v. AboveZero (exact_cross u v)) in
    (λ e. k.0 (s.0 e), λ g. s.1 (k.1 g))

pub loop-i-init : goal.loop-i-init
loop-i-init c k h = absurd (not-suc-le-zero h)

pub four_of-q-requires : goal.four_of-q-requires
four_of-q-requires c = names_four c.requires.0 c.args.n c.args.points.now c.args.quads.now c.requires.1 c.loop-i.i c.loop-i-test.true

pub convex-requires : goal.convex-requires
convex-requires c = near_four _ _ _ c.four_of-q.ensures

pub returns-then-not-convex : goal.returns-then-not-convex
returns-then-not-convex c =
    λ m h j e.
    let a = c.args in
    stops_here (is_convex j) (corners_at a.quads.now) (λ k. All TurnsLeft (corners_in a.points.now (corners_at a.quads.now k))) a.n
    (convex_is m a.n a.points.now a.quads.now h j e) c.loop-i.i c.loop-i.auto.i-end c.loop-i.invariant c.loop-i-test.true _ (tested _ _ _ _ c.four_of-q.ensures c.convex.ensures) c.if-not-convex.true

pub loop-i-preserved : goal.loop-i-preserved
loop-i-preserved c = below_more _ _ c.loop-i.invariant ((tested _ _ _ _ c.four_of-q.ensures c.convex.ensures).0 c.if-not-convex.false)

pub returns : goal.returns
returns c =
    λ m h j e.
    let a = c.args in
    ends_here (is_convex j) (corners_at a.quads.now) (λ k. All TurnsLeft (corners_in a.points.now (corners_at a.quads.now k))) a.n
    (convex_is m a.n a.points.now a.quads.now h j e) c.loop-i.i c.loop-i.auto.i-end c.loop-i.invariant c.loop-i-test.false

-- `offenders::quads::first_sharp` meets its contract: the quads passed have no sharp corner. Assumes nothing.
use Rattle.std.specs.Prelude.{◌≡◌, Bool, true, List, Float, ◌+◌, ◌*◌, ◌^◌, nat_abs}
use Rattle.std.proofs.Common.{not-suc-le-zero}
use Prim.{absurd}
use borrow.Author.Count.{below_more}
use Rattle.definition.specs.Exact.{units, CosineUpTo}
use Rattle.definition.specs.Account.{All}
use Rattle.definition.specs.Cells.{Quad}
use Rattle.exact.specs.Sides.{SameAs}
use Rattle.accept.specs.Accept.{is_wide}
use Rattle.accept.specs.Call.{corners_at}
use Rattle.exact.proofs.Limits.{limit_range}
use Rattle.offenders.specs.Search.{stops_here, ends_here}
use Rattle.offenders.specs.Cells.{StandFor, corners_of, corners_in, names_four, near_four, each_at, up_to, wide_is}
use Rattle.offenders.specs.declared.lent_cells.Four.{Four}
use Rattle.offenders.proofs.quads.first_sharp.Goals as goal

-- the test is of the points of the slice
tested : (t : Float) (ps : List Float) (q : Quad) (f : Four) (r : Bool) → StandFor ps q f → SameAs (r ≡ true) (All (CosineUpTo t) (corners_of f)) → SameAs (r ≡ true) (All (CosineUpTo t) (corners_in ps q))
tested t ps q f r h s =
    let k = each_at ps q f h (up_to (10 ^ 9 * nat_abs (units t) + 2 ^ 1074) (10 ^ 9 * 2 ^ 1074)) in
    (λ e. k.0 (s.0 e), λ g. s.1 (k.1 g))

pub loop-i-init : goal.loop-i-init
loop-i-init c k h = absurd (not-suc-le-zero h)

pub four_of-q-requires : goal.four_of-q-requires
four_of-q-requires c = names_four c.requires.0.0 c.args.n c.args.points.now c.args.quads.now c.requires.0.1 c.loop-i.i c.loop-i-test.true

pub blunt-requires : goal.blunt-requires
blunt-requires c = near_four _ _ _ c.four_of-q.ensures

pub invariant_of-limit : goal.invariant_of-limit
invariant_of-limit c =
    let l = c.requires.1 in
    record { least = l.least; below = (limit_range c.args.t c.well_formed.1.1.1.0.1 l.least l.most).below_one }

pub returns-then-not-blunt : goal.returns-then-not-blunt
returns-then-not-blunt c =
    λ m h j e f.
    let a = c.args in
    stops_here (is_wide j) (corners_at a.quads.now) (λ k. All (CosineUpTo a.t) (corners_in a.points.now (corners_at a.quads.now k))) a.n
    (λ k l. wide_is m a.n a.points.now a.quads.now h j e k l a.t f) c.loop-i.i c.loop-i.auto.i-end c.loop-i.invariant c.loop-i-test.true _ (tested c.args.t _ _ _ _ c.four_of-q.ensures c.blunt.ensures) c.if-not-blunt.true

pub loop-i-preserved : goal.loop-i-preserved
loop-i-preserved c = below_more _ _ c.loop-i.invariant ((tested c.args.t _ _ _ _ c.four_of-q.ensures c.blunt.ensures).0 c.if-not-blunt.false)

pub returns : goal.returns
returns c =
    λ m h j e f.
    let a = c.args in
    ends_here (is_wide j) (corners_at a.quads.now) (λ k. All (CosineUpTo a.t) (corners_in a.points.now (corners_at a.quads.now k))) a.n
    (λ k l. wide_is m a.n a.points.now a.quads.now h j e k l a.t f) c.loop-i.i c.loop-i.auto.i-end c.loop-i.invariant c.loop-i-test.false

-- `offenders::points::first_moved` meets its contract: the points passed are kept. Assumes nothing.
use Rattle.std.specs.Prelude.{◌≡◌, Bool, false, ◌<◌, ℕ, List, Float, Some, None}
use Rattle.std.proofs.Common.{sym, ◌∙◌, not-suc-le-zero, lt-ltb, le-ltb}
use Rattle.std.proofs.Math.Path.{subst}
use Prim.{absurd}
use borrow.Author.Count.{below_more}
use Rattle.definition.specs.Call.{point_at}
use Rattle.accept.specs.Accept.{same_point}
use Rattle.offenders.specs.Search.{Finds, found_at, found_none}
use Rattle.offenders.specs.Points.{kept, moved_as_search}
use Rattle.offenders.proofs.points.first_moved.Goals as goal

-- point i is there, and the test says whether it is the same
tested : (ps qs : List Float) (m i : ℕ) (r : Bool) → i < m → r ≡ same_point (point_at ps i) (point_at qs i) → kept (point_at ps) (point_at qs) m i ≡ r
tested ps qs m i r l e = rw (lt-ltb i m l) (sym e)

pub loop-i-init : goal.loop-i-init
loop-i-init c k h = absurd (not-suc-le-zero h)

pub returns-then-i-m : goal.returns-then-i-m
returns-then-i-m c =
    let a = c.args in
    let i = c.loop-i.i in
    let f = kept (point_at a.given.now) (point_at a.points.now) a.m in
    let e : f i ≡ false = rw (le-ltb i a.m c.if-i-m.true) in
    subst (λ o. Finds a.n o (Some i)) (sym (moved_as_search a.n a.m a.given.now a.points.now)) (found_at f (λ i. i) a.n i c.loop-i.invariant c.loop-i-test.true e)

pub returns-then-not-same_point : goal.returns-then-not-same_point
returns-then-not-same_point c =
    let a = c.args in
    let i = c.loop-i.i in
    let f = kept (point_at a.given.now) (point_at a.points.now) a.m in
    let e : f i ≡ false = tested _ _ _ _ _ c.if-i-m.false c.same_point.ensures ∙ c.if-not-same_point.true in
    subst (λ o. Finds a.n o (Some i)) (sym (moved_as_search a.n a.m a.given.now a.points.now)) (found_at f (λ i. i) a.n i c.loop-i.invariant c.loop-i-test.true e)

pub loop-i-preserved : goal.loop-i-preserved
loop-i-preserved c = below_more _ _ c.loop-i.invariant (tested _ _ _ _ _ c.if-i-m.false c.same_point.ensures ∙ c.if-not-same_point.false)

pub returns : goal.returns
returns c =
    let a = c.args in
    let f = kept (point_at a.given.now) (point_at a.points.now) a.m in
    subst (λ o. Finds a.n o None) (sym (moved_as_search a.n a.m a.given.now a.points.now)) (found_none f (λ i. i) a.n c.loop-i.i c.loop-i.invariant c.loop-i-test.false)

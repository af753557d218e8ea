-- What the test tells decides: the loop is measured, or nothing changes.
use Rattle.laws.specs.Kit.{refl, sym, ◌∙◌, length}
use Rattle.laws.specs.Bools.{never}
use Rattle.loops.proofs.keep.keep.Goals as goal

pub any_open-requires : goal.any_open-requires
any_open-requires c = let t = c.requires in (length t.0.points, t.1, t.2, t.4.loop)

pub measure-requires : goal.measure-requires
measure-requires c = let t = c.requires in (t.0, t.2, t.3, t.4.behind)

pub returns-then-any_open : goal.returns-then-any_open
returns-then-any_open c =
    λ m bl l ls k.
    let o = c.any_open.ensures (length m.points) bl l k.loop in
    record { kept = λ h. (refl, refl, c.measure.ensures m l ls k.behind); dropped = λ h. never _ (sym o ∙ c.if-any_open.true) h }

pub returns : goal.returns
returns c =
    λ m bl l ls k.
    let o = c.any_open.ensures (length m.points) bl l k.loop in
    record { kept = λ h. never _ h (sym o ∙ c.if-any_open.false); dropped = λ h. (refl, refl, refl) }

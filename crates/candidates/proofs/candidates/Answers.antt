use mathlib.Core.Path.{◌∙◌, subst}
use native.Mathlib.Omega.{arith}
use Rattle.definition.specs.Lists.{filter, below}
use Rattle.plane.specs.Vectors.{vec}
use Rattle.rules.specs.Settings.{quality_of}
use Rattle.edge_candidates.specs.Wanted.{turn}
use Rattle.candidates.specs.Choice.{ChosenTo, is_choice}
use Rattle.candidates.proofs.Tests.{region_of, chosen_are}
use Rattle.candidates.proofs.Lists.{can_wish, can_scan, chosen_to}
use Rattle.candidates.proofs.candidates.Goals as goal

pub region_around-k-requires : goal.region_around-k-requires
region_around-k-requires c =
    let k = c.requires.1 in
    record { lent = (c.requires.0, k.lent, omega (arith, k.first, k.count)); seed_lt_s = k.seeded }

pub wish_at-o-requires : goal.wish_at-o-requires
wish_at-o-requires c =
    let a = c.args in
    let m = c.requires.0 in
    let k = c.requires.1 in
    let g = region_of (quality_of a.aim.quality) m a.seed a.aim.end a.aim.target in
    let f = c.region_around-k.ensures m k.lent (omega (arith, k.first, k.count)) in
    (m, can_wish a.w.now c.region_around-k.new.w a.q.now a.lay.slots a.lay.points a.used a.n a.at a.aim.end a.aim.other a.seed c.region_around-k.result m g k f c.stack_at-i.result c.stack_at-i.ensures)

pub scan-requires : goal.scan-requires
scan-requires c =
    let a = c.args in
    let m = c.requires.0 in
    let k = c.requires.1 in
    let g = region_of (quality_of a.aim.quality) m a.seed a.aim.end a.aim.target in
    let f = c.region_around-k.ensures m k.lent (omega (arith, k.first, k.count)) in
    let w1 = c.region_around-k.new.w in
    let y = can_wish a.w.now w1 a.q.now a.lay.slots a.lay.points a.used a.n a.at a.aim.end a.aim.other a.seed c.region_around-k.result m g k f c.stack_at-i.result c.stack_at-i.ensures in
    (m, g, can_scan a.w.now w1 a.q.now a.lay.slots a.lay.points a.used a.n a.at a.aim.end a.aim.other a.seed c.region_around-k.result m g k f c.stack_at-i.result c.stack_at-i.ensures c.wish_at-o.new.w c.wish_at-o.result (c.wish_at-o.ensures m y))

pub shape_of-w : goal.shape_of-w
shape_of-w c =
    c.scan.auto.w ∙ c.wish_at-o.auto.w ∙ c.region_around-k.auto.w

pub returns : goal.returns
returns c =
    let a = c.args in
    λ m k.
    let g = region_of (quality_of a.aim.quality) m a.seed a.aim.end a.aim.target in
    let f = c.region_around-k.ensures m k.lent (omega (arith, k.first, k.count)) in
    let w1 = c.region_around-k.new.w in
    let v = c.wish_at-o.new.w in
    let w2 = c.scan.new.w in
    let y = c.wish_at-o.ensures m (can_wish a.w.now w1 a.q.now a.lay.slots a.lay.points a.used a.n a.at a.aim.end a.aim.other a.seed c.region_around-k.result m g k f c.stack_at-i.result c.stack_at-i.ensures) in
    let h = can_scan a.w.now w1 a.q.now a.lay.slots a.lay.points a.used a.n a.at a.aim.end a.aim.other a.seed c.region_around-k.result m g k f c.stack_at-i.result c.stack_at-i.ensures v c.wish_at-o.result y in
    subst (ChosenTo a.w.now w2 a.lay.slots a.lay.points a.n a.at c.scan.result) (chosen_are (quality_of a.aim.quality) (turn a.aim.left) m a.aim.end a.aim.other a.seed a.n (vec a.aim.normal) a.aim.target k.count)
    (chosen_to a.w.now w1 v w2 a.q.now a.lay.slots a.lay.points a.used a.n a.at a.aim.end a.aim.other a.seed c.region_around-k.result c.scan.result m g
    (filter (is_choice (quality_of a.aim.quality) (turn a.aim.left) m a.aim.end a.aim.other (vec a.aim.normal) a.aim.target g) (below a.n)) k f c.stack_at-i.result c.stack_at-i.ensures y.besides (c.scan.ensures m g h))

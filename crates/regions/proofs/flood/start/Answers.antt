use Rattle.laws.specs.Kit.{sym, subst, ℕ, arith, List}
use Rattle.regions.specs.Flood.{Seeded}
use Rattle.regions.proofs.Seeds.{seeded}
use Rattle.regions.proofs.flood.start.Goals as goal

pub append-requires : goal.append-requires
append-requires c =
    let a = c.args in record { can_list = record { fits = omega (arith, c.requires.can_mark.fits, c.clear_marks.auto.w); small = c.requires.can_mark.small; inside = omega (arith, c.requires.i_lt_s) }; can_list_2 = record { fits = omega (arith, c.requires.can_mark.fits, c.clear_marks.auto.w); small = c.requires.can_mark.small; inside = c.requires.i_lt_s } }

pub returns : goal.returns
returns c =
    let a = c.args in
    subst (λ (v : List ℕ). Seeded a.w.now v a.lay.slots a.lay.points a.used a.i) (sym c.append.ensures)
    (seeded a.w.now c.clear_marks.new.w a.lay.slots a.lay.points a.used a.i c.requires.i_lt_s c.requires.can_mark c.clear_marks.ensures)

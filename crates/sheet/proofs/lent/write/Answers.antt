use Rattle.std.specs.Prelude.{◌++◌}
use Rattle.laws.specs.Kit.{◌∙◌, ap, set}
use lib.ListN.{drop}
use Rattle.sheet.specs.Lent.{numbers}
use Rattle.sheet.proofs.Numbers.{written}
use Rattle.sheet.proofs.lent.write.Goals as goal

pub returns : goal.returns
unfolding numbers
returns c =
    let k = c.args in
    ap (λ cs. set (set (cs ++ drop 11 k.answer.now) 11 c.quad_of.result) 12 c.quad_of-2.result) c.copy_from_slice.ensures.after
    ∙ rw (c.quad_of.ensures, c.quad_of-2.ensures) (written k.s.counts k.answer.now 11 _ _ c.requires.1 c.requires.0)

-- The sides' numbers are put into places and sorted; the first edge that is uneven among them is
-- the least that does not balance.
use Rattle.balance.proofs.Totals.{sortable, ordered, answers}
use Rattle.uprights.proofs.Words.{readable}
use Rattle.uprights.proofs.sides.balance_upright.Goals as goal

pub sort_digits-requires : goal.sort_digits-requires
sort_digits-requires c =
    sortable _ _ _ _ _ _ _ (readable c.requires) _ _ _ c.put_uprights.ensures c.put_sides.ensures c.put_uprights-2.ensures

pub first_uneven-requires : goal.first_uneven-requires
first_uneven-requires c =
    ordered _ _ _ _ _ _ _ (readable c.requires) _ _ _ c.put_uprights.ensures c.put_sides.ensures c.put_uprights-2.ensures _ c.sort_digits.ensures

pub returns : goal.returns
returns c =
    answers _ _ _ _ _ _ _ (readable c.requires) _ _ _ c.put_uprights.ensures c.put_sides.ensures c.put_uprights-2.ensures c.sort_digits.new.w c.sort_digits.ensures c.first_uneven.result c.first_uneven.ensures

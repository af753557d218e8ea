use Rattle.std.specs.Prelude.{◌+◌}
use Rattle.std.specs.Prelude.{Some}
use Rattle.laws.specs.Kit.{sym, ◌∙◌, subst, ℕ, arith, List}
use Rattle.definition.specs.Region.{reach}
use Rattle.regions.specs.Listing.{Reached}
use Rattle.regions.proofs.Reaches.{seen_can, seen_room, seen_see, more, seen_known, seen_other, seen_new}
use Rattle.regions.proofs.flood.visit_one.Goals as goal

pub mark-requires : goal.mark-requires
mark-requires c =
    let a = c.args in
    seen_can a.w.now a.lay.slots a.lay.points a.n a.j c.requires.0 c.requires.1 c.requires.2 c.requires.3

pub returns-then-mark-ne0 : goal.returns-then-mark-ne0
returns-then-mark-ne0 c =
    let a = c.args in
    λ m done todo x h. seen_known a.w.now a.lay.slots a.lay.points a.n a.j m done todo x h (λ e. c.if-mark-ne0.true (c.mark.ensures ∙ e))

pub kind-requires : goal.kind-requires
kind-requires c =
    let a = c.args in
    seen_see a.w.now a.lay.slots a.lay.points a.n a.j c.requires.0 c.requires.1 c.requires.2 c.requires.3

pub returns-then-kind-ne3 : goal.returns-then-kind-ne3
returns-then-kind-ne3 c =
    let a = c.args in
    λ m done todo x h. seen_other a.w.now a.lay.slots a.lay.points a.n a.j m done todo x h (sym c.mark.ensures ∙ c.if-mark-ne0.false) (λ q. c.if-kind-ne3.true (c.kind.ensures ∙ q))

pub append-requires : goal.append-requires
append-requires c =
    let a = c.args in
    record { can_list = seen_room a.w.now a.lay.slots a.lay.points a.n a.j c.requires.0 c.requires.1 c.requires.2 c.requires.3 (sym c.mark.ensures ∙ c.if-mark-ne0.false); can_list_2 = seen_can a.w.now a.lay.slots a.lay.points a.n a.j c.requires.0 c.requires.1 c.requires.2 c.requires.3 }

pub overflow_add-result : goal.overflow_add-result
overflow_add-result c =
    let a = c.args in
    omega (arith, more a.w.now a.lay.slots a.lay.points a.n a.j c.requires.0 c.requires.1 c.requires.2 c.requires.3 (sym c.mark.ensures ∙ c.if-mark-ne0.false), c.requires.3.state.list.rep.room.small)

pub returns : goal.returns
returns c =
    let a = c.args in
    λ m done todo x h.
    subst (λ (v : List ℕ). Reached a.w.now v a.lay.slots a.lay.points m done (reach done todo x) (Some (a.n + 1))) (sym c.append.ensures)
    (seen_new a.w.now a.lay.slots a.lay.points a.n a.j m done todo x h (sym c.mark.ensures ∙ c.if-mark-ne0.false) (sym c.kind.ensures ∙ c.if-kind-ne3.false))

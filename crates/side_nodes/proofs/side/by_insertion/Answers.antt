-- By the insertion's answer: nothing changed, or the new node is the only side node.
use Rattle.std.specs.Prelude.{◌+◌, Some, None, Ok, Err}
use Rattle.laws.specs.Kit.{refl, sym, ◌∙◌, ap, subst, set}
use Rattle.definition.specs.Cells.{node_at}
use Rattle.definition.specs.Insertion.{insert_along}
use Rattle.definition.specs.Attempt.{sides_by}
use Rattle.rules.specs.Settings.{settings_of, suits_of}
use Rattle.plane.specs.Vectors.{vec}
use Rattle.outcomes.specs.Ends.{only_inserted}
use Rattle.side_nodes.specs.declared.side.Side.{Side}
use Rattle.insertion.specs.Places.{PlaceIs}
use Rattle.side_nodes.specs.Sides.{SidesTo}
use Rattle.side_nodes.proofs.Answers.{at_nowhere, at_full, at_node, can_insert, left_same, same_to, grown_to}
use Rattle.side_nodes.proofs.side.by_insertion.Goals as goal

pub insert_along-place-requires : goal.insert_along-place-requires
insert_along-place-requires c =
    let a = c.args in
    let h = c.requires.2 in
    (c.requires.0, c.requires.1, can_insert a.w.now a.q.now a.rules a.c a.seat.near a.seat.end a.seat.other a.stance.seed a.inserted c.requires.1 h, c.requires.3)

pub returns-in-Err : goal.returns-in-Err
unfolding sides_by
returns-in-Err c =
    let a = c.args in
    λ base m h v.
    let g = c.insert_along-place.ensures base m (settings_of a.rules) (suits_of a.rules) (can_insert a.w.now a.q.now a.rules a.c a.seat.near a.seat.end a.seat.other a.stance.seed a.inserted m h) v in
    let x = insert_along (settings_of a.rules) m a.stance.seed (node_at m a.seat.end) (vec a.stance.normal) a.stance.target in
    let w' = c.insert_along-place.new.w in
    let q' = c.insert_along-place.new.q in
    let t' = c.insert_along-place.new.t in
    let r : Side = record { found = Err c.in-Err.short; inserted = a.inserted; counters = a.c; at = a.at } in
    let z = at_full w' a.q.now q' base a.t.now t' a.rules.lay.slots a.rules.lay.points a.c.used a.c.points a.rules.bucket m x c.in-Err.short (subst (λ y. PlaceIs w' a.q.now q' base a.t.now t' a.rules.lay.slots a.rules.lay.points a.c.used a.c.points a.rules.bucket m x y) c.in-Err.is g.is) in
    let l = left_same a.w.now a.q.now a.rules a.c a.seat.near a.seat.end a.seat.other a.stance.seed a.inserted m h w' q' a.t.now t' g.beyond z.3 r refl refl in
    subst (λ y. SidesTo a.w.now w' a.q.now q' base t' a.rules a.seat.near a.c (sides_by (only_inserted a.inserted) m y) r) (sym z.1)
    (same_to a.w.now a.q.now a.rules a.c a.seat.near a.seat.end a.seat.other a.stance.seed a.inserted m h w' q' a.t.now t' g.beyond z.3 r refl refl base a.at v refl _ refl (ap Err z.2, l))

pub returns-in_default : goal.returns-in_default
unfolding sides_by
returns-in_default c =
    let a = c.args in
    λ base m h v.
    let g = c.insert_along-place.ensures base m (settings_of a.rules) (suits_of a.rules) (can_insert a.w.now a.q.now a.rules a.c a.seat.near a.seat.end a.seat.other a.stance.seed a.inserted m h) v in
    let x = insert_along (settings_of a.rules) m a.stance.seed (node_at m a.seat.end) (vec a.stance.normal) a.stance.target in
    let w' = c.insert_along-place.new.w in
    let q' = c.insert_along-place.new.q in
    let t' = c.insert_along-place.new.t in
    let r : Side = record { found = Ok None; inserted = a.inserted; counters = a.c; at = a.at } in
    let z = at_nowhere w' a.q.now q' base a.t.now t' a.rules.lay.slots a.rules.lay.points a.c.used a.c.points a.rules.bucket m x (subst (λ y. PlaceIs w' a.q.now q' base a.t.now t' a.rules.lay.slots a.rules.lay.points a.c.used a.c.points a.rules.bucket m x y) (c.in-Ok.is ∙ ap Ok c.in_default.is) g.is) in
    let l = left_same a.w.now a.q.now a.rules a.c a.seat.near a.seat.end a.seat.other a.stance.seed a.inserted m h w' q' a.t.now t' g.beyond z.1 r refl refl in
    subst (λ y. SidesTo a.w.now w' a.q.now q' base t' a.rules a.seat.near a.c (sides_by (only_inserted a.inserted) m y) r) (sym z.0)
    (same_to a.w.now a.q.now a.rules a.c a.seat.near a.seat.end a.seat.other a.stance.seed a.inserted m h w' q' a.t.now t' g.beyond z.1 r refl refl base a.at v refl _ refl (refl, l))

pub returns : goal.returns
unfolding sides_by
returns c =
    let a = c.args in
    λ base m h v.
    let g = c.insert_along-place.ensures base m (settings_of a.rules) (suits_of a.rules) (can_insert a.w.now a.q.now a.rules a.c a.seat.near a.seat.end a.seat.other a.stance.seed a.inserted m h) v in
    let x = insert_along (settings_of a.rules) m a.stance.seed (node_at m a.seat.end) (vec a.stance.normal) a.stance.target in
    let w' = c.insert_along-place.new.w in
    let q' = c.insert_along-place.new.q in
    let t' = c.insert_along-place.new.t in
    let next = c.in-Some.next in
    let r : Side = record { found = Ok (Some 1); inserted = a.inserted + 1; counters = c.split.result; at = next } in
    let z = at_node w' a.q.now q' base a.t.now t' a.rules.lay.slots a.rules.lay.points a.c.used a.c.points a.rules.bucket m x next (subst (λ y. PlaceIs w' a.q.now q' base a.t.now t' a.rules.lay.slots a.rules.lay.points a.c.used a.c.points a.rules.bucket m x y) (c.in-Ok.is ∙ ap Ok c.in-Some.is) g.is) in
    subst (λ y. SidesTo a.w.now (set w' a.seat.near a.c.points) a.q.now q' base t' a.rules a.seat.near a.c (sides_by (only_inserted a.inserted) m y) r) (sym z.1)
    (grown_to a.w.now a.q.now a.rules a.c a.seat.near a.seat.end a.seat.other a.stance.seed a.inserted m h w' q' g.beyond z.0 z.2 c.split.result c.split.ensures r refl refl refl base t' z.3)

-- By the candidates: found, or none and then missing or by insertion.
use Rattle.std.specs.Prelude.{Some, None, Ok}
use Rattle.laws.specs.Kit.{refl, sym, ◌∙◌, ap, subst, arith}
use Rattle.definition.specs.Candidates.{candidates}
use Rattle.definition.specs.Attempt.{sides_by}
use Rattle.rules.specs.Settings.{quality_of, settings_of}
use Rattle.plane.specs.Vectors.{vec}
use Rattle.edge_candidates.specs.Wanted.{turn}
use Rattle.outcomes.specs.Ends.{only_inserted}
use Rattle.side_nodes.specs.declared.side.Side.{Side}
use Rattle.side_nodes.specs.Sides.{SidesTo}
use Rattle.side_nodes.proofs.Answers.{from_found, from_missing, from_insertion, nodes_of, insertion_of, can_choose, seek_again, left_spare, spare_to, after_spare}
use Rattle.side_nodes.proofs.side.side_nodes.Goals as goal

pub candidates-k-requires : goal.candidates-k-requires
candidates-k-requires c =
    let a = c.args in
    (c.requires.1, can_choose a.w.now a.q.now a.rules a.c a.seat.near a.seat.end a.seat.other a.stance.seed a.inserted c.requires.1 c.requires.2)

pub returns-then-k-gt0 : goal.returns-then-k-gt0
returns-then-k-gt0 c =
    let a = c.args in
    let w' = c.candidates-k.new.w in
    λ base m f h g o.
    let y = c.candidates-k.ensures m (can_choose a.w.now a.q.now a.rules a.c a.seat.near a.seat.end a.seat.other a.stance.seed a.inserted m h) in
    let cs = candidates (quality_of a.rules.quality) (turn a.seat.left) m a.seat.end a.seat.other a.stance.seed (vec a.stance.normal) a.stance.target in
    let e = nodes_of a.rules (turn a.seat.left) f (only_inserted a.inserted) m a.seat.end a.seat.other a.stance.seed (vec a.stance.normal) a.stance.target a.stance.mismatch o in
    let st = settings_of a.rules in
    let r : Side = record { found = Ok (Some c.candidates-k.result); inserted = a.inserted; counters = a.c; at = a.at } in
    let z = from_found st f (only_inserted a.inserted) m a.seat.end cs (omega (arith, y.len, c.if-k-gt0.true)) in
    subst (λ x. SidesTo a.w.now w' a.q.now a.q.now base a.t.now a.rules a.seat.near a.c x r) (sym (e ∙ z))
    (spare_to a.w.now a.q.now a.rules a.c a.seat.near a.seat.end a.seat.other a.stance.seed a.inserted m h w' y.spare base a.t.now a.at g _ r refl refl ((c.candidates-k.result, refl, record { are = y.are; few = y.few; below = y.below }), left_spare a.w.now a.q.now a.rules a.c a.seat.near a.seat.end a.seat.other a.stance.seed a.inserted m h w' y.spare r refl refl))

pub returns-then-not-mismatch : goal.returns-then-not-mismatch
returns-then-not-mismatch c =
    let a = c.args in
    let w' = c.candidates-k.new.w in
    λ base m f h g o.
    let y = c.candidates-k.ensures m (can_choose a.w.now a.q.now a.rules a.c a.seat.near a.seat.end a.seat.other a.stance.seed a.inserted m h) in
    let cs = candidates (quality_of a.rules.quality) (turn a.seat.left) m a.seat.end a.seat.other a.stance.seed (vec a.stance.normal) a.stance.target in
    let e = nodes_of a.rules (turn a.seat.left) f (only_inserted a.inserted) m a.seat.end a.seat.other a.stance.seed (vec a.stance.normal) a.stance.target a.stance.mismatch o in
    let st = settings_of a.rules in
    let z = from_missing st f (only_inserted a.inserted) m a.seat.end cs (omega (arith, y.len, c.if-k-gt0.false)) (o.off ∙ c.if-not-mismatch.true) in
    let r : Side = record { found = Ok None; inserted = a.inserted; counters = a.c; at = a.at } in
    subst (λ x. SidesTo a.w.now w' a.q.now a.q.now base a.t.now a.rules a.seat.near a.c x r) (sym (e ∙ z))
    (spare_to a.w.now a.q.now a.rules a.c a.seat.near a.seat.end a.seat.other a.stance.seed a.inserted m h w' y.spare base a.t.now a.at g _ r refl refl (refl, left_spare a.w.now a.q.now a.rules a.c a.seat.near a.seat.end a.seat.other a.stance.seed a.inserted m h w' y.spare r refl refl))

pub by_insertion-requires : goal.by_insertion-requires
by_insertion-requires c =
    let a = c.args in
    let w' = c.candidates-k.new.w in
    let y = c.candidates-k.ensures c.requires.1 (can_choose a.w.now a.q.now a.rules a.c a.seat.near a.seat.end a.seat.other a.stance.seed a.inserted c.requires.1 c.requires.2) in
    (c.requires.0, c.requires.1, seek_again a.w.now a.q.now a.rules a.c a.seat.near a.seat.end a.seat.other a.stance.seed a.inserted c.requires.1 c.requires.2 w' y.spare, c.requires.3)

pub returns : goal.returns
returns c =
    let a = c.args in
    let w' = c.candidates-k.new.w in
    λ base m f h g o.
    let y = c.candidates-k.ensures m (can_choose a.w.now a.q.now a.rules a.c a.seat.near a.seat.end a.seat.other a.stance.seed a.inserted m h) in
    let cs = candidates (quality_of a.rules.quality) (turn a.seat.left) m a.seat.end a.seat.other a.stance.seed (vec a.stance.normal) a.stance.target in
    let e = nodes_of a.rules (turn a.seat.left) f (only_inserted a.inserted) m a.seat.end a.seat.other a.stance.seed (vec a.stance.normal) a.stance.target a.stance.mismatch o in
    let st = settings_of a.rules in
    let z = from_insertion st f (only_inserted a.inserted) m a.seat.end cs (omega (arith, y.len, c.if-k-gt0.false)) (o.off ∙ c.if-not-mismatch.false) in
    let u = insertion_of st f m a.seat.end a.stance.seed (vec a.stance.normal) a.stance.target a.stance.mismatch o in
    subst (λ x. SidesTo a.w.now c.by_insertion.new.w a.q.now c.by_insertion.new.q base c.by_insertion.new.t a.rules a.seat.near a.c x c.by_insertion.result) (sym (e ∙ z ∙ ap (sides_by (only_inserted a.inserted) m) u))
    (after_spare a.w.now a.q.now a.rules a.c a.seat.near a.seat.end a.seat.other a.stance.seed a.inserted m h w' y.spare c.by_insertion.new.w c.by_insertion.new.q base c.by_insertion.new.t _ c.by_insertion.result (c.by_insertion.ensures base m (seek_again a.w.now a.q.now a.rules a.c a.seat.near a.seat.end a.seat.other a.stance.seed a.inserted m h w' y.spare) g))

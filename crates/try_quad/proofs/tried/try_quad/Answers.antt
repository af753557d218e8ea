-- By the owner of the edge: none, or a triangle on the left or on the right.
use mathlib.Core.Path.{ap, sym, ◌∙◌, subst}
use Rattle.definition.specs.Floats.{◌≺◌, 0·0, f64}
use Rattle.definition.specs.Attempt.{try_quad}
use Rattle.rules.specs.Settings.{settings_of}
use Rattle.try_quad.specs.Tries.{TriedTo}
use Rattle.try_quad.proofs.Standing.{refused_at_once, known_within}
use Rattle.try_quad.proofs.Seeds.{no_seed, up_ends, down_ends, apex_known, on_left, on_right}
use Rattle.try_quad.proofs.tried.try_quad.Goals as goal

pub returns-then-seed-rules : goal.returns-then-seed-rules
returns-then-seed-rules c =
    let a = c.args in
    let ow = c.tri_owner-seed in
    λ base m h l lg ir. refused_at_once a.w.now a.q.now base a.t.now a.log.at a.rules a.c m h.ready lg c.without_trial.result c.without_trial.ensures
    (try_quad (settings_of a.rules) m (a.u, a.v)) (no_seed a.w.now a.q.now a.rules a.c a.u a.v m h ow.result (ow.ensures m h.ready.rep) (settings_of a.rules) c.if-seed-rules.true)

pub cross-requires : goal.cross-requires
cross-requires c =
    let a = c.args in
    let ow = c.tri_owner-seed in
    let th = c.third-apex in
    let within = known_within a.w.now a.q.now a.rules a.c a.u a.v c.requires.1 c.requires.2 in
    let d = up_ends a.w.now a.q.now a.rules a.c a.u a.v c.requires.1 c.requires.2 ow.result (ow.ensures c.requires.1 c.requires.2.ready.rep) in
    (within a.u d.first, within a.v d.second, within th.result (apex_known a.w.now a.q.now a.rules a.c a.u a.v c.requires.1 c.requires.2 ow.result (ow.ensures c.requires.1 c.requires.2.ready.rep) c.if-seed-rules.false th.result th.ensures))

pub try_along-requires : goal.try_along-requires
try_along-requires c =
    let a = c.args in
    let ow = c.tri_owner-seed in
    record { by_index = c.requires; ends = (up_ends a.w.now a.q.now a.rules a.c a.u a.v c.requires.1 c.requires.2 ow.result (ow.ensures c.requires.1 c.requires.2.ready.rep), c.if-seed-rules.false) }

pub returns-then-cross : goal.returns-then-cross
unfolding ◌≺◌ 0·0 f64
returns-then-cross c =
    let a = c.args in
    let ow = c.tri_owner-seed in
    let th = c.third-apex in
    let cr = c.cross in
    let al = c.try_along in
    let g = settings_of a.rules in
    λ base m h l lg ir.
    subst (λ o. TriedTo a.w.now al.new.w a.q.now al.new.q base al.new.t a.rules a.c o al.result)
    (sym (on_left a.w.now a.q.now a.rules a.c a.u a.v m h ow.result (ow.ensures m h.ready.rep) c.if-seed-rules.false th.result th.ensures g (ap (λ o. 0·0 ≺ o) (sym cr.ensures) ∙ c.if-cross.true)))
    (al.ensures base m h l lg ir)

pub try_along-requires-2 : goal.try_along-requires-2
try_along-requires-2 c =
    let a = c.args in
    let ow = c.tri_owner-seed in
    record { by_index = c.requires; ends = (down_ends a.w.now a.q.now a.rules a.c a.u a.v c.requires.1 c.requires.2 ow.result (ow.ensures c.requires.1 c.requires.2.ready.rep), c.if-seed-rules.false) }

pub returns : goal.returns
unfolding ◌≺◌ 0·0 f64
returns c =
    let a = c.args in
    let ow = c.tri_owner-seed in
    let th = c.third-apex in
    let cr = c.cross in
    let al = c.try_along-2 in
    let g = settings_of a.rules in
    λ base m h l lg ir.
    subst (λ o. TriedTo a.w.now al.new.w a.q.now al.new.q base al.new.t a.rules a.c o al.result)
    (sym (on_right a.w.now a.q.now a.rules a.c a.u a.v m h ow.result (ow.ensures m h.ready.rep) c.if-seed-rules.false th.result th.ensures g (ap (λ o. 0·0 ≺ o) (sym cr.ensures) ∙ c.if-cross.false)))
    (al.ensures base m h l lg ir)

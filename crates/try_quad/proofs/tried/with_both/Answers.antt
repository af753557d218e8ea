-- By what was found at b: the attempt ends, or the pairs are tried.
use Rattle.std.specs.Prelude.{Ok}
use Rattle.laws.specs.Kit.{◌∙◌, ap}
use Rattle.definition.specs.Attempt.{try_both}
use Rattle.rules.specs.Settings.{settings_of}
use Rattle.cells.specs.Layout.{far_at}
use Rattle.try_quad.proofs.Answers.{if_missing, if_short, both_missing, both_overfull, both_found, both_sizes, both_named, kept_list, can_pair, both_lock, both_log, both_round, both_to}
use Rattle.try_quad.proofs.tried.with_both.Goals as goal

pub best-count-requires : goal.best-count-requires
best-count-requires c =
    let h = c.requires.5 in
    record { pairs_le_room = h.pairs; by_index = (_, both_named h (c.in-Ok.is ∙ ap Ok c.in-Some.is) c.near_at.ensures c.far_at.ensures) }

pub try_pairs-requires : goal.try_pairs-requires
try_pairs-requires c =
    let h = c.requires.5 in
    let e = (c.in-Ok.is ∙ ap Ok c.in-Some.is) in
    let near = c.near_at.ensures in
    let far = c.far_at.ensures in
    (c.requires.0, c.args.edge.a, c.args.edge.b, (both_found h e).m, kept_list h e near far, can_pair h e near far _ _ _ c.best-count.ensures, both_lock h e c.requires.6, both_log h e c.requires.7, both_round h e c.requires.7)

pub returns-in-Err : goal.returns-in-Err
returns-in-Err c =
    let a = c.args in
    λ base q₀ c₀ cs x f h l lg ee ea eb.
    let g = settings_of a.rules in
    if_short a.w.now q₀ a.q.now a.rules (far_at a.rules.lay.slots a.rules.lay.points) c₀ a.far (try_both g f cs) (both_missing g f cs) (both_overfull g f cs) base a.t.now c.at_once.result x c.in-Err.short h.is lg.log c.in-Err.is c.at_once.ensures

pub returns-in_default : goal.returns-in_default
returns-in_default c =
    let a = c.args in
    λ base q₀ c₀ cs x f h l lg ee ea eb.
    let g = settings_of a.rules in
    if_missing a.w.now q₀ a.q.now a.rules (far_at a.rules.lay.slots a.rules.lay.points) c₀ a.far (try_both g f cs) (both_missing g f cs) (both_overfull g f cs) base a.t.now c.at_once-in_default.result x h.is lg.log (c.in-Ok.is ∙ ap Ok c.in_default.is) c.at_once-in_default.ensures

pub returns : goal.returns
returns c =
    let e = (c.in-Ok.is ∙ ap Ok c.in-Some.is) in
    let near = c.near_at.ensures in
    let far = c.far_at.ensures in
    let k = c.best-count.ensures in
    let z = c.try_pairs in
    λ base q₀ c₀ cs x f h l lg ee ea eb.
    both_to h e f ee ea eb z.new.w base z.new.t z.result (z.ensures base c.args.edge.a c.args.edge.b (both_found h e).m (kept_list h e near far) (can_pair h e near far _ _ _ k) (both_lock h e l) (both_log h e lg) (both_round h e lg))

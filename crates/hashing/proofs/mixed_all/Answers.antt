-- `hashing::mixed_all`. Invariant: h is the hash of the elements before the index.
use Rattle.std.proofs.Common.{take, refl, ap, ◌∙◌, rules, take_all}
use Rattle.std.proofs.lemmas.List.{take_min}
use Rattle.hashing.specs.Hash.{step, hash}
use Rattle.hashing.proofs.Hashes.{hash_more}
use Rattle.hashing.proofs.mixed_all.Goals as goal

pub loop-x-init : goal.loop-x-init
unfolding hash
loop-x-init g c = refl

pub loop-x-preserved : goal.loop-x-preserved
loop-x-preserved g c =
    let l = c.loop-x in
    let f = g.T.Numbered.number_of in
    c.mixed-h.ensures ∙ ap (step l.h) c.number.ensures ∙ hash_more f c.args.start l.h _ l.x-index c.x-item.result c.loop-x-test.true (search rules) l.invariant

pub returns : goal.returns
returns g c =
    let l = c.loop-x in
    let f = g.T.Numbered.number_of in
    let these = c.args.these.now in
    l.invariant ∙ ap (hash f c.args.start) (take_all l.x-index _ c.loop-x-test.false ∙ ap (λ k. take k these) c.min.ensures ∙ take_min c.args.n these)

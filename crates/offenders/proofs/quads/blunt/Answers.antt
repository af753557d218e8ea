-- `offenders::quads::blunt` meets its contract: one corner after the other. Assumes nothing.
use Rattle.definition.specs.Exact.{CosineUpTo}
use Rattle.plane.specs.Points.{node}
use Rattle.offenders.proofs.Corners.{not_first, not_second, not_third, as_fourth}
use Rattle.offenders.proofs.quads.blunt.Goals as goal

pub invariant_of-first : goal.invariant_of-first
invariant_of-first c = record { given = record { before_in = c.requires.near3; here_in = c.requires.near0; after_in = c.requires.near1 } }

pub invariant_of-second : goal.invariant_of-second
invariant_of-second c = record { given = record { before_in = c.requires.near0; here_in = c.requires.near1; after_in = c.requires.near2 } }

pub invariant_of-third : goal.invariant_of-third
invariant_of-third c = record { given = record { before_in = c.requires.near1; here_in = c.requires.near2; after_in = c.requires.near3 } }

pub invariant_of-fourth : goal.invariant_of-fourth
invariant_of-fourth c = record { given = record { before_in = c.requires.near2; here_in = c.requires.near3; after_in = c.requires.near0 } }

pub returns-then-not-cosine_up_to : goal.returns-then-not-cosine_up_to
returns-then-not-cosine_up_to c = not_first (CosineUpTo c.args.t.cosine) (node c.args.q.n0) (node c.args.q.n1) (node c.args.q.n2) (node c.args.q.n3) _ c.cosine_up_to.ensures c.if-not-cosine_up_to.true

pub returns-then-not-cosine_up_to-2 : goal.returns-then-not-cosine_up_to-2
returns-then-not-cosine_up_to-2 c = not_second (CosineUpTo c.args.t.cosine) (node c.args.q.n0) (node c.args.q.n1) (node c.args.q.n2) (node c.args.q.n3) _ c.cosine_up_to-2.ensures c.if-not-cosine_up_to-2.true

pub returns-then-not-cosine_up_to-3 : goal.returns-then-not-cosine_up_to-3
returns-then-not-cosine_up_to-3 c = not_third (CosineUpTo c.args.t.cosine) (node c.args.q.n0) (node c.args.q.n1) (node c.args.q.n2) (node c.args.q.n3) _ c.cosine_up_to-3.ensures c.if-not-cosine_up_to-3.true

pub returns : goal.returns
returns c =
    as_fourth (CosineUpTo c.args.t.cosine) (node c.args.q.n0) (node c.args.q.n1) (node c.args.q.n2) (node c.args.q.n3) _ (c.cosine_up_to.ensures.0 c.if-not-cosine_up_to.false) (c.cosine_up_to-2.ensures.0 c.if-not-cosine_up_to-2.false) (c.cosine_up_to-3.ensures.0 c.if-not-cosine_up_to-3.false) c.cosine_up_to-4.ensures

-- `offenders::triangles::blunt` meets its contract: one corner after the other. Assumes nothing.
use Rattle.definition.specs.Exact.{CosineUpTo}
use Rattle.offenders.proofs.Corners.{no_first, no_second, as_third}
use Rattle.offenders.proofs.triangles.blunt.Goals as goal

pub invariant_of-first : goal.invariant_of-first
invariant_of-first c = record { given = record { before_in = c.requires.near2; here_in = c.requires.near0; after_in = c.requires.near1 } }

pub invariant_of-second : goal.invariant_of-second
invariant_of-second c = record { given = record { before_in = c.requires.near0; here_in = c.requires.near1; after_in = c.requires.near2 } }

pub invariant_of-third : goal.invariant_of-third
invariant_of-third c = record { given = record { before_in = c.requires.near1; here_in = c.requires.near2; after_in = c.requires.near0 } }

pub returns-then-not-cosine_up_to : goal.returns-then-not-cosine_up_to
returns-then-not-cosine_up_to c = no_first (CosineUpTo c.args.t.cosine) _ _ _ _ c.cosine_up_to.ensures c.if-not-cosine_up_to.true

pub returns-then-not-cosine_up_to-2 : goal.returns-then-not-cosine_up_to-2
returns-then-not-cosine_up_to-2 c = no_second (CosineUpTo c.args.t.cosine) _ _ _ _ c.cosine_up_to-2.ensures c.if-not-cosine_up_to-2.true

pub returns : goal.returns
returns c = as_third (CosineUpTo c.args.t.cosine) _ _ _ _ (c.cosine_up_to.ensures.0 c.if-not-cosine_up_to.false) (c.cosine_up_to-2.ensures.0 c.if-not-cosine_up_to-2.false) c.cosine_up_to-3.ensures

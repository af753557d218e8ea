-- `offenders::quads::convex` meets its contract: one corner after the other. Assumes nothing.
use Rattle.definition.specs.Exact.{TurnsLeft}
use Rattle.plane.specs.Points.{node}
use Rattle.offenders.proofs.Corners.{not_first, not_second, not_third, as_fourth}
use Rattle.offenders.proofs.quads.convex.Goals as goal

pub invariant_of-first : goal.invariant_of-first
invariant_of-first c = record { given = record { before_in = c.requires.near3; here_in = c.requires.near0; after_in = c.requires.near1 } }

pub invariant_of-second : goal.invariant_of-second
invariant_of-second c = record { given = record { before_in = c.requires.near0; here_in = c.requires.near1; after_in = c.requires.near2 } }

pub invariant_of-third : goal.invariant_of-third
invariant_of-third c = record { given = record { before_in = c.requires.near1; here_in = c.requires.near2; after_in = c.requires.near3 } }

pub invariant_of-fourth : goal.invariant_of-fourth
invariant_of-fourth c = record { given = record { before_in = c.requires.near2; here_in = c.requires.near3; after_in = c.requires.near0 } }

pub returns-then-not-turns_left : goal.returns-then-not-turns_left
returns-then-not-turns_left c = not_first TurnsLeft (node c.args.q.n0) (node c.args.q.n1) (node c.args.q.n2) (node c.args.q.n3) _ c.turns_left.ensures c.if-not-turns_left.true

pub returns-then-not-turns_left-2 : goal.returns-then-not-turns_left-2
returns-then-not-turns_left-2 c = not_second TurnsLeft (node c.args.q.n0) (node c.args.q.n1) (node c.args.q.n2) (node c.args.q.n3) _ c.turns_left-2.ensures c.if-not-turns_left-2.true

pub returns-then-not-turns_left-3 : goal.returns-then-not-turns_left-3
returns-then-not-turns_left-3 c = not_third TurnsLeft (node c.args.q.n0) (node c.args.q.n1) (node c.args.q.n2) (node c.args.q.n3) _ c.turns_left-3.ensures c.if-not-turns_left-3.true

pub returns : goal.returns
returns c =
    as_fourth TurnsLeft (node c.args.q.n0) (node c.args.q.n1) (node c.args.q.n2) (node c.args.q.n3) _ (c.turns_left.ensures.0 c.if-not-turns_left.false) (c.turns_left-2.ensures.0 c.if-not-turns_left-2.false) (c.turns_left-3.ensures.0 c.if-not-turns_left-3.false) c.turns_left-4.ensures

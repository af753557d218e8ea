use Rattle.std.specs.Prelude.{◌≡◌, ◌||◌, ◌+◌, ◌*◌}
use Rattle.laws.specs.Kit.{◌∙◌, ap, subst, Bool, arith}
use Rattle.definition.specs.Plane.{Vec}
use Rattle.plane.specs.Vectors.{vec}
use Rattle.edge_candidates.specs.Words.{vec_at, Numbers}
use Rattle.edge_candidates.specs.Wanted.{near}
use Rattle.edge_candidates.specs.Wishes.{four_test}
use Rattle.edge_candidates.proofs.four_near.Goals as goal

pub vec_at-requires : goal.vec_at-requires
vec_at-requires c =
    let z : c.args.at + 4 * 0 ≡ c.args.at = omega arith in
    record { at_in_bounds = omega (arith, c.requires.fits); numbers = subst (Numbers c.args.w.now) z (c.requires.numbers 0 (omega arith)) }

pub vec_at-requires-2 : goal.vec_at-requires-2
vec_at-requires-2 c = record { at_in_bounds = omega (arith, c.requires.fits); numbers = c.requires.numbers 1 (omega arith) }

pub vec_at-requires-3 : goal.vec_at-requires-3
vec_at-requires-3 c = record { at_in_bounds = omega (arith, c.requires.fits); numbers = c.requires.numbers 2 (omega arith) }

pub vec_at-requires-4 : goal.vec_at-requires-4
vec_at-requires-4 c = record { at_in_bounds = omega (arith, c.requires.fits); numbers = c.requires.numbers 3 (omega arith) }

pub returns : goal.returns
unfolding four_test
returns c =
    let a = c.args in
    let f : Vec → Bool = near (vec a.e) in
    let y1 : c.is_near.result ≡ f (vec_at a.w.now a.at) = c.is_near.ensures ∙ ap f c.vec_at.ensures in
    let y2 : c.is_near-2.result ≡ f (vec_at a.w.now (a.at + 4)) = c.is_near-2.ensures ∙ ap f c.vec_at-2.ensures in
    let y3 : c.is_near-3.result ≡ f (vec_at a.w.now (a.at + 8)) = c.is_near-3.ensures ∙ ap f c.vec_at-3.ensures in
    let y4 : c.is_near-4.result ≡ f (vec_at a.w.now (a.at + 12)) = c.is_near-4.ensures ∙ ap f c.vec_at-4.ensures in
    λ t. (y1 t || y2 t) || (y3 t || y4 t)

pub overflow_add-at : goal.overflow_add-at
overflow_add-at c = omega (arith, c.requires.fits)

pub overflow_add-at-2 : goal.overflow_add-at-2
overflow_add-at-2 c = omega (arith, c.requires.fits)

pub overflow_add-at-3 : goal.overflow_add-at-3
overflow_add-at-3 c = omega (arith, c.requires.fits)

-- The order of tuples is that of the lists of their elements.
use Rattle.std.proofs.Common.{◌≡◌, refl, ◌∙◌, Bool, true, false, cond, ◌&&◌, ◌||◌, Option, Some, ltb, eqb}
use Rattle.std.specs.declared.cmp.Ordering.{Ordering}
use Rattle.std.specs.declared.cmp.Ordering.TheVariants.{Less, Equal, Greater}
use Rattle.std.specs.Ordering.{partial_ordering_then, is_some_and, is_lt}
use Rattle.definition.specs.Cells.{new_quad, quad_nodes}
use Rattle.definition.specs.Trials.{numbers_before}
use Rattle.trials.specs.Kept.{quad_of}
use Rattle.trials.proofs.kept.nodes_before.Goals as goal

-- two numbers compared, by whether the first is less and whether they are one
abbrev compared : Bool → Bool → Option Ordering
compared b e = Some (cond b Less (cond e Equal Greater))

four : (b e c f d g k h : Bool) → is_some_and is_lt (partial_ordering_then (partial_ordering_then (partial_ordering_then (compared b e) (compared c f)) (compared d g)) (compared k h))
    ≡ (b || e && (c || f && (d || g && (k || h && false))))
four true e c f d g k h = refl
four false false c f d g k h = refl
four false true true f d g k h = refl
four false true false false d g k h = refl
four false true false true true g k h = refl
four false true false true false false k h = refl
four false true false true false true true h = refl
four false true false true false true false true = refl
four false true false true false true false false = refl

pub returns : goal.returns
unfolding new_quad quad_nodes quad_of numbers_before
returns c =
    let l = c.args.l in
    let r = c.args.r in
    c.lt.ensures ∙ four (ltb l.n0 r.n0) (eqb l.n0 r.n0) (ltb l.n1 r.n1) (eqb l.n1 r.n1) (ltb l.n2 r.n2) (eqb l.n2 r.n2) (ltb l.n3 r.n3) (eqb l.n3 r.n3)

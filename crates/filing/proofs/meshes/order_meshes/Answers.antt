-- What the counts and points leave the same is decided by what follows.
use Rattle.std.specs.Prelude.{◌≡◌}
use Rattle.std.specs.Ordering.{is_eq, is_ne}
use Rattle.std.specs.declared.cmp.Ordering.{Ordering}
use Rattle.std.specs.declared.cmp.Ordering.TheVariants.{Less, Equal, Greater}
use Rattle.laws.specs.Kit.{refl, sym, ◌∙◌, ap, true, false, arith}
use Rattle.laws.specs.Bools.{never}
use Rattle.filing.proofs.Totals.{cmp_is}
use Rattle.filing.proofs.Files.{given_differ, points_differ, count_differ, tris_decide}
use Rattle.filing.proofs.meshes.order_meshes.Goals as goal

not_ne : (o : Ordering) → is_ne o ≡ true → is_eq o ≡ false
not_ne Less h = refl
not_ne Equal h = never _ h refl
not_ne Greater h = refl

not_eq : (o : Ordering) → is_ne o ≡ false → is_eq o ≡ true
not_eq Less h = never _ refl h
not_eq Equal h = refl
not_eq Greater h = never _ refl h

pub returns-then-first-second : goal.returns-then-first-second
returns-then-first-second c = record { order = c.cmp.ensures ∙ cmp_is _ _ ∙ given_differ _ _ _ _ _ _ _ _ c.if-first-second.true; first = refl; second = refl }

pub returns-then-is_ne : goal.returns-then-is_ne
returns-then-is_ne c =
    let o = c.order_points-o.ensures in
    let d = ap is_eq (sym o) ∙ not_ne _ (sym c.is_ne.ensures ∙ c.if-is_ne.true) in
    record { order = o ∙ points_differ _ _ _ _ _ _ _ _ c.if-first-second.false d; first = refl; second = refl }

pub returns-then-first-second-2 : goal.returns-then-first-second-2
returns-then-first-second-2 c =
    let o = c.order_points-o.ensures in
    let e = ap is_eq (sym o) ∙ not_eq _ (sym c.is_ne.ensures ∙ c.if-is_ne.false) in
    record { order = c.cmp-then-first-second-2.ensures ∙ cmp_is _ _ ∙ count_differ _ _ _ _ _ _ _ _ c.if-first-second.false e c.if-first-second-2.true; first = refl; second = refl }

pub order_triangles-requires : goal.order_triangles-requires
order_triangles-requires c =
    let e = c.if-first-second-2.false in
    let a = c.requires.0 in
    let b = c.requires.1 in
    (record { triangles = a.triangles; work = a.work; nodes = a.nodes }, record { triangles = omega arith; work = omega arith; nodes = λ i l. b.nodes i (omega arith) })

pub returns : goal.returns
returns c =
    let o = c.order_points-o.ensures in
    let e = ap is_eq (sym o) ∙ not_eq _ (sym c.is_ne.ensures ∙ c.if-is_ne.false) in
    record {
      order = c.order_triangles.ensures.order ∙ tris_decide _ _ _ _ _ _ _ _ c.if-first-second.false e c.if-first-second-2.false;
      first = c.order_triangles.ensures.first;
      second = c.order_triangles.ensures.second;
    }

-- `meshed`: what is lent is what the definition lends, and what the call returns is written.
use borrow.Author.Rules.{rules}
use mathlib.Core.Path.{◌≡◌, refl, ap, subst}
use mathlib.Core.Bool.{true, false}
use mathlib.Core.List.{[]}
use Prim.Native.Nat.{ℕ, ◌*◌}
use lib.ListN.{take, length-take, length-replicate}
use lib.Ieee.{binary64, of_bits, fits}
use Rattle.definition.specs.Floats.{f64, 0·0, 0·90630778703665}
use Rattle.definition.specs.Numbers.{base}
use Rattle.definition.specs.Call.{call}
use Rattle.writing.specs.Answer.{Answered}
use Rattle.refusals.specs.Stated.{asked_for}
use Rattle.mesher.specs.Promise.{answered, Returns, lent_of}
use Rattle.replies.proofs.Bounds.{refused_number, call_writable}
use Rattle.replies.proofs.Lends.{asks, lending, lends, answer_is}
use native.Mathlib.Omega.{arith}
use Rattle.replies.proofs.meshed.Statement.{statement}
use Rattle.replies.proofs.meshed.Tie as tie

-- the largest cosine of the standard set is a double
base_double : fits binary64 base.largest_cosine ≡ true
unfolding base 0·90630778703665 f64 of_bits fits
base_double = refl

-- the call that was made is the definition's
ran : (c : tie.After-run_front-a) → let a = c.args in let l = c.run_front-a.new in
    Returns (call (asks a.h) (lends a.h a.tris.now a.bits.now)) (answered c.run_front-a.result)
    (lent_of l.points (take (3 * a.h.triangles) a.tris.now) [] l.quads l.triangles_out l.components l.work l.float_work l.trace)
unfolding 0·0 f64
ran c =
    let start = c in
    let a = start.args in
    let l = c.run_front-a.new in
    let after = lent_of l.points (take (3 * a.h.triangles) a.tris.now) [] l.quads l.triangles_out l.components l.work l.float_work l.trace in
    let f = c.fill in
    let g = c.float_of-size in
    let made : Returns (call (asked_for a.h.points 96 a.h.triangles 160 0 g.result a.h.stop base false) (lending f.new.points (take (3 * a.h.triangles) a.tris.now))) (answered c.run_front-a.result) after =
    subst (λ x. Returns (call x (lending f.new.points (take (3 * a.h.triangles) a.tris.now))) (answered c.run_front-a.result) after) c.standard-stated.ensures c.run_front-a.ensures.0 in
    subst (λ ps. Returns (call (asks a.h) (lending ps (take (3 * a.h.triangles) a.tris.now))) (answered c.run_front-a.result) after) f.ensures
    (subst (λ x. Returns (call (asked_for a.h.points 96 a.h.triangles 160 0 x a.h.stop base false) (lending f.new.points (take (3 * a.h.triangles) a.tris.now))) (answered c.run_front-a.result) after) g.ensures made)

slice_aggregate_run_front_2 : tie.Need-slice_bounds-run_front-end-2
slice_aggregate_run_front_2 c = let w = c.requires.0 in simp length-take (omega arith)

told_requires : tie.Need-told-requires
told_requires c κs =
    let at = c in
    let start = at in
    let a = start.args in
    let w = start.requires.0 in
    let k = at.run_front-a.auto in
    let f = at.fill in (
      call_writable (asks a.h) (lends a.h a.tris.now a.bits.now) base_double w.few_triangles refl refl (ran at.before.before.before.before.before.before.before.before.before.before.before.before),
      record {
        bits_long = omega (arith, w);
        points_long = omega (arith, k.points, f.auto.points, length-replicate 288 (of_bits binary64 0));
        quads_long = omega (arith, k.quads, length-replicate {A = ℕ} 1280 0);
        triangles_long = omega (arith, k.triangles_out, length-replicate {A = ℕ} 480 0);
        components_long = omega (arith, k.components, length-replicate {A = ℕ} 160 0);
        out_long = start.requires.1;
      },
    )

returns : tie.Need-returns
returns c =
    let at = c in
    let a = at.args in
    let t = c.told in
    let l = at.run_front-a.new in
    let m = lends a.h a.tris.now a.bits.now in
    let r = ran at.before.before.before.before.before.before.before.before.before.before.before.before.before.before.before in
    subst (λ y. Answered a.out.now t.new.out y t.result) (answer_is a.h a.tris.now a.bits.now)
    (t.ensures (call (asks a.h) m) (record {
      answer = record { lent = refl; number = r.number; counts = r.counts; lengths = r.lengths };
      named = λ k e. (refused_number (asks a.h) m k e).0;
      points_left = ap (λ z. z.points) r.lent;
      quads_left = ap (λ z. z.quads) r.lent;
      triangles_left = ap (λ z. z.triangles_out) r.lent;
      components_left = ap (λ z. z.components) r.lent;
    }))

pub meshed_spec : {M : Type 1} → statement M
meshed_spec =
    tie.close
    (tie.spec
    (λ c. search rules) (λ c. search rules) (λ c κs. search rules) (λ c κs. search rules) (λ c. search rules) (λ c κs. search rules) (λ c. search rules) slice_aggregate_run_front_2 (λ c. search rules) (λ c. search rules) (λ c. search rules) (λ c. search rules) (λ c. search rules) (λ c. search rules) (λ c. search rules) (λ c κs. search rules) (λ c. search rules) (λ c. search rules) (λ c. search rules) (λ c. search rules) told_requires (λ c. search rules) returns)

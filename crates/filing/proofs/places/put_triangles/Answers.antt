-- The places passed have their triangles' numbers.
use Rattle.std.specs.Prelude.{◌+◌, ◌*◌}
use Rattle.laws.specs.Kit.{refl, sym, ◌∙◌, ap, arith, not-suc-le-zero, map}
use borrow.Author.Count.{below_more}
use Rattle.definition.specs.Lists.{below}
use Rattle.definition.specs.Cells.{new_tri}
use Rattle.definition.specs.Call.{tri_at, first_tris}
use Rattle.filing.specs.Filing.{rotated}
use Rattle.sorting.specs.Places.{key_at}
use Rattle.sorting.specs.Rows.{row_kept, row_map}
use Rattle.filing.specs.Places.{key}
use Rattle.filing.proofs.Files.{small_key}
use Rattle.filing.proofs.places.put_triangles.Goals as goal

pub loop-i-init : goal.loop-i-init
loop-i-init c = (omega arith, refl, λ j h. absurd (not-suc-le-zero h))

pub put_rotated-requires : goal.put_rotated-requires
put_rotated-requires c =
    let i = c.loop-i.i in
    let small = c.requires.2 in
    (omega arith, small (3 * i) (omega arith), small (3 * i + 1) (omega arith), small (3 * i + 2) (omega arith))

pub loop-i-preserved : goal.loop-i-preserved
unfolding tri_at new_tri
loop-i-preserved c =
    let e = c.put_rotated.ensures in
    (omega arith, e.size ∙ c.loop-i.invariant.1, below_more _ _ (λ j h. e.kept j (λ q. omega arith) ∙ c.loop-i.invariant.2 j h) e.there)

pub returns : goal.returns
unfolding first_tris below
returns c =
    let ts = c.args.triangles.now in
    let n = c.args.n in
    record {
      size = c.loop-i.invariant.1;
      there = row_kept (key_at c.loop-i.w) (λ j. key (rotated (tri_at ts j))) 0 n (λ j a b. c.loop-i.invariant.2 j (omega arith))
          ∙ sym (ap (map key) (row_map rotated (tri_at ts) 0 n) ∙ row_map key (λ j. rotated (tri_at ts j)) 0 n);
      small = λ j l. omega (arith, c.loop-i.invariant.2 j (omega arith), small_key ts n c.requires.2 j l);
    }

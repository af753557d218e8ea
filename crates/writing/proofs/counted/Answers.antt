-- `counted`: the counts are a table of one row of nine.
use Rattle.std.specs.Prelude.{◌++◌}
use Rattle.laws.specs.Kit.{refl, ap}
use Rattle.writing.proofs.Puts.{same_text}
use Rattle.writing.proofs.Parts.{one_line}
use Rattle.definition.specs.Text.{Bytes, bytes, show}
use Rattle.writing.specs.Answer.{columns}
use Rattle.writing.proofs.counted.Goals as goal

pub returns : goal.returns
unfolding bytes columns
returns c =
    let f = c.named in
    record {
      written = same_text f.ensures.written (ap (λ (t : Bytes). bytes "front_empty attempts placement invalid_quad recovery region odd_region mismatch_insertions limit\n" ++ t) (one_line show 9 _ refl));
      short = f.ensures.short;
    }

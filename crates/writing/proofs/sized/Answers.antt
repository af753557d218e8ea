-- `sized`: the lengths are a table of one row of four.
use Rattle.std.specs.Prelude.{◌++◌}
use Rattle.laws.specs.Kit.{refl, ap}
use Rattle.writing.proofs.Puts.{same_text}
use Rattle.writing.proofs.Parts.{one_line}
use Rattle.definition.specs.Text.{Bytes, bytes, show}
use Rattle.writing.specs.Answer.{lengths_of, lengths_listed}
use Rattle.writing.proofs.sized.Goals as goal

pub returns : goal.returns
unfolding bytes lengths_listed lengths_of
returns c =
    let f = c.named in
    record {
      written = same_text f.ensures.written (ap (λ (t : Bytes). bytes "quads triangles points components\n" ++ t) (one_line show 4 _ refl));
      short = f.ensures.short;
    }

-- `digits::fixed`: the part of the slice is now the text.
use Rattle.laws.specs.Kit.{refl, arith}
use Rattle.writing.proofs.Puts.{put_part}
use Rattle.writing.proofs.digits.fixed.Goals as goal

pub returns : goal.returns
returns c = record { holds = put_part _ _ _ _ _ c.copy_from_slice.ensures.after (omega arith); next = refl }

use Rattle.laws.specs.Kit.{refl}
use Rattle.definition.specs.Floats.{f64, 1·0, 0·9, 0·8, 0·7, 0·6, 0·5, 0·4, 0·3}
use Rattle.definition.specs.Numbers.{insert_shares}
use Rattle.insertion.proofs.insert.share.Goals as goal

pub returns : goal.returns
unfolding insert_shares 1·0 0·9 0·8 0·7 0·6 0·5 0·4 0·3 f64
returns c = refl

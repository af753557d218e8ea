use Rattle.laws.specs.Kit.{refl, ℕ}
use Rattle.pairs.proofs.with_quad.Goals as goal

pub returns : goal.returns
returns c = record { placed = _; end = refl; quad = λ (round : ℕ). refl; replaced = refl; counters = refl; at = refl; inserted = refl; trials = refl; flips = refl }

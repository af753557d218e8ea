use mathlib.Core.Path.{refl}
use Rattle.candidates.proofs.Growth.{spans_both}
use Rattle.candidates.proofs.spans.span_for.Goals as goal

pub returns : goal.returns
returns c =
    let a = c.args in
    λ q m region h n. spans_both m a.a region (record { low = a.a; high = a.a }) c.with_region-h.result c.with_ring.result refl refl n (c.with_region-h.ensures q m region h) (c.with_ring.ensures m h.rep n)

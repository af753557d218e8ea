use Rattle.std.specs.Prelude.{◌≡◌}
use Rattle.laws.specs.Kit.{refl, ◌∙◌, ap, Float}
use Rattle.definition.specs.Floats.{◌≼◌, 1e-12, f64}
use Rattle.definition.specs.Numbers.{tiny_length}
use Rattle.definition.specs.Plane.{Vec, norm, over}
use Rattle.definition.specs.Candidates.{toward}
use Rattle.plane.specs.Vectors.{vec}
use Rattle.edge_candidates.proofs.Halves.{toward_read}
use Rattle.edge_candidates.proofs.Nears.{wished_to}
use Rattle.edge_candidates.proofs.wishes.wish_at.Goals as goal

pub returns : goal.returns
unfolding tiny_length ◌≼◌ 1e-12 f64
returns c =
    let a = c.args in
    λ m k.
    let d : vec c.from_to-d.result ≡ toward m a.a a.other = toward_read a.q.now a.lay.points m k.pts a.a a.other k.ends (vec c.from_to-d.result) c.from_to-d.ensures in
    let n : c.norm-n.result ≡ norm (toward m a.a a.other) = c.norm-n.ensures ∙ ap norm d in
    let o : vec c.over-u.result ≡ over (toward m a.a a.other) (norm (toward m a.a a.other)) = c.over-u.ensures ∙ ap (λ (x : Vec). over x c.norm-n.result) d ∙ ap (over (toward m a.a a.other)) n in
    wished_to a.w.now c.list_givers-g.new.w a.q.now a.lay.slots a.lay.points a.a a.other a.b m
    (record { near = c.norm-n.result ≼ tiny_length; unit = c.over-u.result; count = c.list_givers-g.result.count; kept = c.list_givers-g.result.kept })
    c.list_givers-g.result k (ap (λ (x : Float). x ≼ tiny_length) n) o refl refl (c.list_givers-g.ensures m k)

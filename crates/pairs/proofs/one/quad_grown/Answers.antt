-- The edge that the quad grew from has its smaller node first.
use Rattle.laws.specs.Kit.{refl}
use Rattle.laws.specs.Cells.{key_up, key_back}
use Rattle.pairs.proofs.Entries.{grown_is}
use Rattle.pairs.proofs.one.quad_grown.Goals as goal

pub returns-then-quad : goal.returns-then-quad
returns-then-quad c =
    let a = c.args in
    λ gone. grown_is a.quad.a a.quad.b a.quad.d a.quad.e a.round _ refl refl refl refl (key_up a.quad.a a.quad.b c.if-quad.true) refl gone

pub returns : goal.returns
returns c =
    let a = c.args in
    λ gone. grown_is a.quad.a a.quad.b a.quad.d a.quad.e a.round _ refl refl refl refl (key_back a.quad.a a.quad.b c.if-quad.false) refl gone

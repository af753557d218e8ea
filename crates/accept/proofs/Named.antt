-- The given triangles' nodes are given points, and where the given points are kept,
use Rattle.std.specs.Prelude.{◌≡◌, ◌<◌}
use Rattle.laws.specs.Kit.{sym, ◌∙◌, ap, ℕ, length, get_or}
use Rattle.std.proofs.Common.{get_or-take}
use Rattle.definition.specs.Floats.{0·0}
use Rattle.definition.specs.Plane.{flat, point}
use Rattle.definition.specs.Cells.{Tri}
use Rattle.definition.specs.Account.{All}
use Rattle.accept.specs.Accept.{Judged, Kept}

pub kept_point : (j : Judged) → Kept j → (v : ℕ) → v < length j.given → point j.points v ≡ point j.given v
unfolding point
kept_point j k v h = sym (get_or-take (length j.given) j.points v (flat 0·0 0·0) h) ∙ ap (λ ps. get_or ps v (flat 0·0 0·0)) k

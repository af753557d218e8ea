-- Every quad of a run was a rated trial: by the points of the end, as points never change,
-- it has four different nodes of them and its metrics pass.
use Rattle.std.specs.Prelude.{◌≡◌, ◌∷◌, ◌++◌}
use Rattle.laws.specs.Kit.{sym, ◌∙◌, ap, subst, inl, inr, Bool, List, []}
use Rattle.definition.specs.Numbers.{Settings, Quality}
use Rattle.definition.specs.Plane.{Edge, Node}
use Rattle.definition.specs.Cells.{Tri, Quad}
use Rattle.definition.specs.Front.{counting, Result, ran, start, result, run_front}
use Rattle.laws.specs.Lists.{In, in_either}
use Rattle.account.specs.Rated.{Rated}
use Rattle.account.specs.Start.{Proper}
use Rattle.account.specs.Run.{Rule}

-- every quad was rated by these points
abbrev pub AllRated : Quality → List Node → List Quad → Type 0
AllRated y ps qs = (q : Quad) → In q qs → Rated y ps q

-- What a preview promises: the definition's.
use Rattle.std.specs.Prelude.{◌≡◌, Result, Ok, Err}
use Rattle.definition.specs.Counts.{Refusal}
use Rattle.definition.specs.Counts as counts
use Rattle.definition.specs.Cells.{Quad}
use Rattle.definition.specs.Call.{Lent}
use Rattle.definition.specs.Preview as defined
use Rattle.definition.specs.Preview.{Previewed}
use Rattle.refusals.specs.declared.named.Refusal as named
use Rattle.refusals.specs.Numbers.{number}
use Rattle.outcomes.specs.declared.Kind.{Kind}
use Rattle.outcomes.specs.declared.Kind.TheVariants as kinds
use Rattle.mesher.specs.declared.preview.Born.{Born}
use Rattle.mesher.specs.declared.preview.Cost.{Cost}
use Rattle.mesher.specs.declared.preview.Shown.{Shown}
use Rattle.mesher.specs.declared.preview.Shown.TheVariants as shows

-- the refusal's name
abbrev pub kind_of : Kind → Refusal
kind_of kinds.Placement = counts.Placement
kind_of kinds.InvalidQuad = counts.Shape
kind_of kinds.Recovery = counts.Recovery
kind_of kinds.Region = counts.Region
kind_of kinds.OddRegion = counts.OddRegion

-- the quad with its birth
abbrev pub born_of : Born → Quad
born_of q = record { n0 = q.n0; n1 = q.n1; n2 = q.n2; n3 = q.n3; edge = (q.u, q.v); round = q.round; replaced = q.replaced }

-- the cost
abbrev pub cost_of : Cost → defined.Cost
cost_of c = record { insertions = c.insertions; flips = c.flips }

-- what is shown
abbrev pub shown_of : Result Shown named.Refusal → defined.Shown
shown_of (Ok (shows.OffFront c)) = defined.off_front (cost_of c)
shown_of (Ok (shows.Quad q c)) = defined.shown_quad (born_of q) (cost_of c)
shown_of (Ok (shows.Refused k c)) = defined.shown_kind (kind_of k) (cost_of c)
shown_of (Err k) = defined.shown_refusal (number k)

-- What the definition's preview shows is what came back, and the slices are as it leaves them.
pub record Previews (x : Previewed) (r : Result Shown named.Refusal) (exit : Lent) : Type 0 where
  pub shown : shown_of r ≡ x.shown
  pub lent : x.lent ≡ exit

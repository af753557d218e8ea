-- Edges that have a record are distinct, also with one more.
use mathlib.Core.Path.{ap, sym, ◌∙◌, subst}
use mathlib.Core.Logic.{inl, inr, ◌≢◌}
use mathlib.Core.List.{List, [], ◌∷◌}
use Prim.{tt}
use Prim.Native.Nat.{ℕ}
use Rattle.definition.specs.Plane.{Edge}
use Rattle.definition.specs.Cells.{same_edge, has_edge_in}
use Rattle.definition.specs.Account.{Pairwise}
use Rattle.laws.specs.Bools.{which, never}
use Rattle.laws.specs.Lists.{In, all_from, none_in}
use Rattle.laws.specs.Cells.{same_self}
use Rattle.blocked_edges.specs.Records.{Distinct}
use Rattle.blocked_edges.specs.Blocks.{with_edge}
use Rattle.blocked_edges.proofs.Edges.{with_old, with_new}

pub pairwise_of : (p : ℕ) (es : List Edge) → Distinct p es → Pairwise (λ e f. e ≢ f) es
unfolding has_edge_in
pairwise_of p [] h = tt
pairwise_of p (e ∷ es) h =
    (all_from es (λ f i z. never (same_edge e f) (ap (same_edge e) (sym z) ∙ same_self e) (none_in (same_edge e) es h.1 f i)), pairwise_of p es h.2)

pub with_in : (e : Edge) (ever : List Edge) (f : Edge) → In f (with_edge e ever) → In f (e ∷ ever)
with_in e ever f i = elim (which (has_edge_in ever e)) [
  | inl h ↦ inr (subst (λ l. In f l) (with_old e ever h) i)
  | inr h ↦ subst (λ l. In f l) (with_new e ever h) i
]

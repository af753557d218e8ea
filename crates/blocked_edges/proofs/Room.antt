-- How a caller meets what `block` asks of the room: ever with the refused edge is a list of distinct edges too,
-- so a bound on the number of distinct edges that can be refused bounds its length.
use Rattle.std.specs.Prelude.{◌≡◌, ◌⊎◌, ◌||◌, ◌∷◌}
use Rattle.laws.specs.Kit.{refl, inl, inr, Bool, true, false, ℕ, List}
use Rattle.definition.specs.Plane.{Edge}
use Rattle.definition.specs.Lists.{any}
use Rattle.definition.specs.Cells.{same_edge, has_edge_in}
use Rattle.laws.specs.Bools.{which}
use Rattle.laws.specs.Cells.{same_is}
use Rattle.blocked_edges.specs.Records.{IsEdge, Distinct}
use Rattle.blocked_edges.specs.Blocks.{with_edge}
use Rattle.blocked_edges.proofs.Edges.{with_old, with_new}

pub with_distinct : (p : ℕ) (e : Edge) (ever : List Edge) → IsEdge p e → Distinct p ever → Distinct p (with_edge e ever)
with_distinct p e ever i d = elim (which (has_edge_in ever e)) [
  | inl h ↦ rw (with_old e ever h) d
  | inr h ↦ rw (with_new e ever h) ((i, h, d))
]

either : (e f : Edge) (ever : List Edge) → has_edge_in (e ∷ ever) f ≡ true → (f ≡ e) ⊎ (has_edge_in ever f ≡ true)
unfolding has_edge_in any
either e f ever g = go (same_edge f e) refl g
  where
    go : (t : Bool) → same_edge f e ≡ t → (t || has_edge_in ever f) ≡ true → (f ≡ e) ⊎ (has_edge_in ever f ≡ true)
    go true s z = inl (same_is f e s)
    go false s z = inr z

-- an edge of ever with e is e or an edge of ever
pub with_either : (e f : Edge) (ever : List Edge) → has_edge_in (with_edge e ever) f ≡ true → (f ≡ e) ⊎ (has_edge_in ever f ≡ true)
with_either e f ever g = elim (which (has_edge_in ever e)) [
  | inl h ↦ inr (rw (with_old e ever h) at g)
  | inr h ↦ either e f ever (rw (with_new e ever h) at g)
]

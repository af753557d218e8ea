-- What a quad and a refusal leave in the lent memory and in the standing.
use Rattle.std.specs.Prelude.{◌≡◌, ◌+◌, ◌*◌, ◌^◌, ◌<◌, ◌≤◌, ◌∷◌, ◌++◌}
use Rattle.laws.specs.Kit.{ℕ, suc, List, [], length}
use Rattle.definition.specs.Lists.{flat_map}
use Rattle.definition.specs.Counts.{Counts, ◌⊞◌, spending, Refusal, refused_by, Want}
use Rattle.definition.specs.Plane.{Edge}
use Rattle.definition.specs.Cells.{Quad, key}
use Rattle.definition.specs.Front.{freed}
use Rattle.definition.specs.Call.{onto, quad_words}
use Rattle.cells.specs.Layout.{refused_at}
use Rattle.blocked_edges.specs.Records.{IsEdge, Kept, size}
use Rattle.blocked_edges.specs.Blocks.{Blocks, CanBlock, with_edge}
use Rattle.outcomes.specs.Ends.{shortage_of, end_of, end_for, quad_of, spent_of}
use Rattle.outcomes.specs.declared.Placed.{Placed}
use Rattle.outcomes.specs.declared.Tried.{Tried}
use Rattle.outcomes.specs.declared.End.TheVariants as ends
use Rattle.settling.specs.declared.standing.Standing.{Standing}
use Rattle.settling.specs.declared.standing.Step.{Step}
use Rattle.settling.specs.declared.standing.Going.{Going}
use Rattle.settling.specs.declared.standing.Going.TheVariants as goings
use Rattle.settling.specs.Standings.{counts_of, FewCounts, Quadded, Recorded}

-- a placed quad as eight numbers: its nodes, the edge u-v it grew from,
-- its round and how many triangles it replaced
abbrev pub eight : Placed → ℕ → ℕ → ℕ → List ℕ
eight z u v round = z.n0 ∷ z.n1 ∷ z.n2 ∷ z.n3 ∷ u ∷ v ∷ round ∷ z.replaced ∷ []

-- each fits a word
pub record Words (z : Placed) (u v r : ℕ) : Type 0 where
  pub node0 : z.n0 < 2 ^ 32
  pub node1 : z.n1 < 2 ^ 32
  pub node2 : z.n2 < 2 ^ 32
  pub node3 : z.n3 < 2 ^ 32
  pub first : u < 2 ^ 32
  pub second : v < 2 ^ 32
  pub round : r < 2 ^ 32
  pub replaced : z.replaced < 2 ^ 32

-- the quads so far stand at the front of the slice; ever were refused, bl are blocked
pub record KeptSoFar (w quads : List ℕ) (s p : ℕ) (g : Standing) (ever bl : List Edge) (qs : List Quad) (old : List ℕ) : Type 0 where
  pub blocks : Blocks w (refused_at s p) (3 * s) p (length qs) ever bl
  pub records : g.records ≡ length ever
  pub number : g.quads ≡ length qs
  pub text : quads ≡ onto (flat_map quad_words qs) old

-- the quad's nodes are among p, it grew from the edge u-v, and eight numbers more fit the slice
pub record QuadFits (quads : List ℕ) (s p k : ℕ) (z : Placed) (u v : ℕ) : Type 0 where
  pub node0 : z.n0 < p
  pub node1 : z.n1 < p
  pub node2 : z.n2 < p
  pub node3 : z.n3 < p
  pub edge : key z.n0 z.n1 ≡ (u, v)
  pub replaced : z.replaced ≤ 16384
  pub room : 8 * k + 8 ≤ length quads
  pub few : k < s

-- the quad, placed in the round after those of qs
abbrev pub next_quad : List Quad → Placed → Quad
next_quad qs z = quad_of (suc (length qs)) z

-- what `put_quad` asks
pub record CanPut (w quads : List ℕ) (s p : ℕ) (g : Standing) (z : Placed) (u v : ℕ) (ever bl : List Edge) (qs : List Quad) (old : List ℕ) : Type 0 where
  pub small_slots : s ≤ 16384
  pub small_points : p ≤ 8192
  pub so_far : KeptSoFar w quads s p g ever bl qs old
  pub fits : QuadFits quads s p (length qs) z u v

-- what `put_quad` gives
pub record PutTo (w w' quads' : List ℕ) (s p : ℕ) (g : Standing) (z : Placed) (ever bl : List Edge) (qs : List Quad) (old : List ℕ) (r : Step) : Type 0 where
  pub kind : r.kind ≡ goings.Progressed
  pub standing : Quadded g r.standing
  pub kept : Kept w w' (refused_at s p) (size (3 * s) p)
  pub so_far : KeptSoFar w' quads' s p r.standing ever (freed (next_quad qs z) bl) (qs ++ next_quad qs z ∷ []) old

-- what `put_record` asks: c quads, and room for the edges that have a record
pub record CanRecord (w : List ℕ) (s p : ℕ) (h : Standing) (u v : ℕ) (ever bl : List Edge) : Type 0 where
  pub small_slots : s ≤ 16384
  pub small_points : p ≤ 8192
  pub can : CanBlock w (refused_at s p) (3 * s) p h.records h.quads u v ever bl

-- what `put_record` gives
pub record RecordTo (w w' : List ℕ) (s p : ℕ) (h : Standing) (u v : ℕ) (ever bl : List Edge) (r : Step) : Type 0 where
  pub kind : r.kind ≡ goings.Stuck
  pub standing : Recorded h (length (with_edge (u, v) ever)) r.standing
  pub kept : Kept w w' (refused_at s p) (size (3 * s) p)
  pub blocks : Blocks w' (refused_at s p) (3 * s) p h.quads (with_edge (u, v) ever) ((u, v) ∷ bl)

-- what `settle` asks: a place for the quad, or for the record
pub record CanSettle (w quads : List ℕ) (s p : ℕ) (g : Standing) (t : Tried) (u v : ℕ) (ever bl : List Edge) (qs : List Quad) (old : List ℕ) : Type 0 where
  pub small_slots : s ≤ 16384
  pub small_points : p ≤ 8192
  pub so_far : KeptSoFar w quads s p g ever bl qs old
  pub few : FewCounts g
  pub inserted : g.tally.mismatch_insertions + t.inserted < 2 ^ 32
  pub trials : g.tally.trials + t.trials < 2 ^ 32
  pub edge : IsEdge p (u, v)
  pub placed : (z : Placed) → t.end ≡ ends.Placed z → QuadFits quads s p (length qs) z u v
  pub refused : (why : Refusal) → t.end ≡ end_of why → length (with_edge (u, v) ever) ≤ 3 * s

-- the counters and the words of the attempt, and so much more counted
pub record CountedOn (g : Standing) (t : Tried) (c : Counts) (r : Standing) : Type 0 where
  pub counters : r.counters ≡ t.counters
  pub counts : t.counters.attempts ≡ g.counters.attempts → counts_of r ≡ c
  pub words : r.words ≡ t.at

-- the quad stands behind the others, and frees edges
pub record Placing (w' quads' : List ℕ) (s p : ℕ) (g : Standing) (t : Tried) (z : Placed) (ever bl : List Edge) (qs : List Quad) (old : List ℕ) (r : Step) : Type 0 where
  pub kind : r.kind ≡ goings.Progressed
  pub counted : CountedOn g t (counts_of g ⊞ spending (spent_of t)) r.standing
  pub so_far : KeptSoFar w' quads' s p r.standing ever (freed (next_quad qs z) bl) (qs ++ next_quad qs z ∷ []) old

-- the edge is blocked
pub record Refusing (w' quads' : List ℕ) (s p : ℕ) (g : Standing) (t : Tried) (u v : ℕ) (why : Refusal) (ever bl : List Edge) (qs : List Quad) (old : List ℕ) (r : Step) : Type 0 where
  pub kind : r.kind ≡ goings.Stuck
  pub counted : CountedOn g t (counts_of g ⊞ spending (spent_of t) ⊞ refused_by why) r.standing
  pub so_far : KeptSoFar w' quads' s p r.standing (with_edge (u, v) ever) ((u, v) ∷ bl) qs old

-- the end for want of lent memory
abbrev pub want_kind : Want → Going
want_kind wt = goings.Short (shortage_of wt)

-- the run ends
pub record Ending (w' quads' : List ℕ) (s p : ℕ) (g : Standing) (t : Tried) (wt : Want) (ever bl : List Edge) (qs : List Quad) (old : List ℕ) (r : Step) : Type 0 where
  pub kind : r.kind ≡ want_kind wt
  pub counted : CountedOn g t (counts_of g ⊞ spending (spent_of t)) r.standing
  pub so_far : KeptSoFar w' quads' s p r.standing ever bl qs old

-- what `settle` gives, by the attempt's end
pub record SettleTo (w w' quads' : List ℕ) (s p : ℕ) (g : Standing) (t : Tried) (u v : ℕ) (ever bl : List Edge) (qs : List Quad) (old : List ℕ) (r : Step) : Type 0 where
  pub kept : Kept w w' (refused_at s p) (size (3 * s) p)
  pub placed : (z : Placed) → t.end ≡ ends.Placed z → Placing w' quads' s p g t z ever bl qs old r
  pub refused : (why : Refusal) → t.end ≡ end_of why → Refusing w' quads' s p g t u v why ever bl qs old r
  pub ended : (wt : Want) → t.end ≡ end_for wt → Ending w' quads' s p g t wt ever bl qs old r

-- The acceptable pairs of an attempt, which it ranks, cuts to the permitted number and tries in turn;
-- and the walk from the edge to them, for whatever is to be shown of the attempt.
use Rattle.std.specs.Prelude.{◌≡◌, ◌||◌, ◌∷◌}
use Rattle.laws.specs.Kit.{refl, sym, subst, inl, inr, true, false, cond, Option, none, some, ℕ, List, [], take}
use Rattle.definition.specs.Lists.{sort, flat_map}
use Rattle.definition.specs.Floats.{◌≼◌}
use Rattle.definition.specs.Numbers.{Settings, Quality, Turn, first_turn, second_turn, tiny_length}
use Rattle.definition.specs.Counts.{Placement, Spent, nothing_spent, inserting, Want}
use Rattle.definition.specs.Plane.{Edge, norm, from_to}
use Rattle.definition.specs.Cells.{Cell, tri, quad, Live, Mesh, node_at, tri_owner}
use Rattle.definition.specs.Insertion.{Inserted, nowhere, inserted, full}
use Rattle.definition.specs.Trials.{Trial, trial, trial_before, trials}
use Rattle.definition.specs.Attempt.{Attempt, refused, ended, try_trials, Stance, Sides, found, missing, overfull, sides_by, sides_from, side_nodes, try_both, try_first, stance, try_along, lies_left, try_seed, try_owner, try_quad}
use Rattle.laws.specs.Bools.{which, or_none, cond_ok}
use Rattle.account.specs.Steps.{SplitsKeep, SidesOk}

-- ---- the pairs
-- of side nodes cs and ds at the two ends: those whose quad passes
unfoldable pub acceptable : Quality → Mesh → ℕ → ℕ → List ℕ → List ℕ → List Trial
acceptable y m a b cs ds = flat_map (λ c. flat_map (λ d. trial y m a b c d) ds) cs

-- with the side nodes cs at the first end
unfoldable pub pairs_both : Settings → Stance → List ℕ → Sides → List Trial
pairs_both s f cs (missing n m) = []
pairs_both s f cs (overfull w n m) = []
pairs_both s f cs (found ds n m) = acceptable s.quality m f.a f.b cs ds

-- with the side nodes at the first end found or not
unfoldable pub pairs_first : Settings → Stance → Sides → List Trial
pairs_first s f (missing n m) = []
pairs_first s f (overfull w n m) = []
pairs_first s f (found cs n m) = pairs_both s f cs (side_nodes s second_turn f n m f.b f.a)

-- on the edge from a to b
unfoldable pub pairs_along : Settings → Mesh → Edge → ℕ → ℕ → ℕ → List Trial
pairs_along s m e seed a b =
    let f = stance s m e seed a b in
    cond (f.target ≼ tiny_length || norm (from_to (node_at m a) (node_at m b)) ≼ tiny_length) [] (pairs_first s f (side_nodes s first_turn f nothing_spent m a b))

-- with the seed's cell
unfoldable pub pairs_seed : Settings → Mesh → Edge → ℕ → Cell → List Trial
pairs_seed s m e seed (quad q) = []
pairs_seed s m e seed (tri t) = elim (lies_left m e t) [ true ↦ pairs_along s m e seed e.0 e.1 | false ↦ pairs_along s m e seed e.1 e.0 ]

-- with the triangle that owns the edge
unfoldable pub pairs_owner : Settings → Mesh → Edge → Option Live → List Trial
pairs_owner s m e none = []
pairs_owner s m e (some x) = pairs_seed s m e x.slot x.cell

-- of an attempt on the edge; none where it ends before it has side nodes at both ends
unfoldable pub pairs_of : Settings → Mesh → Edge → List Trial
pairs_of s m e = pairs_owner s m e (tri_owner m e)

-- in the order of their turns, cut to the permitted number
unfoldable pub turns : Settings → List Trial → List Trial
turns s good = take s.quality.pairs (sort trial_before good)

-- ---- the walk
-- E of an attempt and its acceptable pairs follows from what holds where there are none, and of the trials.
-- P is kept by splits; F holds of what is spent before the trials.
pub record PairsRule (s : Settings) (e : Edge) (P : ℕ → Mesh → Type 0) (F : Spent → Type 0) (E : List Trial → Attempt → Type 0) : Type 0 where
  pub nothing : F nothing_spent
  pub inserts : (n : Spent) → F n → F (inserting n)
  pub refuses : (n : Spent) (m : Mesh) → F n → E [] (refused Placement n m)
  pub ends : (w : Want) (n : Spent) (m : Mesh) → F n → E [] (ended w n m)
  pub tries : (n : Spent) (m : Mesh) (good : List Trial) → F n → P n.insertions m → E good (try_trials s n m e (turns s good))

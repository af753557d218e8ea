-- Tracked edges through the run: an attempt keeps every edge of a list tracked, and candidates may join.
use Rattle.std.specs.Prelude.{◌∷◌, ◌++◌}
use Rattle.laws.specs.Kit.{refl, sym, ap, subst, inl, inr, Bool, arith, List, [], length}
use Rattle.definition.specs.Numbers.{Settings}
use Rattle.definition.specs.Plane.{Node, Edge}
use Rattle.definition.specs.Cells.{Tri, Mesh}
use Rattle.definition.specs.Front.{counting, new_mesh, start}
use Rattle.laws.specs.Lists.{In}
use Rattle.account.specs.Valid.{Valid}
use Rattle.account.proofs.Start.{start_tris}
use Rattle.account.proofs.Tracked.{Tracked, tracked_front, tracked_flip, tracked_split, tracked_quad}
use Rattle.account.specs.Run.{Rule, OnFront}

-- candidates may join
pub tracked_opens : (m : Mesh) (es fs : List Edge) → Valid m → ((e : Edge) → In e es → OnFront m e) → Tracked m fs → Tracked m (es ++ fs)
tracked_opens m [] fs ok o w = w
tracked_opens m (e ∷ es) fs ok o w = let k = o e (inl refl) in tracked_front m e (es ++ fs) ok k.order k.front (tracked_opens m es fs ok (λ f i. o f (inr i)) w)

-- every edge of the list stays tracked, whatever happens to it
pub tracked_rule : (s : Settings) (es : List Edge) → Rule s (λ st _. Tracked st.mesh es) (λ st _ n m. Tracked m es) (λ st. Tracked st.mesh es)
unfolding counting
tracked_rule s fs = record {
  opens = λ st es ok h f. h;
  begins = λ st es h. h;
  flips = λ st es n m m' e ok h i f. tracked_flip m m' e fs ok i f h;
  splits = λ st es n m x t p ok h w. tracked_split m x t p fs ok w.at w.cell h;
  refuses = λ st e es why n m h ok w. w;
  places = λ st e es n m q h w. subst (λ z. Tracked z fs) (sym w.after) (tracked_quad s w.mesh w.seed q w.cells fs w.before.0 w.seed_tri w.reached w.before.1);
  ends = λ st e es n m h ok w. w;
  limits = λ st es h. h;
  empties = λ st h. h;
}

-- at the start nothing is refused
pub start_tracked : (s : Settings) (lk : Edge → Bool) (ts : List Tri) (ps : List Node) → Tracked (start s lk ts ps).mesh []
unfolding start new_mesh
start_tracked s lk ts ps = record { dead = []; room = omega (arith, ap length (start_tris s lk ts ps)); each = λ e i. absurd i }

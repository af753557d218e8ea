-- Whatever an attempt keeps, the walk over edges, loops and rounds keeps; nothing is asked of the meshes.
use Rattle.std.specs.Prelude.{◌≡◌, ◌⊎◌, ◌∷◌}
use Rattle.laws.specs.Kit.{refl, inl, inr, ℕ, zero, suc, List, []}
use Rattle.definition.specs.Numbers.{Settings}
use Rattle.definition.specs.Counts.{emptied}
use Rattle.definition.specs.Plane.{Edge}
use Rattle.definition.specs.Cells.{front}
use Rattle.definition.specs.Loops.{front_loops}
use Rattle.definition.specs.Front.{State, Progress, stuck, progressed, limited, stopped, counting, attempt, try_edges, open_edges, try_loops, round, front_loop}
use Rattle.account.specs.Walks.{Ends, Goes}

module _ (s : Settings) (given : ℕ) (G L : State → Type 0) where
  -- what is asked
  pub record Walk : Type 0 where
    pub attempts : (st : State) (e : Edge) → G st → Goes G L (attempt s given st e)
    pub empties : (st : State) → G st → G (counting st emptied)

  -- an edge, and those after it
  pub edges_case : (st : State) (e : Edge) (es : List Edge) (r : Progress) → attempt s given st e ≡ r → Goes G L r
      → ((st' : State) → G st' → Goes G L (try_edges s given st' es)) → Goes G L (try_edges s given st (e ∷ es))
  unfolding try_edges
  edges_case st e es (stuck st') f g next = rw (f, try_edges) (next st' g)
  edges_case st e es (progressed st') f g next = rw (f, try_edges) g
  edges_case st e es (limited st') f g next = rw (f, try_edges) g
  edges_case st e es (stopped w st') f g next = rw (f, try_edges) g

  -- a loop, and those after it
  pub loops_case : (st : State) (l : List Edge) (ls : List (List Edge)) (r : Progress) → try_edges s given st (open_edges st l) ≡ r → Goes G L r
      → ((st' : State) → G st' → Goes G L (try_loops s given st' ls)) → Goes G L (try_loops s given st (l ∷ ls))
  unfolding try_loops
  loops_case st l ls (stuck st') f g next = rw (f, try_loops) (next st' g)
  loops_case st l ls (progressed st') f g next = rw (f, try_loops) g
  loops_case st l ls (limited st') f g next = rw (f, try_loops) g
  loops_case st l ls (stopped w st') f g next = rw (f, try_loops) g

  -- a round, and those after it
  pub rounds_case : (n : ℕ) (st : State) (r : Progress) → round s given st (front st.mesh) ≡ r → Goes G L r
      → ((st' : State) → G st' → Ends G L (front_loop n s given st')) → Ends G L (front_loop (suc n) s given st)
  unfolding front_loop
  rounds_case n st (stuck st') f g next = rw (f, front_loop) (inl g)
  rounds_case n st (progressed st') f g next = rw (f, front_loop) (next st' g)
  rounds_case n st (limited st') f g next = rw (f, front_loop) (inr g)
  rounds_case n st (stopped w st') f g next = rw (f, front_loop) g

  module _ (walk : Walk) where
    pub edges_go : (st : State) (es : List Edge) → G st → Goes G L (try_edges s given st es)
    unfolding try_edges
    edges_go st [] h = h
    edges_go st (e ∷ es) h = edges_case st e es (attempt s given st e) refl (walk.attempts st e h) (λ st' h'. edges_go st' es h')

    pub loops_go : (st : State) (ls : List (List Edge)) → G st → Goes G L (try_loops s given st ls)
    unfolding try_loops
    loops_go st [] h = h
    loops_go st (l ∷ ls) h = loops_case st l ls (try_edges s given st (open_edges st l)) refl (edges_go st (open_edges st l) h) (λ st' h'. loops_go st' ls h')

    pub round_goes : (st : State) (es : List Edge) → G st → Goes G L (round s given st es)
    unfolding round
    round_goes st [] h = walk.empties st h
    round_goes st (e ∷ es) h = loops_go st (front_loops st.mesh.points (e ∷ es)) h

    -- the rounds
    pub rounds_end_so : (n : ℕ) (st : State) → G st → Ends G L (front_loop n s given st)
    unfolding front_loop
    rounds_end_so zero st h = inl h
    rounds_end_so (suc n) st h = rounds_case n st (round s given st (front st.mesh)) refl (round_goes st (front st.mesh) h) (λ st' h'. rounds_end_so n st' h')

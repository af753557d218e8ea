-- A long run as a chain of short ones: what one step of a walk gives, from what the attempt,
-- the loop or the round in it gives.
use Rattle.std.specs.Prelude.{◌≡◌, List, [], ◌∷◌, ℕ, suc}
use Rattle.std.proofs.Math.Path.{refl, ap}
use Rattle.std.proofs.Common.{◌∙◌}
use Rattle.definition.specs.Plane.{Edge}
use Rattle.definition.specs.Cells.{front}
use Rattle.definition.specs.Numbers.{Settings}
use Rattle.definition.specs.Counts.{Want}
use Rattle.definition.specs.Loops.{front_loops}
use Rattle.definition.specs.Front.{State, Progress, stuck, progressed, limited, stopped, attempt, try_edges, open_edges, try_loops, round, front_loop}

module _ (s : Settings) (g : ℕ) where
  next_edge : List Edge → Progress → Progress
  next_edge es p = elim p [ stuck st ↦ try_edges s g st es | progressed st ↦ progressed st | limited st ↦ limited st | stopped w st ↦ stopped w st ]

  pub edges_none : (st : State) → try_edges s g st [] ≡ stuck st
  unfolding try_edges
  edges_none st = refl

  pub edges_stuck : (st st' : State) (e : Edge) (es : List Edge) → attempt s g st e ≡ stuck st' → try_edges s g st (e ∷ es) ≡ try_edges s g st' es
  unfolding try_edges next_edge
  edges_stuck st st' e es p = ap (next_edge es) p

  pub edges_progressed : (st st' : State) (e : Edge) (es : List Edge) → attempt s g st e ≡ progressed st' → try_edges s g st (e ∷ es) ≡ progressed st'
  unfolding try_edges next_edge
  edges_progressed st st' e es p = ap (next_edge es) p

  pub edges_limited : (st st' : State) (e : Edge) (es : List Edge) → attempt s g st e ≡ limited st' → try_edges s g st (e ∷ es) ≡ limited st'
  unfolding try_edges next_edge
  edges_limited st st' e es p = ap (next_edge es) p

  pub edges_stopped : (st st' : State) (w : Want) (e : Edge) (es : List Edge) → attempt s g st e ≡ stopped w st' → try_edges s g st (e ∷ es) ≡ stopped w st'
  unfolding try_edges next_edge
  edges_stopped st st' w e es p = ap (next_edge es) p

  next_loop : List (List Edge) → Progress → Progress
  next_loop ls p = elim p [ stuck st ↦ try_loops s g st ls | progressed st ↦ progressed st | limited st ↦ limited st | stopped w st ↦ stopped w st ]

  module _ (st st' : State) (l : List Edge) (ls : List (List Edge)) (es : List Edge) (o : open_edges st l ≡ es) where
    pub loops_stuck : try_edges s g st es ≡ stuck st' → try_loops s g st (l ∷ ls) ≡ try_loops s g st' ls
    unfolding try_loops next_loop
    loops_stuck p = ap (λ x. next_loop ls (try_edges s g st x)) o ∙ ap (next_loop ls) p

    pub loops_progressed : try_edges s g st es ≡ progressed st' → try_loops s g st (l ∷ ls) ≡ progressed st'
    unfolding try_loops next_loop
    loops_progressed p = ap (λ x. next_loop ls (try_edges s g st x)) o ∙ ap (next_loop ls) p

    pub loops_limited : try_edges s g st es ≡ limited st' → try_loops s g st (l ∷ ls) ≡ limited st'
    unfolding try_loops next_loop
    loops_limited p = ap (λ x. next_loop ls (try_edges s g st x)) o ∙ ap (next_loop ls) p

  pub loops_stopped : (st st' : State) (w : Want) (l : List Edge) (ls : List (List Edge)) (es : List Edge) → open_edges st l ≡ es → try_edges s g st es ≡ stopped w st' → try_loops s g st (l ∷ ls) ≡ stopped w st'
  unfolding try_loops next_loop
  loops_stopped st st' w l ls es o p = ap (λ x. next_loop ls (try_edges s g st x)) o ∙ ap (next_loop ls) p

  pub loops_none : (st : State) → try_loops s g st [] ≡ stuck st
  unfolding try_loops
  loops_none st = refl

  pub round_loops : (st : State) (e : Edge) (es : List Edge) (ls : List (List Edge)) → front_loops st.mesh.points (e ∷ es) ≡ ls → round s g st (e ∷ es) ≡ try_loops s g st ls
  unfolding round
  round_loops st e es ls p = ap (try_loops s g st) p

  next_round : ℕ → Progress → Progress
  next_round n p = elim p [ stuck st ↦ stuck st | progressed st ↦ front_loop n s g st | limited st ↦ stuck st | stopped w st ↦ stopped w st ]

  module _ (n : ℕ) (st st' : State) (es : List Edge) (f : front st.mesh ≡ es) where
    pub run_progressed : round s g st es ≡ progressed st' → front_loop (suc n) s g st ≡ front_loop n s g st'
    unfolding front_loop next_round
    run_progressed p = ap (λ x. next_round n (round s g st x)) f ∙ ap (next_round n) p

    pub run_stuck : round s g st es ≡ stuck st' → front_loop (suc n) s g st ≡ stuck st'
    unfolding front_loop next_round
    run_stuck p = ap (λ x. next_round n (round s g st x)) f ∙ ap (next_round n) p

    pub run_limited : round s g st es ≡ limited st' → front_loop (suc n) s g st ≡ stuck st'
    unfolding front_loop next_round
    run_limited p = ap (λ x. next_round n (round s g st x)) f ∙ ap (next_round n) p

  pub run_stopped : (n : ℕ) (st st' : State) (w : Want) (es : List Edge) → front st.mesh ≡ es → round s g st es ≡ stopped w st' → front_loop (suc n) s g st ≡ stopped w st'
  unfolding front_loop next_round
  run_stopped n st st' w es f p = ap (λ x. next_round n (round s g st x)) f ∙ ap (next_round n) p

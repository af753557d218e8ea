-- The walk over edges, loops and rounds where every mesh on the way is valid and every edge tried has its smaller
use Rattle.std.specs.Prelude.{◌≡◌, ◌⊎◌, ◌<◌, ◌∷◌}
use Rattle.laws.specs.Kit.{refl, inl, inr, ℕ, zero, suc, List, []}
use Rattle.definition.specs.Numbers.{Settings}
use Rattle.definition.specs.Counts.{emptied, Want}
use Rattle.definition.specs.Plane.{Edge}
use Rattle.definition.specs.Cells.{front}
use Rattle.definition.specs.Loops.{front_loops}
use Rattle.definition.specs.Front.{State, Progress, stuck, progressed, limited, stopped, counting, attempt, try_edges, open_edges, try_loops, round, front_loop}
use Rattle.laws.specs.Lists.{In}
use Rattle.account.specs.Valid.{Valid}
use Rattle.account.proofs.Fronts.{front_in}
use Rattle.account.specs.Run.{Rule, ProgressOk, Ordered}
use Rattle.account.proofs.Run.{loops_ordered, open_front, attempt_ok}
use Rattle.consequences.specs.ValidWalks.{Closes, Leads}

-- every mesh on the way is valid
valid_rule : (s : Settings) → Rule s (λ st es. Unit {0}) (λ st es n m. Unit {0}) (λ st. Unit {0})
valid_rule s = record {
  opens = λ st es ok h f. tt;
  begins = λ st es h. tt;
  flips = λ st es n m m' e ok h i f. tt;
  splits = λ st es n m x t p ok h w. tt;
  refuses = λ st e es why n m h ok w. tt;
  places = λ st e es n m q h w. tt;
  ends = λ st e es n m h ok w. tt;
  limits = λ st es h. tt;
  empties = λ st h. tt;
}

module _ (s : Settings) (given : ℕ) (G L : State → Type 0) (W : Want → State → Type 0) where
  -- what is asked
  pub record Steps : Type 0 where
    pub attempts : (st : State) (e : Edge) → e.0 < e.1 → Valid st.mesh → G st → Leads G L W (attempt s given st e)
    pub empties : (st : State) → G st → G (counting st emptied)

  abbrev H : State → Type 0
  H st = Valid st.mesh × G st

  both : (p : Progress) → ProgressOk (λ st es. Unit {0}) (λ st. Unit {0}) [] p → Leads G L W p → Leads H L W p
  both (stuck st) a b = (a.0, b)
  both (progressed st) a b = (a.0, b)
  both (limited st) a b = b
  both (stopped w st) a b = b

  edges_case : (st : State) (e : Edge) (es : List Edge) (r : Progress) → attempt s given st e ≡ r → Leads H L W r
      → ((st' : State) → H st' → Leads H L W (try_edges s given st' es)) → Leads H L W (try_edges s given st (e ∷ es))
  unfolding try_edges
  edges_case st e es (stuck st') f g next = rw (f, try_edges) (next st' g)
  edges_case st e es (progressed st') f g next = rw (f, try_edges) g
  edges_case st e es (limited st') f g next = rw (f, try_edges) g
  edges_case st e es (stopped w st') f g next = rw (f, try_edges) g

  loops_case : (st : State) (l : List Edge) (ls : List (List Edge)) (r : Progress) → try_edges s given st (open_edges st l) ≡ r → Leads H L W r
      → ((st' : State) → H st' → Leads H L W (try_loops s given st' ls)) → Leads H L W (try_loops s given st (l ∷ ls))
  unfolding try_loops
  loops_case st l ls (stuck st') f g next = rw (f, try_loops) (next st' g)
  loops_case st l ls (progressed st') f g next = rw (f, try_loops) g
  loops_case st l ls (limited st') f g next = rw (f, try_loops) g
  loops_case st l ls (stopped w st') f g next = rw (f, try_loops) g

  rounds_case : (n : ℕ) (st : State) (r : Progress) → round s given st (front st.mesh) ≡ r → Leads H L W r
      → ((st' : State) → H st' → Closes G L W (front_loop n s given st')) → Closes G L W (front_loop (suc n) s given st)
  unfolding front_loop
  rounds_case n st (stuck st') f g next = rw (f, front_loop) (inl g.1)
  rounds_case n st (progressed st') f g next = rw (f, front_loop) (next st' g)
  rounds_case n st (limited st') f g next = rw (f, front_loop) (inr g)
  rounds_case n st (stopped w st') f g next = rw (f, front_loop) g

  module _ (steps : Steps) where
    attempt_leads : (st : State) (e : Edge) → e.0 < e.1 → H st → Leads H L W (attempt s given st e)
    attempt_leads st e o h = both (attempt s given st e) (attempt_ok s _ _ _ (valid_rule s) given st e [] o (h.0, tt)) (steps.attempts st e o h.0 h.1)

    edges_lead : (st : State) (es : List Edge) → Ordered es → H st → Leads H L W (try_edges s given st es)
    unfolding try_edges
    edges_lead st [] o h = h
    edges_lead st (e ∷ es) o h = edges_case st e es (attempt s given st e) refl (attempt_leads st e (o e (inl refl)) h) (λ st' h'. edges_lead st' es (λ f i. o f (inr i)) h')

    loops_lead : (st : State) (ls : List (List Edge)) → ((l : List Edge) → In l ls → Ordered l) → H st → Leads H L W (try_loops s given st ls)
    unfolding try_loops
    loops_lead st [] o h = h
    loops_lead st (l ∷ ls) o h =
        loops_case st l ls (try_edges s given st (open_edges st l)) refl (edges_lead st (open_edges st l) (λ e i. (open_front st l (o l (inl refl)) e i).order) h)
        (λ st' h'. loops_lead st' ls (λ k i. o k (inr i)) h')

    round_leads : (st : State) (es : List Edge) → Ordered es → H st → Leads H L W (round s given st es)
    unfolding round counting
    round_leads st [] o h = (h.0, steps.empties st h.1)
    round_leads st (e ∷ es) o h = loops_lead st (front_loops st.mesh.points (e ∷ es)) (λ l. loops_ordered st.mesh.points (e ∷ es) l o) h

    -- the rounds
    pub rounds_close : (n : ℕ) (st : State) → Valid st.mesh → G st → Closes G L W (front_loop n s given st)
    unfolding front_loop
    rounds_close zero st ok h = inl h
    rounds_close (suc n) st ok h =
        rounds_case n st (round s given st (front st.mesh)) refl (round_leads st (front st.mesh) (λ e i. (front_in st.mesh e ok i).0) (ok, h)) (λ st' h'. rounds_close n st' h'.0 h'.1)
